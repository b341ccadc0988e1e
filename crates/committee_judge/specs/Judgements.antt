-- Whom the committee of a work denies a seat.
use Rattle.std.specs.Prelude.{◌≡◌, List, ℕ, Option, Some, None, Result, Ok, Err}
use Rattle.election_snapshot.specs.Snapshot.{Snapshot}
use Rattle.weight_book.specs.Answered.{IsAnswered}
use Rattle.committee_answer.specs.declared.denied.Denied.{Denied}
use Rattle.committee_answer.specs.Denials.{IsFound}
use Rattle.election_work.specs.declared.finding.Finding.{Finding}
use Rattle.committee_judge.specs.declared.judging.Judging.{Judging}
use Rattle.committee_judge.specs.declared.judging.Judging.TheVariants.{Done, Refused}

-- nobody, or the lowest target that is denied, with the group
abbrev pub IsJudgement : Snapshot → List ℕ → Option Denied → Type 0
IsJudgement snapshot committee None = IsAnswered snapshot committee
IsJudgement snapshot committee (Some found) = IsFound snapshot committee found

-- the judgement on the committee that is due, or what is found in its place
abbrev pub IsJudging : Snapshot → Result (List ℕ) Finding → Judging → Type 0
IsJudging snapshot due (Done judged) = (committee : List ℕ) × (due ≡ Ok committee)
    × (judged.snapshot ≡ snapshot) × IsJudgement snapshot committee judged.denied
IsJudging snapshot due (Refused finding) = due ≡ Err finding
