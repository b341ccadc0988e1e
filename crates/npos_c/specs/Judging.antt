-- How it is handed out whom the committee of a bundle's work denies a seat.
use Rattle.std.specs.Prelude.{◌≡◌, ◌⊎◌, ℕ, Bool, nat_lt, ◌||◌, if◌then◌else◌, List, length, Option, Some, None, Result, Ok, Err}
use Rattle.election_snapshot.specs.Snapshot.{Snapshot}
use Rattle.election_check.specs.declared.verdict.Verdict.TheVariants.{Yes, Outweighed}
use Rattle.committee_answer.specs.declared.denied.Denied.{Denied}
use Rattle.committee_judge.specs.declared.judging.Judging.{Judging}
use Rattle.committee_judge.specs.declared.judging.Judging.TheVariants.{Done, Refused}
use Rattle.committee_judge.specs.Committees.{committee_in}
use Rattle.committee_judge.specs.Judgements.{IsJudging}
use Rattle.committee_judge.specs.Reports.{excess_of}
use Rattle.election_work.specs.declared.finding.Finding.{Finding}
use Rattle.election_work.specs.declared.finding.Finding.TheVariants.{Judged, Unread}
use Rattle.election_work.specs.declared.reading.Election.{Election}
use Rattle.election_work.specs.declared.reading.NoElection.{NoElection}
use Rattle.election_work.specs.Bundles.{election_in}
use Rattle.npos_c.specs.declared.judging.NposDenied.{NposDenied}
use Rattle.npos_c.specs.declared.numbers.TheConstants.{DONE, NO, NO_MEMORY, SMALL}
use Rattle.npos_c.specs.Buffers.{over}
use Rattle.npos_c.specs.Findings.{told_as}
use Rattle.npos_c.specs.Answers.{answer_of, IsLeft}

-- the buffers of a caller, and where the rest is told
pub record Held : Type 0 where
  pub group : List ℕ
  pub members : List ℕ
  pub told : NposDenied

abbrev pub held_of : List ℕ → List ℕ → NposDenied → Held
held_of group members told = record { group = group; members = members; told = told }

abbrev pub told_denied : Snapshot → Denied → NposDenied
told_denied snapshot denied = record {
  voters = length denied.group.items;
  members = length denied.members.items;
  seats = denied.seats;
  stake = denied.stake;
  finding = told_as (Judged (Outweighed denied.target (excess_of snapshot denied)));
}

-- where nobody is denied all but the finding is 0
abbrev pub told_alone : Finding → NposDenied
told_alone finding = record { voters = 0; members = 0; seats = 0; stake = 0; finding = told_as finding }

-- a buffer has too little room
abbrev pub lacks_room : Denied → Held → Bool
lacks_room denied old = nat_lt (length old.group) (length denied.group.items) || nat_lt (length old.members) (length denied.members.items)

-- the group and its members stand in the buffers where both have room
abbrev pub handed_denied : Snapshot → Denied → Held → Held
handed_denied snapshot denied old =
    if lacks_room denied old then held_of old.group old.members (told_denied snapshot denied)
    else held_of (over denied.group.items old.group) (over denied.members.items old.members) (told_denied snapshot denied)

abbrev pub denied_answer : Denied → Held → ℕ
denied_answer denied old = if lacks_room denied old then SMALL else NO

abbrev pub handed_judged : Snapshot → Option Denied → Held → Held
handed_judged snapshot None old = held_of old.group old.members (told_alone (Judged Yes))
handed_judged snapshot (Some denied) old = handed_denied snapshot denied old

abbrev pub handed_judging : Judging → Held → Held
handed_judging (Done judged) old = handed_judged judged.snapshot judged.denied old
handed_judging (Refused finding) old = held_of old.group old.members (told_alone finding)

abbrev pub judged_answer : Option Denied → Held → ℕ
judged_answer None old = DONE
judged_answer (Some denied) old = denied_answer denied old

abbrev pub judging_answer : Judging → Held → ℕ
judging_answer (Done judged) old = judged_answer judged.denied old
judging_answer (Refused finding) old = answer_of finding

-- bytes without an election come to why they have none
abbrev pub IsJudgingOn : ℕ → Result Election NoElection → Judging → Type 0
IsJudgingOn size (Ok election) judging = IsJudging election.snapshot (committee_in size election) judging
IsJudgingOn size (Err why) judging = judging ≡ Refused (Unread why)

abbrev pub IsJudgingIn : List ℕ → Judging → Type 0
IsJudgingIn bytes judging = IsJudgingOn (length bytes) (election_in bytes) judging

-- memory was refused, or the judgement on the committee in the bytes is handed out
abbrev pub IsJudgedFor : List ℕ → Held → Held → ℕ → Type 0
IsJudgedFor bytes old new answer =
    IsLeft NO_MEMORY old new answer
    ⊎ ((judging : Judging) × IsJudgingIn bytes judging × (new ≡ handed_judging judging old) × (answer ≡ judging_answer judging old))
