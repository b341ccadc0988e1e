-- What is answered as done denies nobody.
use Rattle.std.proofs.Common.{◌≡◌, ℕ, List, length, Option, Some, None, Result, Ok, Err, refl}
use Rattle.election_snapshot.specs.Snapshot.{Snapshot}
use Rattle.committee_answer.specs.declared.denied.Denied.{Denied}
use Rattle.committee_judge.specs.declared.judging.Judging.{Judging}
use Rattle.committee_judge.specs.declared.judging.Judging.TheVariants.{Done, Refused}
use Rattle.committee_judge.specs.Committees.{committee_in}
use Rattle.committee_judge.specs.Judgements.{IsJudging}
use Rattle.committee_judge.specs.Reports.{IsAnsweredIn, judged_report, judging_report}
use Rattle.committee_judge.proofs.ReportLemmas.{settled}
use Rattle.election_work.specs.declared.finding.Finding.TheVariants.{Judged, Unread}
use Rattle.election_work.specs.declared.reading.Election.{Election}
use Rattle.election_work.specs.declared.reading.NoElection.{NoElection}
use Rattle.election_work.specs.Bundles.{election_in}
use Rattle.bundle_reports.specs.declared.ending.Ending.TheVariants as endings
use Rattle.bundle_reports.specs.Bundles.{finding_ending}
use Rattle.npos_c.specs.declared.numbers.TheConstants.{NO}
use Rattle.npos_c.specs.Judging.{Held, lacks_room, denied_answer, judged_answer, judging_answer, IsJudgingOn, IsJudgingIn}
use Rattle.npos_c.proofs.YesLaws.{done_alone, small_or}

judged_done : (snapshot : Snapshot) (denied : Option Denied) (old : Held) → judged_answer denied old ≡ 0 → (judged_report snapshot denied).ending ≡ endings.Done
judged_done snapshot None old e = refl
judged_done snapshot (Some denied) old e = absurd (let is : NO ≡ 0 = small_or (lacks_room denied old) NO e in cc)

judging_done : (judging : Judging) (old : Held) → judging_answer judging old ≡ 0 → (judging_report judging).ending ≡ endings.Done
judging_done (Done judged) old e = judged_done judged.snapshot judged.denied old e
judging_done (Refused finding) old e = done_alone (finding_ending finding) e

unread_undone : (why : NoElection) (judging : Judging) → judging ≡ Refused (Unread why) → (judging_report judging).ending ≡ endings.Done → ⊥
unread_undone why judging is done = absurd (let bad : endings.BadInput ≡ endings.Done = rw is at done in cc)

answered_on : (bytes : List ℕ) (read : Result Election NoElection) (judging : Judging) → election_in bytes ≡ read → IsJudgingOn (length bytes) read judging
    → (judging_report judging).ending ≡ endings.Done → IsAnsweredIn bytes
answered_on bytes (Ok election) judging is are done = settled bytes election judging is are done
answered_on bytes (Err why) judging is are done = absurd (unread_undone why judging are done)

pub answered_done : (bytes : List ℕ) (judging : Judging) (old : Held) → IsJudgingIn bytes judging → judging_answer judging old ≡ 0 → IsAnsweredIn bytes
answered_done bytes judging old are e = answered_on bytes (election_in bytes) judging refl are (judging_done judging old e)
