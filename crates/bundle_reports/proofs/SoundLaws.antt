-- What is reported as done has a Yes, and a Yes is sound.
use Rattle.std.proofs.Common.{◌≡◌, ◌≢◌, ℕ, List, Result, Ok, Err, IfOk, refl, sym, ◌∙◌, ap, subst}
use Rattle.npos_base.specs.declared.no_memory.NoMemory.{NoMemory}
use Rattle.npos_base.specs.declared.miner.Miner.{Miner}
use Rattle.election_snapshot.specs.Snapshot.{Snapshot}
use Rattle.election_check.specs.declared.verdict.Verdict.{Verdict}
use Rattle.election_check.specs.declared.verdict.Verdict.TheVariants as verdicts
use Rattle.election_work.specs.declared.asked.Task.{Task}
use Rattle.election_work.specs.declared.finding.Finding.{Finding}
use Rattle.election_work.specs.declared.finding.Finding.TheVariants.{Judged, Lost, Unsolved, Unread}
use Rattle.election_work.specs.declared.reading.Election.{Election}
use Rattle.election_work.specs.declared.reading.NoElection.{NoElection}
use Rattle.election_work.specs.Bundles.{election_in}
use Rattle.election_work.specs.Mining.{Outcome, finding_of, IsMining, IsYes}
use Rattle.election_work.specs.Sound.{IsSoundElection, IsSound}
use Rattle.election_work.proofs.SoundLaws.{sound_bytes}
use Rattle.bundle_reports.specs.declared.answers.Answer.{Answer}
use Rattle.bundle_reports.specs.declared.ending.Ending.{Ending}
use Rattle.bundle_reports.specs.declared.ending.Ending.TheVariants as endings
use Rattle.bundle_reports.specs.Answer.{report_of}
use Rattle.bundle_reports.specs.Bundles.{Report, verdict_ending, finding_ending, reported}
use Rattle.bundle_reports.specs.Mining.{mined_report}
use Rattle.bundle_reports.specs.Tasks.{IsMineReport}

-- only a Yes is done
yes_alone : (verdict : Verdict) → verdict_ending verdict ≡ endings.Done → verdict ≡ verdicts.Yes
yes_alone verdicts.Yes e = refl
yes_alone (verdicts.Undecodable at why) e = cc
yes_alone (verdicts.NoVoter voter) e = cc
yes_alone (verdicts.NoTarget target) e = cc
yes_alone (verdicts.VoterTwice voter) e = cc
yes_alone (verdicts.TargetTwice target) e = cc
yes_alone (verdicts.NotNominated voter target) e = cc
yes_alone (verdicts.BadShare voter) e = cc
yes_alone (verdicts.WrongSize found) e = cc
yes_alone (verdicts.WrongScore actual) e = cc
yes_alone (verdicts.Outweighed target prescore) e = cc
yes_alone (verdicts.Overspent voter) e = cc

pub done_is_yes : (finding : Finding) → finding_ending finding ≡ endings.Done → finding ≡ Judged verdicts.Yes
done_is_yes (Judged verdict) done = ap Judged (yes_alone verdict done)
done_is_yes (Lost member) done = absurd (cc)
done_is_yes (Unsolved at) done = absurd (cc)
done_is_yes (Unread why) done = absurd (cc)

-- what is mined ends as what is found of it
mined_ending : (due : Result Outcome Finding) → (mined_report due).ending ≡ finding_ending (finding_of due)
mined_ending (Ok outcome) = refl
mined_ending (Err finding) = refl

done_is_no_no : (ending : Ending) → ending ≡ endings.Done → ending ≢ endings.No
done_is_no_no ending done = λ refused. let e : endings.Done ≡ endings.No = sym done ∙ refused in cc

-- ## What is answered

-- a check that is answered as done has a Yes
pub check_done : (finding : Finding) (result : Result Answer NoMemory) → IfOk result (λ answer. report_of answer ≡ reported finding)
    → IfOk result (λ answer. answer.ending ≡ endings.Done → finding ≡ Judged verdicts.Yes)
check_done finding (Ok answer) is = λ done. done_is_yes finding (sym (ap (λ (r : Report). r.ending) is) ∙ done)
check_done finding (Err want) is = tt

-- and so has what was mined
pub mining_done : (due : Result Outcome Finding) (result : Result Answer NoMemory) → IfOk result (λ answer. report_of answer ≡ mined_report due)
    → IfOk result (λ answer. answer.ending ≡ endings.Done → IsYes due)
mining_done due (Ok answer) is = λ done. done_is_yes (finding_of due) (sym (ap (λ (r : Report). r.ending) is ∙ mined_ending due) ∙ done)
mining_done due (Err want) is = tt

pub done_sound : {A : Type 0} (result : Result Answer NoMemory) → IfOk result (λ answer. answer.ending ≡ endings.Done → A) → {B : Type 0} → (A → B)
    → IfOk result (λ answer. answer.ending ≡ endings.Done → B)
done_sound (Ok answer) has sound = λ done. sound (has done)
done_sound (Err want) has sound = tt

pub yes_is_no_no : (due : Result Outcome Finding) (result : Result Answer NoMemory) → IfOk result (λ answer. report_of answer ≡ mined_report due) → IsYes due
    → IfOk result (λ answer. answer.ending ≢ endings.No)
yes_is_no_no due (Ok answer) is yes_is =
    done_is_no_no answer.ending (ap (λ (r : Report). r.ending) is ∙ (mined_ending due ∙ ap finding_ending yes_is))
yes_is_no_no due (Err want) is yes_is = tt

pub mine_reported : (miner : Miner) (snapshot : Snapshot) (due : Result Outcome Finding) (result : Result Answer NoMemory) → IsMining miner snapshot due
    → IfOk result (λ answer. report_of answer ≡ mined_report due) → IfOk result (λ answer. IsMineReport miner snapshot (report_of answer))
mine_reported miner snapshot due (Ok answer) mined is = (due, mined, is)
mine_reported miner snapshot due (Err want) mined is = tt

-- bytes without an election are answered as bad input
pub unread_is_bad : (why : NoElection) (answer : Answer) → report_of answer ≡ reported (Unread why) → answer.ending ≡ endings.BadInput
unread_is_bad why answer is = ap (λ (r : Report). r.ending) is
