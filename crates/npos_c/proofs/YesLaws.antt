-- What is answered as done is sound.
use Rattle.std.proofs.Common.{◌≡◌, ℕ, Bool, true, false, if◌then◌else◌, List, Result, Ok, Err, IfOk, refl}
use Rattle.npos_base.specs.declared.no_memory.NoMemory.{NoMemory}
use Rattle.npos_base.specs.declared.miner.Miner.{Miner}
use Rattle.election_check.specs.declared.verdict.Verdict.TheVariants.{Yes}
use Rattle.election_work.specs.declared.asked.Task.TheVariants as tasks
use Rattle.election_work.specs.declared.finding.Finding.{Finding}
use Rattle.election_work.specs.declared.finding.Finding.TheVariants.{Judged}
use Rattle.election_work.specs.declared.mined.Mining.{Mining}
use Rattle.election_work.specs.declared.reading.Election.{Election}
use Rattle.election_work.specs.Bundles.{election_in}
use Rattle.election_work.specs.Mining.{Outcome, due_of, IsYes}
use Rattle.election_work.specs.Sound.{IsSoundElection, IsSound}
use Rattle.election_work.proofs.SoundLaws.{sound_bytes}
use Rattle.bundle_reports.specs.declared.ending.Ending.{Ending}
use Rattle.bundle_reports.specs.declared.ending.Ending.TheVariants as endings
use Rattle.bundle_reports.specs.Bundles.{finding_ending}
use Rattle.bundle_reports.proofs.SoundLaws.{done_is_yes}
use Rattle.npos_c.specs.declared.numbers.TheConstants.{SMALL}
use Rattle.npos_c.specs.Answers.{ending_number, answer_of}
use Rattle.npos_c.specs.Mining.{Hand, is_small, hand_answer}

-- only what is done has the number 0
pub done_alone : (ending : Ending) → ending_number ending ≡ 0 → ending ≡ endings.Done
done_alone endings.Done e = refl
done_alone endings.No e = absurd (cc)
done_alone endings.BadInput e = absurd (cc)

pub answer_yes : (finding : Finding) → answer_of finding ≡ 0 → finding ≡ Judged Yes
answer_yes finding e = done_is_yes finding (done_alone (finding_ending finding) e)

pub small_or : (small : Bool) (answer : ℕ) → (if small then SMALL else answer) ≡ 0 → answer ≡ 0
small_or true answer e = absurd (cc)
small_or false answer e = e

-- what is handed out as done has a Yes
pub hand_done : (due : Result Outcome Finding) (old : Hand) → hand_answer due old ≡ 0 → IsYes due
hand_done (Ok outcome) old e = answer_yes (Judged outcome.verdict) (small_or (is_small outcome old) (answer_of (Judged outcome.verdict)) e)
hand_done (Err finding) old e = answer_yes finding e

-- ## Bytes

pub sound_found : (bytes : List ℕ) (election : Election) (result : Result Finding NoMemory) → election_in bytes ≡ Ok election
    → IfOk result (λ finding. finding ≡ Judged Yes → IsSoundElection tasks.Check election) → IfOk result (λ finding. finding ≡ Judged Yes → IsSound tasks.Check bytes)
sound_found bytes election (Ok finding) is sound = λ yes_is. sound_bytes tasks.Check bytes election is (sound yes_is)
sound_found bytes election (Err want) is sound = tt

pub sound_mined : (miner : Miner) (bytes : List ℕ) (election : Election) (result : Result Mining NoMemory) → election_in bytes ≡ Ok election
    → IfOk result (λ mining. IsYes (due_of mining) → IsSoundElection (tasks.Mine miner) election) → IfOk result (λ mining. IsYes (due_of mining) → IsSound (tasks.Mine miner) bytes)
sound_mined miner bytes election (Ok mining) is sound = λ yes_is. sound_bytes (tasks.Mine miner) bytes election is (sound yes_is)
sound_mined miner bytes election (Err want) is sound = tt
