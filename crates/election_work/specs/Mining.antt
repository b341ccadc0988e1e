-- What a miner makes of an election.
use Rattle.std.specs.Prelude.{◌≡◌, ⊤, ℕ, ◌<◌, Bool, true, false, if◌then◌else◌, List, length, filter, All, Option, Some, None, Result, Ok, Err}
use Rattle.std.specs.List.{range_with_len}
use Rattle.npos_base.specs.declared.figures.Score.{Score}
use Rattle.npos_base.specs.declared.miner.Miner.{Miner}
use Rattle.npos_base.specs.declared.miner.Miner.TheVariants as miners
use Rattle.npos_base.specs.Miner.{is_packed}
use Rattle.election_snapshot.specs.Snapshot.{Snapshot, has}
use Rattle.weight_book.specs.Weights.{Weights, IsFeasible}
use Rattle.weight_book.specs.Scoring.{score_of}
use Rattle.quota_fill.specs.Filled.{filled}
use Rattle.seq_phragmen.specs.Mined.{mined}
use Rattle.phragmms_miner.specs.Run.{IsRun}
use Rattle.compact_solution.specs.Solution.{Entry, solution_form}
use Rattle.election_check.specs.declared.verdict.Verdict.{Verdict}
use Rattle.election_check.specs.declared.verdict.Verdict.TheVariants.{Yes}
use Rattle.election_check.specs.Plain.{verdict_plain}
use Rattle.election_check.specs.Packed.{expanded, verdict_packed}
use Rattle.election_check.specs.Laws.{packed_of}
use Rattle.election_work.specs.declared.finding.Finding.{Finding}
use Rattle.election_work.specs.declared.finding.Finding.TheVariants.{Judged, Lost, Unread}
use Rattle.election_work.specs.declared.mined.Mined.{Mined}
use Rattle.election_work.specs.declared.mined.Mining.{Mining}
use Rattle.election_work.specs.declared.mined.Mining.TheVariants.{Done, Refused}
use Rattle.election_work.specs.declared.reading.Election.{Election}
use Rattle.election_work.specs.declared.reading.NoElection.{NoElection}
use Rattle.election_work.specs.Bundles.{election_in}

-- the weights that a miner makes: the greedy fill, or those of the run of its rule; for PHRAGMMS,
-- whose run is a relation, it is said besides that they are feasible
abbrev pub IsMined : Miner → Snapshot → Weights → Type 0
IsMined miners.Fill snapshot weights = weights ≡ filled snapshot
IsMined miners.Seq snapshot weights = weights ≡ mined snapshot
IsMined (miners.Mms rounds) snapshot weights = IsRun snapshot rounds weights × IsFeasible snapshot weights

-- ## What the weights come to

-- the weights of an election whose members rise, their score, the bytes of their solution where they
-- are packed, and the verdict
pub record Outcome : Type 0 where
  pub snapshot : Snapshot
  pub weights : Weights
  pub score : Score
  pub solution : Option (List ℕ)
  pub verdict : Verdict

-- the members by rising position, whatever their order in the committee
abbrev pub rising : Snapshot → Weights → Weights
rising snapshot weights = record {
  committee = filter (has weights.committee) (range_with_len 0 (length snapshot.targets));
  edges = weights.edges;
}

abbrev pub mined_from : Snapshot → Weights → Option (List ℕ) → Verdict → Outcome
mined_from snapshot weights solution verdict = record {
  snapshot = snapshot;
  weights = rising snapshot weights;
  score = score_of weights;
  solution = solution;
  verdict = verdict;
}

-- weights that are judged as they are
abbrev pub plain_mined : Snapshot → Weights → Outcome
plain_mined snapshot weights = mined_from snapshot weights None (verdict_plain snapshot weights)

-- bytes are judged, with the score of these weights as the claim
abbrev pub bytes_mined : Snapshot → Weights → List ℕ → Outcome
bytes_mined snapshot weights bytes =
    mined_from snapshot weights (Some bytes) (verdict_packed snapshot (score_of weights) bytes)

-- of a solution its bytes are judged, and the weights are those that it expands to
abbrev pub solution_mined : Snapshot → List (List Entry) → Outcome
solution_mined snapshot solution =
    bytes_mined snapshot (expanded snapshot solution) (solution_form.spelling solution)

-- of packed weights the solution, or the lowest member that is lost
abbrev pub packed_mined : Snapshot → Result (List (List Entry)) ℕ → Result Outcome Finding
packed_mined snapshot (Ok solution) = Ok (solution_mined snapshot solution)
packed_mined snapshot (Err member) = Err (Lost member)

-- the weights are packed first, or judged as they are
abbrev pub mined_by : Bool → Snapshot → Weights → Result Outcome Finding
mined_by true snapshot weights = packed_mined snapshot (packed_of snapshot weights)
mined_by false snapshot weights = Ok (plain_mined snapshot weights)

-- it is what the weights come to that the miner makes
abbrev pub IsMining : Miner → Snapshot → Result Outcome Finding → Type 0
IsMining miner snapshot due =
    (weights : Weights) × IsMined miner snapshot weights × (due ≡ mined_by (is_packed miner) snapshot weights)

-- bytes without an election come to why they have none
abbrev pub IsMiningOn : Miner → Result Election NoElection → Result Outcome Finding → Type 0
IsMiningOn miner (Ok election) due = IsMining miner election.snapshot due
IsMiningOn miner (Err why) due = due ≡ Err (Unread why)

-- what a miner makes of the election in the bytes of a bundle
abbrev pub IsBundleMining : Miner → List ℕ → Result Outcome Finding → Type 0
IsBundleMining miner bytes due = IsMiningOn miner (election_in bytes) due

-- ## What is known of it

-- the verdict on what was mined, or what was found in its place
abbrev pub finding_of : Result Outcome Finding → Finding
finding_of (Ok outcome) = Judged outcome.verdict
finding_of (Err finding) = finding

abbrev pub IsYes : Result Outcome Finding → Type 0
IsYes due = finding_of due ≡ Judged Yes

-- each member is a target
abbrev pub AreTargets : Result Outcome Finding → Type 0
AreTargets (Ok outcome) =
    All (λ member. member < length outcome.snapshot.targets) outcome.weights.committee
AreTargets (Err finding) = ⊤

-- ## What the code holds

abbrev pub outcome_of : Mined → Outcome
outcome_of mined = record {
  snapshot = mined.snapshot;
  weights = mined.weights.plain;
  score = mined.score;
  solution = mined.solution;
  verdict = mined.verdict;
}

abbrev pub due_of : Mining → Result Outcome Finding
due_of (Done mined) = Ok (outcome_of mined)
due_of (Refused finding) = Err finding
