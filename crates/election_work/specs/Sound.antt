-- What an accepted bundle is, by what is asked of it.
use Rattle.std.specs.Prelude.{◌≡◌, ⊤, ℕ, Bool, true, false, List, Result, Ok}
use Rattle.scale_wire.specs.WholeReading.{read_as}
use Rattle.npos_base.specs.declared.miner.Miner.{Miner}
use Rattle.npos_base.specs.Miner.{HasRounds, is_packed}
use Rattle.block_wire.specs.declared.bundle.Bundle.{Bundle}
use Rattle.block_wire.specs.declared.bundle.Work.{Work}
use Rattle.block_wire.specs.declared.bundle.Work.TheVariants.{Nothing, Packed, Plain}
use Rattle.block_wire.specs.Bundles.{bundle_form}
use Rattle.block_wire.specs.BundleLaws.{bundle_laws}
use Rattle.election_snapshot.specs.Snapshot.{Snapshot}
use Rattle.weight_book.specs.Weights.{Weights, IsFeasible}
use Rattle.weight_book.specs.Scoring.{score_of}
use Rattle.weight_book.specs.Answered.{IsAnswered}
use Rattle.weight_book.specs.Proportional.{IsProportional}
use Rattle.compact_solution.specs.Solution.{Entry}
use Rattle.compact_solution.specs.Decoded.{decoded}
use Rattle.election_check.specs.Packed.{expanded}
use Rattle.election_check.specs.Laws.{packed_of}
use Rattle.election_work.specs.declared.asked.Task.{Task}
use Rattle.election_work.specs.declared.asked.Task.TheVariants as tasks
use Rattle.election_work.specs.declared.reading.Election.{Election}
use Rattle.election_work.specs.Elections.{snapshot_of}
use Rattle.election_work.specs.Mining.{IsMined}

-- a miner has the rounds that it needs
abbrev pub TaskHasRounds : Task → Type 0
TaskHasRounds tasks.Check = ⊤
TaskHasRounds (tasks.Mine miner) = HasRounds miner

-- ## The weights that a verdict is on

-- the weights that the work stands for
abbrev pub IsWork : Snapshot → Work → Weights → Type 0
IsWork snapshot Nothing weights = ⊥
IsWork snapshot (Packed claim bytes) weights =
    (solution : List (List Entry)) × (decoded bytes ≡ Ok solution) × (weights ≡ expanded snapshot solution)
    × (score_of weights ≡ claim)
IsWork snapshot (Plain committee edges) weights = weights ≡ record { committee = committee; edges = edges }

-- Those that these ones expand to once they are packed, or these as they are.
abbrev pub AreJudged : Bool → Snapshot → Weights → Weights → Type 0
AreJudged true snapshot own weights =
    (solution : List (List Entry)) × (packed_of snapshot own ≡ Ok solution) × (weights ≡ expanded snapshot solution)
AreJudged false snapshot own weights = weights ≡ own

-- the weights that the verdict of the task is on
abbrev pub AreWeights : Task → Election → Weights → Type 0
AreWeights tasks.Check election weights = IsWork election.snapshot election.work weights
AreWeights (tasks.Mine miner) election weights =
    (own : Weights) × IsMined miner election.snapshot own × AreJudged (is_packed miner) election.snapshot own weights

-- ## What a Yes says

-- The weights fill the seats, follow nominations, spend no voter beyond its stake, and deny nobody; so they are proportional.
pub record IsSoundElection (task : Task) (election : Election) : Type 0 where
  pub weights : Weights
  pub are_weights : AreWeights task election weights
  pub feasible : IsFeasible election.snapshot weights
  pub answered : IsAnswered election.snapshot weights.committee
  pub proportional : IsProportional election.snapshot weights

-- the bytes spell a bundle with an election, and the weights on it are sound
pub record IsSound (task : Task) (bytes : List ℕ) : Type 0 where
  pub bundle : Bundle
  pub is_bundle : read_as bundle_form bundle_laws bytes ≡ Ok bundle
  pub snapshot : Snapshot
  pub is_snapshot : snapshot_of bundle ≡ Ok snapshot
  pub election : IsSoundElection task (record { snapshot = snapshot; work = bundle.work })
