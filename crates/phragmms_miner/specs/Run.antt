-- The run of the miner: seat by seat the target outside with the greatest score joins, and the
-- supports are balanced.
use Rattle.std.specs.Prelude.{◌≡◌, ℕ, zero, suc, List, [], ◌∷◌, ◌++◌, length, take, slice_index_or}
use Rattle.npos_base.specs.declared.figures.Edge.{Edge}
use Rattle.election_snapshot.specs.Snapshot.{Snapshot}
use Rattle.weight_book.specs.Weights.{Weights, Follows}
use Rattle.support_balance.specs.Rounds.{GiveSame, IsBalanced, AreListed}
use Rattle.phragmms_miner.specs.Scores.{IsBest}

-- one seat more: the pick, and the rounds after it
pub record IsSeated (snapshot : Snapshot) (rounds : ℕ) (committee : List ℕ) (before : List Edge) (pick : ℕ)
    (after : List Edge) : Type 0 where
  pub best : IsBest snapshot committee before pick
  pub made : ℕ
  pub balanced : IsBalanced snapshot (committee ++ pick ∷ []) rounds made before after

-- Edges after so many picks. Those between follow the nominations too, so that what they leave to
-- each voter is told by what they give.
abbrev pub AreSeated : Snapshot → ℕ → List ℕ → ℕ → List Edge → Type 0
AreSeated snapshot rounds picks zero edges = edges ≡ []
AreSeated snapshot rounds picks (suc seat) edges =
    (before : List Edge) × AreSeated snapshot rounds picks seat before
    × Follows snapshot (record { committee = take seat picks; edges = before })
    × IsSeated snapshot rounds (take seat picks) before (slice_index_or picks seat 0) edges

-- the weights are those of the run
pub record IsRun (snapshot : Snapshot) (rounds : ℕ) (weights : Weights) : Type 0 where
  pub seats_filled : length weights.committee ≡ snapshot.seats
  pub edges : List Edge
  pub seated : AreSeated snapshot rounds weights.committee snapshot.seats edges
  pub same : GiveSame edges weights.edges
  pub listed : AreListed weights.edges

-- what one seat more makes of weights that follow
pub record IsNext (snapshot : Snapshot) (rounds : ℕ) (old new : Weights) : Type 0 where
  pub follows : Follows snapshot old
  pub pick : ℕ
  pub committee : new.committee ≡ old.committee ++ pick ∷ []
  pub seated : IsSeated snapshot rounds old.committee old.edges pick new.edges
