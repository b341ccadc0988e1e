-- What becomes of a round over blocks: from the block that takes its snapshot to the one that decides it.
use Rattle.std.specs.Prelude.{◌≡◌, ℕ, ◌+◌, true, false, ◌||◌, All, Contains, List, [], ◌∷◌, ◌++◌, length, Some}
use Rattle.block_wire.specs.declared.block.Block.{Block}
use Rattle.election_snapshot.specs.Snapshot.{Snapshot}
use Rattle.round_decision.specs.Decision.{others, decided_weights}
use Rattle.chain_params.specs.Rules.{era_of, begun_round, signed_of, is_decision}
use Rattle.npos_runtime.specs.declared.chain.Chain.{Chain}
use Rattle.npos_runtime.specs.Rules.Ballots.{snapshot_of}
use Rattle.npos_runtime.specs.Rules.Rounds.{is_few, is_poor, round_line}
use Rattle.npos_runtime.specs.Step.{era_phase, step, after_blocks}
use Rattle.npos_runtime.specs.History.{CanTake}

-- the snapshot that the block behind these takes, once its era may have begun
abbrev pub snapshot_behind : Chain → List Block → Snapshot
snapshot_behind chain before = snapshot_of (era_phase (after_blocks chain before)).state

-- The line of the first block tells what the snapshot came to. Where it has neither too few targets
-- nor too little stake, the last block seats exactly one committee, elected from that very snapshot;
-- else it seats nobody.
pub record IsSeatedOnce (chain : Chain) (before : List Block) (first : Block) (between : List Block)
    (last : Block) (round : ℕ) : Type 0 where
  pub told : Contains (step (after_blocks chain before) first).lines
      (round_line round (snapshot_behind chain before))
  pub decides : is_decision chain.params (after_blocks chain (before ++ first ∷ between)).due ≡ true
  pub seated : is_few (snapshot_behind chain before) ≡ false → is_poor (snapshot_behind chain before) ≡ false
      → (step (after_blocks chain (before ++ first ∷ between)) last).seated ≡ record {
        round = round;
        snapshot = snapshot_behind chain before;
        weights = decided_weights (snapshot_behind chain before) (others (snapshot_behind chain before)
            (after_blocks chain (before ++ first ∷ between)).queue.items);
      } ∷ []
  pub void : (is_few (snapshot_behind chain before) || is_poor (snapshot_behind chain before)) ≡ true
      → (step (after_blocks chain (before ++ first ∷ between)) last).seated ≡ []

pub record SeatsHold (chain : Chain) (blocks : List Block) : Type 0 where
  -- Where the first of these blocks takes the snapshot of a round, the last is the one of its decision:
  -- as many blocks later as submissions are taken.
  pub decided : (before between more : List Block) (first last : Block) (round : ℕ)
      → blocks ≡ before ++ first ∷ (between ++ last ∷ more)
      → begun_round chain.params (after_blocks chain before).due ≡ Some round
      → 1 + length between ≡ signed_of chain.params
      → IsSeatedOnce chain before first between last round
  -- the block of a decision alone seats a committee, and for the next era
  pub elsewhere : (before more : List Block) (block : Block) → blocks ≡ before ++ block ∷ more
      → All (λ election. (is_decision chain.params (after_blocks chain before).due ≡ true)
      × (election.round ≡ era_of chain.params (after_blocks chain before).due + 1))
      (step (after_blocks chain before) block).seated

abbrev pub SeatingsLaw : Type 0
SeatingsLaw = (chain : Chain) (blocks : List Block) → CanTake chain blocks → SeatsHold chain blocks
