-- What follows from the step of a block, for all blocks that a chain can take.
use Rattle.std.specs.Prelude.{◌≡◌, ℕ, ◌+◌, ◌≤◌, true, List, [], ◌∷◌, Some, All}
use Rattle.block_wire.specs.declared.block.Block.{Block}
use Rattle.block_wire.specs.declared.genesis.Genesis.{Genesis}
use Rattle.stake_ledger.specs.Ledger.{row_at}
use Rattle.election_snapshot.specs.Snapshot.{Snapshot, IsWellFormed}
use Rattle.weight_book.specs.Weights.{IsFeasible}
use Rattle.weight_book.specs.Passing.{Passes}
use Rattle.weight_book.specs.Answered.{IsAnswered}
use Rattle.weight_book.specs.Proportional.{IsProportional}
use Rattle.npos_runtime.specs.declared.chain.Chain.{Chain}
use Rattle.npos_runtime.specs.declared.round.Round.TheVariants as rounds
use Rattle.chain_params.specs.Rules.{is_decision}
use Rattle.npos_runtime.specs.Rules.Outcome.{Election}
use Rattle.round_decision.specs.Decision.{others, decided_weights}
use Rattle.npos_runtime.specs.Rules.Deciding.{committee_of}
use Rattle.npos_runtime.specs.Genesis.{genesis_chain}
use Rattle.npos_runtime.specs.History.{CanTake, IsHistory}
use Rattle.npos_runtime.specs.Live.{IsLive}
use Rattle.npos_runtime.specs.Step.{step, after_blocks, told_by, seated_by}
use Rattle.round_decision.specs.Deposits.{deposits_of}
use Rattle.npos_runtime.specs.Histories.Fates.{fate, waiting_with, issued}
use Rattle.npos_runtime.specs.Histories.Offers.{IsNoneCrowdedOut}
use Rattle.npos_base.specs.declared.account.AccountId.{AccountId}

-- The committee has a member for each seat, follows nominations, spends no voter beyond its stake, and denies nobody:
-- it represents each group of voters that agrees on one target outside by as many members as its stake stands for. So it
-- is proportional.
pub record IsSeatedSoundly (election : Election) : Type 0 where
  pub well_formed : IsWellFormed election.snapshot
  pub feasible : IsFeasible election.snapshot election.weights
  pub passes : Passes election.snapshot election.weights
  pub answered : IsAnswered election.snapshot election.weights.committee
  pub proportional : IsProportional election.snapshot election.weights

-- every election that a block of a live chain seats is sound
abbrev pub SoundStepLaw : Type 0
SoundStepLaw =
    (chain : Chain) (block : Block) → IsLive chain → All IsSeatedSoundly (step chain block).seated

abbrev pub SeatedSoundLaw : Type 0
SeatedSoundLaw = (chain : Chain) (blocks : List Block) → CanTake chain blocks
    → All IsSeatedSoundly (seated_by chain blocks)

-- Where a round that is not void is decided, its committee is seated and waits: with the round's
-- snapshot, the weights of the winner or the fill, and the members in rising order.
abbrev pub SeatsLaw : Type 0
SeatsLaw = (chain : Chain) (block : Block) (number : ℕ) (snapshot : Snapshot) (commissions : List ℕ)
    → IsLive chain → is_decision chain.params chain.due ≡ true
    → chain.round ≡ Some (rounds.Open number snapshot commissions)
    → ((step chain block).state.waiting
    ≡ Some (committee_of snapshot commissions chain.queue.items))
    × ((step chain block).seated ≡ record {
      round = number;
      snapshot = snapshot;
      weights = decided_weights snapshot (others snapshot chain.queue.items);
    } ∷ [])

-- What is held of each account is the deposits of its submissions that wait.
abbrev pub HeldLaw : Type 0
HeldLaw = (chain : Chain) (blocks : List Block) (who : AccountId) → CanTake chain blocks
    → (row_at (after_blocks chain blocks).book who).held
    ≡ deposits_of who (after_blocks chain blocks).queue.items

-- Whatever waited or is given a number since then is settled once, or waits still.
abbrev pub SettledLaw : Type 0
SettledLaw = (chain : Chain) (blocks : List Block) (number : ℕ) → CanTake chain blocks
    → fate number (told_by chain blocks)
    + (waiting_with number (after_blocks chain blocks).queue.items + issued number chain.next)
    ≡ waiting_with number chain.queue.items + issued number (after_blocks chain blocks).next

-- Accepted submissions have the numbers from 1 on without gaps. Each that was accepted waits once
-- and was not settled, or does not wait and was settled once; no other was settled.
abbrev pub FateLaw : Type 0
FateLaw = (genesis : Genesis) (blocks : List Block) (number : ℕ) → IsHistory genesis blocks → 1 ≤ number
    → fate number (told_by (genesis_chain genesis) blocks)
    + waiting_with number (after_blocks (genesis_chain genesis) blocks).queue.items
    ≡ issued number (after_blocks (genesis_chain genesis) blocks).next

-- Nothing valid is crowded out for free: whatever valid was offered to a round is passed over only
-- for a claim that is no less, or at the cost of as many deposits as the queue has places.
abbrev pub NoneCrowdedOutLaw : Type 0
NoneCrowdedOutLaw = (chain : Chain) (blocks : List Block) (block : Block) → CanTake chain blocks
    → IsNoneCrowdedOut chain blocks block
