-- What a replay that goes on from a checkpoint promises. Nothing is known of the blocks before it, so all of
-- this speaks of the state that was gone on from, and of what follows.
use Rattle.std.specs.Prelude.{ℕ, ◌+◌, ◌<◌, ◌≤◌, ◌==◌, All, List}
use Rattle.std.specs.List.{IsDistinct}
use Rattle.npos_base.specs.declared.account.AccountId.{AccountId}
use Rattle.block_wire.specs.declared.block.Block.{Block}
use Rattle.block_wire.specs.declared.call.Call.{Call}
use Rattle.stake_ledger.specs.Ledger.{IsBalanced}
use Rattle.chain_params.specs.Rules.{era_reward_of}
use Rattle.npos_runtime.specs.declared.chain.Chain.{Chain}
use Rattle.npos_runtime.specs.Rules.Outcome.{Election}
use Rattle.npos_runtime.specs.Step.{after_blocks}
use Rattle.npos_runtime.specs.Histories.Deposits.{DepositsGoOn}
use Rattle.npos_runtime.specs.Histories.Laws.{IsSeatedSoundly}
use Rattle.npos_runtime.specs.Histories.Seatings.{SeatsHold}
use Rattle.npos_runtime.specs.Histories.Offers.{IsNoneCrowdedOut}
use Rattle.npos_runtime.specs.Histories.Eras.{chain_at, over_blocks, paid_by, PaysAsTold, taken_by, due_by, TakesWhatIsDue, elected_for, stake_behind, elections_from}
use Rattle.npos_runtime.specs.Histories.Deferred.{QueuesWhatIsDue, CancelsOneSlash, AppliesWhatIsDue, applied_for, waiting_due}
use Rattle.run_edges.specs.Replay.{Spot, Starts, Reaches, Outcome, IsReplay}
use Rattle.npos_cli.specs.Checkpoints.{resume_machine}

-- wherever a replay that goes on has come, this holds of the chain that it goes on from, and its blocks
abbrev pub HoldsOn : List ℕ → (Chain → List Block → Type 0) → Type 0
HoldsOn bytes holds =
    (start place : Spot Chain) (text : List ℕ) → Starts resume_machine bytes start
    → (reaches : Reaches resume_machine start place text) → holds start.state reaches.blocks

-- at every place that it comes to, the books balance
abbrev pub ResumedBooksBalance : List ℕ → Type 0
ResumedBooksBalance bytes = (start place : Spot Chain) (text : List ℕ) → Starts resume_machine bytes start
    → Reaches resume_machine start place text → IsBalanced place.state.book

-- Every committee that is seated has a member for each seat, follows nominations, spends no voter
-- beyond its stake, denies nobody, and so is proportional.
abbrev pub ResumedSeatsAreSound : List ℕ → Type 0
ResumedSeatsAreSound bytes =
    (out : Outcome Chain Election) → IsReplay resume_machine bytes out → All IsSeatedSoundly out.seated

-- each round whose snapshot is taken is decided as it began
abbrev pub ResumedRoundsAreSeated : List ℕ → Type 0
ResumedRoundsAreSeated bytes = HoldsOn bytes SeatsHold

-- Each valid submission that is offered to a round loses to a claim that is no less, or to a full
-- queue of deposits.
abbrev pub ResumedNoneIsCrowdedOut : List ℕ → Type 0
ResumedNoneIsCrowdedOut bytes =
    HoldsOn bytes (λ chain blocks. (decision : Block) → IsNoneCrowdedOut chain blocks decision)

-- What is held is the deposits of what waits, and each submission that waits or is accepted is settled
-- once.
abbrev pub ResumedDepositsAreKept : List ℕ → Type 0
ResumedDepositsAreKept bytes = HoldsOn bytes DepositsGoOn

-- ## Eras

pub record ErasGoOn (chain : Chain) (blocks : List Block) : Type 0 where
  -- no two elections are of one era, of who waited in the checkpoint and of those that are seated since
  pub once : IsDistinct (λ first second. first.round == second.round) (elections_from chain blocks)
  -- all that these blocks pay of an era is at most its reward
  pub rewards : (era : ℕ) → over_blocks (paid_by era) chain blocks ≤ era_reward_of chain.params
  -- each payout that is accepted is minted as it is told
  pub payouts : (calls : List Call) → PaysAsTold (chain_at chain blocks calls)
  -- All that is due from an account for an era which begins behind the checkpoint is at most its stake in
  -- the election of that era.
  pub dues : (era : ℕ) (who : AccountId) → chain.eras.current < era
      → over_blocks (due_by era who) chain blocks ≤ stake_behind who (elected_for era (elections_from chain blocks))
  -- where slashes do not wait, what is due is taken, but no more than is bonded
  pub slashes : (calls : List Call) → TakesWhatIsDue (chain_at chain blocks calls)
  -- where they wait, each is queued, and is cancelled or applied when it is due
  pub queued : (calls : List Call) → QueuesWhatIsDue (chain_at chain blocks calls)
  pub cancelled : (calls : List Call) → CancelsOneSlash (chain_at chain blocks calls)
  pub applied : AppliesWhatIsDue (after_blocks chain blocks)
  -- Of what waited for an era when the checkpoint was written, by the slashes of these numbers, and of
  -- what is due since then, no more is taken.
  pub taken : (era : ℕ) (who : AccountId) (numbers : List ℕ)
      → All (λ number. number < chain.eras.next_slash) numbers
      → over_blocks (taken_by era who) chain blocks + applied_for era who numbers chain blocks
      ≤ over_blocks (due_by era who) chain blocks + waiting_due numbers who chain.eras.queue

abbrev pub ResumedErasAreKept : List ℕ → Type 0
ResumedErasAreKept bytes = HoldsOn bytes ErasGoOn

-- ## All of it

pub record KeepsOn (bytes : List ℕ) : Type 0 where
  pub books : ResumedBooksBalance bytes
  pub committees : ResumedSeatsAreSound bytes
  pub seats : ResumedRoundsAreSeated bytes
  pub crowding : ResumedNoneIsCrowdedOut bytes
  pub deposits : ResumedDepositsAreKept bytes
  pub eras : ResumedErasAreKept bytes
