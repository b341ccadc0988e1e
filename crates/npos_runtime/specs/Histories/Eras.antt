-- What eras come to over blocks: what is paid of an era's reward, and what is due and taken from
-- those who stood behind its validators.
use Rattle.std.specs.Prelude.{◌≡◌, ◌≢◌, ℕ, zero, suc, ◌+◌, ◌<◌, ◌≤◌, min, ◌==◌, if◌then◌else◌, List, [], ◌∷◌, ◌++◌, length, sum_by, filter, find, Option, Some, None}
use Rattle.std.specs.List.{IsDistinct}
use Rattle.npos_base.specs.declared.account.AccountId.{AccountId}
use Rattle.npos_base.specs.Account.{same_account}
use Rattle.block_wire.specs.declared.call.Call.{Call}
use Rattle.block_wire.specs.declared.call.CallKind.TheVariants as kinds
use Rattle.block_wire.specs.declared.block.Block.{Block}
use Rattle.block_wire.specs.declared.genesis.Genesis.{Genesis}
use Rattle.stake_ledger.specs.declared.row.Row.{Row}
use Rattle.stake_ledger.specs.Chunks.{chunk_sum}
use Rattle.stake_ledger.specs.Ledger.{Ledger, row_at}
use Rattle.election_snapshot.specs.Snapshot.{Snapshot}
use Rattle.era_book.specs.declared.exposure.Backer.{Backer}
use Rattle.era_book.specs.declared.deferred.DeferredSlash.{DeferredSlash}
use Rattle.era_book.specs.Calls.{slash_in}
use Rattle.era_book.specs.Events.{Event, Started, Paid, Reported, Taken, AreAccepted, after_all, given_by, makes_due}
use Rattle.npos_runtime.specs.declared.chain.Chain.{Chain}
use Rattle.block_receipts.specs.declared.line.Line.{Line}
use Rattle.block_receipts.specs.declared.line.Line.TheVariants as lines
use Rattle.block_receipts.specs.declared.refusal.Refusal.{Refusal}
use Rattle.npos_runtime.specs.Rules.Committee.{Committee}
use Rattle.npos_runtime.specs.Rules.Exposed.{exposed}
use Rattle.chain_params.specs.Rules.{begun_era, era_reward_of}
use Rattle.npos_runtime.specs.Rules.Outcome.{Election}
use Rattle.npos_runtime.specs.Genesis.{genesis_chain, params_of}
use Rattle.npos_runtime.specs.Rules.CallRule.{CallRule}
use Rattle.npos_runtime.specs.Rules.Calls.{rule_for, refusal_of, done_of, told_of}
use Rattle.npos_runtime.specs.Rules.Offices.{payout_now, slash_told}
use Rattle.npos_runtime.specs.Step.{before_calls, call_outcome, calls_outcome, step, after_blocks, seated_by}
use Rattle.npos_runtime.specs.History.{CanTake, IsHistory}
use Rattle.npos_runtime.specs.Kept.Sound.{IsSoundWaiting}

-- ## What happens to the eras

-- the slash that is due next is taken, so often
abbrev pub takings : ℕ → List Event
takings zero = []
takings (suc more) = Taken ∷ takings more

-- an era begins with the exposures of who waited, and as often as slashes wait the one that is due
-- next is taken, if one is
abbrev pub started_by : Option Committee → List DeferredSlash → Option ℕ → List Event
started_by waiting slashes None = []
started_by waiting slashes (Some era) = Started (exposed waiting) ∷ takings (length slashes)

-- a refused call is no event
abbrev pub event_of : Option Refusal → CallRule → List Event
event_of None rule = rule.events
event_of (Some refusal) rule = []

abbrev pub events_at : Call → Chain → List Event
events_at call chain = event_of (rule_for chain call).refusal (rule_for chain call)

abbrev pub events_of : ℕ → List Call → Chain → List Event
events_of index [] chain = []
events_of index (call ∷ calls) chain =
    events_at call chain ++ events_of (index + 1) calls (call_outcome index call chain).state

abbrev pub events_in : Chain → Block → List Event
events_in chain block =
    started_by chain.waiting chain.eras.queue (begun_era chain.params chain.due)
    ++ events_of 0 block.calls (before_calls chain)

abbrev pub events_by : Chain → List Block → List Event
events_by chain [] = []
events_by chain (block ∷ more) = events_in chain block ++ events_by (step chain block).state more

-- The eras of the chain are what the blocks' events make of those before, and each event is accepted.
abbrev pub HistoryLaw : Type 0
HistoryLaw = (chain : Chain) (blocks : List Block) → CanTake chain blocks
    → AreAccepted (events_by chain blocks) chain.eras
    × (after_all (events_by chain blocks) chain.eras ≡ (after_blocks chain blocks).eras)

-- ## What blocks come to, summed over their calls

-- each call by its place in its block and by the chain as it is then
abbrev pub over_calls : (ℕ → Call → Chain → ℕ) → ℕ → List Call → Chain → ℕ
over_calls gives index [] chain = 0
over_calls gives index (call ∷ calls) chain =
    gives index call chain + over_calls gives (index + 1) calls (call_outcome index call chain).state

abbrev pub over_blocks : (ℕ → Call → Chain → ℕ) → Chain → List Block → ℕ
over_blocks gives chain [] = 0
over_blocks gives chain (block ∷ more) =
    over_calls gives 0 block.calls (before_calls chain) + over_blocks gives (step chain block).state more

-- ## Payouts

abbrev pub amount_paid : Line → ℕ
amount_paid (lines.Paid who amount) = amount
amount_paid other = 0

-- what lines tell to be paid
abbrev pub told_paid : List Line → ℕ
told_paid told = sum_by amount_paid told

-- what the lines of a call tell to be paid of the reward of an era, where this happened to the eras
abbrev pub paid_for : ℕ → List Event → List Line → ℕ
paid_for era (Paid other validator ∷ more) told = if other == era then told_paid told else 0
paid_for era other told = 0

abbrev pub paid_by : ℕ → ℕ → Call → Chain → ℕ
paid_by era index call chain =
    paid_for era (events_at call chain) (call_outcome index call chain).lines

-- From any chain on: all that these blocks pay of an era, over all its validators, is at most its reward.
abbrev pub PaidOnLaw : Type 0
PaidOnLaw = (chain : Chain) (blocks : List Block) (era : ℕ) → CanTake chain blocks
    → over_blocks (paid_by era) chain blocks ≤ era_reward_of chain.params

-- what blocks tell to be paid of the reward of an era, over all its validators
abbrev pub paid_in : ℕ → Genesis → List Block → ℕ
paid_in era genesis blocks = over_blocks (paid_by era) (genesis_chain genesis) blocks

-- All that is paid of an era is at most its reward.
abbrev pub PaidWithinRewardLaw : Type 0
PaidWithinRewardLaw = (genesis : Genesis) (blocks : List Block) (era : ℕ)
    → IsHistory genesis blocks
    → paid_in era genesis blocks ≤ era_reward_of (params_of genesis)

-- the chain behind these blocks, once the next one has begun and these of its calls are done
abbrev pub chain_at : Chain → List Block → List Call → Chain
chain_at chain blocks calls = (calls_outcome 0 calls (before_calls (after_blocks chain blocks))).state

-- the lines of a payout tell its total, which is minted, and is at most the reward of the era
pub record IsPaidOut (chain : Chain) (who : AccountId) (era : ℕ) (validator : AccountId) : Type 0 where
  pub told : told_paid (told_of chain who (kinds.Payout era validator))
      ≡ (payout_now chain era validator).total
  pub minted : (done_of chain who (kinds.Payout era validator)).book.minted
      ≡ chain.book.minted + (payout_now chain era validator).total
  pub within : (payout_now chain era validator).total ≤ era_reward_of chain.params

-- each payout that is accepted is minted as it is told
abbrev pub PaysAsTold : Chain → Type 0
PaysAsTold chain = (who : AccountId) (era : ℕ) (validator : AccountId)
    → refusal_of chain who (kinds.Payout era validator) ≡ None → IsPaidOut chain who era validator

abbrev pub ToldOnLaw : Type 0
ToldOnLaw = (chain : Chain) (blocks : List Block) (calls : List Call) → CanTake chain blocks
    → PaysAsTold (chain_at chain blocks calls)

abbrev pub PaidAsToldLaw : Type 0
PaidAsToldLaw = (genesis : Genesis) (blocks : List Block) (calls : List Call)
    → IsHistory genesis blocks → PaysAsTold (chain_at (genesis_chain genesis) blocks calls)

-- ## Offences

-- what the account has bonded: what is active and what is unbonding
abbrev pub bonded : Row → ℕ
bonded row = row.active + chunk_sum row.chunks

-- The lesser of what is due and what is bonded is taken and burned, and nothing else changes.
pub record IsTaken (due : Backer) (taken : ℕ) (old new : Ledger) : Type 0 where
  pub lesser : taken ≡ min due.amount (bonded (row_at old due.who))
  pub left : bonded (row_at new due.who) + taken ≡ bonded (row_at old due.who)
  pub free : (row_at new due.who).free ≡ (row_at old due.who).free
  pub held : (row_at new due.who).held ≡ (row_at old due.who).held
  pub others : (other : AccountId) → other ≢ due.who → row_at new other ≡ row_at old other
  pub burned : new.burned ≡ old.burned + taken

-- one after the other is taken, and told where it is above 0
abbrev pub AreTaken : List Backer → Ledger → List Line → Ledger → Type 0
AreTaken [] old told new = (told ≡ []) × (new ≡ old)
AreTaken (due ∷ more) old told new =
    (taken : ℕ) × (between : Ledger) × (rest : List Line) × IsTaken due taken old between
    × (told ≡ slash_told due.who taken ++ rest) × AreTaken more between rest new

-- where slashes do not wait, each report that is accepted takes what is due, one account after the
-- other, but no more than the account has bonded
abbrev pub TakesWhatIsDue : Chain → Type 0
TakesWhatIsDue chain = (who : AccountId) (era : ℕ) (validator : AccountId) (fraction : ℕ)
    → chain.defer ≡ 0 → refusal_of chain who (kinds.Offence era validator fraction) ≡ None
    → AreTaken (slash_in chain.eras era validator fraction) chain.book
    (told_of chain who (kinds.Offence era validator fraction))
    (done_of chain who (kinds.Offence era validator fraction)).book

abbrev pub SlashLaw : Type 0
SlashLaw = (chain : Chain) (blocks : List Block) (calls : List Call) → CanTake chain blocks
    → TakesWhatIsDue (chain_at chain blocks calls)

abbrev pub amount_taken : AccountId → Line → ℕ
amount_taken who (lines.Slashed other amount) = if same_account other who then amount else 0
amount_taken who other = 0

-- what lines tell to be taken from an account
abbrev pub told_taken : AccountId → List Line → ℕ
told_taken who told = sum_by (amount_taken who) told

-- what the lines of a call tell to be taken from an account for an era, where this happened to the eras
abbrev pub taken_for : ℕ → AccountId → List Event → List Line → ℕ
taken_for era who (Reported other validator fraction ∷ more) told =
    if other == era then told_taken who told else 0
taken_for era who other told = 0

abbrev pub taken_by : ℕ → AccountId → ℕ → Call → Chain → ℕ
taken_by era who index call chain =
    taken_for era who (events_at call chain) (call_outcome index call chain).lines

-- what blocks tell to be taken from an account for an era, over all its validators and all reports
abbrev pub taken_in : ℕ → AccountId → Genesis → List Block → ℕ
taken_in era who genesis blocks = over_blocks (taken_by era who) (genesis_chain genesis) blocks

-- what a call makes due from an account for an era; a refused call makes nothing due
abbrev pub due_by : ℕ → AccountId → ℕ → Call → Chain → ℕ
due_by era who index call chain = given_by (makes_due era who) (events_at call chain) chain.eras

-- what blocks make due from an account for an era, over all its validators and all reports
abbrev pub due_in : ℕ → AccountId → Genesis → List Block → ℕ
due_in era who genesis blocks = over_blocks (due_by era who) (genesis_chain genesis) blocks

-- No more is taken than is due.
abbrev pub TakenLaw : Type 0
TakenLaw = (genesis : Genesis) (blocks : List Block) (era : ℕ) (who : AccountId)
    → IsHistory genesis blocks
    → taken_in era who genesis blocks ≤ due_in era who genesis blocks

-- ## The election of an era

-- each round is decided once, and elects for the era of its number
abbrev pub OnceLaw : Type 0
OnceLaw = (chain : Chain) (blocks : List Block) → CanTake chain blocks
    → IsDistinct (λ first second. first.round == second.round) (seated_by chain blocks)

-- the election that seated the committee of an era, if one did
abbrev pub elected_for : ℕ → List Election → Option Election
elected_for era elections = find (λ election. election.round == era) elections

-- the stake with which an account voted
abbrev pub stake_in : Snapshot → AccountId → ℕ
stake_in snapshot who =
    sum_by (λ voter. voter.stake) (filter (λ voter. same_account voter.account who) snapshot.voters)

abbrev pub stake_behind : AccountId → Option Election → ℕ
stake_behind who None = 0
stake_behind who (Some election) = stake_in election.snapshot who

-- the election of the committee that waits for an era
abbrev pub awaited_for : ℕ → Option Committee → List Election
awaited_for era None = []
awaited_for era (Some committee) =
    record { round = era; snapshot = committee.snapshot; weights = committee.weights } ∷ []

-- the elections of eras that begin behind a chain: that of the committee which waits in it, for the
-- next era, and those that these blocks seat
abbrev pub elections_from : Chain → List Block → List Election
elections_from chain blocks =
    awaited_for (chain.eras.current + 1) chain.waiting ++ seated_by chain blocks

-- each era that begins behind a chain has at most one of them
abbrev pub OnceOnLaw : Type 0
OnceOnLaw = (chain : Chain) (blocks : List Block) → CanTake chain blocks
    → IsSoundWaiting chain chain.waiting
    → IsDistinct (λ first second. first.round == second.round) (elections_from chain blocks)

-- From any chain on: all that these blocks make due from an account for an era that begins behind the
-- chain is at most its stake in the election of that era.
abbrev pub DuesOnLaw : Type 0
DuesOnLaw = (chain : Chain) (blocks : List Block) (era : ℕ) (who : AccountId) → CanTake chain blocks
    → IsSoundWaiting chain chain.waiting → chain.eras.current < era
    → over_blocks (due_by era who) chain blocks
    ≤ stake_behind who (elected_for era (elections_from chain blocks))

-- All that is due from an account for an era is at most its stake in the election of that era.
abbrev pub DueWithinStakeLaw : Type 0
DueWithinStakeLaw = (genesis : Genesis) (blocks : List Block) (era : ℕ) (who : AccountId)
    → IsHistory genesis blocks
    → due_in era who genesis blocks
    ≤ stake_behind who (elected_for era (seated_by (genesis_chain genesis) blocks))

-- ## All of it

-- What these blocks pay of an era is at most its reward, and what they make due from an account for
-- an era is at most its stake in the one election of that era; no more is taken than is due.
pub record AreWithin (genesis : Genesis) (blocks : List Block) : Type 0 where
  pub rewards : (era : ℕ) → paid_in era genesis blocks ≤ era_reward_of (params_of genesis)
  pub taken : (era : ℕ) (who : AccountId) → taken_in era who genesis blocks ≤ due_in era who genesis blocks
  pub dues : (era : ℕ) (who : AccountId) → due_in era who genesis blocks
      ≤ stake_behind who (elected_for era (seated_by (genesis_chain genesis) blocks))
  pub once : IsDistinct (λ first second. first.round == second.round)
      (seated_by (genesis_chain genesis) blocks)

pub record ErasHold (genesis : Genesis) (blocks : List Block) : Type 0 where
  pub within : AreWithin genesis blocks
  pub payouts : (calls : List Call) → PaysAsTold (chain_at (genesis_chain genesis) blocks calls)
  pub slashes : (calls : List Call) → TakesWhatIsDue (chain_at (genesis_chain genesis) blocks calls)
