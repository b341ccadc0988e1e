-- What slashes come to that wait: what is due is fixed at the report, it is taken when the slash is
-- applied, and a slash that is cancelled takes nothing.
use Rattle.std.specs.Prelude.{◌≡◌, ℕ, ◌+◌, ◌<◌, ◌≤◌, Bool, false, nat_le, ◌==◌, if◌then◌else◌, All, List, [], ◌∷◌, ◌++◌, sum_by, flat_map, filter, Some, None}
use Rattle.npos_base.specs.declared.account.AccountId.{AccountId}
use Rattle.block_wire.specs.declared.call.Call.{Call}
use Rattle.block_wire.specs.declared.call.CallKind.TheVariants as kinds
use Rattle.block_wire.specs.declared.block.Block.{Block}
use Rattle.block_wire.specs.declared.genesis.Genesis.{Genesis}
use Rattle.stake_ledger.specs.Ledger.{Ledger}
use Rattle.election_snapshot.specs.Snapshot.{has}
use Rattle.era_book.specs.declared.deferred.DeferredSlash.{DeferredSlash}
use Rattle.era_book.specs.Exposures.{amount_for}
use Rattle.era_book.specs.Calls.{slash_in}
use Rattle.era_book.specs.Deferred.{without}
use Rattle.era_book.specs.Events.{Event, Queued, Reported}
use Rattle.npos_runtime.specs.declared.chain.Chain.{Chain}
use Rattle.block_receipts.specs.declared.line.Line.{Line}
use Rattle.block_receipts.specs.declared.line.Line.TheVariants as lines
use Rattle.chain_params.specs.Rules.{begun_era}
use Rattle.npos_runtime.specs.Genesis.{genesis_chain}
use Rattle.npos_runtime.specs.Rules.Calls.{refusal_of, done_of, told_of}
use Rattle.npos_runtime.specs.Rules.Offices.{due_now}
use Rattle.npos_runtime.specs.Step.{before_calls, era_phase, call_outcome, step, after_blocks}
use Rattle.npos_runtime.specs.Histories.Eras.{events_at, over_blocks, chain_at, AreTaken, amount_taken, taken_by, taken_in, due_by, due_in}
use Rattle.npos_runtime.specs.History.{CanTake}

-- ## One report, and one cancel

-- what is due now waits behind the others under the next number, and nothing is taken
pub record IsQueued (chain : Chain) (who : AccountId) (era : ℕ) (validator : AccountId) (fraction : ℕ)
    : Type 0 where
  pub told : told_of chain who (kinds.Offence era validator fraction)
      ≡ lines.Deferred chain.eras.next_slash (due_now chain) ∷ []
  pub queue : (done_of chain who (kinds.Offence era validator fraction)).eras.queue
      ≡ chain.eras.queue ++ record {
        number = chain.eras.next_slash;
        due = due_now chain;
        lines = slash_in chain.eras era validator fraction;
      } ∷ []
  pub book : (done_of chain who (kinds.Offence era validator fraction)).book ≡ chain.book

-- where slashes wait, each report that is accepted queues what is due
abbrev pub QueuesWhatIsDue : Chain → Type 0
QueuesWhatIsDue chain = (who : AccountId) (era : ℕ) (validator : AccountId) (fraction : ℕ)
    → 0 < chain.defer → refusal_of chain who (kinds.Offence era validator fraction) ≡ None
    → IsQueued chain who era validator fraction

-- The slash waits no more: nothing is told or taken, and the fractions that were reported stay.
pub record IsCancelled (chain : Chain) (who : AccountId) (number : ℕ) : Type 0 where
  pub told : told_of chain who (kinds.CancelSlash number) ≡ []
  pub queue : (done_of chain who (kinds.CancelSlash number)).eras.queue ≡ without number chain.eras.queue
  pub kept : (done_of chain who (kinds.CancelSlash number)).eras.kept ≡ chain.eras.kept
  pub book : (done_of chain who (kinds.CancelSlash number)).book ≡ chain.book

abbrev pub CancelsOneSlash : Chain → Type 0
CancelsOneSlash chain = (who : AccountId) (number : ℕ)
    → refusal_of chain who (kinds.CancelSlash number) ≡ None → IsCancelled chain who number

-- ## The begin of an era

-- one slash after the other is told, and takes what is due by it, but no more than is bonded then
abbrev pub AreApplied : List DeferredSlash → Ledger → List Line → Ledger → Type 0
AreApplied [] old told new = (told ≡ []) × (new ≡ old)
AreApplied (slash ∷ more) old told new =
    (between : Ledger) × (taken : List Line) × (rest : List Line) × AreTaken slash.lines old taken between
    × (told ≡ lines.Applied slash.number ∷ (taken ++ rest)) × AreApplied more between rest new

-- where an era begins, the slashes that are due in it are applied by rising number, and no others
abbrev pub AppliesWhatIsDue : Chain → Type 0
AppliesWhatIsDue chain = (era : ℕ) → begun_era chain.params chain.due ≡ Some era
    → (told : List Line) × ((era_phase chain).lines ≡ lines.Era era ∷ told)
    × AreApplied (filter (λ slash. nat_le slash.due era) chain.eras.queue) chain.book told
    (era_phase chain).state.book

-- ## All that is taken for an era

abbrev pub numbers_told : Line → List ℕ
numbers_told (lines.Deferred number due) = number ∷ []
numbers_told other = []

-- the numbers of the slashes that a call tells to wait for what it reports of an era
abbrev pub waiting_for : ℕ → List Event → List Line → List ℕ
waiting_for era (Queued due dues ∷ Reported other validator fraction ∷ more) told =
    if other == era then flat_map numbers_told told else []
waiting_for era other told = []

abbrev pub numbers_at : ℕ → ℕ → Call → Chain → List ℕ
numbers_at era index call chain = waiting_for era (events_at call chain) (call_outcome index call chain).lines

-- those of earlier calls, and of these
abbrev pub numbers_of : ℕ → ℕ → List Call → Chain → List ℕ → List ℕ
numbers_of era index [] chain numbers = numbers
numbers_of era index (call ∷ calls) chain numbers =
    numbers_of era (index + 1) calls (call_outcome index call chain).state
    (numbers_at era index call chain ++ numbers)

-- what lines tell to be taken from an account by the slashes of these numbers: what stands behind
-- `Applied` is taken by the slash of that number
abbrev pub taken_behind : List ℕ → Bool → AccountId → List Line → ℕ
taken_behind numbers counts who [] = 0
taken_behind numbers counts who (lines.Applied number ∷ more) =
    taken_behind numbers (has numbers number) who more
taken_behind numbers counts who (line ∷ more) =
    (if counts then amount_taken who line else 0) + taken_behind numbers counts who more

-- what the begins of eras tell to be taken from an account for what was reported of an era, by the
-- slashes of these numbers and of those that the blocks tell to wait for it
abbrev pub applied_for : ℕ → AccountId → List ℕ → Chain → List Block → ℕ
applied_for era who numbers chain [] = 0
applied_for era who numbers chain (block ∷ more) =
    taken_behind numbers false who (era_phase chain).lines
    + applied_for era who (numbers_of era 0 block.calls (before_calls chain) numbers)
    (step chain block).state more

-- what is due from an account by the slashes of these numbers, as they wait
abbrev pub waiting_due : List ℕ → AccountId → List DeferredSlash → ℕ
waiting_due numbers who slashes =
    sum_by (λ slash. if has numbers slash.number then amount_for who slash.lines else 0) slashes

-- Of what waits for an era and what blocks make due for it, no more is taken than that, at once and
-- by slashes that waited.
abbrev pub TakenInAllLaw : Type 0
TakenInAllLaw = (chain : Chain) (blocks : List Block) (era : ℕ) (who : AccountId) (numbers : List ℕ)
    → CanTake chain blocks → All (λ number. number < chain.eras.next_slash) numbers
    → over_blocks (taken_by era who) chain blocks + applied_for era who numbers chain blocks
    ≤ over_blocks (due_by era who) chain blocks + waiting_due numbers who chain.eras.queue

-- ## All of it

pub record SlashesWait (genesis : Genesis) (blocks : List Block) : Type 0 where
  pub queued : (calls : List Call) → QueuesWhatIsDue (chain_at (genesis_chain genesis) blocks calls)
  pub cancelled : (calls : List Call) → CancelsOneSlash (chain_at (genesis_chain genesis) blocks calls)
  pub applied : AppliesWhatIsDue (after_blocks (genesis_chain genesis) blocks)
  pub taken : (era : ℕ) (who : AccountId)
      → taken_in era who genesis blocks + applied_for era who [] (genesis_chain genesis) blocks
      ≤ due_in era who genesis blocks

abbrev pub QueuedLaw : Type 0
QueuedLaw = (chain : Chain) → QueuesWhatIsDue chain × CancelsOneSlash chain

abbrev pub AppliedLaw : Type 0
AppliedLaw = (chain : Chain) (blocks : List Block) → CanTake chain blocks
    → AppliesWhatIsDue (after_blocks chain blocks)
