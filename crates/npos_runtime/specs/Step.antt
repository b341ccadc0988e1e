-- The step of a block: the line of the block, the era that may begin, the round that may, the
-- decision that may be due, and then the calls in order.
use Rattle.std.specs.Prelude.{ℕ, ◌+◌, List, [], ◌∷◌, ◌++◌, length, Option, Some, None, option_map, option_to_list}
use Rattle.block_wire.specs.declared.call.Call.{Call}
use Rattle.block_wire.specs.declared.block.Block.{Block}
use Rattle.era_book.specs.Eras.{Eras, started}
use Rattle.npos_runtime.specs.declared.chain.Chain.{Chain}
use Rattle.block_receipts.specs.declared.line.Line.{Line}
use Rattle.block_receipts.specs.declared.line.Line.TheVariants as lines
use Rattle.block_receipts.specs.declared.refusal.Refusal.{Refusal}
use Rattle.chain_params.specs.Rules.{begun_era}
use Rattle.block_receipts.specs.Refusals.{code_of}
use Rattle.npos_runtime.specs.Rules.Outcome.{Election, Outcome, telling, quiet, after}
use Rattle.npos_runtime.specs.Rules.Committee.{Committee}
use Rattle.npos_runtime.specs.Rules.Exposed.{exposed}
use Rattle.npos_runtime.specs.Rules.Rounds.{round_phase}
use Rattle.npos_runtime.specs.Rules.Deciding.{decision_phase}
use Rattle.npos_runtime.specs.Rules.CallRule.{CallRule}
use Rattle.npos_runtime.specs.Rules.Calls.{rule_for}
use Rattle.npos_runtime.specs.Rules.Offices.{applied}

abbrev pub opened : ℕ → Chain → Outcome
opened number chain = telling (lines.Block number ∷ []) chain

-- the exposures of who waited are those of the era that begins
abbrev pub eras_after : Eras → Option Committee → Option ℕ → Eras
eras_after eras waiting None = eras
eras_after eras waiting (Some era) = started (exposed waiting) eras

-- nobody waits from an era's start on
abbrev pub waiting_after : Option Committee → Option ℕ → Option Committee
waiting_after waiting None = waiting
waiting_after waiting (Some era) = None

-- once the era has begun, each slash that is due leaves the queue and is applied, by rising number
abbrev pub applied_in : Option ℕ → Chain → Outcome
applied_in None chain = quiet chain
applied_in (Some era) chain = applied (length chain.eras.queue) chain

abbrev pub applied_now : Chain → Outcome
applied_now chain =
    applied_in (begun_era chain.params chain.due) (record chain {
      waiting = waiting_after chain.waiting (begun_era chain.params chain.due);
      eras = eras_after chain.eras chain.waiting (begun_era chain.params chain.due);
    })

-- Books, roles and bags change by the slashes that are applied, which wait no more.
abbrev pub era_phase : Chain → Outcome
era_phase chain =
    let left : Outcome = applied_now chain in
    telling (option_to_list (option_map lines.Era (begun_era chain.params chain.due)) ++ left.lines)
    (record chain {
      book = left.state.book;
      roles = left.state.roles;
      bags = left.state.bags;
      waiting = waiting_after chain.waiting (begun_era chain.params chain.due);
      eras = record (eras_after chain.eras chain.waiting (begun_era chain.params chain.due)) {
        queue = left.state.eras.queue;
      };
    })

-- one call by its rule, at its place in the block
abbrev pub call_after : Option Refusal → ℕ → CallRule → Chain → Outcome
call_after None index rule chain = telling (lines.CallOk index ∷ rule.told) rule.done
call_after (Some refusal) index rule chain =
    telling (lines.CallRefused index (code_of refusal) ∷ []) chain

abbrev pub call_outcome : ℕ → Call → Chain → Outcome
call_outcome index call chain =
    call_after (rule_for chain call).refusal index (rule_for chain call) chain

abbrev pub calls_outcome : ℕ → List Call → Chain → Outcome
calls_outcome index [] chain = quiet chain
calls_outcome index (call ∷ calls) chain = after (call_outcome index call chain)
    (calls_outcome (index + 1) calls)

-- the next block is due
abbrev pub closed : Chain → Outcome
closed chain = quiet (record chain { due = chain.due + 1 })

-- one part after the other
abbrev pub in_turn : List (Chain → Outcome) → Chain → Outcome
in_turn [] chain = quiet chain
in_turn (part ∷ more) chain = after (part chain) (in_turn more)

-- what a block does before its calls, in order
abbrev pub phases : List (Chain → Outcome)
phases = era_phase ∷ round_phase ∷ decision_phase ∷ []

-- the chain as it is when the calls of its block begin
abbrev pub before_calls : Chain → Chain
before_calls chain = (in_turn phases chain).state

abbrev pub step : Chain → Block → Outcome
step chain block =
    in_turn (opened block.number ∷ in_turn phases ∷ calls_outcome 0 block.calls ∷ closed ∷ []) chain

-- the chain after each block in turn
abbrev pub after_blocks : Chain → List Block → Chain
after_blocks chain [] = chain
after_blocks chain (block ∷ more) = after_blocks (step chain block).state more

-- what the blocks tell, and the elections that they seat
abbrev pub told_by : Chain → List Block → List Line
told_by chain [] = []
told_by chain (block ∷ more) =
    (step chain block).lines ++ told_by (step chain block).state more

abbrev pub seated_by : Chain → List Block → List Election
seated_by chain [] = []
seated_by chain (block ∷ more) =
    (step chain block).seated ++ seated_by (step chain block).state more
