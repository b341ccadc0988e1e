-- One item after the other: what each of them makes of a pool, and what it tells.
use Rattle.std.specs.Prelude.{◌≡◌, List, [], ◌∷◌, ◌++◌, Option, Some, None, option_map, option_to_list, Result, IfOk}
use Rattle.npos_base.specs.declared.account.AccountId.{AccountId}
use Rattle.npos_base.specs.Refusal.{MeetsWhileRoom}
use Rattle.stake_pools.specs.declared.input.PoolItem.{PoolItem}
use Rattle.stake_pools.specs.declared.input.PoolKind.{PoolKind}
use Rattle.stake_pools.specs.declared.line.PoolLine.{PoolLine}
use Rattle.stake_pools.specs.declared.line.PoolLines.{PoolLines}
use Rattle.stake_pools.specs.declared.line.PoolLine.TheVariants as lines
use Rattle.stake_pools.specs.declared.refusal.PoolRefusal.{PoolRefusal}
use Rattle.stake_pools.specs.declared.stop.Stop.{Stop}
use Rattle.stake_pools.specs.declared.stop.Stop.TheVariants as stops
use Rattle.stake_pools.specs.declared.chain.PoolChain.{PoolChain}
use Rattle.stake_pools.specs.Refusals.{refusal_number}
use Rattle.stake_pools.specs.Rules.{ItemRule, rule_of}

-- the pool that an item leaves, and the lines that it tells
pub record Outcome : Type 0 where
  pub state : PoolChain
  pub lines : List PoolLine

abbrev pub outcome_by : Option PoolRefusal → ItemRule → PoolChain → Outcome
outcome_by None rule chain = record { state = rule.done; lines = lines.Accepted ∷ rule.told }
outcome_by (Some refusal) rule chain =
    record { state = chain; lines = lines.Refused (refusal_number refusal) ∷ [] }

-- the lines in order
abbrev pub in_order : PoolLines → List PoolLine
in_order told = told.first ∷ option_to_list told.more

-- one item by its rule
abbrev pub item_outcome : PoolChain → AccountId → PoolKind → Outcome
item_outcome chain who kind = outcome_by (rule_of chain who kind).refusal (rule_of chain who kind) chain

-- the pool after each item in turn, and what the items tell
abbrev pub after_items : PoolChain → List PoolItem → PoolChain
after_items chain [] = chain
after_items chain (item ∷ more) = after_items (item_outcome chain item.who item.kind).state more

abbrev pub told_by : PoolChain → List PoolItem → List PoolLine
told_by chain [] = []
told_by chain (item ∷ more) = (item_outcome chain item.who item.kind).lines
    ++ told_by (item_outcome chain item.who item.kind).state more

-- What was made of a pool is what the rule says. Nothing is said after want of memory.
abbrev pub Follows : {T : Type 0} → ItemRule → PoolChain → PoolChain → Result T Stop → Type 0
Follows rule old new result =
    MeetsWhileRoom stops.NoMemory (option_map stops.Refused rule.refusal) rule.done old new result

-- the line that is told besides that the item was accepted, if there is one
abbrev pub Tells : ItemRule → Result (Option PoolLine) Stop → Type 0
Tells rule result = IfOk result (λ line. option_to_list line ≡ rule.told)
