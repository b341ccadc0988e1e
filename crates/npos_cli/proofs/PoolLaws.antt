-- The two spellings of a pool's input keep the laws of SCALE forms; and what one item, and a genesis, come to.
use Rattle.std.proofs.Common.{◌≡◌, ◌≢◌, inl, inr, ℕ, ◌+◌, ◌≤◌, Bool, List, ◌∷◌, ◌++◌, length, flat_map, Option, Some, None, Result, Ok, Err, OnOk, refl, sym, ◌∙◌, ap, append_assoc, arith}
use Rattle.scale_wire.specs.Form.{IsWire}
use Rattle.scale_wire.specs.FormLaws.{optional_laws}
use Rattle.scale_wire.specs.PartLaws.{tag_laws}
use Rattle.scale_wire.specs.Reading.{Place, IsRead}
use Rattle.stake_pools.specs.declared.input.PoolGenesis.{PoolGenesis}
use Rattle.stake_pools.specs.declared.input.PoolItem.{PoolItem}
use Rattle.stake_pools.specs.declared.fault.PoolFault.{PoolFault}
use Rattle.stake_pools.specs.declared.fault.PoolFault.TheVariants.{NoMemory}
use Rattle.stake_pools.specs.declared.line.PoolLine.{PoolLine}
use Rattle.stake_pools.specs.declared.chain.PoolChain.{PoolChain}
use Rattle.stake_pools.specs.Input.{item_form}
use Rattle.stake_pools.specs.InputLaws.{pool_genesis_laws, item_laws}
use Rattle.stake_pools.specs.Genesis.{pool_fault, pool_chain, fault_numbers, IsFault as IsPoolFault}
use Rattle.stake_pools.specs.Life.{Life, AppliesWell}
use Rattle.run_edges.specs.declared.turn.Turn.TheVariants.{Taken}
use Rattle.npos_cli.specs.Texts.{genesis_line}
use Rattle.run_edges.specs.Replay.{turn, behind}
use Rattle.npos_cli.specs.Pools.{pool_line_text, pool_started, pool_machine}
use Rattle.run_edges.specs.Turning.{TakesTurn}
use Rattle.npos_cli.specs.Pooling.{pool_spot}
use Rattle.run_edges.proofs.ReplayLaws.{same_spot}

pub pool_laws : IsWire pool_machine.genesis
pool_laws = pool_genesis_laws

pub pool_turn_laws : IsWire (turn pool_machine)
pool_turn_laws = optional_laws item_form item_laws (tag_laws 2)

-- ## One item

pub taken_item : (old here : Place) (asked : ℕ) (ended : Bool) (life after : Life) (before told : List ℕ) (item : PoolItem) (lines : List PoolLine) → IsRead (turn pool_machine) old (Some item) here
    → AppliesWell life after item.who item.kind lines → told ≡ before ++ flat_map (pool_line_text asked) lines
    → TakesTurn pool_machine ended (pool_spot old asked life.state) (pool_spot here (asked + 1) after.state) before told Taken
taken_item old here asked ended life after before told item lines is applies told_is =
    let p = pool_spot old asked life.state in
    let q = pool_spot here (asked + 1) after.state in
    let state : q.state ≡ pool_machine.after p.state item = ap (λ (l : Life). record { asked = asked + 1; pool = l.state }) applies.new_is in (
      pool_machine.lines p.state item,
      told_is ∙ ap (λ all. before ++ flat_map (pool_line_text asked) all) applies.lines_are,
      (item, record { in_range = is.in_range; numbered = refl; whole = is.whole }, same_spot q (behind pool_machine p item here.rest) is.at_is state refl, refl),
    )

more_behind : (at now : ℕ) (xs : List ℕ) → now ≡ at + length (1 ∷ xs) → at + 1 ≤ now
more_behind at now xs e = omega (arith, e)

-- an item has at least its tag
pub item_room : (old here : Place) (item : PoolItem) → IsRead (turn pool_machine) old (Some item) here → old.at + 1 ≤ here.at
item_room old here item is = more_behind old.at here.at (item_form.spelling item) is.at_is

-- one line behind another
pub then_told : {T E : Type 0} (result : Result T E) (old mid new first then : List ℕ) → mid ≡ old ++ first → OnOk result (new ≡ mid ++ then)
    → OnOk result (new ≡ old ++ (first ++ then))
then_told (Ok done) old mid new first then is told = told ∙ (ap (λ front. front ++ then) is ∙ append_assoc old first then)
then_told (Err e) old mid new first then is told = tt

-- ## The genesis

is_due : (due : Option PoolFault) (fault : PoolFault) → IsPoolFault due fault → fault ≢ NoMemory → due ≡ Some fault
is_due due fault (inl memory) not_memory = absurd (not_memory memory)
is_due due fault (inr e) not_memory = e

pub pool_faulty : (genesis : PoolGenesis) (fault : PoolFault) → IsPoolFault (pool_fault genesis) fault → fault ≢ NoMemory → pool_machine.start genesis ≡ Err (genesis_line (fault_numbers fault))
pool_faulty genesis fault due not_memory = ap (λ (o : Option PoolFault). pool_started o genesis) (is_due (pool_fault genesis) fault due not_memory)

pub pool_starts : (genesis : PoolGenesis) (chain : PoolChain) → pool_fault genesis ≡ None → chain ≡ pool_chain genesis → pool_machine.start genesis ≡ Ok (record { asked = 0; pool = chain })
pool_starts genesis chain sound chain_is =
    ap (λ (o : Option PoolFault). pool_started o genesis) sound ∙ ap (λ (c : PoolChain). Ok (record { asked = 0; pool = c })) (sym chain_is)
