use Rattle.std.proofs.Common.{rules, ◌<◌, length, get_or, refl}
use Rattle.phragmms_miner.proofs.NarrowLemmas.{first_found, none_found}
use Rattle.phragmms_miner.proofs.search.lowest_reaching.Goals as goal

pub returns-then-prescores-from-clause-found : goal.returns-then-prescores-from-clause-found
returns-then-prescores-from-clause-found c =
    let alive = c.args.alive.now in
    let i = c.loop-target.target-index in
    let h : i < length alive = search rules in
    let first = first_found (length c.args.prescores.now) alive c.args.prescores.now c.args.test i c.requires h c.loop-target.invariant (get_or alive i 0) refl in
    (first.0, rw c.from.ensures at c.if-prescores-from.true, first.1)

pub returns-clause-none : goal.returns-clause-none
returns-clause-none c = none_found c.args.alive.now c.args.prescores.now c.args.test c.loop-target.target-index (search rules) c.loop-target.invariant
