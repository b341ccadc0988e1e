use Rattle.std.proofs.Common.{rules, arith, ℕ, ◌<◌, ◌≤◌, List, length, get_or, sym, subst}
use Rattle.seq_phragmen.proofs.RaiseLemmas.{voter_in_range, raising_more, all_changed}
use Rattle.seq_phragmen.proofs.picking.raise_loads.Goals as goal

pub bounds-loads-voter : goal.bounds-loads-voter
bounds-loads-voter c =
    let loop = c.loop-voter in
    let h = subst (λ (ns : List ℕ). loop.voter-index < length ns) c.requires.voters c.loop-voter-test.true in
    let inside = voter_in_range c.args.snapshot.now c.args.target c.args.score c.args.loads.now c.args.lasts.now
    c.args.rises.now.items (c.requires.loads_size, c.requires.lasts_size) c.requires.none_falls
    loop.voter-index 0 h loop.loads loop.lasts loop.burdens loop.rises.items loop.invariant in
    subst (λ (ns : List ℕ). get_or ns loop.voter-index 0 < length loop.loads) (sym c.requires.voters) (omega (arith, inside, loop.invariant.loads_are.1, c.requires.loads_size))

pub bounds-lasts-voter : goal.bounds-lasts-voter
bounds-lasts-voter c =
    let loop = c.loop-voter in
    let h = subst (λ (ns : List ℕ). loop.voter-index < length ns) c.requires.voters c.loop-voter-test.true in
    let inside = voter_in_range c.args.snapshot.now c.args.target c.args.score c.args.loads.now c.args.lasts.now
    c.args.rises.now.items (c.requires.loads_size, c.requires.lasts_size) c.requires.none_falls
    loop.voter-index 0 h loop.loads loop.lasts loop.burdens loop.rises.items loop.invariant in
    subst (λ (ns : List ℕ). get_or ns loop.voter-index 0 < length loop.lasts) (sym c.requires.voters) (omega (arith, inside, loop.invariant.lasts_are.1, c.requires.lasts_size))

pub raise_load-requires-clause-voter : goal.raise_load-requires-clause-voter
raise_load-requires-clause-voter c =
    let loop = c.loop-voter in
    let h = subst (λ (ns : List ℕ). loop.voter-index < length ns) c.requires.voters c.loop-voter-test.true in
    let inside = voter_in_range c.args.snapshot.now c.args.target c.args.score c.args.loads.now c.args.lasts.now
    c.args.rises.now.items (c.requires.loads_size, c.requires.lasts_size) c.requires.none_falls
    loop.voter-index 0 h loop.loads loop.lasts loop.burdens loop.rises.items loop.invariant in
    subst (λ (ns : List ℕ). get_or ns loop.voter-index 0 < length c.args.snapshot.now.voters) (sym c.requires.voters) inside

pub loop-voter-preserved : goal.loop-voter-preserved
loop-voter-preserved c =
    let loop = c.loop-voter in
    let h = subst (λ (ns : List ℕ). loop.voter-index < length ns) c.requires.voters c.loop-voter-test.true in
    rw (c.raise_load.ensures.loads, c.in_ok-push.ensures.items, c.requires.voters)
    (raising_more c.args.snapshot.now c.args.target c.args.score c.args.loads.now c.args.lasts.now c.args.rises.now.items (c.requires.loads_size, c.requires.lasts_size) c.requires.none_falls
    loop.voter-index 0 h loop.loads loop.lasts loop.burdens loop.rises.items loop.invariant
    c.raise_load.new.burdens (rw (c.raise_load.ensures.loads, c.requires.voters) at c.raise_load.ensures.burdens) (search rules))

pub returns-clause-loads : goal.returns-clause-loads
returns-clause-loads c =
    let loop = c.loop-voter in
    all_changed c.args.snapshot.now c.args.target c.args.score c.args.loads.now c.args.lasts.now
    c.args.rises.now.items c.args.loads.now c.requires.loads_size c.args.score loop.voter-index loop.loads
    loop.invariant.loads_are
    (subst (λ (ns : List ℕ). length ns ≤ loop.voter-index) c.requires.voters c.loop-voter-test.false)

pub returns-clause-lasts : goal.returns-clause-lasts
returns-clause-lasts c =
    let loop = c.loop-voter in
    all_changed c.args.snapshot.now c.args.target c.args.score c.args.loads.now c.args.lasts.now
    c.args.rises.now.items c.args.lasts.now c.requires.lasts_size c.args.target loop.voter-index loop.lasts
    loop.invariant.lasts_are
    (subst (λ (ns : List ℕ). length ns ≤ loop.voter-index) c.requires.voters c.loop-voter-test.false)
