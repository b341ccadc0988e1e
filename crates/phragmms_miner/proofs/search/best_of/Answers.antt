use Rattle.std.proofs.Common.{rules, arith, ◌≡◌, ◌++◌, ◌≤◌, nat_lt, length, take, drop, get_or, refl, ◌∙◌}
use Rattle.std.proofs.lemmas.List.{take_all, take-append-le, length-take-le, length-append, length-drop}
use Rattle.election_snapshot.specs.Snapshot.{total_stake}
use Rattle.weight_book.specs.Passing.{prescore}
use Rattle.phragmms_miner.proofs.ScoreLemmas.{prescore_falls}
use Rattle.phragmms_miner.proofs.NarrowLemmas.{everywhere, narrow_start, table_found, table_none, least_first, rising_filter}
use Rattle.phragmms_miner.proofs.search.best_of.Goals as goal

pub loop-low-init : goal.loop-low-init
loop-low-init c =
    let outside = c.args.outside.now in
    let targets = length c.args.snapshot.now.targets in
    let first = least_first targets outside c.requires.rising c.requires.some in
    let all = take_all (length outside) outside (omega arith) in
    let start = narrow_start outside (λ price target. prescore price c.args.snapshot.now c.args.edges.now target) (total_stake c.args.snapshot.now)
    (prescore_falls c.args.snapshot.now c.args.edges.now) (get_or outside 0 0) first.0 first.1 in
    rw (all, c.total-top.ensures.total) (start, omega arith, omega arith, refl, c.requires.rising, c.requires.rates, c.requires.stakes, c.requires.targets)

pub loop-low-preserved-in-Some : goal.loop-low-preserved-in-Some
loop-low-preserved-in-Some c =
    let (narrow, most, count, long, up, rates, stakes, targets) = c.loop-low.invariant in
    let (there, reaches, first) = c.in-Some.ensures.found in
    let found = table_found c.args.outside.now (λ price target. prescore price c.args.snapshot.now c.args.edges.now target) (total_stake c.args.snapshot.now)
    (prescore_falls c.args.snapshot.now c.args.edges.now) c.loop-low.low c.loop-low.top c.loop-low.pick
    (take c.loop-low.count c.loop-low.outside) narrow c.next-test.result c.next-test.ensures.above c.next-test.ensures.within most
    c.test_price.new.prescores c.test_price.ensures c.in-Some.target there reaches first (get_or c.test_price.new.prescores c.highest.result 0)
    (everywhere (take c.loop-low.count c.loop-low.outside) c.test_price.new.prescores (get_or c.test_price.new.prescores c.highest.result 0) c.highest.ensures.most) in
    let new = c.keep_above-count.new.alive in
    let rest = drop c.loop-low.count c.loop-low.outside in
    let taken = length-take-le c.loop-low.count c.loop-low.outside count in
    let size : length new ≡ c.loop-low.count = c.keep_above-count.auto.alive ∙ taken in
    let fewer : c.keep_above-count.result ≤ c.loop-low.count = omega (arith, c.keep_above-count.ensures.count, taken) in
    let cut = take-append-le c.keep_above-count.result new rest (omega (arith, fewer, size)) in
    let whole : length (new ++ rest) ≡ length c.args.outside.now = omega (arith, length-append new rest, length-drop c.loop-low.count c.loop-low.outside, size, count, long) in
    rw (cut, c.keep_above-count.ensures.kept) (
      rw (c.min-top.ensures, c.from-likeliest.ensures) found,
      omega (arith, most, c.min-top.ensures),
      omega (arith, length-append new rest, fewer, size),
      whole,
      rising_filter (length c.args.snapshot.now.targets) (λ target. nat_lt c.next-test.result (get_or c.test_price.new.prescores target 0))
          (take c.loop-low.count c.loop-low.outside) up,
      search rules,
      search rules,
      search rules,
    )

pub loop-low-preserved : goal.loop-low-preserved
loop-low-preserved c =
    let (narrow, most, count, long, up, rates, stakes, targets) = c.loop-low.invariant in
    let none = table_none c.args.outside.now (λ price target. prescore price c.args.snapshot.now c.args.edges.now target) (total_stake c.args.snapshot.now)
    (prescore_falls c.args.snapshot.now c.args.edges.now) c.loop-low.low c.loop-low.top c.loop-low.pick
    (take c.loop-low.count c.loop-low.outside) narrow c.next-test.result c.next-test.ensures.above c.next-test.ensures.within most
    c.test_price.new.prescores c.test_price.ensures c.in-None.ensures.none in
    (none, omega (arith, c.next-test.ensures.within, most), count, long, up, search rules, search rules, search rules)
