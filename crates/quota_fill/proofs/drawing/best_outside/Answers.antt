use Rattle.std.proofs.Common.{rules, ◌≡◌, ◌+◌, true, false, nat_lt, Some, None, ◌<◌, length, get_or, inl, inr, refl, sym, subst, ap}
use Rattle.seat_race.specs.Picks.{more, first_best}
use Rattle.seat_race.specs.Tables.{says}
use Rattle.seat_race.proofs.TableLemmas.{IsBestSoFar, best_next, best_stays}
use Rattle.quota_fill.proofs.drawing.best_outside.Goals.{then-most-backings+then-not-is_picked-target, else-most-backings}
use Rattle.quota_fill.proofs.drawing.best_outside.Goals.{else-most-backings-via-then-most-backings+else-not-is_picked-target, else-most-backings-via-else-most-backings}
use Rattle.quota_fill.proofs.drawing.best_outside.Goals as goal

pub loop-target-init : goal.loop-target-init
loop-target-init c =
    let value = says c.args.backings.now in
    let marks = c.args.is_picked.now in
    let first = c.in-Some.first in
    best_next more value marks first None 0 c.in-Some.ensures.in_range
    (sym (ap (first_best more value) c.in-Some.ensures.lowest), tt) c.in-Some.ensures.outside refl

pub loop-target-preserved : goal.loop-target-preserved
loop-target-preserved c =
    let value = says c.args.backings.now in
    let marks = c.args.is_picked.now in
    let loop = c.loop-target in
    let inside : c.loop-target.target < length c.args.is_picked.now = search rules in
    elim c.if-most-backings.branch [
      | then-most-backings+then-not-is_picked-target w ↦
          let unmarked : get_or c.args.is_picked.now c.loop-target.target false ≡ false = search rules in
          let ahead : nat_lt c.loop-target.most (says c.args.backings.now c.loop-target.target) ≡ true = search rules in
          let next = best_next more value marks loop.target (Some loop.best) loop.most inside loop.invariant unmarked ahead in
          subst (λ n. IsBestSoFar more value marks (loop.target + 1) (Some n) c.if-most-backings.most) (sym w.best-is)
          (subst (λ n. IsBestSoFar more value marks (loop.target + 1) (Some loop.target) n) (sym w.most-is) next)
      | else-most-backings w ↦
          let stays : IsBestSoFar more value marks (loop.target + 1) (Some loop.best) loop.most = elim w.else-most-backings.branch [
            | else-most-backings-via-then-most-backings+else-not-is_picked-target v ↦
                let marked : get_or c.args.is_picked.now c.loop-target.target false ≡ true = search rules in
                best_stays more value marks loop.target (Some loop.best) loop.most loop.invariant (inr marked)
            | else-most-backings-via-else-most-backings v ↦
                let behind : nat_lt c.loop-target.most (says c.args.backings.now c.loop-target.target) ≡ false = search rules in
                best_stays more value marks loop.target (Some loop.best) loop.most loop.invariant (inl behind)
          ] in
          subst (λ n. IsBestSoFar more value marks (loop.target + 1) (Some n) c.if-most-backings.most) (sym w.best-is)
          (subst (λ n. IsBestSoFar more value marks (loop.target + 1) (Some loop.best) n) (sym w.most-is) stays)
    ]
