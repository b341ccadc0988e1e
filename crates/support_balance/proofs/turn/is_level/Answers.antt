use Rattle.std.proofs.Common.{rules, arith, ◌≡◌, ◌+◌, ◌<◌, ◌≤◌, length, get_or}
use Rattle.std.proofs.lemmas.Bool.{eqb-true}
use Rattle.std.proofs.lemmas.List.{take_all}
use Rattle.std.proofs.lemmas.List.Sums.{sum_by_more}
use Rattle.npos_base.specs.declared.figures.Edge.{Edge}
use Rattle.support_balance.specs.Rows.{at}
use Rattle.support_balance.proofs.Edges.{no_edge}
use Rattle.support_balance.proofs.ScanLemmas.{scanned_more, level_found}
use Rattle.support_balance.proofs.turn.is_level.Goals.{then-edge-gt0, else-edge-gt0}
use Rattle.support_balance.proofs.turn.is_level.Goals as goal

pub loop-edge-preserved : goal.loop-edge-preserved
loop-edge-preserved c =
    let row = c.args.row.now in
    let i = c.loop-edge.edge-index in
    let edge = get_or row i no_edge in
    let h : i < length row = search rules in
    let support_is : c.in-Ok.support ≡ at c.args.supports.now edge.target = rw c.from.ensures at c.in-Ok.ensures.1 in
    let backed : 0 < edge.amount → c.if-edge-gt0.backed ≡ c.in-Ok.support = elim c.if-edge-gt0.branch [
      | then-edge-gt0 w ↦ λ _. w.backed-is
      | else-edge-gt0 w ↦ λ p. absurd (omega (arith, p, w.if-edge-gt0.false))
    ] in
    let whole = sum_by_more (λ (e : Edge). e.amount) row i no_edge h in (
      omega (arith, whole, c.loop-edge.invariant.0, c.if-edge-unspent.false),
      scanned_more _ _ _ h _ _ _ _ c.loop-edge.invariant.1 (λ p. omega (arith, backed p, support_is, c.if-backed-least.false))
          (omega (arith, c.min-least.ensures)) (omega (arith, c.min-least.ensures, support_is))
          (omega (arith, c.max-top.ensures)) (λ p. omega (arith, backed p, support_is, c.max-top.ensures)),
    )

pub returns-else-top-least : goal.returns-else-top-least
returns-else-top-least c = λ near.
    let step : c.loop-edge.top ≤ c.loop-edge.least + 1 = omega (arith, eqb-true _ _ near) in
    search (rules, level_found, take_all)
