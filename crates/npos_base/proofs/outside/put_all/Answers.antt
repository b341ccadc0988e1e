-- Each turn appends what the write took, and leaves the count of faults.
use Rattle.std.proofs.Common.{arith, ◌∙◌, length-drop}
use Rattle.std.proofs.lemmas.List.{length-take}
use Rattle.npos_base.proofs.Appended.{appends_more}
use Rattle.npos_base.proofs.outside.put_all.Goals as goal

pub loop-put-preserved : goal.loop-put-preserved
loop-put-preserved g c = record {
  within = omega (arith, simp (length-take, length-drop) at c.in-Ok.ensures.bound);
  appended = appends_more _ _ _ c.args.piece.now c.loop-put.put c.in-Ok.taken c.loop-put.invariant.appended c.in-Ok.ensures.bytes;
  no_fault = c.in-Ok.ensures.cause.ok ∙ c.loop-put.invariant.no_fault;
  in_time = grind (arith, c.in-Ok.ensures.tried, c.loop-put.invariant.in_time, c.loop-put.invariant.well);
  well = grind (arith, c.in-Ok.ensures.tried, c.loop-put.invariant.well);
}
