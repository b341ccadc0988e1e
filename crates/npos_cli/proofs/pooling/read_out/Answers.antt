use Rattle.std.proofs.Common.{rules, ◌≡◌, ◌∙◌, Bool, false, sym, subst}
use Rattle.std.proofs.lemmas.Result.{err_from_is_err_and}
use Rattle.run_edges.specs.Intake.{IsTimely, IsSettled}
use Rattle.npos_cli.specs.Pools.{pool_machine}
use Rattle.run_edges.proofs.IntakeLaws.{settled_on}
use Rattle.npos_cli.proofs.PoolLaws.{pool_laws, pool_turn_laws}
use Rattle.npos_cli.proofs.pooling.read_out.Goals as goal

pub pieces-preserved : goal.pieces-preserved
pieces-preserved g c =
    let unended : c.keep.new.self.ended ≡ false = search rules in
    let reads = c.in_ok-read_on.ensures in
    record {
      faults = reads.faults ∙ c.pieces.invariant.faults;
      timely = λ first so_far. reads.timely first (subst
          (λ (ended : Bool). IsTimely first (g.S.Source.asked c.pieces.source) ended) (sym c.keep.ensures.ended)
          (c.pieces.invariant.timely first so_far));
      settled = λ left text faulty settled. settled_on pool_machine pool_laws pool_turn_laws left
          (g.S.Source.left c.pieces.source) (g.S.Source.left c.read_on.new.source) c.keep.new.self c.read_on.new.self
          text faulty unended
          (subst (λ (ended : Bool). IsSettled pool_machine left (g.S.Source.left c.pieces.source) ended text faulty)
          (sym c.keep.ensures.ended) (c.pieces.invariant.settled left text faulty settled)) reads.more;
    }

pub returns-in_err-read_on-clause-timely : goal.returns-in_err-read_on-clause-timely
returns-in_err-read_on-clause-timely g c =
    rw (err_from_is_err_and c.from_residual.result c.from_residual.ensures.1).1 (λ first so_far. c.in_err-read_on.ensures.timely first
    (subst (λ (ended : Bool). IsTimely first (g.S.Source.asked c.pieces.source) ended) (sym c.keep.ensures.ended) (c.pieces.invariant.timely first so_far)))
