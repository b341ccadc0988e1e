use Rattle.std.proofs.Common.{rules, ◌≡◌, ◌+◌, ◌≤◌, ◌∙◌, Bool, length, ap, sym, subst, arith, length-append}
use Rattle.std.proofs.lemmas.Result.{err_from_is_err_and}
use Rattle.scale_wire.specs.Reading.{Place}
use Rattle.run_edges.specs.declared.turn.Stop.TheVariants.{More, Last}
use Rattle.run_edges.specs.Intake.{TellsOn, Comes, IsTimely, IsSettled}
use Rattle.npos_cli.specs.Pools.{pool_machine}
use Rattle.npos_cli.specs.Pooling.{pool_spot}
use Rattle.run_edges.proofs.IntakeLaws.{nearer, told_between, comes_told, comes_on, settled_last}
use Rattle.npos_cli.proofs.PoolLaws.{pool_laws, pool_turn_laws}
use Rattle.npos_cli.proofs.pooling.take_all.Goals as goal

pub returns-in_err-take_held-clause-timely : goal.returns-in_err-take_held-clause-timely
returns-in_err-take_held-clause-timely g c =
    rw (err_from_is_err_and c.from_residual.result c.from_residual.ensures.1).1 (λ first so_far. (c.pieces.invariant.timely first so_far).in_time)

pub pieces-smaller : goal.pieces-smaller
pieces-smaller g c =
    let p = pool_spot c.pieces.intake.place c.pieces.asked c.pieces.pool.state in
    let q = pool_spot c.take_held.new.intake.place c.take_held.new.asked c.take_held.new.pool.state in
    let tells : TellsOn pool_machine c.pieces.intake.ended p q c.pieces.text.items c.take_held.new.text.items More = search rules in
    let between = told_between pool_machine pool_laws pool_turn_laws p q c.pieces.text.items c.take_held.new.text.items tells.1 in
    let same : c.take_held.new.intake.place.at + length c.take_held.new.intake.place.rest ≡ c.pieces.intake.place.at + length c.pieces.intake.place.rest =
    omega (arith, between.2, ap length between.1, length-append between.0 c.take_held.new.intake.place.rest) in
    let reads = c.in_ok-read_on-in-More.ensures in
    nearer (g.S.Source.left c.pieces.source) (g.S.Source.left c.read_on.new.source) c.pieces.intake c.take_held.new.intake c.read_on.new.self tells.0 same reads.fits reads.more reads.further

pub pieces-preserved : goal.pieces-preserved
pieces-preserved g c =
    let p = pool_spot c.pieces.intake.place c.pieces.asked c.pieces.pool.state in
    let q = pool_spot c.take_held.new.intake.place c.take_held.new.asked c.take_held.new.pool.state in
    let tells : TellsOn pool_machine c.pieces.intake.ended p q c.pieces.text.items c.take_held.new.text.items More = search rules in
    let same : c.take_held.new.intake.ended ≡ c.pieces.intake.ended = c.in_ok-take_held.ensures.ended in
    let reads = c.in_ok-read_on-in-More.ensures in
    let counted : c.take_held.new.asked ≤ c.take_held.new.intake.place.at = search rules in
    let at : c.read_on.new.self.place.at ≡ c.take_held.new.intake.place.at = ap (λ (place : Place). place.at) reads.more.2 in
    record {
      unspent = search rules;
      counted = omega (arith, counted, at);
      faults = reads.faults ∙ c.pieces.invariant.faults;
      timely = λ first so_far. reads.timely first (subst (λ (ended : Bool). IsTimely first (g.S.Source.asked c.pieces.source) ended) (sym same) (c.pieces.invariant.timely first so_far));
      comes = λ left comes. comes_on pool_machine pool_laws pool_turn_laws left (g.S.Source.left c.pieces.source)
          (g.S.Source.left c.read_on.new.source) c.take_held.new.intake c.read_on.new.self q.state
          c.take_held.new.text.items (same ∙ tells.0)
          (subst (λ (ended : Bool). Comes pool_machine left (g.S.Source.left c.pieces.source) ended q c.take_held.new.text.items) (sym same)
          (comes_told pool_machine pool_laws pool_turn_laws left (g.S.Source.left c.pieces.source)
          c.pieces.intake.ended p q c.pieces.text.items c.take_held.new.text.items
          (c.pieces.invariant.comes left comes) tells.1))
          reads.more;
    }

pub returns-in_err-read_on-in-More-clause-timely : goal.returns-in_err-read_on-in-More-clause-timely
returns-in_err-read_on-in-More-clause-timely g c =
    let same : c.take_held.new.intake.ended ≡ c.pieces.intake.ended = c.in_ok-take_held.ensures.ended in
    rw (err_from_is_err_and c.from_residual-in_err-read_on-in-More.result c.from_residual-in_err-read_on-in-More.ensures.1).1 (λ first so_far. c.in_err-read_on-in-More.ensures.timely first
    (subst (λ (ended : Bool). IsTimely first (g.S.Source.asked c.pieces.source) ended) (sym same) (c.pieces.invariant.timely first so_far)))

pub returns-in-Last-clause-end : goal.returns-in-Last-clause-end
returns-in-Last-clause-end g c =
    let p = pool_spot c.pieces.intake.place c.pieces.asked c.pieces.pool.state in
    let q = pool_spot c.take_held.new.intake.place c.take_held.new.asked c.take_held.new.pool.state in
    let tells : TellsOn pool_machine c.pieces.intake.ended p q c.pieces.text.items c.take_held.new.text.items (Last c.in-Last.faulty) = search rules in
    let same : c.take_held.new.intake.ended ≡ c.pieces.intake.ended = c.in_ok-take_held.ensures.ended in
    λ left comes. subst (λ (ended : Bool). IsSettled pool_machine left (g.S.Source.left c.pieces.source) ended c.take_held.new.text.items c.in-Last.faulty) (sym same)
    (settled_last pool_machine pool_laws pool_turn_laws left (g.S.Source.left c.pieces.source) c.pieces.intake.ended p q c.pieces.text.items c.take_held.new.text.items c.in-Last.faulty
    (c.pieces.invariant.comes left comes) tells)

pub returns-in-Last-clause-timely : goal.returns-in-Last-clause-timely
returns-in-Last-clause-timely g c =
    let same : c.take_held.new.intake.ended ≡ c.pieces.intake.ended = c.in_ok-take_held.ensures.ended in
    λ first so_far. subst (λ (ended : Bool). IsTimely first (g.S.Source.asked c.pieces.source) ended) (sym same) (c.pieces.invariant.timely first so_far)
