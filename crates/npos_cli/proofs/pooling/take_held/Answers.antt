use Rattle.std.proofs.Common.{rules, ◌≡◌, ◌≤◌, arith, length, length-append, ◌∙◌, ap, sym, subst}
use Rattle.scale_wire.specs.Reading.{Place}
use Rattle.run_edges.specs.declared.turn.Stop.TheVariants.{More, Last}
use Rattle.run_edges.specs.Intake.{TellsOn}
use Rattle.npos_cli.specs.Pools.{pool_machine}
use Rattle.npos_cli.specs.Pooling.{pool_spot}
use Rattle.run_edges.proofs.IntakeLaws.{told_between, kept}
use Rattle.npos_cli.proofs.PoolLaws.{pool_laws, pool_turn_laws}
use Rattle.npos_cli.proofs.pooling.take_held.Goals as goal

pub keep-requires : goal.keep-requires
keep-requires c =
    let p = pool_spot c.args.intake.now.place c.args.asked.now c.args.pool.now.state in
    let q = pool_spot c.take_items.new.cursor c.take_items.new.asked c.take_items.new.pool.state in
    let tells : TellsOn pool_machine c.args.intake.now.ended p q c.args.text.now.items c.take_items.new.text.items More = search rules in
    let between = told_between pool_machine pool_laws pool_turn_laws p q c.args.text.now.items c.take_items.new.text.items tells.1 in
    let left : length c.rest-left.result.now ≡ length c.take_items.new.cursor.rest = ap length c.rest-left.ensures in
    omega (arith, ap length between.1, length-append between.0 c.take_items.new.cursor.rest, left)

pub returns-in-More-clause-tells : goal.returns-in-More-clause-tells
returns-in-More-clause-tells c =
    let p = pool_spot c.args.intake.now.place c.args.asked.now c.args.pool.now.state in
    let q = pool_spot c.take_items.new.cursor c.take_items.new.asked c.take_items.new.pool.state in
    let tells : TellsOn pool_machine c.args.intake.now.ended p q c.args.text.now.items c.take_items.new.text.items More = search rules in
    let between = told_between pool_machine pool_laws pool_turn_laws p q c.args.text.now.items c.take_items.new.text.items tells.1 in
    let left : length c.rest-left.result.now ≡ length c.take_items.new.cursor.rest = ap length c.rest-left.ensures in
    let there : c.keep.new.self.place ≡ c.take_items.new.cursor = c.keep.ensures.place
    ∙ kept c.args.intake.now.place c.take_items.new.cursor (length c.rest-left.result.now) between.0 between.1
    between.2 left in
    subst (λ (place : Place). TellsOn pool_machine c.args.intake.now.ended p
    (pool_spot place c.take_items.new.asked c.take_items.new.pool.state) c.args.text.now.items
    c.take_items.new.text.items More) (sym there) tells

pub returns-in-More-clause-counted : goal.returns-in-More-clause-counted
returns-in-More-clause-counted c =
    let p = pool_spot c.args.intake.now.place c.args.asked.now c.args.pool.now.state in
    let q = pool_spot c.take_items.new.cursor c.take_items.new.asked c.take_items.new.pool.state in
    let tells : TellsOn pool_machine c.args.intake.now.ended p q c.args.text.now.items c.take_items.new.text.items More = search rules in
    let between = told_between pool_machine pool_laws pool_turn_laws p q c.args.text.now.items c.take_items.new.text.items tells.1 in
    let left : length c.rest-left.result.now ≡ length c.take_items.new.cursor.rest = ap length c.rest-left.ensures in
    let there : c.keep.new.self.place ≡ c.take_items.new.cursor = c.keep.ensures.place
    ∙ kept c.args.intake.now.place c.take_items.new.cursor (length c.rest-left.result.now) between.0 between.1
    between.2 left in
    let counted : c.take_items.new.asked ≤ c.take_items.new.cursor.at = search rules in
    λ more. omega (arith, counted, ap (λ (place : Place). place.at) there)

pub returns-in-Last-clause-tells : goal.returns-in-Last-clause-tells
returns-in-Last-clause-tells c =
    let p = pool_spot c.cursor-cursor.result c.args.asked.now c.args.pool.now.state in
    let q = pool_spot c.take_items.new.cursor c.take_items.new.asked c.take_items.new.pool.state in
    let tells : TellsOn pool_machine c.ended.result p q c.args.text.now.items c.take_items.new.text.items (Last c.in-Last.faulty) = rw c.in-Last.is at c.in_ok-take_items.ensures.tells in
    rw (c.ended.ensures, c.cursor-cursor.ensures.place) at tells
