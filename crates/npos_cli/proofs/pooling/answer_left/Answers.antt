use Rattle.std.proofs.Common.{true}
use Rattle.run_edges.specs.Intake.{IsSettled}
use Rattle.npos_cli.specs.Pools.{pool_machine}
use Rattle.run_edges.proofs.IntakeLaws.{timely_first, settled_found}
use Rattle.npos_cli.proofs.PoolLaws.{pool_laws, pool_turn_laws}
use Rattle.npos_cli.proofs.pooling.answer_left.Goals as goal

pub returns-clause-due : goal.returns-clause-due
returns-clause-due g c =
    let settled : IsSettled pool_machine (g.S.Source.left c.args.source.now) (g.S.Source.left c.read_out.new.source) true c.tell_input.new.text.items c.in_ok-faulty.faulty =
    c.in_ok-read_out.ensures.settled (g.S.Source.left c.args.source.now) c.tell_input.new.text.items c.in_ok-faulty.faulty c.in_ok-faulty.ensures.settled in
    (settled_found pool_machine pool_laws pool_turn_laws (g.S.Source.left c.args.source.now)
    (g.S.Source.left c.read_out.new.source) c.tell_input.new.text.items c.in_ok-faulty.faulty _ settled
    c.ending_of.ensures).0

pub returns-clause-drained : goal.returns-clause-drained
returns-clause-drained g c =
    let settled : IsSettled pool_machine (g.S.Source.left c.args.source.now) (g.S.Source.left c.read_out.new.source) true c.tell_input.new.text.items c.in_ok-faulty.faulty =
    c.in_ok-read_out.ensures.settled (g.S.Source.left c.args.source.now) c.tell_input.new.text.items c.in_ok-faulty.faulty c.in_ok-faulty.ensures.settled in
    (settled_found pool_machine pool_laws pool_turn_laws (g.S.Source.left c.args.source.now)
    (g.S.Source.left c.read_out.new.source) c.tell_input.new.text.items c.in_ok-faulty.faulty _ settled
    c.ending_of.ensures).1

pub returns-in_err-faulty-clause-asks : goal.returns-in_err-faulty-clause-asks
returns-in_err-faulty-clause-asks g c = c.in_err-faulty.ensures.timely (g.S.Source.asked c.args.source.now) (timely_first (g.S.Source.asked c.args.source.now) _)

pub returns-in_err-read_out-clause-asks : goal.returns-in_err-read_out-clause-asks
returns-in_err-read_out-clause-asks g c =
    c.in_err-read_out.ensures.timely (g.S.Source.asked c.args.source.now)
    (c.in_ok-faulty.ensures.timely (g.S.Source.asked c.args.source.now) (timely_first (g.S.Source.asked c.args.source.now) _))

pub returns-clause-asks : goal.returns-clause-asks
returns-clause-asks g c =
    (c.in_ok-read_out.ensures.timely (g.S.Source.asked c.args.source.now)
    (c.in_ok-faulty.ensures.timely (g.S.Source.asked c.args.source.now) (timely_first (g.S.Source.asked c.args.source.now) _))).in_time
