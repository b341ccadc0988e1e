use Rattle.std.proofs.Common.{rules, ◌≡◌, ◌++◌, ◌∙◌, Ok, Err, ap}
use Rattle.std.proofs.lemmas.Result.{err_from_is_err_and}
use Rattle.stake_pools.specs.Genesis.{fault_numbers}
use Rattle.stake_pools.specs.Input.{pool_genesis_form}
use Rattle.stake_pools.specs.Life.{Life}
use Rattle.bundle_reports.specs.Texts.{fault_line}
use Rattle.npos_cli.specs.Texts.{genesis_line}
use Rattle.run_edges.specs.Intake.{Opens, GoesToEnd, IsSettled}
use Rattle.npos_cli.specs.Pools.{pool_machine}
use Rattle.npos_cli.specs.Pooling.{pool_spot}
use Rattle.run_edges.proofs.IntakeLaws.{settled_refused, settled_faulty, comes_first, timely_then, ok_then}
use Rattle.npos_cli.proofs.PoolLaws.{pool_laws, pool_turn_laws, pool_faulty, pool_starts}
use Rattle.npos_cli.proofs.pooling.tell_input.Goals as goal

pub returns-in_err-tell_fault-in-Err-clause-timely : goal.returns-in_err-tell_fault-in-Err-clause-timely
returns-in_err-tell_fault-in-Err-clause-timely g c =
    rw (err_from_is_err_and c.from_residual-in_err-tell_fault-in-Err.result
    c.from_residual-in_err-tell_fault-in-Err.ensures.1).1
    (λ first so_far. (c.in_ok-genesis.ensures.timely first so_far).in_time)

-- the genesis is refused
pub returns-in-Err-clause-settled : goal.returns-in-Err-clause-settled
returns-in-Err-clause-settled g c =
    let opens : Opens pool_genesis_form (g.S.Source.left c.args.source.now)
    (g.S.Source.left c.take_genesis.new.source) c.take_genesis.new.intake (Err c.in-Err.fault) =
    rw c.in-Err.is at c.in_ok-genesis.ensures.opens in
    let told : c.tell_fault.new.text.items ≡ c.args.text.now.items ++ fault_line c.in-Err.fault.at c.in-Err.fault.why = search rules in
    let line : c.tell_fault.new.text.items ≡ fault_line c.in-Err.fault.at c.in-Err.fault.why = told ∙ ap (λ front. front ++ fault_line c.in-Err.fault.at c.in-Err.fault.why) c.requires.empty in
    settled_refused pool_machine pool_laws pool_turn_laws (g.S.Source.left c.args.source.now)
    (g.S.Source.left c.take_genesis.new.source) opens.0 c.tell_fault.new.text.items
    c.take_genesis.new.intake.ended c.in-Err.fault
    opens.1 opens.2 opens.3 opens.4 line

pub returns-in_err-tell_pool_fault-in-Err-start-clause-timely : goal.returns-in_err-tell_pool_fault-in-Err-start-clause-timely
returns-in_err-tell_pool_fault-in-Err-start-clause-timely g c =
    rw (err_from_is_err_and c.from_residual-in_err-tell_pool_fault-in-Err-start.result
    c.from_residual-in_err-tell_pool_fault-in-Err-start.ensures.1).1
    (λ first so_far. (c.in_ok-genesis.ensures.timely first so_far).in_time)

-- the genesis has a fault
pub returns-in-Err-start-clause-settled : goal.returns-in-Err-start-clause-settled
returns-in-Err-start-clause-settled g c =
    let opens : Opens pool_genesis_form (g.S.Source.left c.args.source.now)
    (g.S.Source.left c.take_genesis.new.source) c.take_genesis.new.intake (Ok c.in-Ok.genesis) =
    rw c.in-Ok.is at c.in_ok-genesis.ensures.opens in
    let line : c.tell_pool_fault.new.text.items ≡ genesis_line (fault_numbers c.in-Err-start.fault) =
    c.in_ok-tell_pool_fault-in-Err-start.ensures.line ∙ ap (λ front. front ++ genesis_line (fault_numbers c.in-Err-start.fault)) c.requires.empty in
    settled_faulty pool_machine pool_laws pool_turn_laws (g.S.Source.left c.args.source.now) (g.S.Source.left c.take_genesis.new.source) opens.0 c.tell_pool_fault.new.text.items
    (genesis_line (fault_numbers c.in-Err-start.fault)) c.take_genesis.new.intake.ended c.take_genesis.new.intake.place c.in-Ok.genesis opens.1 opens.2
    (pool_faulty c.in-Ok.genesis c.in-Err-start.fault c.in-Err-start.ensures.refused c.in_ok-tell_pool_fault-in-Err-start.ensures.memory) line

-- the genesis starts the pool
pub returns-clause-settled : goal.returns-clause-settled
returns-clause-settled g c =
    let opens : Opens pool_genesis_form (g.S.Source.left c.args.source.now)
    (g.S.Source.left c.take_genesis.new.source) c.take_genesis.new.intake (Ok c.in-Ok.genesis) =
    rw c.in-Ok.is at c.in_ok-genesis.ensures.opens in
    let state = c.in-Ok-start.pool.state in
    let comes = comes_first pool_machine pool_laws pool_turn_laws (g.S.Source.left c.args.source.now)
    (g.S.Source.left c.take_genesis.new.source) opens.0 c.args.text.now.items c.take_genesis.new.intake.ended
    c.take_genesis.new.intake.place c.in-Ok.genesis (record { asked = 0; pool = state }) opens.1 opens.2
    (pool_starts c.in-Ok.genesis state c.in-Ok-start.ensures.ok.0 (ap (λ (life : Life). life.state) c.in-Ok-start.ensures.ok.1)) c.requires.empty in
    ok_then c.take_all.result
    (λ faulty. GoesToEnd pool_machine (g.S.Source.left c.take_genesis.new.source) (g.S.Source.left c.take_all.new.source) c.take_genesis.new.intake.ended c.take_all.new.intake.ended
    (pool_spot c.take_genesis.new.intake.place 0 state) c.args.text.now.items c.take_all.new.text.items faulty)
    (λ faulty. IsSettled pool_machine (g.S.Source.left c.args.source.now) (g.S.Source.left c.take_all.new.source) c.take_all.new.intake.ended c.take_all.new.text.items faulty)
    (λ faulty goes. goes (g.S.Source.left c.args.source.now) comes) c.take_all.ensures.end

pub returns-clause-timely : goal.returns-clause-timely
returns-clause-timely g c =
    timely_then (g.S.Source.asked c.args.source.now) (g.S.Source.asked c.take_genesis.new.source)
    (g.S.Source.asked c.take_all.new.source) c.args.intake.now.ended c.take_genesis.new.intake.ended
    c.take_all.new.intake.ended
    c.take_all.result c.in_ok-genesis.ensures.timely c.take_all.ensures.timely
