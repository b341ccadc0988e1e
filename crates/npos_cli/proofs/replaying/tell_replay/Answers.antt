use Rattle.std.proofs.Common.{rules, ◌≡◌, ◌++◌, true, Ok, Err, sym, ap, subst, ◌∙◌, arith}
use Rattle.std.proofs.lemmas.Result.{err_from_is_err_and}
use Rattle.npos_runtime.specs.Life.{Life}
use Rattle.npos_runtime.specs.Kept.Savable.{IsSavable}
use Rattle.chain_params.specs.Faults.{fault_numbers}
use Rattle.bundle_reports.specs.Texts.{fault_line}
use Rattle.npos_cli.specs.Texts.{genesis_line}
use Rattle.run_edges.specs.Turning.{spot}
use Rattle.npos_cli.specs.Ahead.{Begins}
use Rattle.npos_cli.proofs.NearLaws.{begun_near}
use Rattle.npos_cli.proofs.ChainLaws.{few_endowments, few_thresholds}
use Rattle.npos_cli.proofs.StartLaws.{refused_replay, faulty_replay, genesis_starts}
use Rattle.npos_cli.proofs.CourseLaws.{begins_starved, begins_cut, begun_starved, finished_first, course_starts, awaits_wary, wary_first}
use Rattle.npos_cli.proofs.replaying.tell_replay.Goals as goal

pub returns-in_err-piece-clause-runs : goal.returns-in_err-piece-clause-runs
returns-in_err-piece-clause-runs g c =
    let p = err_from_is_err_and c.from_residual.result c.from_residual.ensures.1 in
    rw (p.1, p.2) (begins_starved c.args.output (g.S.Source.left c.args.source.now) (g.K.Sink.told c.args.sink.now))

pub returns-in_err-genesis-clause-runs : goal.returns-in_err-genesis-clause-runs
returns-in_err-genesis-clause-runs g c =
    let p = err_from_is_err_and c.from_residual-in_err-genesis.result c.from_residual-in_err-genesis.ensures.1 in
    let begins : Begins (g.S.Source.left c.args.source.now) (g.S.Source.left c.take_genesis.new.source) c.take_genesis.new.reader (Err c.in_err-genesis.field-0.0) = search rules in
    rw (p.1, p.2) (begins_cut c.args.output (g.S.Source.left c.args.source.now)
    (g.S.Source.left c.take_genesis.new.source) (g.K.Sink.told c.args.sink.now) c.take_genesis.new.reader
    c.in_err-genesis.field-0.0 begins)

pub returns-in_err-tell_fault-in-Err-clause-runs : goal.returns-in_err-tell_fault-in-Err-clause-runs
returns-in_err-tell_fault-in-Err-clause-runs g c =
    let p = err_from_is_err_and c.from_residual-in_err-tell_fault-in-Err.result c.from_residual-in_err-tell_fault-in-Err.ensures.1 in
    let begins : Begins (g.S.Source.left c.args.source.now) (g.S.Source.left c.take_genesis.new.source) c.take_genesis.new.reader (Ok (Err c.in-Err.fault)) = search rules in
    rw (p.1, p.2) (begun_starved c.args.output (g.S.Source.left c.args.source.now)
    (g.S.Source.left c.take_genesis.new.source) (g.K.Sink.told c.args.sink.now) c.take_genesis.new.reader
    (Err c.in-Err.fault) begins)

pub returns-in-Err-clause-runs : goal.returns-in-Err-clause-runs
returns-in-Err-clause-runs g c =
    let begins : Begins (g.S.Source.left c.args.source.now) (g.S.Source.left c.take_genesis.new.source) c.take_genesis.new.reader (Ok (Err c.in-Err.fault)) = search rules in
    let told : c.tell_fault.new.text.items ≡ c.args.text.now.items ++ fault_line c.in-Err.fault.at c.in-Err.fault.why = search rules in
    let line : c.tell_fault.new.text.items ≡ fault_line c.in-Err.fault.at c.in-Err.fault.why = told ∙ ap (λ front. front ++ fault_line c.in-Err.fault.at c.in-Err.fault.why) c.requires.empty in
    finished_first c.args.output (g.S.Source.left c.args.source.now) (g.S.Source.left c.take_genesis.new.source)
    (g.K.Sink.told c.args.sink.now) begins.0 c.tell_fault.new.text.items true begins.1 begins.2
    (refused_replay c.args.output (g.S.Source.left c.args.source.now) (g.S.Source.left c.take_genesis.new.source)
    begins.0 c.tell_fault.new.text.items begins.3.0 c.in-Err.fault begins.3.1 begins.3.2 begins.3.3 begins.3.4
    line)

pub start-requires-clause-few_endowments : goal.start-requires-clause-few_endowments
start-requires-clause-few_endowments g c =
    let begins : Begins (g.S.Source.left c.args.source.now) (g.S.Source.left c.take_genesis.new.source)
    c.take_genesis.new.reader (Ok (Ok c.in-Ok.genesis)) = rw c.in-Ok.is at c.in_ok-genesis.ensures.begins in
    few_endowments c.in-Ok.genesis begins.3.in_range

pub start-requires-clause-few_thresholds : goal.start-requires-clause-few_thresholds
start-requires-clause-few_thresholds g c =
    let begins : Begins (g.S.Source.left c.args.source.now) (g.S.Source.left c.take_genesis.new.source)
    c.take_genesis.new.reader (Ok (Ok c.in-Ok.genesis)) = rw c.in-Ok.is at c.in_ok-genesis.ensures.begins in
    few_thresholds c.in-Ok.genesis begins.3.in_range

pub returns-in_err-tell_genesis_fault-in-Err-start-clause-runs : goal.returns-in_err-tell_genesis_fault-in-Err-start-clause-runs
returns-in_err-tell_genesis_fault-in-Err-start-clause-runs g c =
    let p = err_from_is_err_and c.from_residual-in_err-tell_genesis_fault-in-Err-start.result c.from_residual-in_err-tell_genesis_fault-in-Err-start.ensures.1 in
    let begins : Begins (g.S.Source.left c.args.source.now) (g.S.Source.left c.take_genesis.new.source)
    c.take_genesis.new.reader (Ok (Ok c.in-Ok.genesis)) = rw c.in-Ok.is at c.in_ok-genesis.ensures.begins in
    rw (p.1, p.2) (begun_starved c.args.output (g.S.Source.left c.args.source.now)
    (g.S.Source.left c.take_genesis.new.source) (g.K.Sink.told c.args.sink.now) c.take_genesis.new.reader
    (Ok c.in-Ok.genesis) begins)

pub returns-in-Err-start-clause-runs : goal.returns-in-Err-start-clause-runs
returns-in-Err-start-clause-runs g c =
    let begins : Begins (g.S.Source.left c.args.source.now) (g.S.Source.left c.take_genesis.new.source)
    c.take_genesis.new.reader (Ok (Ok c.in-Ok.genesis)) = rw c.in-Ok.is at c.in_ok-genesis.ensures.begins in
    let line : c.tell_genesis_fault.new.text.items ≡ genesis_line (fault_numbers c.in-Err-start.fault) =
    c.in_ok-tell_genesis_fault-in-Err-start.ensures.line ∙ ap (λ front. front ++ genesis_line (fault_numbers c.in-Err-start.fault)) c.requires.empty in
    finished_first c.args.output (g.S.Source.left c.args.source.now) (g.S.Source.left c.take_genesis.new.source)
    (g.K.Sink.told c.args.sink.now) begins.0 c.tell_genesis_fault.new.text.items true begins.1 begins.2
    (faulty_replay c.args.output (g.S.Source.left c.args.source.now) (g.S.Source.left c.take_genesis.new.source)
    begins.0 c.tell_genesis_fault.new.text.items c.take_genesis.new.reader c.in-Ok.genesis c.in-Err-start.fault
    begins.1 begins.3
    c.in-Err-start.ensures.refused c.in_ok-tell_genesis_fault-in-Err-start.ensures.memory line)

pub take_all-requires-clause-near : goal.take_all-requires-clause-near
take_all-requires-clause-near g c =
    let begins : Begins (g.S.Source.left c.args.source.now) (g.S.Source.left c.take_genesis.new.source)
    c.take_genesis.new.reader (Ok (Ok c.in-Ok.genesis)) = rw c.in-Ok.is at c.in_ok-genesis.ensures.begins in
    let due : c.in-Ok-start.runtime.state.due ≡ 1 = ap (λ (life : Life). life.state.due) c.in-Ok-start.ensures.ok.1 in
    (omega (arith, due), omega (arith, due, begun_near begins.0 c.take_genesis.new.reader c.in-Ok.genesis begins.3))

pub returns-clause-runs : goal.returns-clause-runs
returns-clause-runs g c =
    let begins : Begins (g.S.Source.left c.args.source.now) (g.S.Source.left c.take_genesis.new.source)
    c.take_genesis.new.reader (Ok (Ok c.in-Ok.genesis)) = rw c.in-Ok.is at c.in_ok-genesis.ensures.begins in
    c.take_all.ensures.runs (g.S.Source.left c.args.source.now) (g.K.Sink.told c.args.sink.now)
    (course_starts c.args.output (g.S.Source.left c.args.source.now) (g.S.Source.left c.take_genesis.new.source)
    (g.K.Sink.told c.args.sink.now) begins.0 (spot c.take_genesis.new.reader c.in-Ok-start.runtime.state) begins.1
    begins.2
    (genesis_starts c.args.output begins.0 c.take_genesis.new.reader c.in-Ok.genesis c.in-Ok-start.runtime.state
    begins.3 c.in-Ok-start.ensures.ok.0 (ap (λ (life : Life). life.state) c.in-Ok-start.ensures.ok.1)))

pub take_all-requires-clause-savable : goal.take_all-requires-clause-savable
take_all-requires-clause-savable g c =
    let begins : Begins (g.S.Source.left c.args.source.now) (g.S.Source.left c.take_genesis.new.source)
    c.take_genesis.new.reader (Ok (Ok c.in-Ok.genesis)) = rw c.in-Ok.is at c.in_ok-genesis.ensures.begins in
    subst IsSavable (sym (ap (λ (life : Life). life.state) c.in-Ok-start.ensures.ok.1)) (c.chains_can_be_saved.ensures.start c.in-Ok.genesis begins.3.in_range c.in-Ok-start.ensures.ok.0)

-- ## No read too many

pub returns-in_err-piece-clause-wary : goal.returns-in_err-piece-clause-wary
returns-in_err-piece-clause-wary g c = wary_first c.args.output (g.S.Source.left c.args.source.now) (g.S.Source.asked c.args.source.now).last

pub returns-clause-wary : goal.returns-clause-wary
returns-clause-wary g c =
    let begins : Begins (g.S.Source.left c.args.source.now) (g.S.Source.left c.take_genesis.new.source)
    c.take_genesis.new.reader (Ok (Ok c.in-Ok.genesis)) = rw c.in-Ok.is at c.in_ok-genesis.ensures.begins in
    c.take_all.ensures.wary (g.S.Source.left c.args.source.now) (g.K.Sink.told c.args.sink.now)
    (course_starts c.args.output (g.S.Source.left c.args.source.now) (g.S.Source.left c.take_genesis.new.source)
    (g.K.Sink.told c.args.sink.now) begins.0 (spot c.take_genesis.new.reader c.in-Ok-start.runtime.state) begins.1
    begins.2
    (genesis_starts c.args.output begins.0 c.take_genesis.new.reader c.in-Ok.genesis c.in-Ok-start.runtime.state
    begins.3 c.in-Ok-start.ensures.ok.0 (ap (λ (life : Life). life.state) c.in-Ok-start.ensures.ok.1)))
    (awaits_wary c.args.output (g.S.Source.left c.args.source.now) (g.S.Source.left c.take_genesis.new.source) (g.S.Source.asked c.take_genesis.new.source).last c.in_ok-genesis.ensures.wary)
