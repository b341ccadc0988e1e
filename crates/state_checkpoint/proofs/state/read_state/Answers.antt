use Rattle.std.proofs.lemmas.Result.{err_from_is_err_and}
use Rattle.scale_wire.proofs.ReadLemmas.{fields_err}
use Rattle.state_checkpoint.specs.Layout.{states, state_choice}
use Rattle.state_checkpoint.proofs.state.read_state.Goals as goal

pub returns-in_err-state : goal.returns-in_err-state
returns-in_err-state c =
    let p = err_from_is_err_and c.from_residual-in_err-state.result c.from_residual-in_err-state.ensures.1 in
    rw (p.1, p.2)
    (fields_err states state_choice c.args.cursor.now c.fork-here.result c.take_tag.new.self c.read_parts.new.cursor
    c.in_ok-tag.tag c.in_err-state.field-0.0 c.fork-here.ensures c.in_ok-tag.ensures c.in_err-state.ensures)
