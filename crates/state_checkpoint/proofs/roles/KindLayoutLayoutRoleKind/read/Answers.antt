use Rattle.std.proofs.lemmas.Result.{err_from_is_err_and}
use Rattle.scale_wire.proofs.ReadLemmas.{fields_err}
use Rattle.state_checkpoint.specs.Layout.{kinds, kind_choice}
use Rattle.state_checkpoint.proofs.roles.KindLayoutLayoutRoleKind.read.Goals as goal

pub returns-in_err-kind : goal.returns-in_err-kind
returns-in_err-kind c =
    let p = err_from_is_err_and c.from_residual-in_err-kind.result c.from_residual-in_err-kind.ensures.1 in
    rw (p.1, p.2)
    (fields_err kinds kind_choice c.args.cursor.now c.fork-here.result c.take_tag.new.self c.read_kind.new.cursor
    c.in_ok-tag.tag c.in_err-kind.field-0.0 c.fork-here.ensures c.in_ok-tag.ensures c.in_err-kind.ensures)
