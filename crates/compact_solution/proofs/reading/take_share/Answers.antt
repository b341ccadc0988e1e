use Rattle.std.proofs.lemmas.Result.{err_from_is_err_and}
use Rattle.scale_wire.specs.Parts.{compact_u16}
use Rattle.compact_solution.proofs.Readers.{pair_fault}
use Rattle.compact_solution.proofs.reading.take_share.Goals as goal

pub returns-in_err-parts : goal.returns-in_err-parts
returns-in_err-parts c =
    let p = err_from_is_err_and c.from_residual-in_err-parts.result c.from_residual-in_err-parts.ensures.1 in
    rw (p.1, p.2) (pair_fault compact_u16 compact_u16 c.args.cursor.now c.fork-here.result c.take_compact_u16.new.self
    c.take_compact_u16-2.new.self c.in_ok-target.target c.in_err-parts.field-0.0 c.fork-here.ensures
    c.in_ok-target.ensures c.in_err-parts.ensures)
