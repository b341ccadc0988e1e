use Rattle.std.proofs.Common.{[]}
use Rattle.std.proofs.lemmas.Result.{err_from_is_err_and}
use Rattle.scale_wire.specs.Composite.{items}
use Rattle.scale_wire.specs.Parts.{compact_u16, compact_u32}
use Rattle.compact_solution.specs.Solution.{share_form}
use Rattle.compact_solution.proofs.Readers.{third_fault, none_read}
use Rattle.compact_solution.proofs.reading.take_single.Goals as goal

pub returns-in_err-target : goal.returns-in_err-target
returns-in_err-target c =
    let p = err_from_is_err_and c.from_residual-in_err-target.result c.from_residual-in_err-target.ensures.1 in
    let voter_read = c.take_compact_u32.new.self in
    rw (p.1, p.2) (third_fault compact_u32 (items share_form 0) compact_u16 c.args.cursor.now c.fork-here.result
    voter_read voter_read c.take_compact_u16.new.self c.in_ok-voter.voter [] c.in_err-target.field-0.0
    c.fork-here.ensures c.in_ok-voter.ensures (none_read share_form voter_read) c.in_err-target.ensures)
