use Rattle.std.proofs.lemmas.Result.{err_from_is_err_and}
use Rattle.scale_wire.specs.Composite.{items}
use Rattle.scale_wire.specs.Parts.{compact_u16, compact_u32}
use Rattle.compact_solution.specs.Solution.{share_form}
use Rattle.compact_solution.proofs.Readers.{second_err, third_fault}
use Rattle.compact_solution.proofs.reading.read_entry.Goals as goal

pub returns-in_err-listed : goal.returns-in_err-listed
returns-in_err-listed c =
    let p = err_from_is_err_and c.from_residual-in_err-listed.result c.from_residual-in_err-listed.ensures.1 in
    rw (p.1, p.2) (second_err compact_u32 (items share_form c.args.shares) compact_u16 c.args.cursor.now
    c.fork-here.result c.take_compact_u32.new.self c.read_shares.new.cursor c.in_ok-voter.voter
    c.in_err-listed.field-0.0 c.fork-here.ensures c.in_ok-voter.ensures c.in_err-listed.ensures)

pub returns-in_err-last : goal.returns-in_err-last
returns-in_err-last c =
    let p = err_from_is_err_and c.from_residual-in_err-last.result c.from_residual-in_err-last.ensures.1 in
    rw (p.1, p.2) (third_fault compact_u32 (items share_form c.args.shares) compact_u16 c.args.cursor.now
    c.fork-here.result c.take_compact_u32.new.self c.read_shares.new.cursor c.take_compact_u16.new.self
    c.in_ok-voter.voter c.in_ok-listed.listed c.in_err-last.field-0.0 c.fork-here.ensures c.in_ok-voter.ensures
    c.in_ok-listed.ensures c.in_err-last.ensures)
