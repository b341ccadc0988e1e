use Rattle.std.proofs.lemmas.Result.{err_from_is_err_and}
use Rattle.block_wire.proofs.BegunLemmas.{number_fault, count_fault}
use Rattle.block_wire.proofs.begun.read_head.Goals as goal

pub returns-in_err-number : goal.returns-in_err-number
returns-in_err-number c =
    let p = err_from_is_err_and c.from_residual-in_err-number.result c.from_residual-in_err-number.ensures.1 in
    rw (p.1, p.2) (number_fault c.args.cursor.now c.take_tag.new.self c.take_compact_u32.new.self c.in_ok-tag.tag
    c.in_err-number.field-0.0 c.if-tag-eq0.false c.in_ok-tag.ensures c.in_err-number.ensures)

pub returns-in_err-count : goal.returns-in_err-count
returns-in_err-count c =
    let p = err_from_is_err_and c.from_residual-in_err-count.result c.from_residual-in_err-count.ensures.1 in
    rw (p.1, p.2) (count_fault c.args.cursor.now c.take_tag.new.self c.take_compact_u32.new.self
    c.take_length.new.self c.in_ok-tag.tag c.in_ok-number.number c.in_err-count.field-0.0 c.if-tag-eq0.false
    c.in_ok-tag.ensures c.in_ok-number.ensures c.in_err-count.ensures)
