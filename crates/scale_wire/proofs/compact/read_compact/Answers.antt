use Rattle.std.proofs.Common.{rules, ◌+◌, ◌≤◌, ◌<◌, ◌%◌, length, slice_index, arith}
use Rattle.std.proofs.lemmas.Result.{err_from_is_err_and}
use Rattle.npos_base.proofs.AccountBytes.{are_bytes}
use Rattle.scale_wire.proofs.Modes.{big_refused}
use Rattle.scale_wire.proofs.compact.read_compact.Goals as goal

pub returns-in_err-many_bytes-in_default-clause-read : goal.returns-in_err-many_bytes-in_default-clause-read
returns-in_err-many_bytes-in_default-clause-read c =
    let three : 3 ≤ slice_index c.args.bytes.now 0 % 4 = omega arith in
    let some : 0 < length c.args.bytes.now = search rules in
    let p = err_from_is_err_and c.from_residual-in_err-many_bytes-in_default.result c.from_residual-in_err-many_bytes-in_default.ensures.1 in
    rw (p.1, p.2) (big_refused c.args.most (c.args.max + 1) c.args.bytes.now c.in_err-many_bytes-in_default.field-0.0 some three c.in_err-many_bytes-in_default.ensures)

pub returns-in_err-many_bytes-in_default-clause-are_bytes : goal.returns-in_err-many_bytes-in_default-clause-are_bytes
returns-in_err-many_bytes-in_default-clause-are_bytes c = are_bytes c.args.bytes.now (λ k. omega (arith, c.type_inv.bytes k))

pub returns-then-number-max-clause-are_bytes : goal.returns-then-number-max-clause-are_bytes
returns-then-number-max-clause-are_bytes c = are_bytes c.args.bytes.now (λ k. omega (arith, c.type_inv.bytes k))

pub returns-else-number-max-clause-are_bytes : goal.returns-else-number-max-clause-are_bytes
returns-else-number-max-clause-are_bytes c = are_bytes c.args.bytes.now (λ k. omega (arith, c.type_inv.bytes k))
