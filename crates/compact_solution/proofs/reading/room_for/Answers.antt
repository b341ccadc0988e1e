use Rattle.std.proofs.Common.{rules, arith, ◌+◌, ◌*◌, ◌/◌, ◌≤◌}
use Rattle.std.proofs.Math.Nat.{mul-div-le, mul-le-mul_right}
use Rattle.compact_solution.proofs.reading.room_for.Goals as goal

pub returns-clause-held : goal.returns-clause-held
returns-clause-held c =
    let size = 2 * c.args.shares + 2 in
    let most = c.args.left / size in
    let whole : size * most ≤ c.args.left = mul-div-le c.args.left size in
    let within : c.min-room.result ≤ most = search rules in
    let pairs : 2 * most ≤ size * most = mul-le-mul_right most (omega arith) in
    omega (arith, whole, within, pairs, c.in_ok-entries.ensures.exact)
