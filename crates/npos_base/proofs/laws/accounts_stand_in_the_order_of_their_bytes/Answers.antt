use Rattle.std.proofs.Common.{arith}
use Rattle.npos_base.proofs.AccountBytes.{account_order}
use Rattle.npos_base.proofs.laws.accounts_stand_in_the_order_of_their_bytes.Goals as goal

pub returns-clause-bytes : goal.returns-clause-bytes
returns-clause-bytes c = account_order c.args.a.now c.args.b.now (omega arith) (omega arith) (omega arith) (omega arith)
