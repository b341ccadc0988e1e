use Rattle.std.proofs.Common.{arith}
use Rattle.npos_base.proofs.AccountBytes.{account_kept}
use Rattle.npos_base.proofs.laws.bytes_keep_their_account.Goals as goal

pub returns : goal.returns
returns c = account_kept c.args.account.now (omega arith) (omega arith)
