use Rattle.npos_base.proofs.AccountBytes.{are_bytes, bytes_kept}
use Rattle.npos_base.proofs.laws.an_account_keeps_its_bytes.Goals as goal

pub returns : goal.returns
returns c = bytes_kept c.args.bytes.now c.told-bytes (are_bytes c.args.bytes.now c.fits-bytes)
