use Rattle.std.proofs.Common.{◌∙◌, ap}
use Rattle.npos_base.specs.Account.{account_of}
use Rattle.scale_wire.proofs.PartLemmas.{account_read}
use Rattle.scale_wire.proofs.cursor.Cursor.take_account.Goals as goal

pub returns : goal.returns
returns c =
    account_read c.args.self.now c.take_bytes.new.self c.in_ok-take_bytes.field-0.now c.from_bytes.result c.in_ok-take_bytes.ensures
    (c.from_bytes.ensures ∙ ap account_of c.copy_from_slice.ensures.after)
