use Rattle.std.proofs.Common.{◌≡◌, refl, subst}
use Rattle.std.specs.Prelude.{Err}
use Rattle.std.proofs.lemmas.Result.{err_from_is_err_and}
use Rattle.npos_base.specs.declared.account.AccountId.{AccountId}
use Rattle.scale_wire.specs.declared.fault.ReadFault.{ReadFault}
use Rattle.scale_wire.specs.declared.fault.ReadFault.TheVariants.{Wire, NoMemory}
use Rattle.scale_wire.specs.Parts.{account_form}
use Rattle.scale_wire.specs.Reading.{Place, IsRead, IsFault, Reads}
use Rattle.scale_wire.proofs.ReadLemmas.{behind_fault}
use Rattle.block_wire.specs.Calls.{kind_form, call_form}
use Rattle.block_wire.proofs.call.CallWire.read.Goals as goal

-- the kind was refused; `here` is a copy of the cursor as it was
kind_err : (old here mid new : Place) (who : AccountId) (fault : ReadFault) → here ≡ old → IsRead account_form here who mid → Reads kind_form mid (Err fault) new → Reads call_form old (Err fault) old
kind_err old here mid new who (Wire fault) same read refused =
    subst (λ (o : Place). IsFault call_form o fault o) same (behind_fault account_form (λ _. kind_form.bad) here mid new who fault read refused)
kind_err old here mid new who NoMemory same read refused = refl

pub returns-in_err-kind : goal.returns-in_err-kind
returns-in_err-kind c =
    let p = err_from_is_err_and c.from_residual-in_err-kind.result c.from_residual-in_err-kind.ensures.1 in
    rw (p.1, p.2)
    (kind_err c.args.cursor.now c.fork-here.result c.read.new.cursor c.read-2.new.cursor
    c.in_ok-who.who c.in_err-kind.field-0.0 c.fork-here.ensures c.in_ok-who.ensures c.in_err-kind.ensures)
