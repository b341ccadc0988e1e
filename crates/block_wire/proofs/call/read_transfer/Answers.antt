use Rattle.std.proofs.Common.{◌≡◌, refl, subst}
use Rattle.std.specs.Prelude.{Err}
use Rattle.std.proofs.lemmas.Result.{err_from_is_err_and}
use Rattle.npos_base.specs.declared.account.AccountId.{AccountId}
use Rattle.scale_wire.specs.declared.fault.ReadFault.{ReadFault}
use Rattle.scale_wire.specs.declared.fault.ReadFault.TheVariants.{Wire, NoMemory}
use Rattle.scale_wire.specs.Composite.{behind_tag, pair}
use Rattle.scale_wire.specs.Parts.{account_form, compact_u64}
use Rattle.scale_wire.specs.Reading.{Place, IsRead, IsFault, Reads}
use Rattle.scale_wire.proofs.ReadLemmas.{behind_fault}
use Rattle.block_wire.specs.Calls.{kinds, kind_choice}
use Rattle.block_wire.proofs.call.read_transfer.Goals as goal

-- the amount was refused; `here` is a copy of the cursor as it was
value_err : (old here mid new : Place) (to : AccountId) (fault : ReadFault) → here ≡ old → IsRead account_form here to mid → Reads compact_u64 mid (Err fault) new
    → Reads (behind_tag kinds kind_choice 0) old (Err fault) old
value_err old here mid new to (Wire fault) same read refused =
    subst (λ (o : Place). IsFault (pair account_form compact_u64) o fault o) same (behind_fault account_form (λ _. compact_u64.bad) here mid new to fault read refused)
value_err old here mid new to NoMemory same read refused = refl

pub returns-in_err-value : goal.returns-in_err-value
returns-in_err-value c =
    let p = err_from_is_err_and c.from_residual-in_err-value.result c.from_residual-in_err-value.ensures.1 in
    rw (p.1, p.2)
    (value_err c.args.cursor.now c.fork-here.result c.read.new.cursor c.read-2.new.cursor
    c.in_ok-to.to c.in_err-value.field-0.0 c.fork-here.ensures c.in_ok-to.ensures c.in_err-value.ensures)
