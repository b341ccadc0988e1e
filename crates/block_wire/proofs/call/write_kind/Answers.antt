use Rattle.std.proofs.Common.{ℕ, List, ◌∷◌, ◌++◌, length, subst, append_assoc}
use Rattle.scale_wire.specs.Compact.{compact_bytes}
use Rattle.scale_wire.specs.Values.{score_form}
use Rattle.scale_wire.specs.Reading.{Writes}
use Rattle.block_wire.proofs.call.write_kind.Goals as goal

pub write_fields-requires : goal.write_fields-requires
write_fields-requires c = rw c.in-Transfer.is at c.requires

pub returns-in-Transfer : goal.returns-in-Transfer
returns-in-Transfer c = rw c.in-Transfer.is c.write_fields.ensures

pub write_fields-requires-in-Bond : goal.write_fields-requires-in-Bond
write_fields-requires-in-Bond c = rw c.in-Bond.is at c.requires

pub returns-in-Bond : goal.returns-in-Bond
returns-in-Bond c = rw c.in-Bond.is c.write_fields-in-Bond.ensures

pub write_fields-requires-in-BondExtra : goal.write_fields-requires-in-BondExtra
write_fields-requires-in-BondExtra c = rw c.in-BondExtra.is at c.requires

pub returns-in-BondExtra : goal.returns-in-BondExtra
returns-in-BondExtra c = rw c.in-BondExtra.is c.write_fields-in-BondExtra.ensures

pub write_fields-requires-in-Unbond : goal.write_fields-requires-in-Unbond
write_fields-requires-in-Unbond c = rw c.in-Unbond.is at c.requires

pub returns-in-Unbond : goal.returns-in-Unbond
returns-in-Unbond c = rw c.in-Unbond.is c.write_fields-in-Unbond.ensures

pub write_fields-requires-in-Rebond : goal.write_fields-requires-in-Rebond
write_fields-requires-in-Rebond c = rw c.in-Rebond.is at c.requires

pub returns-in-Rebond : goal.returns-in-Rebond
returns-in-Rebond c = rw c.in-Rebond.is c.write_fields-in-Rebond.ensures

pub returns-in-Withdraw : goal.returns-in-Withdraw
returns-in-Withdraw c = rw c.in-Withdraw.is c.write_fields-in-Withdraw.ensures

pub write_listed-requires : goal.write_listed-requires
write_listed-requires c = (rw c.in-Nominate.is at c.requires).1

pub returns-in-Nominate : goal.returns-in-Nominate
returns-in-Nominate c = rw c.in-Nominate.is c.write_listed.ensures

pub write_fields-requires-in-Validate : goal.write_fields-requires-in-Validate
write_fields-requires-in-Validate c = rw c.in-Validate.is at c.requires

pub returns-in-Validate : goal.returns-in-Validate
returns-in-Validate c = rw c.in-Validate.is c.write_fields-in-Validate.ensures

pub returns-in-Chill : goal.returns-in-Chill
returns-in-Chill c = rw c.in-Chill.is c.write_fields-in-Chill.ensures

pub write_fields-requires-in-Rebag : goal.write_fields-requires-in-Rebag
write_fields-requires-in-Rebag c = rw c.in-Rebag.is at c.requires

pub returns-in-Rebag : goal.returns-in-Rebag
returns-in-Rebag c = rw c.in-Rebag.is c.write_fields-in-Rebag.ensures

pub write_fields-requires-in-PutInFront : goal.write_fields-requires-in-PutInFront
write_fields-requires-in-PutInFront c = rw c.in-PutInFront.is at c.requires

pub returns-in-PutInFront : goal.returns-in-PutInFront
returns-in-PutInFront c = rw c.in-PutInFront.is c.write_fields-in-PutInFront.ensures

pub write_packed-requires : goal.write_packed-requires
write_packed-requires c = let fits = rw c.in-Submit.is at c.requires in (fits.0, fits.1)

pub returns-in-Submit : goal.returns-in-Submit
returns-in-Submit c =
    let rest = compact_bytes (length c.in-Submit.bytes) ++ c.in-Submit.bytes in
    let apart = append_assoc (compact_bytes c.in-Submit.round) (score_form.spelling c.in-Submit.claim) rest in
    rw c.in-Submit.is
    (subst (λ (s : List ℕ). Writes (11 ∷ s) c.args.pen.now c.write_packed.result c.write_packed.new.pen) apart c.write_packed.ensures)

pub write_listed-requires-in-Points : goal.write_listed-requires-in-Points
write_listed-requires-in-Points c = (rw c.in-Points.is at c.requires).1

pub returns-in-Points : goal.returns-in-Points
returns-in-Points c = rw c.in-Points.is c.write_listed-in-Points.ensures

pub write_fields-requires-in-Payout : goal.write_fields-requires-in-Payout
write_fields-requires-in-Payout c = rw c.in-Payout.is at c.requires

pub returns-in-Payout : goal.returns-in-Payout
returns-in-Payout c = rw c.in-Payout.is c.write_fields-in-Payout.ensures

pub write_fields-requires-in-Offence : goal.write_fields-requires-in-Offence
write_fields-requires-in-Offence c = rw c.in-Offence.is at c.requires

pub returns-in-Offence : goal.returns-in-Offence
returns-in-Offence c = rw c.in-Offence.is c.write_fields-in-Offence.ensures

pub write_fields-requires-in-CancelSlash : goal.write_fields-requires-in-CancelSlash
write_fields-requires-in-CancelSlash c = rw c.in-CancelSlash.is at c.requires

pub returns-in-CancelSlash : goal.returns-in-CancelSlash
returns-in-CancelSlash c = rw c.in-CancelSlash.is c.write_fields-in-CancelSlash.ensures
