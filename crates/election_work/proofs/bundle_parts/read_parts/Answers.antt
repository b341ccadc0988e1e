use Rattle.std.proofs.Common.{◌≡◌, ◌≢◌, ℕ, length, arith, ap, subst, sym, ◌∙◌, true≢false}
use Rattle.std.specs.Prelude.{Err}
use Rattle.std.proofs.lemmas.Bool.{eqb-true, eq-eqb}
use Rattle.std.proofs.lemmas.Result.{err_from_is_err_and}
use Rattle.npos_base.proofs.AccountBytes.{are_bytes}
use Rattle.scale_wire.specs.declared.fault.Why.TheVariants.{Trailing}
use Rattle.scale_wire.specs.declared.fault.ReadFault.TheVariants.{Wire}
use Rattle.scale_wire.specs.Form.{IsBytes}
use Rattle.scale_wire.specs.Reading.{Place}
use Rattle.block_wire.specs.Bundles.{bundle_form}
use Rattle.election_work.specs.Growing.{parts_of, WasRead, ReadsTo, KeepsParts}
use Rattle.election_work.proofs.ReadingLemmas.{whole_kept, trailing, whole_err}
use Rattle.election_work.proofs.bundle_parts.read_parts.Goals as goal

pub returns-in_err-parts : goal.returns-in_err-parts
returns-in_err-parts c =
    let p = err_from_is_err_and c.from_residual.result c.from_residual.ensures.1 in
    let are : IsBytes c.args.bytes.now = are_bytes c.args.bytes.now (λ k. omega (arith, c.type_inv.bytes k)) in
    let refused : ReadsTo bundle_form parts_of (record { at = 0; rest = c.args.bytes.now }) (Err c.in_err-parts.field-0.0) c.read_bundle.new.cursor =
    subst (λ (o : Place). ReadsTo bundle_form parts_of o (Err c.in_err-parts.field-0.0) c.read_bundle.new.cursor) c.new-cursor.ensures c.in_err-parts.ensures in
    rw (p.1, p.2) (whole_err c.args.bytes.now c.read_bundle.new.cursor c.in_err-parts.field-0.0 are refused)

pub returns-then-is_empty : goal.returns-then-is_empty
returns-then-is_empty c =
    let are : IsBytes c.args.bytes.now = are_bytes c.args.bytes.now (λ k. omega (arith, c.type_inv.bytes k)) in
    let was : WasRead bundle_form parts_of (record { at = 0; rest = c.args.bytes.now }) c.in_ok-parts.parts c.read_bundle.new.cursor =
    subst (λ (o : Place). WasRead bundle_form parts_of o c.in_ok-parts.parts c.read_bundle.new.cursor) c.new-cursor.ensures c.in_ok-parts.ensures in
    let none : length c.read_bundle.new.cursor.rest ≡ 0 = ap length (sym c.rest.ensures) ∙ eqb-true (length c.rest.result.now) 0 (sym c.is_empty.ensures ∙ c.if-is_empty.true) in
    whole_kept c.args.bytes.now c.in_ok-parts.parts c.read_bundle.new.cursor are was none

pub returns-else-is_empty : goal.returns-else-is_empty
returns-else-is_empty c =
    let are : IsBytes c.args.bytes.now = are_bytes c.args.bytes.now (λ k. omega (arith, c.type_inv.bytes k)) in
    let was : WasRead bundle_form parts_of (record { at = 0; rest = c.args.bytes.now }) c.in_ok-parts.parts c.read_bundle.new.cursor =
    subst (λ (o : Place). WasRead bundle_form parts_of o c.in_ok-parts.parts c.read_bundle.new.cursor) c.new-cursor.ensures c.in_ok-parts.ensures in
    let some : length c.read_bundle.new.cursor.rest ≢ 0 =
    λ none. true≢false (sym (eq-eqb (length c.rest.result.now) 0 (ap length c.rest.ensures ∙ none)) ∙ (sym c.is_empty.ensures ∙ c.if-is_empty.false)) in
    subst (λ (n : ℕ). KeepsParts c.args.bytes.now (Err (Wire (record { at = n; why = Trailing })))) (sym c.at.ensures)
    (trailing c.args.bytes.now c.in_ok-parts.parts c.read_bundle.new.cursor are was some)
