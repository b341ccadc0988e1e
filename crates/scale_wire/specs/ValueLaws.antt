-- Proofs: truth values, scores and edges keep the laws of a form.
use Rattle.std.specs.Prelude.{◌≡◌, ℕ, zero, suc, ◌<◌, Bool, true, false, nat_eq, refl}
use Rattle.std.proofs.Common.{arith, ap, ◌∷◌, []}
use Rattle.scale_wire.specs.Form.{IsWire}
use Rattle.scale_wire.specs.Composite.{triple}
use Rattle.scale_wire.specs.FormLaws.{made_laws, seen_laws, triple_laws, within_itself}
use Rattle.scale_wire.specs.Parts.{tag_form, fixed_u128, compact_u16, compact_u32, compact_u64}
use Rattle.scale_wire.specs.PartLaws.{fixed_laws, tag_laws}
use Rattle.scale_wire.specs.CompactLaws.{compact_u16_laws, compact_u32_laws, compact_u64_laws}
use Rattle.scale_wire.specs.Values.{flag_tag, flag_form, score_form, score_fields, edge_form, edge_fields}

pub flag_is : (tag : ℕ) → tag < 2 → flag_tag (nat_eq tag 1) ≡ tag
flag_is zero below = refl
flag_is (suc zero) below = refl
flag_is (suc (suc tag)) below = absurd (omega (arith, below))

flag_back : (flag : Bool) → nat_eq (flag_tag flag) 1 ≡ flag
flag_back false = refl
flag_back true = refl

flag_fits : (flag : Bool) → flag_tag flag < 2
flag_fits false = omega arith
flag_fits true = omega arith

pub flag_laws : IsWire flag_form
flag_laws = made_laws flag_form (tag_form 2) (λ tag. nat_eq tag 1) record {
  fits = λ tag below. flag_fits (nat_eq tag 1);
  spelled = λ tag below. ap (λ (n : ℕ). n ∷ []) (flag_is tag below);
  comes = λ flag fits. (flag_tag flag, flag_fits flag, flag_back flag);
  bad_from = λ bytes at why bad. bad;
  bad_to = λ bytes at why bad. bad;
  within = within_itself (tag_form 2).longest;
} (tag_laws 2)

pub score_laws : IsWire score_form
score_laws =
    seen_laws (triple compact_u64 compact_u64 fixed_u128) score_fields
    (λ fields. record { minimal = fields.0; sum = fields.1; squares = fields.2 }) (λ _. refl) (λ _. refl)
    (triple_laws compact_u64 compact_u64 fixed_u128 compact_u64_laws compact_u64_laws (fixed_laws 16))

pub edge_laws : IsWire edge_form
edge_laws =
    seen_laws (triple compact_u32 compact_u16 compact_u64) edge_fields
    (λ fields. record { voter = fields.0; target = fields.1; amount = fields.2 }) (λ _. refl) (λ _. refl)
    (triple_laws compact_u32 compact_u16 compact_u64 compact_u32_laws compact_u16_laws compact_u64_laws)
