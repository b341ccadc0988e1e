-- Proofs: the genesis keeps the laws of a form.
use Rattle.std.specs.Prelude.{◌≡◌, refl}
use Rattle.std.proofs.Common.{lit<}
use Rattle.scale_wire.specs.Form.{IsWire}
use Rattle.scale_wire.specs.Parts.{account_form, compact_u32, compact_u64}
use Rattle.scale_wire.specs.Composite.{pair, triple, list}
use Rattle.scale_wire.specs.PartLaws.{tag_laws}
use Rattle.scale_wire.specs.CompactLaws.{compact_u32_laws, compact_u64_laws, length_laws}
use Rattle.scale_wire.specs.FormLaws.{pair_laws, triple_laws, seen_laws, list_laws, AreVariants, HasChoice, given_at, enum_laws}
use Rattle.scale_wire.specs.AccountLaws.{account_laws}
use Rattle.block_wire.specs.Genesis.{endowment_form, head_form, tail_form, params_form, params_fields, endowments_form, geneses, genesis_choice, genesis_form}
use Rattle.npos_base.specs.declared.limits.TheConstants.{MOST_THRESHOLDS, MOST_ENDOWMENTS}
use Rattle.block_wire.specs.declared.genesis.Genesis.{Genesis}
use Rattle.block_wire.specs.declared.genesis.Genesis.TheVariants.{Plain, Full, Deferred}

pub endowment_laws : IsWire endowment_form
endowment_laws = seen_laws (pair account_form compact_u64) (λ endowment. (endowment.who, endowment.value))
    (λ fields. record { who = fields.0; value = fields.1 }) (λ endowment. refl) (λ fields. refl)
    (pair_laws account_form compact_u64 account_laws compact_u64_laws)

head_laws : IsWire head_form
head_laws = triple_laws (pair account_form compact_u32) (triple compact_u32 compact_u32 compact_u32) (pair compact_u32 compact_u64)
    (pair_laws account_form compact_u32 account_laws compact_u32_laws)
    (triple_laws compact_u32 compact_u32 compact_u32 compact_u32_laws compact_u32_laws compact_u32_laws)
    (pair_laws compact_u32 compact_u64 compact_u32_laws compact_u64_laws)

tail_laws : IsWire tail_form
tail_laws = pair_laws (triple compact_u32 compact_u32 compact_u64) (pair compact_u64 compact_u64)
    (triple_laws compact_u32 compact_u32 compact_u64 compact_u32_laws compact_u32_laws compact_u64_laws)
    (pair_laws compact_u64 compact_u64 compact_u64_laws compact_u64_laws)

pub params_laws : IsWire params_form
params_laws = seen_laws (triple head_form (list compact_u64 MOST_THRESHOLDS) tail_form) params_fields
    (λ f. record {
      root = f.0.0.0;
      seats = f.0.0.1;
      era_blocks = f.0.1.0;
      offset = f.0.1.1;
      signed = f.0.1.2;
      bonding_eras = f.0.2.0;
      least_bond = f.0.2.1;
      thresholds = f.1;
      queue = f.2.0.0;
      solution_max = f.2.0.1;
      deposit = f.2.0.2;
      reward = f.2.1.0;
      era_reward = f.2.1.1;
    })
    (λ params. refl) (λ f. refl)
    (triple_laws head_form (list compact_u64 MOST_THRESHOLDS) tail_form head_laws
    (list_laws compact_u64 MOST_THRESHOLDS (length_laws MOST_THRESHOLDS (lit< tt)) compact_u64_laws) tail_laws)

endowments_laws : IsWire endowments_form
endowments_laws = list_laws endowment_form MOST_ENDOWMENTS (length_laws MOST_ENDOWMENTS (lit< tt)) endowment_laws

-- ## The genesis

abbrev geneses_are : AreVariants geneses (HasChoice geneses genesis_choice)
geneses_are = (
  endowments_laws,
  (λ values. (Plain values, refl)),
  (
    pair_laws endowments_form params_form endowments_laws params_laws,
    (λ values. (Full values.0 values.1, refl)),
    (
      triple_laws endowments_form params_form compact_u32 endowments_laws params_laws compact_u32_laws,
      (λ values. (Deferred values.0 values.1 values.2, refl)),
      tt,
    ),
  ),
)

genesis_back : (genesis : Genesis)
    → (given_at geneses (HasChoice geneses genesis_choice) geneses_are (genesis_choice genesis).tag (genesis_choice genesis).values).0 ≡ genesis
genesis_back (Plain endowments) = refl
genesis_back (Full endowments params) = refl
genesis_back (Deferred endowments params defer_eras) = refl

pub genesis_laws : IsWire genesis_form
genesis_laws = enum_laws geneses genesis_choice geneses_are genesis_back (tag_laws 3)
