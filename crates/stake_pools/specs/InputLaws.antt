-- Proofs: genesis and items of a pool keep the laws of a form.
use Rattle.std.specs.Prelude.{◌≡◌, length, refl}
use Rattle.std.proofs.Common.{lit<}
use Rattle.npos_base.specs.declared.limits.TheConstants.{MOST_ENDOWMENTS}
use Rattle.scale_wire.specs.Form.{IsWire}
use Rattle.scale_wire.specs.Parts.{account_form, compact_u32, compact_u64}
use Rattle.scale_wire.specs.Composite.{pair, triple}
use Rattle.scale_wire.specs.PartLaws.{tag_laws}
use Rattle.scale_wire.specs.AccountLaws.{account_laws}
use Rattle.scale_wire.specs.CompactLaws.{compact_u32_laws, compact_u64_laws, length_laws}
use Rattle.scale_wire.specs.FormLaws.{nothing_laws, pair_laws, triple_laws, seen_laws, list_laws, AreVariants, HasChoice, given_at, enum_laws}
use Rattle.stake_pools.specs.declared.input.PoolKind.{PoolKind}
use Rattle.stake_pools.specs.declared.input.PoolKind.TheVariants as asked
use Rattle.stake_pools.specs.Input.{endowments_form, pool_genesis_form, kinds, kind_choice, kind_form, item_form}

endowments_laws : IsWire endowments_form
endowments_laws = list_laws (pair account_form compact_u64) MOST_ENDOWMENTS (length_laws MOST_ENDOWMENTS (lit< tt))
    (pair_laws account_form compact_u64 account_laws compact_u64_laws)

pub pool_genesis_laws : IsWire pool_genesis_form
pool_genesis_laws = seen_laws (triple endowments_form account_form compact_u32)
    (λ genesis. (genesis.endowments, genesis.pool, genesis.bonding_eras))
    (λ fields. record { endowments = fields.0; pool = fields.1; bonding_eras = fields.2 }) (λ genesis. refl) (λ fields. refl)
    (triple_laws endowments_form account_form compact_u32 endowments_laws account_laws compact_u32_laws)

-- Each kind keeps the laws, and is given by its tag and its field.
abbrev kinds_are : AreVariants kinds (HasChoice kinds kind_choice)
kinds_are = (
  compact_u64_laws,
  (λ values. (asked.Join values, refl)),
  (
    compact_u64_laws,
    (λ values. (asked.Leave values, refl)),
    (
      nothing_laws,
      (λ values. (asked.Redeem, refl)),
      (
        compact_u64_laws,
        (λ values. (asked.Reward values, refl)),
        (
          nothing_laws,
          (λ values. (asked.Claim, refl)),
          (compact_u64_laws, (λ values. (asked.Slash values, refl)), (nothing_laws, (λ values. (asked.NextEra, refl)), tt)),
        ),
      ),
    ),
  ),
)

-- no other kind has that tag and this field
kind_back : (kind : PoolKind) → (given_at kinds (HasChoice kinds kind_choice) kinds_are (kind_choice kind).tag (kind_choice kind).values).0 ≡ kind
kind_back (asked.Join value) = refl
kind_back kind = refl

pub kind_laws : IsWire kind_form
kind_laws = enum_laws kinds kind_choice kinds_are kind_back (tag_laws (length kinds))

pub item_laws : IsWire item_form
item_laws = seen_laws (pair account_form kind_form) (λ item. (item.who, item.kind))
    (λ fields. record { who = fields.0; kind = fields.1 }) (λ item. refl) (λ fields. refl)
    (pair_laws account_form kind_form account_laws kind_laws)
