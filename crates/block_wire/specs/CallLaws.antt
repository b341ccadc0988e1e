-- Proofs: calls and blocks keep the laws of a form.
use Rattle.std.specs.Prelude.{◌≡◌, length, refl}
use Rattle.std.proofs.Common.{lit<}
use Rattle.scale_wire.specs.Form.{IsWire}
use Rattle.scale_wire.specs.Parts.{account_form, compact_u32, compact_u64}
use Rattle.scale_wire.specs.Values.{score_form}
use Rattle.scale_wire.specs.Composite.{pair, list, byte_list}
use Rattle.scale_wire.specs.PartLaws.{byte_string_laws, tag_laws}
use Rattle.scale_wire.specs.AccountLaws.{account_laws}
use Rattle.scale_wire.specs.ValueLaws.{score_laws}
use Rattle.scale_wire.specs.CompactLaws.{compact_u32_laws, compact_u64_laws, length_laws}
use Rattle.scale_wire.specs.FormLaws.{nothing_laws, pair_laws, triple_laws, seen_laws, list_laws, byte_list_laws, AreVariants, HasChoice, given_at, enum_laws}
use Rattle.npos_base.specs.declared.limits.TheConstants.{MOST_SOLUTION_BYTES}
use Rattle.block_wire.specs.declared.limits.TheConstants.{MOST_CALLS, MOST_NAMED, MOST_POINTS}
use Rattle.block_wire.specs.declared.call.CallKind.{CallKind}
use Rattle.block_wire.specs.declared.call.CallKind.TheVariants as calls
use Rattle.block_wire.specs.Calls.{kinds, kind_choice, kind_form, call_form, block_form}

-- ## The kinds of calls

named_laws : IsWire (list account_form MOST_NAMED)
named_laws = list_laws account_form MOST_NAMED (length_laws MOST_NAMED (lit< tt)) account_laws

points_laws : IsWire (list (pair account_form compact_u32) MOST_POINTS)
points_laws =
    list_laws (pair account_form compact_u32) MOST_POINTS (length_laws MOST_POINTS (lit< tt))
    (pair_laws account_form compact_u32 account_laws compact_u32_laws)

solution_laws : IsWire (byte_list MOST_SOLUTION_BYTES)
solution_laws = byte_list_laws MOST_SOLUTION_BYTES (length_laws MOST_SOLUTION_BYTES (lit< tt)) byte_string_laws

-- Each kind keeps the laws, and is given by its tag and its fields.
abbrev kinds_are : AreVariants kinds (HasChoice kinds kind_choice)
kinds_are = (
  pair_laws account_form compact_u64 account_laws compact_u64_laws,
  (λ values. (calls.Transfer values.0 values.1, refl)),
  (
    compact_u64_laws,
    (λ values. (calls.Bond values, refl)),
    (
      compact_u64_laws,
      (λ values. (calls.BondExtra values, refl)),
      (
        compact_u64_laws,
        (λ values. (calls.Unbond values, refl)),
        (
          compact_u64_laws,
          (λ values. (calls.Rebond values, refl)),
          (
            nothing_laws,
            (λ values. (calls.Withdraw, refl)),
            (
              named_laws,
              (λ values. (calls.Nominate values, refl)),
              (
                compact_u32_laws,
                (λ values. (calls.Validate values, refl)),
                (
                  nothing_laws,
                  (λ values. (calls.Chill, refl)),
                  (
                    account_laws,
                    (λ values. (calls.Rebag values, refl)),
                    (
                      account_laws,
                      (λ values. (calls.PutInFront values, refl)),
                      (
                        triple_laws compact_u32 score_form (byte_list MOST_SOLUTION_BYTES) compact_u32_laws score_laws solution_laws,
                        (λ values. (calls.Submit values.0 values.1 values.2, refl)),
                        (
                          points_laws,
                          (λ values. (calls.Points values, refl)),
                          (
                            pair_laws compact_u32 account_form compact_u32_laws account_laws,
                            (λ values. (calls.Payout values.0 values.1, refl)),
                            (
                              triple_laws compact_u32 account_form compact_u32 compact_u32_laws account_laws compact_u32_laws,
                              (λ values. (calls.Offence values.0 values.1 values.2, refl)),
                              (compact_u64_laws, (λ values. (calls.CancelSlash values, refl)), tt),
                            ),
                          ),
                        ),
                      ),
                    ),
                  ),
                ),
              ),
            ),
          ),
        ),
      ),
    ),
  ),
)

-- no other kind has that tag and these fields
kind_back : (kind : CallKind) → (given_at kinds (HasChoice kinds kind_choice) kinds_are (kind_choice kind).tag (kind_choice kind).values).0 ≡ kind
kind_back (calls.Transfer to value) = refl
kind_back kind = refl

pub kind_laws : IsWire kind_form
kind_laws = enum_laws kinds kind_choice kinds_are kind_back (tag_laws (length kinds))

-- ## Calls and blocks

pub call_laws : IsWire call_form
call_laws = seen_laws (pair account_form kind_form) (λ call. (call.who, call.kind))
    (λ fields. record { who = fields.0; kind = fields.1 }) (λ call. refl) (λ fields. refl)
    (pair_laws account_form kind_form account_laws kind_laws)

pub block_laws : IsWire block_form
block_laws = seen_laws (pair compact_u32 (list call_form MOST_CALLS)) (λ block. (block.number, block.calls))
    (λ fields. record { number = fields.0; calls = fields.1 }) (λ block. refl) (λ fields. refl)
    (pair_laws compact_u32 (list call_form MOST_CALLS) compact_u32_laws
    (list_laws call_form MOST_CALLS (length_laws MOST_CALLS (lit< tt)) call_laws))
