-- Solutions keep the laws of a form.
use Rattle.std.specs.Prelude.{◌≡◌, ℕ, zero, suc, true, false, nat_eq, List, [], ◌∷◌, length, Some, refl}
use Rattle.std.proofs.Common.{lit<, ap, inl, arith}
use Rattle.scale_wire.specs.declared.fault.Why.TheVariants.{TooWide}
use Rattle.scale_wire.specs.Form.{IsWire, IsRefused}
use Rattle.scale_wire.specs.Parts.{compact_u16, compact_u32, length_refusal}
use Rattle.scale_wire.specs.Composite.{pair, triple, items, IsRow}
use Rattle.scale_wire.specs.FormLaws.{pair_laws, triple_laws, seen_laws, items_laws, list_laws, row_laws}
use Rattle.scale_wire.specs.CompactLaws.{compact_u16_laws, compact_u32_laws, length_laws}
use Rattle.scale_wire.specs.PartLaws.{some_left}
use Rattle.scale_wire.specs.MarkedLaws.{AreApart, marked_laws}
use Rattle.npos_base.specs.declared.limits.TheConstants.{MOST_VOTERS}
use Rattle.compact_solution.specs.declared.entry.TheConstants.{WIDE_MARK}
use Rattle.compact_solution.specs.Solution.{Entry, plain_groups, wide_groups, is_wide, share_form, entry_form, group_form, groups_form, solution_form}

pub share_laws : IsWire share_form
share_laws = seen_laws (pair compact_u16 compact_u16) (λ share. (share.target, share.parts))
    (λ fields. record { target = fields.0; parts = fields.1 }) (λ _. refl) (λ _. refl)
    (pair_laws compact_u16 compact_u16 compact_u16_laws compact_u16_laws)

pub entry_laws : (shares : ℕ) → IsWire (entry_form shares)
entry_laws shares = seen_laws (triple compact_u32 (items share_form shares) compact_u16)
    (λ entry. (entry.voter, entry.shares, entry.last))
    (λ fields. record { voter = fields.0; shares = fields.1; last = fields.2 }) (λ _. refl) (λ _. refl)
    (triple_laws compact_u32 (items share_form shares) compact_u16
    compact_u32_laws (items_laws share_form share_laws shares) compact_u16_laws)

pub group_laws : (shares : ℕ) → IsWire (group_form shares)
group_laws shares =
    list_laws (entry_form shares) MOST_VOTERS (length_laws MOST_VOTERS (lit< tt)) (entry_laws shares)

pub groups_laws : (groups : ℕ) → IsWire (groups_form groups)
groups_laws groups = row_laws group_form group_laws 0 groups

-- ## The two forms

pub groups_long : (first groups : ℕ) (solution : List (List Entry)) → IsRow group_form first groups solution
    → length solution ≡ groups
groups_long first zero [] fits = refl
groups_long first zero (group ∷ more) fits = absurd fits
groups_long first (suc groups) [] fits = absurd fits
groups_long first (suc groups) (group ∷ more) fits = omega (arith, groups_long (suc first) groups more fits.1)

abbrev no_entries : ℕ → List (List Entry)
no_entries zero = []
no_entries (suc groups) = [] ∷ no_entries groups

no_entries_fit : (first groups : ℕ) → IsRow group_form first groups (no_entries groups)
no_entries_fit first zero = tt
no_entries_fit first (suc groups) = ((omega arith, tt), no_entries_fit (suc first) groups)

plain_is_not_wide : (solution : List (List Entry)) → length solution ≡ plain_groups → is_wide solution ≡ false
unfolding plain_groups wide_groups
plain_is_not_wide solution long = ap (λ (n : ℕ). nat_eq n 24) long

wide_is_wide : (solution : List (List Entry)) → length solution ≡ wide_groups → is_wide solution ≡ true
unfolding wide_groups
wide_is_wide solution long = ap (λ (n : ℕ). nat_eq n 24) long

-- a length that begins with the mark announces more value bytes than a u32 has
mark_refused : (rest : List ℕ) → length_refusal MOST_VOTERS (WIDE_MARK ∷ rest) ≡ Some TooWide
mark_refused rest = rw (some_left WIDE_MARK rest) refl

solution_marked_refused : (rest : List ℕ) → IsRefused (groups_form plain_groups) (WIDE_MARK ∷ rest)
unfolding plain_groups
solution_marked_refused rest = record { at = 0; why = TooWide; bad = inl (inl (refl, mark_refused rest)) }

pub solution_apart : AreApart WIDE_MARK is_wide (groups_form plain_groups) (groups_form wide_groups)
solution_apart = record {
  plain_is = λ solution fits. plain_is_not_wide solution (groups_long 0 plain_groups solution fits);
  wide_is = λ solution fits. wide_is_wide solution (groups_long 0 wide_groups solution fits);
  marked_refused = solution_marked_refused;
  some = no_entries plain_groups;
  some_fits = no_entries_fit 0 plain_groups;
}

pub solution_laws : IsWire solution_form
solution_laws =
    marked_laws WIDE_MARK is_wide (groups_form plain_groups) (groups_form wide_groups)
    (groups_laws plain_groups) (groups_laws wide_groups) solution_apart
