-- Accounts that are named by their places.
use Rattle.std.proofs.Common.{◌≡◌, ◌≢◌, ◌∙◌, ℕ, zero, suc, ◌<◌, false, nat_eq, List, [], ◌∷◌, length, slice_get, get_or, Option, Some, None, is_some, refl, ap, ap₂, sym, subst, true≢false, arith}
use Rattle.std.specs.List.{list_any, cons_option}
use Rattle.std.proofs.lemmas.Bool.{or_parts}
use Rattle.std.proofs.lemmas.List.Elements.{All-cons, All-nil, All-head, All-tail}
use Rattle.std.proofs.lemmas.Option.{none-some, same_Some, slice_get_within, slice_get-get_or, get_or_from_slice_get}
use Rattle.npos_base.specs.declared.account.AccountId.{AccountId}
use Rattle.npos_base.proofs.NumberTests.{number_same}
use Rattle.voter_lists.specs.declared.standing.Standing.{Standing}
use Rattle.voter_lists.specs.declared.standing.Standing.TheVariants as standing
use Rattle.voter_lists.specs.declared.standing.Role.TheVariants as role
use Rattle.voter_lists.specs.Marks.{unknown, AreMarks, AreNamed, KeepPlaces}
use Rattle.voter_lists.specs.Noted.{Noted, Idle, Validating, Naming, accounts_at, AreWithin, IsPlaced, NotesTargets, role_noted, places_noted, standing_noted, validates}
use Rattle.voter_lists.specs.Roles.{role_in, is_validator_in}

-- ---- places that name accounts

-- marks are places where all are known
pub near_named : (accounts : List AccountId) (marks : List ℕ) (targets : List AccountId)
    → AreMarks accounts marks targets → list_any (λ mark. nat_eq mark unknown) marks ≡ false
    → AreNamed accounts marks targets
near_named accounts marks targets are known = record {
  count = are.count;
  each = λ i mark target there named. are.each i mark target there named (known_at marks i mark known there);
} where
  known_at : (marks : List ℕ) (i mark : ℕ) → list_any (λ mark. nat_eq mark unknown) marks ≡ false → slice_get marks i ≡ Some mark → mark ≢ unknown
  known_at [] i mark known there same = none-some mark there
  known_at (first ∷ marks) zero mark known there same =
      true≢false (sym (number_same unknown) ∙ ap (λ n. nat_eq n unknown) (sym same)
      ∙ ap (λ n. nat_eq n unknown) (sym (same_Some first mark there))
      ∙ (or_parts (nat_eq first unknown) (list_any (λ m. nat_eq m unknown) marks) known).0)
  known_at (first ∷ marks) (suc i) mark known there same = known_at marks i mark (or_parts (nat_eq first unknown) (list_any (λ m. nat_eq m unknown) marks) known).1 there same

later_named : (accounts : List AccountId) (place : ℕ) (places : List ℕ) (target : AccountId)
    (targets : List AccountId) → AreNamed accounts (place ∷ places) (target ∷ targets)
    → AreNamed accounts places targets
later_named accounts place places target targets are = record { count = omega (arith, are.count); each = λ i other account there named. are.each (suc i) other account there named }

-- so they are within, and at them are the targets
pub named_within : (accounts : List AccountId) (places : List ℕ) (targets : List AccountId) → AreNamed accounts places targets → AreWithin accounts places
named_within accounts [] targets are = All-nil (λ place. place < length accounts)
named_within accounts (place ∷ places) [] are = absurd (omega (arith, are.count))
named_within accounts (place ∷ places) (target ∷ targets) are =
    All-cons (λ place. place < length accounts) place places (slice_get_within accounts place target (are.each 0 place target refl refl))
    (named_within accounts places targets (later_named accounts place places target targets are))

pub named_targets : (accounts : List AccountId) (places : List ℕ) (targets : List AccountId) → AreNamed accounts places targets → accounts_at accounts places ≡ targets
named_targets accounts [] [] are = refl
named_targets accounts [] (target ∷ targets) are = absurd (omega (arith, are.count))
named_targets accounts (place ∷ places) [] are = absurd (omega (arith, are.count))
named_targets accounts (place ∷ places) (target ∷ targets) are =
    ap₂ (λ o rest. cons_option o rest) (are.each 0 place target refl refl) (named_targets accounts places targets (later_named accounts place places target targets are))

pub notes_named : (accounts : List AccountId) (places : List ℕ) (targets : List AccountId) → AreNamed accounts places targets → NotesTargets accounts (Naming places) targets
notes_named accounts places targets are = record {
  placed = named_within accounts places targets are;
  standing =
      ap (λ named. Some (standing.Nominator named)) (named_targets accounts places targets are);
}

-- ---- who has a place keeps it

pub kept_same : (old new : List AccountId) → new ≡ old → KeepPlaces old new
kept_same old new same place who there = ap (λ accounts. slice_get accounts place) same ∙ there

kept_below : (old new : List AccountId) (place : ℕ) → KeepPlaces old new → place < length old → place < length new
kept_below old new place kept below = slice_get_within new place (get_or old place first) (kept place (get_or old place first) (slice_get-get_or old place first below)) where
  first : AccountId
  first = record { hi = 0; lo = 0 }

pub kept_within : (old new : List AccountId) (places : List ℕ) → KeepPlaces old new → AreWithin old places → AreWithin new places
kept_within old new [] kept within = All-nil (λ place. place < length new)
kept_within old new (place ∷ places) kept within =
    All-cons (λ place. place < length new) place places (kept_below old new place kept (All-head (λ place. place < length old) place places within))
    (kept_within old new places kept (All-tail (λ place. place < length old) place places within))

pub kept_accounts : (old new : List AccountId) (places : List ℕ) → KeepPlaces old new → AreWithin old places → accounts_at new places ≡ accounts_at old places
kept_accounts old new [] kept within = refl
kept_accounts old new (place ∷ places) kept within =
    let below : place < length old = All-head (λ place. place < length old) place places within in
    let there : slice_get old place ≡ Some (get_or old place (record { hi = 0; lo = 0 })) = slice_get-get_or old place (record { hi = 0; lo = 0 }) below in
    ap₂ (λ o rest. cons_option o rest) (kept place _ there ∙ sym there) (kept_accounts old new places kept (All-tail (λ place. place < length old) place places within))

pub kept_placed : (old new : List AccountId) (noted : Noted) → KeepPlaces old new → IsPlaced old noted → IsPlaced new noted
kept_placed old new noted kept placed = kept_within old new (places_noted noted) kept placed

pub kept_standing : (old new : List AccountId) (noted : Noted) → KeepPlaces old new → IsPlaced old noted → standing_noted new noted ≡ standing_noted old noted
kept_standing old new Idle kept placed = refl
kept_standing old new (Validating commission) kept placed = refl
kept_standing old new (Naming places) kept placed = ap (λ named. Some (standing.Nominator named)) (kept_accounts old new places kept placed)

-- ---- the accounts at places, one by one

pub count_at : (accounts : List AccountId) (places : List ℕ) → AreWithin accounts places → length (accounts_at accounts places) ≡ length places
count_at accounts [] within = refl
count_at accounts (place ∷ places) within =
    let below : place < length accounts = All-head (λ place. place < length accounts) place places within in
    let there : slice_get accounts place ≡ Some (get_or accounts place (record { hi = 0; lo = 0 })) = slice_get-get_or accounts place (record { hi = 0; lo = 0 }) below in
    ap (λ o. length (cons_option o (accounts_at accounts places))) there
    ∙ ap suc (count_at accounts places (All-tail (λ place. place < length accounts) place places within))

pub account_at : (accounts : List AccountId) (places : List ℕ) (i place : ℕ) → AreWithin accounts places
    → slice_get places i ≡ Some place → slice_get (accounts_at accounts places) i ≡ slice_get accounts place
account_at accounts [] i place within there = absurd (none-some place there)
account_at accounts (first ∷ places) i place within there =
    at_number i there (λ later is. account_at accounts places later place (All-tail (λ place. place < length accounts) first places within) is) where
      head : slice_get accounts first ≡ Some (get_or accounts first (record { hi = 0; lo = 0 }))
      head = slice_get-get_or accounts first (record { hi = 0; lo = 0 }) (All-head (λ place. place < length accounts) first places within)

      at_number : (i : ℕ) → slice_get (first ∷ places) i ≡ Some place → ((later : ℕ) → slice_get places later ≡ Some place → slice_get (accounts_at accounts places) later ≡ slice_get accounts place)
          → slice_get (cons_option (slice_get accounts first) (accounts_at accounts places)) i ≡ slice_get accounts place
      at_number zero is rest = ap (λ o. slice_get (cons_option o (accounts_at accounts places)) 0) head ∙ sym head ∙ ap (slice_get accounts) (same_Some first place is)
      at_number (suc i) is rest = ap (λ o. slice_get (cons_option o (accounts_at accounts places)) (suc i)) head ∙ rest i is

pub within_at : (accounts : List AccountId) (places : List ℕ) (i place : ℕ) → AreWithin accounts places → slice_get places i ≡ Some place → place < length accounts
within_at accounts places i place within there =
    subst (λ n. n < length accounts) (get_or_from_slice_get places i place place there) (within i place (slice_get_within places i place there))

-- ---- what is noted of an account

pub role_of_noted : (accounts : List AccountId) (noted : Noted) → role_in (standing_noted accounts noted) ≡ role_noted noted
role_of_noted accounts Idle = refl
role_of_noted accounts (Validating commission) = refl
role_of_noted accounts (Naming places) = refl

-- who is nobody has no standing
pub nobody_absent : (standing : Option Standing) → role_in standing ≡ role.Nobody → is_some standing ≡ false
nobody_absent None is = refl
nobody_absent (Some (standing.Nominator targets)) is = absurd (cc)
nobody_absent (Some (standing.Validator commission)) is = absurd (cc)

pub validates_noted : (standing : Option Standing) → validates (role_in standing) ≡ is_validator_in standing
validates_noted None = refl
validates_noted (Some (standing.Nominator targets)) = refl
validates_noted (Some (standing.Validator commission)) = refl
