-- Targets are named by their places. While they are looked for they have marks: their places, as far as
-- 32 bits hold them.
use Rattle.std.specs.Prelude.{◌≡◌, ◌≢◌, ◌||◌, ℕ, nat_eq, Bool, false, List, [], ◌∷◌, length, Some, slice_get}
use Rattle.std.specs.List.{list_any}
use Rattle.npos_base.specs.declared.account.AccountId.{AccountId}
use Rattle.voter_lists.specs.Roles.{has_repeated_account}

-- the mark of an account whose place is not known, which is the last number of 32 bits
abbrev pub unknown : ℕ
unknown = 4294967295

-- any other mark is the place of the account
abbrev pub IsMark : List AccountId → ℕ → AccountId → Type 0
IsMark accounts mark who = mark ≢ unknown → slice_get accounts mark ≡ Some who

-- a mark for each target, in their order
pub record AreMarks (accounts : List AccountId) (marks : List ℕ) (targets : List AccountId) : Type 0 where
  pub count : length marks ≡ length targets
  pub each : (i mark : ℕ) (target : AccountId) → slice_get marks i ≡ Some mark
      → slice_get targets i ≡ Some target → IsMark accounts mark target

-- the place of each target, in their order
pub record AreNamed (accounts : List AccountId) (places : List ℕ) (targets : List AccountId)
    : Type 0 where
  pub count : length places ≡ length targets
  pub each : (i place : ℕ) (target : AccountId) → slice_get places i ≡ Some place
      → slice_get targets i ≡ Some target → slice_get accounts place ≡ Some target

-- who has a place keeps it
abbrev pub KeepPlaces : List AccountId → List AccountId → Type 0
KeepPlaces old new = (place : ℕ) (who : AccountId) → slice_get old place ≡ Some who
    → slice_get new place ≡ Some who

-- some mark stands twice
abbrev pub has_repeated_mark : List ℕ → Bool
has_repeated_mark [] = false
has_repeated_mark (mark ∷ marks) = list_any (λ other. nat_eq other mark) marks || has_repeated_mark marks

-- where all marks are known, some mark stands twice exactly if some target does
abbrev pub RepeatAlike : List ℕ → List AccountId → Type 0
RepeatAlike marks targets = list_any (λ mark. nat_eq mark unknown) marks ≡ false
    → has_repeated_mark marks ≡ has_repeated_account targets
