-- How accounts are found: most by one of the slots that each of them has, and the others in order.
use Rattle.std.specs.Prelude.{◌≡◌, ◌≢◌, ◌⊎◌, ℕ, ◌+◌, ◌*◌, ◌/◌, ◌%◌, ◌^◌, ◌<◌, ◌≤◌, List, Some, slice_get, slice_index_or, bit_and}
use Rattle.npos_base.specs.declared.account.AccountId.{AccountId}
use Rattle.account_places.specs.Places.{place_in}

-- all bytes of an account, mixed
abbrev pub mixed : AccountId → ℕ
mixed who =
    ((((who.hi / 2 ^ 64 + bit_and who.hi 0xffff_ffff_ffff_ffff) % 2 ^ 64 + who.lo / 2 ^ 64) % 2 ^ 64
    + bit_and who.lo 0xffff_ffff_ffff_ffff) % 2 ^ 64 * 0x9e37_79b9_7f4a_7c15) % 2 ^ 64

-- what spreads accounts over so many slots: the first slot of the account, and its tag
abbrev pub spread_in : ℕ → AccountId → ℕ
spread_in count who = mixed who / 2 ^ 32 * count % 2 ^ 64

abbrev pub slot_in : ℕ → AccountId → ℕ
slot_in count who = spread_in count who / 2 ^ 32

abbrev pub tag_in : ℕ → AccountId → ℕ
tag_in count who = spread_in count who % 2 ^ 32

-- the mark of a place under a tag is their sum, and is not that of a free slot
pub record IsMark (tag place mark : ℕ) : Type 0 where
  pub small : place < 2 ^ 32
  pub taken : mark ≢ 0
  pub sum : mark ≡ (tag + place) % 2 ^ 32

-- the mark of a slot; beyond the slots there is one too
abbrev pub mark_at : List ℕ → ℕ → ℕ
mark_at slots slot = slice_index_or slots slot 1

-- no slot from the first up to another is free
abbrev pub AreTaken : List ℕ → ℕ → ℕ → Type 0
AreTaken slots first end = (slot : ℕ) → first ≤ slot → slot < end → mark_at slots slot ≢ 0

-- no slot from the first up to another is free any more, and what was taken stays as it was
pub record AreFilled (old new : List ℕ) (first end : ℕ) : Type 0 where
  pub taken : AreTaken new first end
  pub kept : (slot : ℕ) → mark_at old slot ≢ 0 → mark_at new slot ≡ mark_at old slot

-- the first free one of four slots
pub record IsFree (slots : List ℕ) (first slot : ℕ) : Type 0 where
  pub after : first ≤ slot
  pub before : slot < first + 4
  pub free : mark_at slots slot ≡ 0
  pub taken : AreTaken slots first slot

-- one of four slots, with none before it that is free, has the mark of the place
pub record IsMarked (slots : List ℕ) (first tag place slot : ℕ) : Type 0 where
  pub after : first ≤ slot
  pub before : slot < first + 4
  pub mark : IsMark tag place (mark_at slots slot)
  pub taken : AreTaken slots first slot

-- all four slots of the account are taken, and the crowd tells its place
pub record IsCrowded (slots : List ℕ) (first : ℕ) (crowd : List (AccountId × ℕ)) (who : AccountId)
    (place : ℕ) : Type 0 where
  pub taken : AreTaken slots first (first + 4)
  pub told : place_in crowd who ≡ Some place

-- a slot of the account has the mark of its place, or the account is in the crowd
abbrev pub IsFound : List ℕ → ℕ → List (AccountId × ℕ) → AccountId → ℕ → Type 0
IsFound slots count crowd who place =
    ((slot : ℕ) × IsMarked slots (slot_in count who) (tag_in count who) place slot)
    ⊎ IsCrowded slots (slot_in count who) crowd who place

-- each account at a place below the limit is found, and who is in the crowd stands where it says
pub record Finds (slots : List ℕ) (count : ℕ) (crowd : List (AccountId × ℕ)) (accounts : List AccountId)
    (limit : ℕ) : Type 0 where
  pub found : (who : AccountId) (place : ℕ) → place < limit → slice_get accounts place ≡ Some who
      → IsFound slots count crowd who place
  pub standing : (who : AccountId) (place : ℕ) → place_in crowd who ≡ Some place
      → slice_get accounts place ≡ Some who

-- no account stands twice
abbrev pub StandOnce : List AccountId → Type 0
StandOnce accounts = (who : AccountId) (one other : ℕ) → slice_get accounts one ≡ Some who
    → slice_get accounts other ≡ Some who → one ≡ other
