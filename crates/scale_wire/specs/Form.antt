-- What a type is in SCALE, the byte format of Substrate: how its values are spelled, and where and
-- why other bytes are refused.
use Rattle.std.specs.Prelude.{◌≡◌, ◌≢◌, ◌⊎◌, ℕ, ◌+◌, ◌*◌, ◌<◌, ◌≤◌, max, List, ◌++◌, length, Option, Some, None, IfSome, MatchOption, option_map}
use Rattle.std.specs.List.{AllByRecursion}
use Rattle.scale_wire.specs.declared.fault.Why.{Why}
use Rattle.scale_wire.specs.declared.fault.Why.TheVariants.{Short, Trailing}

-- a list of bytes
abbrev pub IsBytes : List ℕ → Type 0
IsBytes = AllByRecursion (λ byte. byte < 256)

-- `spelling` is the byte list of a value, and `in_range` says which values have one. `bad bytes at
-- why` says that the first `at` bytes spell the parts before some part, whole, and that the bytes
-- behind them are refused as that part, for that reason. No spelling is longer than `longest`, where
-- there is such a number.
pub record Form (V : Type 0) : Type 1 where
  pub spelling : V → List ℕ
  pub in_range : V → Type 0
  pub bad : List ℕ → ℕ → Why → Type 0
  pub longest : Option ℕ

-- the bytes begin with the spelling of a value in range
pub record Begins {V : Type 0} (form : Form V) (bytes : List ℕ) : Type 0 where
  pub value : V
  pub in_range : form.in_range value
  pub rest : List ℕ
  pub whole : bytes ≡ form.spelling value ++ rest

-- the bytes are refused, somewhere and for some reason
pub record IsRefused {V : Type 0} (form : Form V) (bytes : List ℕ) : Type 0 where
  pub at : ℕ
  pub why : Why
  pub bad : form.bad bytes at why

-- ## Longest spellings

abbrev pub IsAtMost : ℕ → Option ℕ → Type 0
IsAtMost size longest = IfSome longest (λ most. size ≤ most)

abbrev pub IsBelow : ℕ → Option ℕ → Type 0
IsBelow size longest = IfSome longest (λ most. size < most)

-- of one behind the other
abbrev pub both : Option ℕ → Option ℕ → Option ℕ
both (Some first) (Some second) = Some (first + second)
both _ _ = None

-- of as many, one behind the other
abbrev pub times : ℕ → Option ℕ → Option ℕ
times count longest = option_map (λ most. count * most) longest

-- of either
abbrev pub either : Option ℕ → Option ℕ → Option ℕ
either (Some one) (Some other) = Some (max one other)
either _ _ = None

-- ## Laws

-- What each form of a type keeps.
--   one_reading: no spelling begins another, and two values in range with one spelling are equal
--   covers, exclusive: bytes begin with a spelling or are refused, and never both
--   one_fault: bytes are refused at one place and for one reason
--   persists: a refusal stands whatever follows, unless bytes are missing
--   no_trailing: no part is refused as Trailing; that is for bytes behind a whole value alone
--   bounded, short: a spelling has at most `longest` bytes; where bytes are missing there are fewer.
--     Both say nothing of a form without a longest spelling.
pub record IsWire {V : Type 0} (form : Form V) : Type 0 where
  pub one_reading : (x y : V) (rest more : List ℕ) → form.in_range x → form.in_range y
      → form.spelling x ++ rest ≡ form.spelling y ++ more → (x ≡ y) × (rest ≡ more)
  pub covers : (bytes : List ℕ) → IsBytes bytes → Begins form bytes ⊎ IsRefused form bytes
  pub exclusive : (x : V) (rest : List ℕ) (at : ℕ) (why : Why) → form.in_range x
      → form.bad (form.spelling x ++ rest) at why → ⊥
  pub one_fault : (bytes : List ℕ) (at at' : ℕ) (why why' : Why)
      → form.bad bytes at why → form.bad bytes at' why'
      → (at ≡ at') × (why ≡ why')
  pub persists : (bytes more : List ℕ) (at : ℕ) (why : Why)
      → IsBytes bytes → why ≢ Short → form.bad bytes at why
      → form.bad (bytes ++ more) at why
  pub no_trailing : (bytes : List ℕ) (at : ℕ) → form.bad bytes at Trailing → ⊥
  pub bounded : (x : V) → form.in_range x → IsAtMost (length (form.spelling x)) form.longest
  pub short : (bytes : List ℕ) (at : ℕ) → form.bad bytes at Short → IsBelow (length bytes) form.longest

-- the form has a longest spelling, and it is shorter than this
abbrev pub IsShorter : {V : Type 0} → Form V → ℕ → Type 0
IsShorter form limit = MatchOption form.longest ⊥ (λ most. most < limit)

-- A part is spelled and refused as one: at its first byte, for the first reason that applies.
abbrev pub part : {V : Type 0} → (V → List ℕ) → (V → Type 0) → (List ℕ → Option Why) → ℕ → Form V
part spelling_of fits refusal most = record {
  spelling = spelling_of;
  in_range = fits;
  bad = λ bytes at why. (at ≡ 0) × (refusal bytes ≡ Some why);
  longest = Some most;
}
