-- Numbers that rise are different.
use Rattle.std.proofs.Common.{◌≡◌, ℕ, suc, ◌<◌, false, nat_eq, List, [], ◌∷◌, get_or, All, refl, arith}
use Rattle.std.specs.List.{AllPairs}
use Rattle.std.specs.List.Sorted.{IsStrictlyIncreasing}
use Rattle.std.proofs.lemmas.Bool.{ne_eqb}
use Rattle.std.proofs.lemmas.List.Folds.{list_any_none}
use Rattle.std.proofs.lemmas.List.Kept.{AllPairs-from_increasing}
use Rattle.election_snapshot.specs.Draft.{has_repeat}

none_repeats : (numbers : List ℕ) → AllPairs (λ a b. a < b) numbers → has_repeat numbers ≡ false
none_repeats [] rise = refl
none_repeats (number ∷ numbers) rise = rw (list_any_none (λ other. nat_eq other number) numbers apart) (none_repeats numbers rest) where
  apart : All (λ other. nat_eq other number ≡ false) numbers
  apart k d within =
      let above : number < get_or numbers k d = rise 0 (suc k) d (omega arith) (omega (arith, within)) in
      ne_eqb (get_or numbers k d) number (λ same. absurd (omega (arith, above, same)))

  rest : AllPairs (λ a b. a < b) numbers
  rest i j d before within = rise (suc i) (suc j) d (omega (arith, before)) (omega (arith, within))

pub rising_repeat_nothing : (numbers : List ℕ) → IsStrictlyIncreasing numbers → has_repeat numbers ≡ false
rising_repeat_nothing numbers rising = none_repeats numbers (AllPairs-from_increasing numbers rising)
