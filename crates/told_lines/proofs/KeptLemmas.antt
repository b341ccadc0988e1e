-- What was told before still stands.
use Rattle.std.proofs.Common.{◌≡◌, ℕ, List, [], ◌∷◌, ◌++◌, length, take, refl, ap, ap₂, ◌∙◌}
use Rattle.told_lines.specs.Texts.{Keeps}

-- behind what stood
pub kept_behind : (old more : List ℕ) → Keeps old (old ++ more)
kept_behind [] more = refl
kept_behind (byte ∷ old) more = ap (λ bytes. byte ∷ bytes) (kept_behind old more)

same_first : (x y : ℕ) (xs ys : List ℕ) → x ∷ xs ≡ y ∷ ys → x ≡ y
same_first x y xs ys e = cc

same_rest : (x y : ℕ) (xs ys : List ℕ) → x ∷ xs ≡ y ∷ ys → xs ≡ ys
same_rest x y xs ys e = cc

-- one call after the other
pub kept_on : (old mid new : List ℕ) → Keeps old mid → Keeps mid new → Keeps old new
kept_on [] mid new first second = refl
kept_on (x ∷ old) [] new first second = cc
kept_on (x ∷ old) (y ∷ mid) [] first second = cc
kept_on (x ∷ old) (y ∷ mid) (z ∷ new) first second =
    ap₂ (λ byte bytes. byte ∷ bytes)
    (same_first z y (take (length mid) new) mid second ∙ same_first y x (take (length old) mid) old first)
    (kept_on old mid new (same_rest y x (take (length old) mid) old first) (same_rest z y (take (length mid) new) mid second))
