-- Supports in a table, as edges come.
use Rattle.std.proofs.Common.{◌≡◌, ℕ, ◌+◌, ◌^◌, ◌<◌, cond, nat_eq, List, [], ◌∷◌, ◌++◌, length, take, get_or, subst, sym, arith}
use Rattle.std.proofs.lemmas.List.{length-append, take_more}
use Rattle.std.proofs.lemmas.Bool.{cond_both}
use Rattle.npos_base.specs.declared.figures.Edge.{Edge}
use Rattle.weight_book.specs.Weights.{support}
use Rattle.weight_book.specs.Kept.{AreSupports}
use Rattle.weight_book.proofs.SumLemmas.{sum_filter_push}

-- what the edge gives to the target
abbrev given : Edge → ℕ → ℕ
given edge target = cond (nat_eq edge.target target) edge.amount 0

-- one more edge gives to its target
supports_pushed : (edges : List Edge) (edge : Edge) (old new : List ℕ) → AreSupports edges old → edge.amount < 2 ^ 64
    → ((target : ℕ) → target < length old → get_or new target 0 ≡ get_or old target 0 + given edge target)
    → length new ≡ length old → AreSupports (edges ++ edge ∷ []) new
supports_pushed edges edge old new kept fits raised count = record {
  are_sums = λ target within. omega (
    arith,
    raised target (omega (arith, within, count)),
    kept.are_sums target (omega (arith, within, count)),
    more target,
  );
  bounded = λ target. omega (
    arith,
    more target,
    kept.bounded target,
    length-append edges (edge ∷ []),
    cond_both (nat_eq edge.target target) edge.amount 0 (λ n. n < 2 ^ 64) (λ _. fits) (λ _. omega arith),
  );
} where
  more : (target : ℕ) → support (edges ++ edge ∷ []) target ≡ support edges target + given edge target
  more target = sum_filter_push (λ (e : Edge). nat_eq e.target target) (λ (e : Edge). e.amount) edges edge

-- the next edge of a list
pub supports_more : (edges : List Edge) (i : ℕ) (d : Edge) (old new : List ℕ) → i < length edges → AreSupports (take i edges) old
    → (get_or edges i d).amount < 2 ^ 64
    → ((target : ℕ) → target < length old → get_or new target 0 ≡ get_or old target 0 + given (get_or edges i d) target)
    → length new ≡ length old → AreSupports (take (i + 1) edges) new
supports_more edges i d old new within kept fits raised count = subst (λ (es : List Edge). AreSupports es new)
    (sym (take_more edges i d within)) (supports_pushed (take i edges) (get_or edges i d) old new kept fits raised count)
