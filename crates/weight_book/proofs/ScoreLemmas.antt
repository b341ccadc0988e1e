-- The supports of distinct members are within the sum of all amounts, and the least of them is found from above.
use Rattle.std.proofs.Common.{◌≡◌, ℕ, ◌+◌, ◌*◌, ◌<◌, ◌≤◌, ◌^◌, ◌-◌, min, nat_eq, List, [], ◌∷◌, length, take, get_or, sum_by, fold, All, ap, sym, ◌∙◌, arith}
use Rattle.std.specs.List.{IsDistinct}
use Rattle.std.proofs.lemmas.List.Sums.{sum_by_more, sum_by-take-le, sum-map, fold_more, get_or-le-sum_by}
use Rattle.std.proofs.lemmas.List.Elements.{All-head}
use Rattle.std.proofs.lemmas.List.{get_or-map, length-map, take_all}
use Rattle.npos_base.specs.declared.figures.Edge.{Edge}
use Rattle.npos_base.specs.declared.figures.Score.{Score}
use Rattle.weight_book.specs.Weights.{Weights, support, amount_sum}
use Rattle.weight_book.specs.Scoring.{least, supports, score_of}
use Rattle.weight_book.proofs.SumLemmas.{parts_le}

-- what the first members score
pub record IsScored (weights : Weights) (i : ℕ) (score : Score) : Type 0 where
  pub minimal : score.minimal ≡ fold min (2 ^ 64 - 1) (take i (supports weights))
  pub sum : score.sum ≡ sum_by (λ number. number) (take i (supports weights))
  pub squares : score.squares ≡ sum_by (λ number. number * number) (take i (supports weights))
  pub bounded : score.squares ≤ score.sum * score.sum

supports_sum : (weights : Weights) → IsDistinct nat_eq weights.committee → sum_by (λ number. number) (supports weights) ≤ amount_sum weights.edges
supports_sum weights distinct = rw (sum-map (support weights.edges) weights.committee)
    (parts_le (λ (edge : Edge). edge.target) (λ edge. edge.amount) weights.edges weights.committee distinct)

module _ (weights : Weights) (i d : ℕ) (h : i < length weights.committee) where
  in_supports : i < length (supports weights)
  in_supports = rw (length-map weights.committee (support weights.edges)) h

  at : get_or (supports weights) i 0 ≡ support weights.edges (get_or weights.committee i d)
  at = get_or-map (support weights.edges) weights.committee i d 0 h

  -- one support more is still within the sum
  pub supports_more : IsDistinct nat_eq weights.committee
      → sum_by (λ number. number) (take i (supports weights)) + support weights.edges (get_or weights.committee i d) ≤ amount_sum weights.edges
  supports_more distinct =
      let more = sum_by_more (λ (n : ℕ). n) (supports weights) i 0 in_supports in
      let within = sum_by-take-le (λ (n : ℕ). n) (supports weights) (i + 1) in
      omega (arith, supports_sum weights distinct, more, within, at)

  pub scored_more : (old : Score) (member minimal sum squares : ℕ) → member ≡ support weights.edges (get_or weights.committee i d) → IsScored weights i old
      → minimal ≡ min old.minimal member → sum ≡ old.sum + member → squares ≡ old.squares + member * member
      → IsScored weights (i + 1) (record { minimal = minimal; sum = sum; squares = squares })
  scored_more old member minimal sum squares is scored less more square = record {
    minimal = less ∙ ap (λ n. min n member) scored.minimal ∙ ap (λ n. min (fold min (2 ^ 64 - 1) (take i (supports weights))) n) (is ∙ sym at)
        ∙ sym (fold_more min (2 ^ 64 - 1) (supports weights) i 0 in_supports);
    sum = omega (arith, more, scored.sum, is, at, sum_by_more (λ (n : ℕ). n) (supports weights) i 0 in_supports);
    squares = square ∙ ap (λ n. n + member * member) scored.squares
        ∙ ap (λ n. sum_by (λ number. number * number) (take i (supports weights)) + n * n) (is ∙ sym at)
        ∙ sym (sum_by_more (λ (n : ℕ). n * n) (supports weights) i 0 in_supports);
    bounded = rw (square, more) (squared old.sum member old.squares scored.bounded);
  } where
    squared : (a b s : ℕ) → s ≤ a * a → s + b * b ≤ (a + b) * (a + b)
    squared a b s h = grind (arith)

least_from : (top : ℕ) (numbers : List ℕ) → 1 ≤ length numbers → All (λ n. n ≤ top) numbers → fold min top numbers ≡ least numbers
least_from top [] h all = absurd (omega arith)
least_from top (n ∷ numbers) h all = ap (λ m. fold min m numbers) (omega (arith, All-head (λ n. n ≤ top) n numbers all))

pub scored_all : (weights : Weights) (i : ℕ) (score : Score) → IsScored weights i score → length weights.committee ≤ i
    → 1 ≤ length weights.committee → IsDistinct nat_eq weights.committee → amount_sum weights.edges < 2 ^ 64 → score ≡ score_of weights
scored_all weights i score scored h some distinct fits =
    let all : take i (supports weights) ≡ supports weights = take_all i (supports weights) (rw (length-map weights.committee (support weights.edges)) h) in
    let minimal : score.minimal ≡ least (supports weights) = scored.minimal ∙ ap (fold min (2 ^ 64 - 1)) all
    ∙ least_from (2 ^ 64 - 1) (supports weights) (rw (length-map weights.committee (support weights.edges)) some)
    (λ k d l. omega (arith, get_or-le-sum_by (λ (n : ℕ). n) (supports weights) k d l, supports_sum weights distinct)) in
    let sum : score.sum ≡ sum_by (λ number. number) (supports weights) = scored.sum ∙ ap (sum_by (λ number. number)) all in
    let squares : score.squares ≡ sum_by (λ number. number * number) (supports weights) = scored.squares ∙ ap (sum_by (λ number. number * number)) all in
    same score (score_of weights) minimal sum squares
  where
    same : (a b : Score) → a.minimal ≡ b.minimal → a.sum ≡ b.sum → a.squares ≡ b.squares → a ≡ b
    same a b p q r = λ i. record { minimal = p i; sum = q i; squares = r i }
