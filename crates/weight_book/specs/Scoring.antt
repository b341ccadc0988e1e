-- The score of weights, by which solutions are compared.
use Rattle.std.specs.Prelude.{ℕ, ◌*◌, min, List, [], ◌∷◌, map, sum_by, fold}
use Rattle.npos_base.specs.declared.figures.Score.{Score}
use Rattle.weight_book.specs.Weights.{Weights, support}

-- the least number of a list, 0 of an empty one
abbrev pub least : List ℕ → ℕ
least [] = 0
least (number ∷ numbers) = fold min number numbers

-- the supports of the members, in the order of the committee
abbrev pub supports : Weights → List ℕ
supports weights = map (support weights.edges) weights.committee

abbrev pub score_of : Weights → Score
score_of weights = record {
  minimal = least (supports weights);
  sum = sum_by (λ number. number) (supports weights);
  squares = sum_by (λ number. number * number) (supports weights);
}
