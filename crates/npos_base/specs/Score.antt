-- Which of two scores of solutions is better.
use Rattle.std.specs.Prelude.{Bool, nat_lt, ◌==◌, ◌&&◌, ◌||◌}
use Rattle.npos_base.specs.declared.figures.Score.{Score}

-- the minimal is greater; or it is equal and the sum is greater; or both are equal and the squares
-- are smaller
abbrev pub is_better : Score → Score → Bool
is_better score other =
    nat_lt other.minimal score.minimal
    || (score.minimal == other.minimal) && (nat_lt other.sum score.sum
    || (score.sum == other.sum) && nat_lt score.squares other.squares)
