use Rattle.weight_book.proofs.ScoreLemmas.{IsScored}
use Rattle.weight_book.proofs.weights.Weights.score.Given as goal

-- the score of the members so far
abbrev pub invariant-loop-member : goal.invariant-loop-member
invariant-loop-member l = IsScored l.self.plain l.member-index l.score
