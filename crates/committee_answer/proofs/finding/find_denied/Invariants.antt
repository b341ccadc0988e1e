use Rattle.std.proofs.Common.{ℕ, ◌<◌}
use Rattle.weight_book.specs.Answered.{IsDenied}
use Rattle.committee_answer.specs.Search.{AreTables}
use Rattle.committee_answer.proofs.finding.find_denied.Given as goal

abbrev pub invariant-loop-target : goal.invariant-loop-target
invariant-loop-target l = AreTables l.snapshot l.search × ((lower : ℕ) → lower < l.target → IsDenied l.snapshot l.committee lower → ⊥)
