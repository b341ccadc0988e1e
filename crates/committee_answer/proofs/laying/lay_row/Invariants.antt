use Rattle.std.proofs.Common.{◌≡◌, ◌++◌, take}
use Rattle.committee_answer.specs.Offers.{row_of}
use Rattle.committee_answer.proofs.laying.lay_row.Given as goal

abbrev pub invariant-loop-target : goal.invariant-loop-target
invariant-loop-target l = l.edges.items ≡ l.fn.edges.items ++ row_of l.committee l.voter (take l.target-index l.votes)
