use Rattle.std.proofs.Common.{◌≡◌, ◌++◌, take}
use Rattle.committee_answer.specs.Offers.{rows}
use Rattle.committee_answer.proofs.laying.lay_rows.Given as goal

abbrev pub invariant-loop-voter : goal.invariant-loop-voter
invariant-loop-voter l = l.edges.items ≡ l.fn.edges.items ++ rows l.snapshot l.committee (take l.voter-index l.voters)
