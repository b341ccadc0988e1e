use Rattle.support_balance.proofs.SpreadLemmas.{IsSpreading}
use Rattle.support_balance.proofs.laying.put_joining.Given as goal

-- the slots of the notes from i on are put
abbrev pub invariant-loop-i : goal.invariant-loop-i
invariant-loop-i l = IsSpreading l.target l.joining l.fn.edges.items l.i l.from l.edges.items
