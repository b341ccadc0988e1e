-- How the lines of parts of a step add up.
use Rattle.std.proofs.Common.{◌≡◌, List, ◌++◌, ◌∙◌, ap, append_assoc}
use Rattle.npos_runtime.specs.declared.chain.Chain.{Chain}
use Rattle.block_receipts.specs.declared.line.Line.{Line}
use Rattle.npos_runtime.specs.Rules.Outcome.{Outcome, Told, Goes, after, told_after}

same_told : (a b : Told) → a.state ≡ b.state → a.lines ≡ b.lines → a ≡ b
same_told a b state lines = λ i. record { state = state i; lines = lines i }

-- what was told already stands before what is told next
pub told_more : (first : Outcome) (next : Chain → Outcome) (new : Chain) (told_old told_new : List Line) → Goes first new told_old told_new
    → told_after told_new (next new) ≡ told_after told_old (after first next)
told_more first next new told_old told_new goes =
    same_told (told_after told_new (next new)) (told_after told_old (after first next))
    (ap (λ (c : Chain). (next c).state) goes.state)
    ((λ i. goes.lines i ++ (next (goes.state i)).lines) ∙ append_assoc told_old first.lines (next first.state).lines)
