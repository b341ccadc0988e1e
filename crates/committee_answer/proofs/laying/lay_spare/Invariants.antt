use Rattle.std.proofs.Common.{◌≡◌, ℕ, ◌<◌, cond}
use Rattle.election_snapshot.specs.Snapshot.{has}
use Rattle.committee_answer.specs.Offers.{at}
use Rattle.committee_answer.proofs.laying.lay_spare.Given as goal

abbrev pub invariant-loop-target : goal.invariant-loop-target
invariant-loop-target l = (target : ℕ) → target < l.target → at l.spare target ≡ cond (has l.committee target) l.total 0
