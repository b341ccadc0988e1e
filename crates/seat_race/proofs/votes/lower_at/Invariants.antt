use Rattle.std.proofs.Common.{◌-◌, take}
use Rattle.seat_race.proofs.TableLemmas.{AreChanged}
use Rattle.seat_race.proofs.votes.lower_at.Given as goal

-- the amount is taken away at the votes so far
abbrev pub invariant-loop-vote : goal.invariant-loop-vote
invariant-loop-vote l = AreChanged (λ n. n - l.amount) 0 (take l.vote-index l.votes) l.fn.table l.table
