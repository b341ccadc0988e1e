use Rattle.std.proofs.Common.{◌≡◌, ℕ, ◌<◌, ◌||◌, take, length, false, get_or}
use Rattle.election_snapshot.specs.Snapshot.{has}
use Rattle.committee_answer.proofs.telling.mark_votes.Given as goal

abbrev pub invariant-loop-vote : goal.invariant-loop-vote
invariant-loop-vote l = (target : ℕ) → target < length l.fn.marks → get_or l.marks target false ≡ (get_or l.fn.marks target false || has (take l.vote-index l.votes) target)
