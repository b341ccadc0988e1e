use Rattle.std.proofs.Common.{◌≡◌, ℕ, ◌*◌, take, sum, length}
use Rattle.seat_race.proofs.InLemmas.{In}
use Rattle.election_snapshot.specs.Snapshot.{stake_of}
use Rattle.weight_book.specs.Proportional.{group_stake}
use Rattle.committee_answer.specs.Offers.{at}
use Rattle.committee_answer.proofs.laying.lay_left.Given as goal

-- the first voters have their offers left, and nobody else anything
abbrev pub invariant-loop-voter : goal.invariant-loop-voter
invariant-loop-voter l = ((voter : ℕ) → In (take l.voter-index l.voters) voter → at l.left voter ≡ l.snapshot.seats * stake_of l.snapshot voter)
    × ((voter : ℕ) → (In (take l.voter-index l.voters) voter → ⊥) → at l.left voter ≡ 0)
    × (l.rest ≡ l.snapshot.seats * group_stake l.snapshot (take l.voter-index l.voters))
    × (l.rest ≡ sum l.left)
    × (length l.left ≡ length l.snapshot.voters)
