-- The election that a seed generates, with so many voters and seats.
use Rattle.std.specs.Prelude.{ℕ, zero, suc, ◌+◌, ◌*◌, ◌/◌, ◌%◌, ◌^◌, min, List, map}
use Rattle.std.specs.List.{range_with_len}
use Rattle.npos_base.specs.declared.account.AccountId.{AccountId}
use Rattle.election_snapshot.specs.Snapshot.{Voter, Snapshot}

-- ## The draws of a linear congruential generator with 64 bits

abbrev pub next_state : ℕ → ℕ
next_state state = (state * 6364136223846793005 + 1442695040888963407) % 2 ^ 64

-- the state behind so many draws
abbrev pub state_after : ℕ → ℕ → ℕ
state_after seed zero = seed
state_after seed (suc draws) = next_state (state_after seed draws)

-- a draw tells the upper 31 bits of the state that it makes
abbrev pub drawn : ℕ → ℕ
drawn state = state / 2 ^ 33

-- ## The election

-- four targets a seat
abbrev pub target_count : ℕ → ℕ
target_count seats = 4 * seats

abbrev pub target_account : ℕ → AccountId
target_account place = record { hi = 0; lo = place + 1 }

abbrev pub voter_account : ℕ → AccountId
voter_account place = record { hi = 1; lo = place + 1 }

-- from one million up, and below two
abbrev pub stake_from : ℕ → ℕ
stake_from draw = 1000000 + draw % 1000000

-- No more votes are drawn. It stays 16 whatever nominators may name, so that a seed generates the
-- same election from then on.
abbrev pub most_drawn : ℕ
most_drawn = 16

-- one vote at least, and no more than that, or than there are targets
abbrev pub count_from : ℕ → ℕ → ℕ
count_from targets draw = 1 + draw % min targets most_drawn

-- so many votes from the first on, and from the last target on to target 0
abbrev pub votes_round : ℕ → ℕ → ℕ → List ℕ
votes_round targets first count = map (λ i. (first + i) % targets) (range_with_len 0 count)

-- what the three draws from this state on make of the voter of this place
abbrev pub voter_from : ℕ → ℕ → ℕ → Voter
voter_from targets state place = record {
  account = voter_account place;
  stake = stake_from (drawn (state_after state 1));
  votes = votes_round targets (drawn (state_after state 3) % targets)
      (count_from targets (drawn (state_after state 2)));
}

-- each voter takes the next three draws
abbrev pub voter_of : ℕ → ℕ → ℕ → Voter
voter_of seed targets place = voter_from targets (state_after seed (3 * place)) place

abbrev pub targets_of : ℕ → List AccountId
targets_of count = map target_account (range_with_len 0 count)

abbrev pub voters_of : ℕ → ℕ → ℕ → List Voter
voters_of seed targets count = map (voter_of seed targets) (range_with_len 0 count)

abbrev pub generated : ℕ → ℕ → ℕ → Snapshot
generated seed voters seats = record {
  targets = targets_of (target_count seats);
  voters = voters_of seed (target_count seats) voters;
  seats = seats;
}
