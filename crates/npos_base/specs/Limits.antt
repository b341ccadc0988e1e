-- The limits of a chain, in numbers: what the specifications of all rooms cite by name.
use Rattle.std.specs.Prelude.{◌≡◌, ℕ, Bool, ◌&&◌, nat_le}
use Rattle.npos_base.specs.declared.limits.TheConstants.{MOST_NOMINATIONS, MOST_VALIDATORS, MOST_TARGETS, MOST_VOTERS}
use Rattle.npos_base.specs.declared.limits.TheConstants.{MOST_EDGES, MOST_SEATS, MOST_THRESHOLDS, MOST_ENDOWMENTS}
use Rattle.npos_base.specs.declared.limits.TheConstants.{MOST_SOLUTION_BYTES, MOST_ROUNDS, MOST_QUEUED, MOST_PAST_ERAS, WHOLE_FRACTION}

pub record AreTheLimits : Type 0 where
  pub nominations : MOST_NOMINATIONS ≡ 24
  pub validators : MOST_VALIDATORS ≡ 2048
  pub targets : MOST_TARGETS ≡ 2048
  pub voters : MOST_VOTERS ≡ 16384
  pub edges : MOST_EDGES ≡ 262144
  pub seats : MOST_SEATS ≡ 512
  pub thresholds : MOST_THRESHOLDS ≡ 200
  pub endowments : MOST_ENDOWMENTS ≡ 65536
  pub solution_bytes : MOST_SOLUTION_BYTES ≡ 2097152
  pub rounds : MOST_ROUNDS ≡ 100
  pub queued : MOST_QUEUED ≡ 16
  pub past_eras : MOST_PAST_ERAS ≡ 84
  pub fraction : WHOLE_FRACTION ≡ 1000000000

-- the number is at least the one and at most the other
abbrev pub is_within : ℕ → ℕ → ℕ → Bool
is_within least most number = nat_le least number && nat_le number most
