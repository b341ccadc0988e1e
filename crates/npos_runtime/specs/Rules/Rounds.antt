-- A round begins with its snapshot. It is void where there are fewer targets than seats, or too little stake.
use Rattle.std.specs.Prelude.{ℕ, ◌*◌, Bool, List, length, Option, Some, None, option_map, option_to_list, nat_lt, ◌||◌, if◌then◌else◌}
use Rattle.election_snapshot.specs.Snapshot.{Snapshot, total_stake}
use Rattle.npos_runtime.specs.declared.chain.Chain.{Chain}
use Rattle.npos_runtime.specs.declared.round.Round.{Round}
use Rattle.npos_runtime.specs.declared.round.Round.TheVariants as rounds
use Rattle.block_receipts.specs.declared.line.Line.{Line}
use Rattle.block_receipts.specs.declared.line.Line.TheVariants as lines
use Rattle.chain_params.specs.Rules.{begun_round}
use Rattle.npos_runtime.specs.Rules.Outcome.{Outcome, telling}
use Rattle.npos_runtime.specs.Rules.Ballots.{snapshot_of, commissions_of}

abbrev pub is_few : Snapshot → Bool
is_few snapshot = nat_lt (length snapshot.targets) snapshot.seats

-- each seat has to stand for at least as many units as there are seats
abbrev pub is_poor : Snapshot → Bool
is_poor snapshot = nat_lt (total_stake snapshot) (snapshot.seats * snapshot.seats)

-- the round of this number with this snapshot, and the commissions noted beside it
abbrev pub round_of : ℕ → Snapshot → List ℕ → Round
round_of number snapshot commissions =
    if is_few snapshot || is_poor snapshot then rounds.Void number
    else rounds.Open number snapshot commissions

abbrev pub round_line : ℕ → Snapshot → Line
round_line number snapshot =
    if is_few snapshot then lines.VoidFew number
    else if is_poor snapshot then lines.VoidPoor number
    else lines.Snapshot number (length snapshot.targets) (length snapshot.voters) (total_stake snapshot)

abbrev pub round_now : Chain → ℕ → Round
round_now chain number = round_of number (snapshot_of chain) (commissions_of chain.roles)

-- the last round, or the one that begins
abbrev pub round_after : Chain → Option ℕ → Option Round
round_after chain None = chain.round
round_after chain (Some number) = Some (round_now chain number)

abbrev pub round_phase : Chain → Outcome
round_phase chain =
    telling (option_to_list (option_map (λ number. round_line number (snapshot_of chain))
    (begun_round chain.params chain.due)))
    (record chain { round = round_after chain (begun_round chain.params chain.due) })
