-- Why a state is none that a chain has: the first cause in the order in which they are looked for.
use Rattle.std.specs.Prelude.{ℕ, ◌+◌, Bool, true, false, not, ◌||◌, Option, Some, None, is_some}
use Rattle.std.specs.Option.{option_or}
use Rattle.npos_base.specs.Refusal as every
use Rattle.chain_params.specs.Rules.{bonding_eras_of, thresholds_in, seats_of, places_of, solution_max_of, deposit_of}
use Rattle.stake_ledger.specs.BookRows.{is_bad_sum}
use Rattle.state_rules.specs.declared.fault.CauseFault.{CauseFault}
use Rattle.state_rules.specs.declared.fault.CauseFault.TheVariants.{Cause, NoMemory}
use Rattle.state_rules.specs.declared.state.State.{State}
use Rattle.state_rules.specs.declared.state.RoundRow.{RoundRow}
use Rattle.state_rules.specs.declared.state.WaitingRow.{WaitingRow}
use Rattle.state_rules.specs.Lists.{bad_place}
use Rattle.state_rules.specs.Terms.{params_of, defer_of, era_before, is_open, is_decided, is_next_number}
use Rattle.state_rules.specs.Rows.{is_bad_row}
use Rattle.state_rules.specs.Roles.{is_bad_role}
use Rattle.state_rules.specs.Eras.{is_bad_era}
use Rattle.state_rules.specs.Rounds.{is_bad_round}
use Rattle.state_rules.specs.Queue.{is_bad_item, is_bad_held}
use Rattle.state_rules.specs.Waiting.{is_bad_committee}
use Rattle.state_rules.specs.Slashes.{is_bad_slash}

-- a cause with the place of what is at fault
abbrev pub at_place : ℕ → Option ℕ → Option CauseFault
at_place number None = None
at_place number (Some place) = Some (Cause number place)

-- a cause without a place
abbrev pub stated : ℕ → Bool → Option CauseFault
stated number true = Some (Cause number 0)
stated number false = None

-- a row: stake can be unbonded until the bonding eras after the current one
abbrev pub row_cause : State → Option CauseFault
row_cause state =
    at_place 3 (bad_place (is_bad_row (era_before state + bonding_eras_of (params_of state))) state.rows)

-- the sums of the books
abbrev pub sum_cause : State → Option CauseFault
sum_cause state = stated 4 (is_bad_sum state.rows state.genesis state.minted state.burned)

abbrev pub role_cause : State → Option CauseFault
role_cause state = at_place 5 (bad_place (is_bad_role (thresholds_in (params_of state)) state.rows) state.roles)

abbrev pub era_cause : State → Option CauseFault
era_cause state =
    at_place 6 (bad_place (is_bad_era (is_some state.params) (era_before state) state.rows) state.eras)

-- the snapshot of the round, which is there while submissions are taken
abbrev pub is_bad_open : State → Option RoundRow → Bool
is_bad_open state None = false
is_bad_open state (Some round) =
    not (is_open state) || is_bad_round state.rows (seats_of (params_of state)) round

abbrev pub round_cause : State → Option CauseFault
round_cause state = stated 7 (is_bad_open state state.round)

-- the number of the next submission
abbrev pub next_submission_cause : State → Option CauseFault
next_submission_cause state = stated 8 (not (is_next_number state.due state.next_submission))

-- a submission that waits
abbrev pub queue_cause : State → Option CauseFault
queue_cause state =
    at_place 8 (bad_place (is_bad_item (is_some state.round) (places_of (params_of state))
    (solution_max_of (params_of state)) state.rows state.next_submission) state.queue)

-- what is held of a row
abbrev pub held_cause : State → Option CauseFault
held_cause state =
    at_place 9 (bad_place (is_bad_held (deposit_of (params_of state)) state.queue) state.rows)

-- the committee that waits, from the block of its decision on
abbrev pub is_bad_waiting : State → Option WaitingRow → Bool
is_bad_waiting state None = false
is_bad_waiting state (Some waiting) =
    not (is_decided state) || is_bad_committee state.rows (seats_of (params_of state)) waiting

abbrev pub waiting_cause : State → Option CauseFault
waiting_cause state = stated 10 (is_bad_waiting state state.waiting)

-- the first of the causes but those of slashes
abbrev pub first_cause : State → Option CauseFault
first_cause state =
    option_or (row_cause state) (option_or (sum_cause state) (option_or (role_cause state)
    (option_or (era_cause state) (option_or (round_cause state) (option_or (next_submission_cause state)
    (option_or (queue_cause state) (option_or (held_cause state) (waiting_cause state))))))))

-- the number of the next slash
abbrev pub next_slash_cause : State → Option CauseFault
next_slash_cause state = stated 12 (not (is_next_number state.due state.next_slash))

-- a slash that waits
abbrev pub waiting_slash_cause : State → Option CauseFault
waiting_slash_cause state =
    at_place 12 (bad_place (is_bad_slash (era_before state) (defer_of state) state.next_slash state.rows) state.slashes)

-- the first cause of slashes
abbrev pub slash_cause : State → Option CauseFault
slash_cause state = option_or (next_slash_cause state) (waiting_slash_cause state)

-- a fault is the cause that stands first, or want of memory
abbrev pub IsDue : Option CauseFault → CauseFault → Type 0
IsDue due fault = every.IsDue NoMemory due fault
