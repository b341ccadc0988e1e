-- Why no chain goes on from a state: the first fault in the order in which they are looked for.
use Rattle.std.specs.Prelude.{ℕ, ◌^◌, Option, Some, None, option_map, if◌then◌else◌}
use Rattle.std.specs.Option.{option_or}
use Rattle.npos_base.specs.Refusal as every
use Rattle.block_wire.specs.declared.genesis.Params.{Params}
use Rattle.chain_params.specs.declared.fault.GenesisFault.{GenesisFault}
use Rattle.chain_params.specs.Faults.{is_within, terms_fault, fault_numbers}
use Rattle.election_check.specs.declared.verdict.Verdict.{Verdict}
use Rattle.election_check.specs.declared.verdict.Verdict.TheVariants.{Yes}
use Rattle.election_check.specs.Plain.{verdict_plain}
use Rattle.state_rules.specs.declared.fault.CauseFault.{CauseFault}
use Rattle.state_rules.specs.declared.fault.CauseFault.TheVariants as causes
use Rattle.state_rules.specs.declared.state.State.{State}
use Rattle.state_rules.specs.declared.state.WaitingRow.{WaitingRow}
use Rattle.state_rules.specs.Causes.{first_cause, slash_cause}
use Rattle.npos_runtime.specs.declared.state_fault.StateFault.{StateFault}
use Rattle.npos_runtime.specs.declared.state_fault.StateFault.TheVariants.{Cause, NotElected, NoMemory}
use Rattle.npos_runtime.specs.Rules.Committee.{Committee}
use Rattle.state_rules.specs.Terms.{params_of, defer_of}
use Rattle.npos_runtime.specs.Kept.Chain.{committee_in}

-- the number of the next block is none that a block can have, or the one behind the last
abbrev pub due_fault : ℕ → Option StateFault
due_fault due = if is_within 1 (2 ^ 32) due then None else Some (Cause 1 due)

-- a fault of a genesis with these numbers as a fault of the state; without numbers it is want of memory
abbrev pub numbered_fault : Option (ℕ × ℕ) → StateFault
numbered_fault None = NoMemory
numbered_fault (Some numbers) = Cause 2 numbers.0

-- a fault of the params, with its number as that of a genesis
abbrev pub params_fault : GenesisFault → StateFault
params_fault fault = numbered_fault (fault_numbers fault)

-- a cause as a fault of the state
abbrev pub stated : CauseFault → StateFault
stated (causes.Cause number detail) = Cause number detail
stated causes.NoMemory = NoMemory

-- who waits was elected where the verdict on its weights is yes
abbrev pub unless_yes : Verdict → Option StateFault
unless_yes Yes = None
unless_yes verdict = Some (NotElected verdict)

abbrev pub verdict_on : Committee → Verdict
verdict_on committee = verdict_plain committee.snapshot committee.weights

abbrev pub election_fault : Option Params → Option WaitingRow → Option StateFault
election_fault params None = None
election_fault params (Some row) = unless_yes (verdict_on (committee_in params row))

-- the number of the next block, the params, the causes but those of slashes, the committee that waits,
-- and the slashes
abbrev pub state_fault : State → Option StateFault
state_fault state =
    option_or (due_fault state.due)
    (option_or (option_map params_fault (terms_fault (params_of state) (defer_of state)))
    (option_or (option_map stated (first_cause state))
    (option_or (election_fault (params_of state) state.waiting)
    (option_map stated (slash_cause state)))))

-- a fault is the one that stands first, or want of memory
abbrev pub IsDueFault : Option StateFault → StateFault → Type 0
IsDueFault due fault = every.IsDue NoMemory due fault
