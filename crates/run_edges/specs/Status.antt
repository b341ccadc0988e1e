-- The statuses of runs: their numbers, and what they tell.
use Rattle.std.specs.Prelude.{ℕ, Bool, true, false, Result, Ok, Err}
use Rattle.bundle_reports.specs.declared.ending.Ending.{Ending}
use Rattle.bundle_reports.specs.declared.ending.Ending.TheVariants as endings
use Rattle.run_edges.specs.declared.halt.Halt.{Halt}
use Rattle.run_edges.specs.declared.halt.Halt.TheVariants as halts
use Rattle.run_edges.specs.declared.status.Status.{Status}
use Rattle.run_edges.specs.declared.status.Status.TheVariants.{Done, No, Usage, BadInput, ReadFault, WriteFault, NoMemory}

-- the number of a status is the exit status of the program
abbrev pub status_number : Status → ℕ
status_number Done = 0
status_number No = 1
status_number Usage = 2
status_number BadInput = 3
status_number ReadFault = 4
status_number WriteFault = 5
status_number NoMemory = 6

-- how a run ends that is cut off
abbrev pub halted_by : Halt → Status
halted_by halts.ReadFault = ReadFault
halted_by halts.WriteFault = WriteFault
halted_by halts.NoMemory = NoMemory

-- how a run ends that has this answer, or is cut off
abbrev pub end_of : Result Status Halt → Status
end_of (Ok status) = status
end_of (Err halt) = halted_by halt

-- how a run ends whose report ends so
abbrev pub status_of : Ending → Status
status_of endings.Done = Done
status_of endings.No = No
status_of endings.BadInput = BadInput

-- a replay is done, unless it ends with a fault line
abbrev pub replay_status : Bool → Status
replay_status true = BadInput
replay_status false = Done
