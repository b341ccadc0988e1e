-- Why a call stops, where the books, the lists or the eras stop it.
use Rattle.std.specs.Prelude.{ℕ, Option, Some, None}
use Rattle.voter_lists.specs.declared.refusal.ListRefusal.{ListRefusal}
use Rattle.voter_lists.specs.Reasons.{reason_number}
use Rattle.block_receipts.specs.declared.refusal.Refusal.{Refusal}
use Rattle.block_receipts.specs.declared.refusal.Refusal.TheVariants.{List}
use Rattle.block_receipts.specs.declared.stop.Stop.{Stop}
use Rattle.block_receipts.specs.declared.stop.Stop.TheVariants as stops

-- an error of a room below is a refusal where it has a number, and else want of memory
abbrev pub stop_of : Option ℕ → Refusal → Stop
stop_of (Some number) refusal = stops.Refused refusal
stop_of None refusal = stops.NoMemory

abbrev pub list_stop : ListRefusal → Stop
list_stop refusal = stop_of (reason_number refusal) (List refusal)
