-- What a call on the lists owes, where only want of memory needs no cause.
use Rattle.std.specs.Prelude.{Option, Result}
use Rattle.npos_base.specs.Refusal as every
use Rattle.voter_lists.specs.declared.refusal.ListRefusal.{ListRefusal}
use Rattle.voter_lists.specs.declared.refusal.ListRefusal.TheVariants.{NoMemory}

-- no refusal stands and the list is this one, or nothing changed and the answer is the refusal that is due
abbrev pub Meets : {S T : Type 0} → Option ListRefusal → S → S → S → Result T ListRefusal → Type 0
Meets due effect old new result = every.Meets NoMemory due effect old new result
