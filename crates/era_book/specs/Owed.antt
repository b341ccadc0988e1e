-- What a call on the eras owes, where only want of memory needs no cause.
use Rattle.std.specs.Prelude.{Option, Result}
use Rattle.npos_base.specs.Refusal as every
use Rattle.era_book.specs.declared.refusal.EraRefusal.{EraRefusal}
use Rattle.era_book.specs.declared.refusal.EraRefusal.TheVariants.{NoMemory}
use Rattle.era_book.specs.Eras.{Eras}

-- a refusal is the one that stands, or want of memory
abbrev pub IsDue : Option EraRefusal → EraRefusal → Type 0
IsDue due refusal = every.IsDue NoMemory due refusal

-- no refusal stands and the eras are these, or nothing changed and the answer is the refusal that is due
abbrev pub Meets : {T : Type 0} → Option EraRefusal → Eras → Eras → Eras → Result T EraRefusal → Type 0
Meets due effect old new result = every.Meets NoMemory due effect old new result
