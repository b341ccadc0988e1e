-- What a call on the books owes, where only want of memory needs no cause.
use Rattle.std.specs.Prelude.{Option, Result}
use Rattle.npos_base.specs.Refusal as every
use Rattle.stake_ledger.specs.declared.refusal.LedgerRefusal.{LedgerRefusal}
use Rattle.stake_ledger.specs.declared.refusal.LedgerRefusal.TheVariants.{NoMemory}
use Rattle.stake_ledger.specs.Ledger.{Ledger}

-- a refusal is the one that stands, or want of memory
abbrev pub IsDue : Option LedgerRefusal → LedgerRefusal → Type 0
IsDue due refusal = every.IsDue NoMemory due refusal

-- no refusal stands and the books are these, or nothing changed and the answer is the refusal that is due
abbrev pub Meets : {T : Type 0} → Option LedgerRefusal → Ledger → Ledger → Ledger
    → Result T LedgerRefusal → Type 0
Meets due effect old new result = every.Meets NoMemory due effect old new result
