-- The numbers of the reasons for which the books refuse. Want of memory is none of them.
use Rattle.std.specs.Prelude.{◌≡◌, ℕ, Option, Some, None, refl}
use Rattle.stake_ledger.specs.declared.refusal.LedgerRefusal.{LedgerRefusal}
use Rattle.stake_ledger.specs.declared.refusal.LedgerRefusal.TheVariants.{LowFunds, NotBonded, AlreadyBonded, BelowMinimum, NoMoreChunks, NoChunk, ZeroValue, SameAccount, IssuanceCap, NoMemory}

abbrev pub reason_number : LedgerRefusal → Option ℕ
reason_number LowFunds = Some 1
reason_number NotBonded = Some 2
reason_number AlreadyBonded = Some 3
reason_number BelowMinimum = Some 4
reason_number NoMoreChunks = Some 5
reason_number NoChunk = Some 6
reason_number ZeroValue = Some 7
reason_number SameAccount = Some 8
reason_number IssuanceCap = Some 9
reason_number NoMemory = None

pub only_memory : (refusal : LedgerRefusal) → reason_number refusal ≡ None → refusal ≡ NoMemory
only_memory LowFunds none = cc
only_memory NotBonded none = cc
only_memory AlreadyBonded none = cc
only_memory BelowMinimum none = cc
only_memory NoMoreChunks none = cc
only_memory NoChunk none = cc
only_memory ZeroValue none = cc
only_memory SameAccount none = cc
only_memory IssuanceCap none = cc
only_memory NoMemory none = refl
