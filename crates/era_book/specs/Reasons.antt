-- The numbers of the reasons for which the eras refuse. Want of memory is none of them.
use Rattle.std.specs.Prelude.{◌≡◌, ℕ, Option, Some, None, refl}
use Rattle.era_book.specs.declared.refusal.EraRefusal.{EraRefusal}
use Rattle.era_book.specs.declared.refusal.EraRefusal.TheVariants.{BadFraction, UnknownEra, EraNotOver, NotExposed, AlreadyClaimed, NotGreater, NoPoints, NoSlash, TooManySlashes, NoMemory}

abbrev pub reason_number : EraRefusal → Option ℕ
reason_number BadFraction = Some 15
reason_number UnknownEra = Some 21
reason_number EraNotOver = Some 22
reason_number NotExposed = Some 23
reason_number AlreadyClaimed = Some 24
reason_number NotGreater = Some 25
reason_number NoPoints = Some 26
reason_number NoSlash = Some 31
reason_number TooManySlashes = Some 32
reason_number NoMemory = None

pub only_memory : (refusal : EraRefusal) → reason_number refusal ≡ None → refusal ≡ NoMemory
only_memory BadFraction none = cc
only_memory UnknownEra none = cc
only_memory EraNotOver none = cc
only_memory NotExposed none = cc
only_memory AlreadyClaimed none = cc
only_memory NotGreater none = cc
only_memory NoPoints none = cc
only_memory NoSlash none = cc
only_memory TooManySlashes none = cc
only_memory NoMemory none = refl
