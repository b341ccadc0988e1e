-- The numbers of the reasons for which the roles and the bags refuse. Want of memory is none of them.
use Rattle.std.specs.Prelude.{◌≡◌, ℕ, Option, Some, None, refl}
use Rattle.voter_lists.specs.declared.refusal.ListRefusal.{ListRefusal}
use Rattle.voter_lists.specs.declared.refusal.ListRefusal.TheVariants.{NoTargets, TooManyTargets, RepeatedTarget, NotValidator, TooManyValidators}
use Rattle.voter_lists.specs.declared.refusal.ListRefusal.TheVariants.{BadFraction, NotListed, SameBag, OtherBag, NotHeavier, NoMemory}

abbrev pub reason_number : ListRefusal → Option ℕ
reason_number NoTargets = Some 10
reason_number TooManyTargets = Some 11
reason_number RepeatedTarget = Some 12
reason_number NotValidator = Some 13
reason_number TooManyValidators = Some 14
reason_number BadFraction = Some 15
reason_number NotListed = Some 16
reason_number SameBag = Some 17
reason_number OtherBag = Some 18
reason_number NotHeavier = Some 19
reason_number NoMemory = None

pub only_memory : (refusal : ListRefusal) → reason_number refusal ≡ None → refusal ≡ NoMemory
only_memory NoTargets none = cc
only_memory TooManyTargets none = cc
only_memory RepeatedTarget none = cc
only_memory NotValidator none = cc
only_memory TooManyValidators none = cc
only_memory BadFraction none = cc
only_memory NotListed none = cc
only_memory SameBag none = cc
only_memory OtherBag none = cc
only_memory NotHeavier none = cc
only_memory NoMemory none = refl
