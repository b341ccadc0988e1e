-- The first of two causes is the first one's, or else the second one's.
use Rattle.std.proofs.Common.{◌≡◌, Option, Some, None, refl}
use Rattle.std.specs.Option.{option_or}
use Rattle.state_rules.specs.declared.fault.CauseFault.{CauseFault}
use Rattle.state_rules.specs.Causes.{IsDue}

pub due_first : (a b : Option CauseFault) (fault : CauseFault) → IsDue a fault → IsDue (option_or a b) fault
due_first None b fault is other = cc (is other)
due_first (Some x) b fault is other = is other

pub due_then : (a b : Option CauseFault) (fault : CauseFault) → a ≡ None → IsDue b fault → IsDue (option_or a b) fault
due_then None b fault none is other = is other
due_then (Some x) b fault none is other = cc

pub none_due : (a b : Option CauseFault) → a ≡ None → b ≡ None → option_or a b ≡ None
none_due None b none e = e
none_due (Some x) b none e = none

-- where no cause stands, neither does
pub neither : (a b : Option CauseFault) → option_or a b ≡ None → (a ≡ None) × (b ≡ None)
neither None b none = (refl, none)
neither (Some x) b none = cc
