-- What is answered of two parts is the first part's fault, or else the second part's.
use Rattle.std.proofs.Common.{◌≡◌, inl, inr, Option, Some, None}
use Rattle.std.specs.Option.{option_or}
use Rattle.chain_params.specs.declared.fault.GenesisFault.{GenesisFault}
use Rattle.chain_params.proofs.FaultLemmas.{fault_first, fault_then}
use Rattle.npos_runtime.specs.Genesis.{IsFault}

pub is_first : (a b : Option GenesisFault) (fault : GenesisFault) → IsFault a fault → IsFault (option_or a b) fault
is_first a b fault (inl memory) = inl memory
is_first a b fault (inr e) = inr (fault_first a b fault e)

pub is_then : (a b : Option GenesisFault) (fault : GenesisFault) → a ≡ None → b ≡ Some fault → IsFault (option_or a b) fault
is_then a b fault none e = inr (fault_then a b fault none e)
