-- What is answered of two parts is the first part's fault, or else the second part's.
use Rattle.std.proofs.Common.{◌≡◌, inl, inr, Option, Some, None}
use Rattle.std.specs.Option.{option_or}
use Rattle.stake_pools.specs.declared.fault.PoolFault.{PoolFault}
use Rattle.stake_pools.specs.Genesis.{IsFault}

pub is_first : (a b : Option PoolFault) (fault : PoolFault) → IsFault a fault → IsFault (option_or a b) fault
is_first a b fault (inl memory) = inl memory
is_first None b fault (inr e) = cc
is_first (Some x) b fault (inr e) = inr e

pub is_then : (a b : Option PoolFault) (fault : PoolFault) → a ≡ None → IsFault b fault → IsFault (option_or a b) fault
is_then None b fault none is = is
is_then (Some x) b fault none is = cc
