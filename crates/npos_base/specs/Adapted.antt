-- Readers and writers as sources and sinks.
use Rattle.std.specs.Prelude.{◌≡◌, ℕ, ◌-◌, Bool, true, false, List, length, Option, None, IsSome, option_map}
use Rattle.npos_base.specs.declared.outside.Asked.{Asked}
use Rattle.npos_base.specs.declared.outside.Tried.{Tried}
use Rattle.npos_base.specs.Outside.{Told}

-- the bytes that are left, where they are told, the count of faults, and the reads so far
pub record Given : Type 0 where
  pub left : Option (List ℕ)
  pub faults : ℕ
  pub asked : Asked

-- what was written and flushed, where it is told, the count of faults, and the writes and flushes so far
pub record Taken : Type 0 where
  pub told : Option Told
  pub faults : ℕ
  pub tried : Tried

-- what a writer holds, all but the last bytes of which were flushed; nothing where it is not told
abbrev pub told_by : Bool → Option (List ℕ) → ℕ → Option Told
told_by false held unflushed = None
told_by true held unflushed =
    option_map (λ written. record { written = written; flushed = length written - unflushed }) held

-- a writer whose bytes are to be told tells them
abbrev pub Tells : Bool → Option (List ℕ) → Type 0
Tells is_told held = is_told ≡ true → IsSome held
