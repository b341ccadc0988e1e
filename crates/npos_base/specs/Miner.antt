-- Who makes a committee: the names and the numbers by which miners are asked for.
use Rattle.std.specs.Prelude.{⊤, ℕ, ◌≤◌, Bool, true, false, nat_eq, ◌&&◌, if◌then◌else◌, List, codes, Option, Some, None}
use Rattle.std.specs.Str.{bytes_eq}
use Rattle.npos_base.specs.declared.limits.TheConstants.{MOST_ROUNDS}
use Rattle.npos_base.specs.declared.miner.Miner.{Miner}
use Rattle.npos_base.specs.declared.miner.Miner.TheVariants.{Fill, Seq, Mms}
use Rattle.npos_base.specs.Limits.{is_within}

-- PHRAGMMS has at least one round
abbrev pub HasRounds : Miner → Type 0
HasRounds Fill = ⊤
HasRounds Seq = ⊤
HasRounds (Mms rounds) = 1 ≤ rounds

-- and who asks for it, no more than a most
abbrev pub KeepsRounds : Miner → Type 0
KeepsRounds Fill = ⊤
KeepsRounds Seq = ⊤
KeepsRounds (Mms rounds) = (1 ≤ rounds) × (rounds ≤ MOST_ROUNDS)

-- The weights of the fill are judged as they are. Those of the other miners are packed.
abbrev pub is_packed : Miner → Bool
is_packed Fill = false
is_packed Seq = true
is_packed (Mms rounds) = true

abbrev pub named : List ℕ → ℕ → Option Miner
named name rounds =
    if bytes_eq name (codes "fill") then Some Fill
    else if bytes_eq name (codes "seq") then Some Seq
    else if bytes_eq name (codes "mms") then Some (Mms rounds)
    else None

abbrev pub numbered : ℕ → ℕ → Option Miner
numbered number rounds =
    if nat_eq number 1 then Some Fill
    else if nat_eq number 2 then Some Seq
    else if nat_eq number 3 && is_within 1 MOST_ROUNDS rounds then Some (Mms rounds)
    else None
