-- The last steps of a check, which plain weights and packed solutions share.
use Rattle.std.specs.Prelude.{ℕ, Bool, not, ◌&&◌, nat_eq, nat_le, length, Option, option_map, find}
use Rattle.std.specs.List.{range_with_len}
use Rattle.election_snapshot.specs.Snapshot.{Snapshot, has, threshold}
use Rattle.weight_book.specs.Weights.{Weights}
use Rattle.weight_book.specs.Passing.{slack, prescore}
use Rattle.election_check.specs.declared.fault.Fault.{Fault}
use Rattle.election_check.specs.declared.fault.Fault.TheVariants.{WrongSize, Outweighed}
use Rattle.election_check.specs.First.{when}

-- there is not one member for each seat
abbrev pub size_fault : Snapshot → Weights → Option Fault
size_fault snapshot weights =
    when (not (nat_eq (length weights.committee) snapshot.seats)) (WrongSize (length weights.committee))

-- what a voter has left, and the prescore, at the price of a seat
abbrev pub slack_of : Snapshot → Weights → ℕ → ℕ
slack_of snapshot weights voter = slack (threshold snapshot) snapshot weights.edges voter

abbrev pub prescore_of : Snapshot → Weights → ℕ → ℕ
prescore_of snapshot weights target = prescore (threshold snapshot) snapshot weights.edges target

-- a target outside whose nominators have the price of a seat left
abbrev pub outweighs : Snapshot → Weights → ℕ → Bool
outweighs snapshot weights target =
    not (has weights.committee target) && nat_le (threshold snapshot) (prescore_of snapshot weights target)

-- the lowest such target, with its prescore
abbrev pub outweighed : Snapshot → Weights → Option Fault
outweighed snapshot weights = option_map (λ target. Outweighed target (prescore_of snapshot weights target))
    (find (outweighs snapshot weights) (range_with_len 0 (length snapshot.targets)))
