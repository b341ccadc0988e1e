-- A pick is the lowest of those outside with the greatest backing.
use Rattle.std.proofs.Common.{ℕ, List, length, ap, arith}
use Rattle.std.specs.List.{cons_option}
use Rattle.election_snapshot.specs.Snapshot.{Snapshot}
use Rattle.seat_race.specs.Picks.{more}
use Rattle.seat_race.specs.Picks.{IsPick as IsPickOf}
use Rattle.seat_race.proofs.PickLemmas.{is_less, not_less, more_orders, next_exists, next_best_is, all_picks}
use Rattle.seat_race.proofs.PickLemmas.{AreRun as AreRunOf, are_run as are_run_of}
use Rattle.quota_fill.specs.Filled.{backing, picked}
use Rattle.quota_fill.specs.Laws.{IsPick, SeatsArePicks}

-- each of the picks was one after those before it
abbrev pub AreRun : Snapshot → List ℕ → Type 0
AreRun snapshot picks = AreRunOf (length snapshot.targets) more more_orders (backing snapshot) picks

pub are_run : (snapshot : Snapshot) (count : ℕ) → AreRun snapshot (picked snapshot count)
are_run snapshot count = are_run_of (length snapshot.targets) more more_orders (backing snapshot) count

pub greatest_of : (snapshot : Snapshot) (picks : List ℕ) (target : ℕ) → IsPickOf (length snapshot.targets) more (backing snapshot picks) picks target → IsPick snapshot picks target
greatest_of snapshot picks target is = record {
  in_range = is.in_range;
  is_outside = is.is_outside;
  greatest = λ other h out. not_less (backing snapshot picks target) (backing snapshot picks other) (is.best other h out);
  lowest = λ other h out. is_less (backing snapshot picks other) (backing snapshot picks target) (is.lowest other h out);
}

pub seats_are_picks : SeatsArePicks
seats_are_picks snapshot count formed h =
    let targets = length snapshot.targets in
    let before = all_picks targets more more_orders (backing snapshot) count (omega (arith, h, formed.targets_enough)) in
    let one = next_exists targets more more_orders (backing snapshot) (picked snapshot count) (omega (arith, h, before, formed.targets_enough)) in (
      one.0,
      ap (λ o. cons_option o (picked snapshot count)) one.1,
      greatest_of snapshot (picked snapshot count) one.0 (next_best_is targets more more_orders (backing snapshot) (picked snapshot count) one.0 one.1),
    )
