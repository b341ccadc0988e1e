use Rattle.std.proofs.Common.{rules, ◌≡◌, [], subst, sym}
use Rattle.era_book.specs.Seats.{AreRising}
use Rattle.era_book.proofs.PlaceLemmas.{none_rises}
use Rattle.era_book.proofs.seats.Seats.with_room.Goals as goal

pub invariant_of-result : goal.invariant_of-result
invariant_of-result c =
    let none : c.in_ok-items.items.items ≡ [] = search rules in
    subst AreRising (sym none) none_rises
