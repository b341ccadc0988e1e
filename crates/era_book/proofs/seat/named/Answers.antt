use Rattle.std.proofs.Common.{get_or, ap, subst, sym, ◌∙◌, arith}
use Rattle.era_book.specs.declared.exposure.Backer.{Backer}
use Rattle.era_book.specs.declared.seat.Share.{Share}
use Rattle.era_book.specs.Payouts.{line}
use Rattle.era_book.specs.Seats.{AreWithin, backers_seen}
use Rattle.era_book.proofs.SeatLemmas.{grows_twice, named_more, within_more}
use Rattle.era_book.proofs.seat.named.Goals as goal

pub loop-backer-preserved : goal.loop-backer-preserved
loop-backer-preserved c =
    let before = c.loop-backer.invariant in
    let d : Backer = record { who = record { hi = 0; lo = 0 }; amount = 0 } in
    let backer : Backer = get_or c.args.backers.now c.loop-backer.backer-index d in
    let share : Share = record { place = c.in_ok-place.place; amount = backer.amount } in
    record {
      grows = grows_twice c.args.names.now c.loop-backer.names c.place.new.self before.grows c.place.ensures.grows;
      seen =
          ap (backers_seen c.place.new.self) c.push_within.ensures.items
          ∙ named_more c.loop-backer.names c.place.new.self c.loop-backer.shares.items share c.args.backers.now d c.loop-backer.backer-index
          c.place.ensures.grows before.within before.seen c.loop-backer-test.true (ap (λ who. line who backer.amount) c.in_ok-place.ensures.there);
      within =
          subst (AreWithin c.place.new.self) (sym c.push_within.ensures.items)
          (within_more c.loop-backer.names c.place.new.self c.loop-backer.shares.items share c.place.ensures.grows before.within c.in_ok-place.ensures.within);
      spare = omega (arith, before.spare, c.push_within.ensures.spare);
    }
