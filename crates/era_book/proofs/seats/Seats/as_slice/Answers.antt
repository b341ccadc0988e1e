use Rattle.std.proofs.Common.{ap, sym, ◌∙◌}
use Rattle.std.specs.Map.{values_of}
use Rattle.npos_base.specs.declared.account.AccountId.{AccountId}
use Rattle.era_book.specs.declared.seat.Seat.{Seat}
use Rattle.era_book.proofs.PlaceLemmas.{seats_back}
use Rattle.era_book.proofs.seats.Seats.as_slice.Goals as goal

pub returns : goal.returns
returns c =
    c.as_slice.ensures.value
    ∙ (sym (seats_back c.self.inside.items.items) ∙ ap (values_of {K = AccountId} {X = Seat}) c.self.view_is)
