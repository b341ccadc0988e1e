-- The closure gives a seat's account, and the seats rise by account.
use Rattle.std.proofs.Common.{rules}
use Rattle.std.proofs.lemmas.List.Sorted.{answers_always}
use Rattle.era_book.specs.declared.seat.Seat.{Seat}
use Rattle.era_book.proofs.PlaceLemmas.{search_found, search_missed}
use Rattle.era_book.proofs.seats.search.Goals as goal

pub returns-clause-found : goal.returns-clause-found
returns-clause-found c =
    search_found c.args.who c.args.seats.now c.binary_search_by_key.result
    (c.binary_search_by_key.ensures.position (λ (seat : Seat). seat.validator) (answers_always _ _ _ (λ f a r g called. search rules)))

pub returns-clause-missing : goal.returns-clause-missing
returns-clause-missing c =
    search_missed c.args.who c.args.seats.now c.binary_search_by_key.result c.requires
    (c.binary_search_by_key.ensures.position (λ (seat : Seat). seat.validator) (answers_always _ _ _ (λ f a r g called. search rules)))
