-- Behind a last seat that is below the account all are.
use Rattle.std.proofs.Common.{rules, ◌≡◌, ◌-◌, length, get_or}
use Rattle.std.specs.declared.cmp.Ordering.TheVariants.{Less}
use Rattle.npos_base.specs.Account.{account_cmp}
use Rattle.era_book.specs.declared.seat.Seat.{Seat}
use Rattle.era_book.proofs.PlaceLemmas.{gap_behind}
use Rattle.era_book.proofs.seats.search_from_end.Goals as goal

pub returns-in-Some-clause-missing : goal.returns-in-Some-clause-missing
returns-in-Some-clause-missing c =
    let below : account_cmp c.in-Some.last.now.validator c.args.who ≡ Less = search rules in
    let here : (d : Seat) → get_or c.args.seats.now (length c.args.seats.now - 1) d ≡ c.in-Some.last.now = λ d. search rules in
    gap_behind c.args.who c.args.seats.now c.in-Some.last.now c.requires here below
