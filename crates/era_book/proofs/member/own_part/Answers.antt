use Rattle.std.proofs.Common.{rules, ◌≡◌, Some, None, Option, find, sym, ap, ◌∙◌}
use Rattle.std.specs.Option.{option_map_or}
use Rattle.npos_base.specs.Account.{same_account, account_at}
use Rattle.era_book.specs.declared.seat.Share.{Share}
use Rattle.era_book.proofs.LineLemmas.{own_seen}
use Rattle.era_book.proofs.member.own_part.Goals as goal

pub returns-in-Some : goal.returns-in-Some
returns-in-Some c =
    let found : find (λ (share : Share). same_account (account_at c.args.accounts.now share.place) c.args.seat.now.validator) c.args.seat.now.shares ≡ Some c.in-Some.share.now = search rules in
    sym (ap (λ (o : Option Share). option_map_or (λ (share : Share). share.amount) o 0) found)
    ∙ own_seen c.args.seat.now.validator c.args.accounts.now c.args.seat.now.shares

pub returns-in-None : goal.returns-in-None
returns-in-None c =
    let found : find (λ (share : Share). same_account (account_at c.args.accounts.now share.place) c.args.seat.now.validator) c.args.seat.now.shares ≡ None = search rules in
    sym (ap (λ (o : Option Share). option_map_or (λ (share : Share). share.amount) o 0) found)
    ∙ own_seen c.args.seat.now.validator c.args.accounts.now c.args.seat.now.shares
