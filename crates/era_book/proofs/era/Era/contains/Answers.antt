use Rattle.std.proofs.Common.{is_some, ap, sym, ◌∙◌}
use Rattle.era_book.specs.Members.{Members, member_of}
use Rattle.era_book.proofs.SeatLemmas.{seated_is_known}
use Rattle.era_book.proofs.era.Era.contains.Goals as goal

pub returns : goal.returns
returns c =
    c.contains.ensures
    ∙ (sym (seated_is_known c.self.inside.accounts c.args.who c.self.inside.members)
    ∙ ap (λ (members : Members). is_some (member_of members c.args.who)) c.self.view_is)
