use Rattle.std.proofs.Common.{refl}
use Rattle.era_book.specs.Calls.{claiming}
use Rattle.era_book.specs.Seats.{members_seen}
use Rattle.era_book.proofs.MemberLemmas.{counted_same}
use Rattle.era_book.proofs.era.Era.claim.Goals as goal

pub invariant_of-self : goal.invariant_of-self
invariant_of-self c =
    rw (c.claim.ensures c.self.inside.accounts)
    (counted_same c.args.who claiming (λ member. refl) (members_seen c.self.inside.accounts c.self.inside.members) c.self.inside.points c.self.invariant)
