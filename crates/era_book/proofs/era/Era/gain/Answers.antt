-- All points fit, since each member's do and the members of a map are few.
use Rattle.std.proofs.Common.{◌<◌, ◌^◌, All, length, sym, ◌∙◌, ap, subst, arith}
use Rattle.std.specs.Map.{values_of}
use Rattle.era_book.specs.Members.{Member, Members, gaining}
use Rattle.era_book.specs.Seats.{members_seen}
use Rattle.era_book.proofs.MemberLemmas.{each_gaining, points_fit, length_changed}
use Rattle.era_book.proofs.SeatLemmas.{as_many}
use Rattle.era_book.proofs.era.Era.gain.Goals as goal

pub overflow_add-self : goal.overflow_add-self
overflow_add-self c =
    let accounts = c.self.inside.accounts in
    let before : Members = members_seen accounts c.self.inside.members in
    let after : Members = members_seen accounts c.gain.new.self in
    let each : All (λ (member : Member). member.points < 2 ^ 32) (values_of after) =
    subst (λ (rows : Members). All (λ (member : Member). member.points < 2 ^ 32) (values_of rows)) (sym (c.gain.ensures.members accounts))
    (each_gaining before c.args.who c.args.points c.self.invariant.each) in
    let few : length after < 2 ^ 63 =
    omega (
      arith,
      ap length (c.gain.ensures.members accounts) ∙ length_changed c.args.who (gaining c.args.points) before,
      as_many accounts c.self.inside.members,
      c.len-count.ensures.few,
    ) in
    omega (arith, points_fit after each few, c.gain.ensures.added accounts, c.self.invariant.total, c.from.ensures)

pub invariant_of-self : goal.invariant_of-self
invariant_of-self c =
    let accounts = c.self.inside.accounts in
    record {
      total = omega (arith, c.gain.ensures.added accounts, c.self.invariant.total, c.from.ensures);
      each =
          subst (λ (rows : Members). All (λ (member : Member). member.points < 2 ^ 32) (values_of rows)) (sym (c.gain.ensures.members accounts))
          (each_gaining (members_seen accounts c.self.inside.members) c.args.who c.args.points c.self.invariant.each);
    }
