use Rattle.std.proofs.Common.{sym, subst}
use Rattle.era_book.specs.Eras.{AreMembers}
use Rattle.era_book.proofs.EraLemmas.{kept_first, kept_later}
use Rattle.era_book.proofs.RecordLemmas.{sound_values}
use Rattle.era_book.proofs.book.EraBook.put_era.Goals as goal

pub invariant_of-self : goal.invariant_of-self
invariant_of-self c = (
  kept_first c.self.inside.current c.self.inside.latest c.in_ok-members.members c.self.inside.earlier.items c.self.invariant.0
      (subst AreMembers (sym c.in_ok-members.ensures) (sound_values c.args.members c.requires.sound)),
  c.self.invariant.1,
)

pub invariant_of-self-else-age-eq0 : goal.invariant_of-self-else-age-eq0
invariant_of-self-else-age-eq0 c = (
  kept_later c.self.inside.current c.self.inside.latest c.in_ok-members.members c.self.inside.earlier.items _ c.self.invariant.0
      (subst AreMembers (sym c.in_ok-members.ensures) (sound_values c.args.members c.requires.sound)),
  c.self.invariant.1,
)
