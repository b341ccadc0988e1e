use Rattle.std.proofs.Common.{sym, subst}
use Rattle.std.proofs.lemmas.List.Elements.{All-head}
use Rattle.era_book.specs.Eras.{AreMembers}
use Rattle.era_book.proofs.EraLemmas.{kept_first, sound_pointed}
use Rattle.era_book.proofs.book.EraBook.add_points.Goals as goal

pub invariant_of-self : goal.invariant_of-self
invariant_of-self c = (
  kept_first c.self.inside.current c.self.inside.latest c.gain_all.new.self c.self.inside.earlier.items c.self.invariant.0
      (subst AreMembers (sym c.gain_all.ensures)
      (sound_pointed c.self.inside.latest c.args.items.now (All-head AreMembers c.self.inside.latest c.self.inside.earlier.items c.self.invariant.0.sound))),
  c.self.invariant.1,
)
