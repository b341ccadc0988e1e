-- The latest era stands apart from those before it.
use Rattle.std.proofs.Common.{◌≡◌, ◌-◌, slice_get, rules, arith, ap, ◌∙◌}
use Rattle.std.proofs.lemmas.Grind.{common_steps}
use Rattle.std.proofs.lemmas.Option.{gets}
use Rattle.std.specs.Option.{option_copied}
use Rattle.std.proofs.lemmas.List.Elements.{All-head, All-tail}
use Rattle.era_book.specs.Eras.{Eras, era_of, AreMembers}
use Rattle.era_book.proofs.EraLemmas.{earlier_era, found_sound}
use Rattle.era_book.proofs.book.EraBook.era.Goals as goal

pub returns-then-age-eq0-clause-sound : goal.returns-then-age-eq0-clause-sound
returns-then-age-eq0-clause-sound c = All-head AreMembers c.self.inside.latest c.self.inside.earlier.items c.self.invariant.0.sound

pub returns-clause-members : goal.returns-clause-members
returns-clause-members c =
    let here : option_copied c.get.result ≡ slice_get c.self.inside.earlier.items (c.self.inside.current - c.args.era - 1) = grind (arith, common_steps, gets) in
    here
    ∙ earlier_era c.self.inside.current c.args.era c.self.inside.latest c.self.inside.earlier.items c.self.invariant.0 (search rules) c.if-age-eq0.false
    ∙ ap (λ (eras : Eras). era_of eras c.args.era) c.self.view_is

pub returns-clause-sound : goal.returns-clause-sound
returns-clause-sound c =
    let here : option_copied c.get.result ≡ slice_get c.self.inside.earlier.items (c.self.inside.current - c.args.era - 1) = grind (arith, common_steps, gets) in
    found_sound c.get.result c.self.inside.earlier.items (c.self.inside.current - c.args.era - 1) here (All-tail AreMembers c.self.inside.latest c.self.inside.earlier.items c.self.invariant.0.sound)
