-- The era of an exposed account is kept, so the change finds it.
use Rattle.std.proofs.Common.{◌≡◌, rules, false, ◌∷◌, refl, sym, subst, ◌∙◌, ap}
use Rattle.std.proofs.lemmas.List.Elements.{All-head}
use Rattle.era_book.specs.Calls.{claiming}
use Rattle.era_book.specs.Eras.{Eras, is_unknown, with_member_in, OthersStay, AreMembers, AreKept}
use Rattle.era_book.proofs.EraLemmas.{kept_first, sound_changed, known_exposed, earlier_changed, earlier_sound}
use Rattle.era_book.proofs.OtherLemmas.{others_stay}
use Rattle.era_book.proofs.book.EraBook.mark_paid.Goals as goal

pub invariant_of-self : goal.invariant_of-self
invariant_of-self c = (
  kept_first c.self.inside.current c.self.inside.latest c.claim.new.self c.self.inside.earlier.items c.self.invariant.0
      (subst AreMembers (sym c.claim.ensures)
      (sound_changed c.args.validator claiming (λ member. refl) c.self.inside.latest (All-head AreMembers c.self.inside.latest c.self.inside.earlier.items c.self.invariant.0.sound))),
  c.self.invariant.1,
)

pub invariant_of-self-else-age-eq0 : goal.invariant_of-self-else-age-eq0
invariant_of-self-else-age-eq0 c =
    let known : is_unknown (record {
      current = c.self.inside.current;
      kept =
          c.self.inside.latest ∷ c.self.inside.earlier.items;
      queue = c.self.inside.queue.items;
      next_slash =
          c.self.inside.next_slash;
    }) c.args.era ≡ false =
    subst (λ (eras : Eras). is_unknown eras c.args.era ≡ false) (sym c.self.view_is) (known_exposed c.args.self.now c.args.era c.args.validator _ c.requires) in
    rw c.claim-else-age-eq0.ensures (
      earlier_sound c.self.inside.current c.args.era c.args.validator claiming c.self.inside.latest c.index_mut.result.now _ c.self.inside.earlier.items (λ member. refl)
          c.self.invariant.0 known c.if-age-eq0.false c.index_mut.ensures.value,
      c.self.invariant.1,
    )

pub returns-else-age-eq0-clause-marked : goal.returns-else-age-eq0-clause-marked
returns-else-age-eq0-clause-marked c =
    let known : is_unknown (record {
      current = c.self.inside.current;
      kept =
          c.self.inside.latest ∷ c.self.inside.earlier.items;
      queue = c.self.inside.queue.items;
      next_slash =
          c.self.inside.next_slash;
    }) c.args.era ≡ false =
    subst (λ (eras : Eras). is_unknown eras c.args.era ≡ false) (sym c.self.view_is) (known_exposed c.args.self.now c.args.era c.args.validator _ c.requires) in
    rw (c.claim-else-age-eq0.ensures)
    (earlier_changed c.self.inside.current c.args.era c.args.validator claiming c.self.inside.latest c.index_mut.result.now _ c.self.inside.earlier.items
    c.self.invariant.0 known c.if-age-eq0.false c.index_mut.ensures.value
    ∙ ap (λ (eras : Eras). with_member_in c.args.era c.args.validator claiming eras) c.self.view_is)

pub returns-else-age-eq0-clause-others : goal.returns-else-age-eq0-clause-others
returns-else-age-eq0-clause-others c =
    subst (λ (eras : Eras). OthersStay c.args.era c.args.validator c.args.self.now eras) (sym (returns-else-age-eq0-clause-marked c))
    (others_stay c.args.self.now c.args.era c.args.validator claiming (subst AreKept c.self.view_is c.self.invariant.0) (known_exposed c.args.self.now c.args.era c.args.validator _ c.requires))

pub returns-then-age-eq0-clause-others : goal.returns-then-age-eq0-clause-others
returns-then-age-eq0-clause-others c =
    let marked : record {
      current = c.self.inside.current;
      kept = c.claim.new.self ∷ c.self.inside.earlier.items;
      queue = c.self.inside.queue.items;
      next_slash = c.self.inside.next_slash;
    }
    ≡ with_member_in c.args.era c.args.validator claiming c.args.self.now = search rules in
    subst (λ (eras : Eras). OthersStay c.args.era c.args.validator c.args.self.now eras) (sym marked)
    (others_stay c.args.self.now c.args.era c.args.validator claiming (subst AreKept c.self.view_is c.self.invariant.0) (known_exposed c.args.self.now c.args.era c.args.validator _ c.requires))
