-- Numbers rise, so one slash at most leaves the queue.
use Rattle.std.proofs.Common.{◌≡◌, ◌∷◌, List, position, None, Some, refl, rules, ap, sym, subst, ◌∙◌}
use Rattle.era_book.specs.declared.deferred.DeferredSlash.{DeferredSlash}
use Rattle.npos_base.specs.Refusal.{answer_of}
use Rattle.era_book.specs.Eras.{Eras}
use Rattle.era_book.specs.Deferred.{has_number, cancelling, AreInLine}
use Rattle.era_book.proofs.DeferredLemmas.{none_cancelled, one_cancelled, left_out, line_without}
use Rattle.era_book.proofs.book.EraBook.cancel_slash.Goals as goal

pub returns-in_default-clause-meets : goal.returns-in_default-clause-meets
returns-in_default-clause-meets c =
    let none : position (has_number c.args.number) c.args.self.now.queue ≡ None = search rules in
    record { ok = tt; refused = none_cancelled c.args.number c.args.self.now none; unchanged = refl }

pub returns-in_default-clause-answer : goal.returns-in_default-clause-answer
returns-in_default-clause-answer c =
    let none : position (has_number c.args.number) c.args.self.now.queue ≡ None = search rules in
    sym (ap answer_of (none_cancelled c.args.number c.args.self.now none))

pub invariant_of-self : goal.invariant_of-self
invariant_of-self c =
    let found : position (has_number c.args.number) c.self.inside.queue.items ≡ Some c.in-Some.place = search rules in (
      record { count = c.self.invariant.0.count; sound = c.self.invariant.0.sound },
      subst (λ (slashes : List DeferredSlash). AreInLine slashes c.self.inside.next_slash)
          (sym (c.remove.ensures.items ∙ left_out c.args.number c.self.inside.queue.items c.in-Some.place c.self.invariant.1.numbers found))
          (line_without c.args.number c.self.inside.queue.items c.self.inside.next_slash c.self.invariant.1),
    )

pub returns-clause-meets : goal.returns-clause-meets
returns-clause-meets c =
    let found : position (has_number c.args.number) c.self.inside.queue.items ≡ Some c.in-Some.place = search rules in
    let here : position (has_number c.args.number) c.args.self.now.queue ≡ Some c.in-Some.place = search rules in
    record {
      ok = (
        one_cancelled c.args.number c.args.self.now c.in-Some.place here,
        ap (λ (slashes : List DeferredSlash). record {
          current = c.self.inside.current;
          kept =
              c.self.inside.latest ∷ c.self.inside.earlier.items;
          queue = slashes;
          next_slash =
              c.self.inside.next_slash;
        })
            (c.remove.ensures.items ∙ left_out c.args.number c.self.inside.queue.items c.in-Some.place c.self.invariant.1.numbers found)
            ∙ ap (λ (eras : Eras). cancelling c.args.number eras) c.self.view_is,
      );
      refused = tt;
      unchanged = tt;
    }

pub returns-clause-answer : goal.returns-clause-answer
returns-clause-answer c =
    let here : position (has_number c.args.number) c.args.self.now.queue ≡ Some c.in-Some.place = search rules in
    sym (ap answer_of (one_cancelled c.args.number c.args.self.now c.in-Some.place here))
