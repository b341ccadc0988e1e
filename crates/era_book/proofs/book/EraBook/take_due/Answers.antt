-- The slash of least number is due first.
use Rattle.std.proofs.Common.{◌≡◌, ◌∷◌, List, slice_get, Option, Some, rules, tests, ap, sym, ◌∙◌}
use Rattle.era_book.specs.declared.deferred.DeferredSlash.{DeferredSlash}
use Rattle.era_book.specs.Deferred.{next_due, without_slash, without_next_due}
use Rattle.era_book.proofs.DeferredLemmas.{none_due, first_leaves}
use Rattle.era_book.proofs.book.EraBook.take_due.Goals as goal

pub returns-then-first-self-clause-taken : goal.returns-then-first-self-clause-taken
returns-then-first-self-clause-taken c =
    let first : slice_get c.self.inside.queue.items 0 ≡ Some c.in_ok-first.first.now = search rules in
    sym (none_due c.self.inside.current c.in_ok-first.first.now c.self.inside.queue.items c.self.invariant.1.dues first (search (rules, tests)))
    ∙ ap next_due c.self.view_is

pub returns-then-first-self-clause-after : goal.returns-then-first-self-clause-after
returns-then-first-self-clause-after c =
    ap (λ (found : Option DeferredSlash). record c.args.self.now { queue = without_slash found c.args.self.now.queue })
    (returns-then-first-self-clause-taken c)

pub returns-clause-after : goal.returns-clause-after
returns-clause-after c =
    let first : slice_get c.self.inside.queue.items 0 ≡ Some c.in_ok-first.first.now = search rules in
    ap (λ (slashes : List DeferredSlash). record { current = c.self.inside.current; kept = c.self.inside.latest ∷ c.self.inside.earlier.items; queue = slashes; next_slash = c.self.inside.next_slash })
    (c.remove.ensures.items ∙ first_leaves c.self.inside.current c.in_ok-first.first.now c.self.inside.queue.items c.self.invariant.1.numbers first (search (rules, tests)))
    ∙ ap without_next_due c.self.view_is
