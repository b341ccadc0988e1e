-- The slash has one line, and none that waits is due later.
use Rattle.std.proofs.Common.{◌≡◌, ◌<◌, ◌≤◌, [], ◌∷◌, All, rules, tests}
use Rattle.std.specs.List.{IsDistinct}
use Rattle.era_book.specs.declared.deferred.DeferredSlash.{DeferredSlash}
use Rattle.era_book.specs.declared.exposure.Backer.{Backer}
use Rattle.era_book.specs.Exposures.{AreApart}
use Rattle.room_tests.proofs.eras.queue_for.Goals as goal

one_apart : (line : Backer) → AreApart (line ∷ [])
unfolding IsDistinct
one_apart line = (tt, tt)

pub queue_slash-requires-clause-queueable : goal.queue_slash-requires-clause-queueable
queue_slash-requires-clause-queueable c =
    let lines : c.from_vec-lines.result ≡ c.backer.result ∷ [] = search rules in
    let ahead : c.args.book.now.current < c.args.due = search (rules, tests) in
    let last : All (λ (slash : DeferredSlash). slash.due ≤ c.args.due) c.args.book.now.queue = search (rules, tests) in
    record { ahead = ahead; last = last; distinct = rw lines (one_apart c.backer.result) }
