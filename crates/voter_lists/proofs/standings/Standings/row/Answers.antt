-- The row at the place of an account notes its standing, and names those who have a place.
use Rattle.std.proofs.Common.{◌≡◌, ◌<◌, ◌∙◌, length, Some, slice_get, ap, sym, arith}
use Rattle.std.proofs.lemmas.Option.{slice_get-get_or}
use Rattle.voter_lists.proofs.MarkLemmas.{row_standing}
use Rattle.voter_lists.proofs.standings.Standings.row.Goals as goal

pub returns-clause-standing : goal.returns-clause-standing
returns-clause-standing c who there =
    let stands : slice_get c.self.inside.places c.args.place ≡ Some who = rw (← c.self.view_is) at there in
    rw (← c.self.view_is)
    (row_standing c.self.inside.rows.items c.self.inside.places who c.args.place c.self.invariant (c.self.invariant.stand.placed who c.args.place stands) c.index.result.now c.index.ensures)

pub returns-clause-placed : goal.returns-clause-placed
returns-clause-placed c =
    let known : c.args.place < length c.self.inside.places = rw (← c.self.view_is) at c.requires in
    let within : c.args.place < length c.self.inside.rows.items = omega (arith, known, c.self.invariant.count) in
    rw (← c.self.view_is)
    (c.self.invariant.placed c.args.place c.index.result.now (slice_get-get_or c.self.inside.rows.items c.args.place c.index.result.now within ∙ ap (λ row. Some row) (sym c.index.ensures)))
