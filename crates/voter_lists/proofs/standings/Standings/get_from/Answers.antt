use Rattle.std.proofs.Common.{◌∙◌, Some, sym}
use Rattle.voter_lists.proofs.MarkLemmas.{found_within}
use Rattle.voter_lists.proofs.standings.Standings.get_from.Goals as goal
use Rattle.voter_lists.proofs.standings.Standings.get_from.Goals.{in-Some, in_default}

pub noted-requires : goal.noted-requires
noted-requires c = elim c.match-place.branch [
  | in-Some w ↦ rw w.place-is (found_within c.args.self.now.accounts c.args.who (Some w.in-Some.place) (sym w.in-Some.is ∙ c.place_from-place.ensures.place) c.place_from-place.ensures.stand)
  | in_default w ↦ rw w.place-is (found_within c.args.self.now.accounts c.args.who c.place_from-place.result c.place_from-place.ensures.place c.place_from-place.ensures.stand)
]
