use Rattle.voter_lists.proofs.MarkLemmas.{found_within}
use Rattle.voter_lists.proofs.standings.Standings.get.Goals as goal

pub noted-requires : goal.noted-requires
noted-requires c = found_within c.args.self.now.accounts c.args.who c.place_of.result c.place_of.ensures.place c.place_of.ensures.stand
