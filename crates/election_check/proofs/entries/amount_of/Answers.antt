use Rattle.election_check.proofs.TakingLemmas.{parts_of_whole}
use Rattle.election_check.proofs.entries.amount_of.Goals as goal

pub returns : goal.returns
returns c = rw c.from-parts.ensures (parts_of_whole c.args.stake c.args.parts)
