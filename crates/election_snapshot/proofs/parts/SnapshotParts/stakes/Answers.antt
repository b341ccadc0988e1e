use Rattle.std.proofs.Common.{◌∙◌, sym}
use Rattle.election_snapshot.proofs.KeptLemmas.{kept_stakes}
use Rattle.election_snapshot.proofs.parts.SnapshotParts.stakes.Goals as goal

pub returns : goal.returns
returns c = rw (← c.self.view_is) (c.as_slice.ensures.value
    ∙ sym (kept_stakes c.self.inside.voters.accounts.items c.self.inside.voters.stakes.items
    c.self.inside.voters.ballots.items c.self.invariant.stakes_count c.self.invariant.votes_count))
