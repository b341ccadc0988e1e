use Rattle.std.proofs.Common.{sym}
use Rattle.election_snapshot.proofs.KeptLemmas.{kept_total}
use Rattle.election_snapshot.proofs.parts.SnapshotParts.total.Goals as goal

pub returns : goal.returns
returns c = rw (← c.self.view_is) (sym (kept_total c.self.inside.targets.keys c.self.inside.voters.accounts.items
    c.self.inside.voters.stakes.items c.self.inside.voters.ballots.items c.self.inside.voters.total c.self.invariant))
