use Rattle.std.proofs.Common.{◌≡◌, ◌∙◌, sym, length, rules}
use Rattle.election_snapshot.proofs.KeptLemmas.{kept_count}
use Rattle.election_snapshot.proofs.parts.SnapshotParts.voter_count.Goals as goal

pub returns : goal.returns
returns c =
    let all : c.len.result ≡ length c.self.inside.voters.accounts.items = search rules in
    rw (← c.self.view_is) (all ∙ sym (kept_count c.self.inside.voters.accounts.items c.self.inside.voters.stakes.items
    c.self.inside.voters.ballots.items c.self.invariant.stakes_count c.self.invariant.votes_count))
