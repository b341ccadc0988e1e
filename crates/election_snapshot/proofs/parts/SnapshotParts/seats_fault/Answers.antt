-- The fault of what is kept is that of the draft.
use Rattle.std.proofs.Common.{◌≡◌, ◌∙◌, length, rules}
use Rattle.election_snapshot.proofs.KeptLemmas.{kept_seats_fault}
use Rattle.election_snapshot.proofs.parts.SnapshotParts.seats_fault.Goals as goal

pub returns : goal.returns
returns c =
    let all : c.len.result ≡ length c.self.inside.targets.keys = search rules in
    rw (← c.self.view_is) (c.seats_fault.ensures ∙ kept_seats_fault c.self.inside.targets.keys
    c.self.inside.voters.accounts.items c.self.inside.voters.stakes.items c.self.inside.voters.ballots.items
    c.self.inside.voters.total c.len.result c.args.seats c.self.invariant all)
