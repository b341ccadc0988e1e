-- The voter has no fault, and goes behind the others in each of the three lists.
use Rattle.std.proofs.Common.{◌≡◌, None}
use Rattle.election_snapshot.specs.Draft.{voter_fault}
use Rattle.election_snapshot.proofs.KeptLemmas.{drafted, room_fits, room_few, more_kept, more_drafted}
use Rattle.election_snapshot.proofs.parts.SnapshotParts.put_voter.Goals as goal

pub push_within-requires-clause-fits : goal.push_within-requires-clause-fits
push_within-requires-clause-fits c =
    let free : voter_fault (drafted c.self.inside.targets.keys c.self.inside.voters) c.args.who c.args.stake c.args.votes.now ≡ None = rw (← c.self.view_is) at c.requires in
    room_fits c.self.inside.targets.keys c.self.inside.voters c.reserve.new.self c.reserve.ensures.same c.self.invariant c.args.who c.args.stake c.args.votes.now free

pub push_within-requires-clause-voters : goal.push_within-requires-clause-voters
push_within-requires-clause-voters c =
    let free : voter_fault (drafted c.self.inside.targets.keys c.self.inside.voters) c.args.who c.args.stake c.args.votes.now ≡ None = rw (← c.self.view_is) at c.requires in
    room_few c.self.inside.targets.keys c.self.inside.voters c.reserve.new.self c.reserve.ensures.same c.self.invariant c.args.who c.args.stake c.args.votes.now free

pub invariant_of-self-2 : goal.invariant_of-self-2
invariant_of-self-2 c =
    let free : voter_fault (drafted c.self.inside.targets.keys c.self.inside.voters) c.args.who c.args.stake c.args.votes.now ≡ None = rw (← c.self.view_is) at c.requires in
    more_kept c.self.inside.targets.keys c.self.inside.voters c.reserve.new.self c.reserve.ensures.same
    c.self.invariant c.args.who c.args.stake c.args.votes.now free c.push_within.new.self c.push_within.ensures

pub returns-clause-ok : goal.returns-clause-ok
returns-clause-ok c =
    let free : voter_fault (drafted c.self.inside.targets.keys c.self.inside.voters) c.args.who c.args.stake c.args.votes.now ≡ None = rw (← c.self.view_is) at c.requires in
    rw (← c.self.view_is)
    (more_drafted c.self.inside.targets.keys c.self.inside.voters c.reserve.new.self c.reserve.ensures.same
    c.self.invariant c.args.who c.args.stake c.args.votes.now free c.push_within.new.self c.push_within.ensures)
