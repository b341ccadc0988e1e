use Rattle.std.proofs.Common.{◌<◌, ◌∙◌, sym, ap, length, arith}
use Rattle.election_snapshot.specs.Draft.{Draft}
use Rattle.election_snapshot.proofs.KeptLemmas.{kept_count, kept_voter}
use Rattle.election_snapshot.proofs.parts.SnapshotParts.votes.Goals as goal

pub votes-requires : goal.votes-requires
votes-requires c =
    let small : c.args.i < length c.self.inside.voters.accounts.items =
    omega (
      arith,
      c.requires,
      ap (λ (d : Draft). length d.voters) c.self.view_is,
      kept_count c.self.inside.voters.accounts.items c.self.inside.voters.stakes.items
          c.self.inside.voters.ballots.items c.self.invariant.stakes_count c.self.invariant.votes_count,
    ) in
    omega (arith, small, c.self.invariant.votes_count)

pub returns : goal.returns
returns c =
    let small : c.args.i < length c.self.inside.voters.accounts.items =
    omega (
      arith,
      c.requires,
      ap (λ (d : Draft). length d.voters) c.self.view_is,
      kept_count c.self.inside.voters.accounts.items c.self.inside.voters.stakes.items
          c.self.inside.voters.ballots.items c.self.invariant.stakes_count c.self.invariant.votes_count,
    ) in
    rw (← c.self.view_is)
    (c.votes.ensures ∙ sym (ap (λ voter. voter.votes) (kept_voter c.self.inside.voters.accounts.items
    c.self.inside.voters.stakes.items c.self.inside.voters.ballots.items c.args.i c.self.invariant.stakes_count
    c.self.invariant.votes_count small)))
