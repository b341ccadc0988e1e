use Rattle.std.proofs.Common.{◌<◌, ◌∙◌, sym, ap, length, arith, rules}
use Rattle.election_snapshot.specs.Snapshot.{no_account}
use Rattle.election_snapshot.specs.Draft.{Draft}
use Rattle.election_snapshot.proofs.KeptLemmas.{kept_count, kept_voter, account_read}
use Rattle.election_snapshot.proofs.parts.SnapshotParts.voter.Goals as goal

pub index-requires : goal.index-requires
index-requires c =
    let small : c.args.i < length c.self.inside.voters.accounts.items =
    omega (
      arith,
      c.requires,
      ap (λ (d : Draft). length d.voters) c.self.view_is,
      kept_count c.self.inside.voters.accounts.items c.self.inside.voters.stakes.items
          c.self.inside.voters.ballots.items c.self.invariant.stakes_count c.self.invariant.votes_count,
    ) in
    search rules

pub returns : goal.returns
returns c =
    let small : c.args.i < length c.self.inside.voters.accounts.items =
    omega (
      arith,
      c.requires,
      ap (λ (d : Draft). length d.voters) c.self.view_is,
      kept_count c.self.inside.voters.accounts.items c.self.inside.voters.stakes.items
          c.self.inside.voters.ballots.items c.self.invariant.stakes_count c.self.invariant.votes_count,
    ) in
    rw (← c.self.view_is)
    (c.index.ensures ∙ account_read c.self.inside.voters.accounts.items c.args.i _ no_account small
    ∙ sym (ap (λ voter. voter.account) (kept_voter c.self.inside.voters.accounts.items
    c.self.inside.voters.stakes.items c.self.inside.voters.ballots.items c.args.i c.self.invariant.stakes_count
    c.self.invariant.votes_count small)))
