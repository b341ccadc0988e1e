use Rattle.std.proofs.Common.{rules, ◌≡◌, ◌<◌, length}
use Rattle.voter_lists.specs.Votes.{votes_of}
use Rattle.npos_runtime.specs.Rules.Ballots.{active_of}
use Rattle.npos_runtime.proofs.Rules.VoterLemmas.{no_fault}
use Rattle.npos_runtime.proofs.ballot.add_voter.Goals as goal

pub put_voter-requires : goal.put_voter-requires
put_voter-requires c =
    let chain = c.args.chain.now in
    let who = c.args.who in
    let stake : c.active_from-stake.result ≡ active_of chain who = search rules in
    let votes : c.as_slice.result.now ≡ votes_of chain.roles who = search rules in
    let staked : 0 < active_of chain who = search rules in
    let voting : 0 < length (votes_of chain.roles who) = search rules in
    rw (stake, votes) (no_fault chain c.args.parts.now who c.requires.polled.0 c.requires.live c.requires.room c.requires.polled.1 staked voting)
