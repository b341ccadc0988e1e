use Rattle.std.proofs.Common.{◌∙◌, ap}
use Rattle.election_snapshot.specs.Draft.{Draft, with_voter}
use Rattle.state_rules.proofs.RoundLemmas.{taken_more}
use Rattle.npos_runtime.proofs.Kept.Remade.PollLemmas.{voter_ready}
use Rattle.npos_runtime.proofs.remade_polls.add_voters.Goals as goal

pub add_voter-requires : goal.add_voter-requires
add_voter-requires c =
    voter_ready c.args.targets.now c.args.voters.now c.loop-voter.builder c.loop-voter.voter-index _ c.voter-item.result c.requires.taken
    c.loop-voter.invariant c.loop-voter-test.true c.voter-item.is

pub loop-voter-preserved : goal.loop-voter-preserved
loop-voter-preserved c =
    let voter = c.voter-item.result in
    c.in_ok-add_voter.ensures
    ∙ (ap (λ (draft : Draft). with_voter draft voter.account voter.stake voter.votes) c.loop-voter.invariant
    ∙ taken_more c.args.targets.now c.args.voters.now c.loop-voter.voter-index _ voter c.loop-voter-test.true c.voter-item.is)
