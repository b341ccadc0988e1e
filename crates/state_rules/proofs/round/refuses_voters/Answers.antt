use Rattle.std.proofs.Common.{◌≡◌, ◌∙◌, sym, ap, subst, false, is_some, take}
use Rattle.block_wire.specs.declared.bundle.BundleVoter.{BundleVoter}
use Rattle.election_snapshot.specs.Draft.{Draft, with_voter, voter_fault}
use Rattle.state_rules.specs.Rounds.{is_refused_voter}
use Rattle.state_rules.proofs.ListLemmas.{good_here}
use Rattle.state_rules.proofs.RoundLemmas.{taken_more}
use Rattle.state_rules.proofs.round.refuses_voters.Goals as goal

pub loop-voter-preserved : goal.loop-voter-preserved
loop-voter-preserved c =
    let targets = c.args.targets.now in
    let voters = c.args.voters.now in
    let place = c.loop-voter.voter-index in
    let voter = c.voter-item.result in
    let told : is_some (voter_fault c.loop-voter.builder voter.account voter.stake voter.votes) ≡ false =
    sym c.in_ok-refuses_voter.ensures.told ∙ c.if-branch.false in
    let known : is_refused_voter targets (take place voters) voter ≡ false =
    subst (λ (draft : Draft). is_some (voter_fault draft voter.account voter.stake voter.votes) ≡ false) c.loop-voter.invariant.taken told in
    record {
      ahead = good_here (is_refused_voter targets) voters place voter c.loop-voter.invariant.ahead c.loop-voter-test.true
          (subst (λ (v : BundleVoter). is_refused_voter targets (take place voters) v ≡ false) c.voter-item.is known);
      taken = c.in_ok-refuses_voter.ensures.added c.if-branch.false
          ∙ (ap (λ (draft : Draft). with_voter draft voter.account voter.stake voter.votes) c.loop-voter.invariant.taken
          ∙ taken_more targets voters place voter voter c.loop-voter-test.true c.voter-item.is);
    }
