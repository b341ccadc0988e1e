use Rattle.bundle_json.proofs.Fronts.{voter_front}
use Rattle.bundle_json.proofs.voter.BundleVoterItem.from_tokens.Goals as goal

pub returns : goal.returns
returns c =
    voter_front _ _ _ _ _ _ _ _ _ _ _ _ c.in_ok-open_object.ensures c.in_ok-key.ensures c.in_ok-account.ensures c.in_ok-key-2.ensures
    c.in_ok-stake.ensures c.in_ok-key-3.ensures c.in_ok-votes.ensures c.in_ok-close_object.ensures
