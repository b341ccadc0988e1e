use Rattle.bundle_json.proofs.Fronts.{bundle_front}
use Rattle.bundle_json.proofs.bundle.bundle_at.Goals as goal

pub returns : goal.returns
returns c =
    bundle_front _ _ _ _ _ _ _ _ _ _ _ _ _ _ _ c.in_ok-open_object.ensures c.in_ok-key.ensures c.in_ok-seats.ensures c.in_ok-key-2.ensures
    c.in_ok-targets.ensures c.in_ok-key-3.ensures c.in_ok-voters.ensures c.in_ok-key-4.ensures c.in_ok-work.ensures c.in_ok-close_object.ensures
