use Rattle.std.proofs.Common.{refl}
use Rattle.bundle_json.proofs.Fronts.{plain_front}
use Rattle.bundle_json.proofs.work.plain_at.Goals as goal

pub returns : goal.returns
returns c =
    plain_front _ _ _ _ _ _ _ _ _ refl refl c.in_ok-committee.ensures c.in_ok-key.ensures c.in_ok-edges.ensures c.in_ok-close_object.ensures
