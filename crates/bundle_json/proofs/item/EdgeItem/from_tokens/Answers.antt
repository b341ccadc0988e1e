use Rattle.bundle_json.proofs.Fronts.{edge_front}
use Rattle.bundle_json.proofs.item.EdgeItem.from_tokens.Goals as goal

pub returns : goal.returns
returns c =
    edge_front _ _ _ _ _ _ _ _ _ c.in_ok-open_array.ensures c.in_ok-voter.ensures c.in_ok-target.ensures c.in_ok-amount.ensures
    c.in_ok-close_array.ensures
