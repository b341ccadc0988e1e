use Rattle.std.proofs.Common.{◌≡◌, Some, rules}
use Rattle.bundle_json.specs.Shape.{figure_in}
use Rattle.bundle_json.proofs.Fronts.{claim_front}
use Rattle.bundle_json.proofs.parts.claim_at.Goals as goal

pub returns : goal.returns
returns c =
    let text = c.in_ok-text_at.field-0.now in
    let squares : figure_in text ≡ Some c.in_ok-squares.squares = search rules in
    claim_front _ _ _ _ _ _ _ _ _ text c.in_ok-open_array.ensures c.in_ok-minimal.ensures c.in_ok-sum.ensures c.in_ok-text_at.ensures squares
    c.in_ok-close_array.ensures
