use Rattle.std.proofs.Common.{refl, sym, ◌∙◌}
use Rattle.serde_json.specs.Find.{as_str}
use Rattle.bundle_json.specs.Shape.{solution_in}
use Rattle.bundle_json.proofs.Fronts.{packed_front, front_as}
use Rattle.bundle_json.proofs.work.packed_at.Goals as goal

pub returns-in-Some : goal.returns-in-Some
returns-in-Some c =
    let text = c.in_ok-solution.solution.now in
    let solution = front_as as_str solution_in 0 _ _ text c.in-Some.bytes (λ d e. rw e (sym c.in_ok-bytes.ensures ∙ c.in-Some.is)) c.in_ok-solution.ensures in
    packed_front _ _ _ _ _ _ _ _ _ refl refl c.in_ok-claim.ensures c.in_ok-key.ensures solution c.in_ok-close_object.ensures
