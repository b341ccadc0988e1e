use Rattle.std.proofs.Common.{◌≡◌, ◌++◌, [], ◌∙◌, ap, ap₂}
use Rattle.json.specs.Print.{print}
use Rattle.json.specs.Tree.{json_tokens}
use Rattle.serde_json.specs.Written.{outline}
use Rattle.serde_json.proofs.Texts.{print-outline}
use Rattle.bundle_json.specs.Json.{json_of}
use Rattle.bundle_json.proofs.bundle.bundle_to_json.Goals as goal

pub returns : goal.returns
returns c =
    let d = json_of c.args.bundle.now in
    let written = c.in_ok-write_bundle.ensures in
    let tokens : c.write_bundle.new.out.tokens ≡ json_tokens (outline d) = written.1 ∙ ap (λ ts. ts ++ json_tokens (outline d)) c.new-out.ensures.tokens in
    let before : c.write_bundle.new.out.before ≡ [] = written.0 ∙ (c.new-out.ensures.before ∙ c.in_ok-with_capacity.ensures.items) in
    c.from_vec.ensures ∙ (c.into_inner.ensures.items ∙ (ap₂ (λ b ts. b ++ print ts) before tokens ∙ print-outline d))
