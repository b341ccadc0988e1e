use Rattle.std.proofs.Common.{◌≡◌, ◌∷◌, arith}
use Rattle.json.specs.Token.{string}
use Rattle.bundle_json.proofs.Fronts.{text_front}
use Rattle.bundle_json.proofs.tokens.text_at.Goals as goal

pub returns-in-Some-String : goal.returns-in-Some-String
returns-in-Some-String c =
    let is : c.args.tokens.now ≡ string c.in-Some-String.text.now ∷ c.next.new.self = grind arith in
    text_front _ _ _ is
