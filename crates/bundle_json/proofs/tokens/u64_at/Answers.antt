use Rattle.std.proofs.Common.{◌≡◌, ◌∷◌, sym, arith}
use Rattle.json.specs.Token.{number}
use Rattle.bundle_json.proofs.Fronts.{digits_front}
use Rattle.bundle_json.proofs.tokens.u64_at.Goals as goal

pub returns-in-Some : goal.returns-in-Some
returns-in-Some c =
    let digits = c.as_bytes-digits.result.now in
    let is : c.args.tokens.now ≡ number c.in-Some-Number.text.now ∷ c.next.new.self = grind arith in
    let same : c.args.tokens.now ≡ number digits ∷ c.next.new.self = grind (arith, is) in
    digits_front _ _ digits c.scan.result c.in-Some.n same c.scan.ensures.parts c.if-digits-eq45.false c.in-Some.ensures.0 (sym c.in-Some.ensures.1)
