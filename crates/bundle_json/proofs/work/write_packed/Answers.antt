use Rattle.std.proofs.Common.{◌≡◌, List, ℕ, ◌++◌, subst}
use Rattle.hex.specs.Hex.{encode_lower}
use Rattle.json.specs.Tree.{json_tokens}
use Rattle.serde_json.specs.Data.{string}
use Rattle.serde_json.specs.Written.{outline}
use Rattle.bundle_json.specs.Json.{claim_json}
use Rattle.bundle_json.proofs.Appending.{token, value, then, both}
use Rattle.bundle_json.proofs.work.write_packed.Goals as goal

pub returns : goal.returns
returns c =
    let old = c.key-2.new.self in
    let new = c.write_hex.new.out in
    let digits = subst (λ (bytes : List ℕ). (new.before ≡ old.before)
    × (new.tokens ≡ old.tokens ++ json_tokens (outline (string (encode_lower bytes))))) c.as_slice.ensures
    c.in_ok-write_hex.ensures in
    both (then (token c.in_ok-begin_object.ensures) (then (token c.in_ok-key.ensures)
    (then (value (claim_json c.args.claim.now) c.key.new.self c.write_claim.new.out c.in_ok-write_claim.ensures)
    (then (token c.in_ok-key-2.ensures)
    (then (value (string (encode_lower c.args.bytes.now)) old new digits)
    (token c.in_ok-end_object.ensures))))))
