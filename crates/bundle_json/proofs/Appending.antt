-- Tokens that are written one behind the other.
use Rattle.std.proofs.Common.{◌≡◌, List, [], ◌∷◌, ◌++◌, Ok, ap, ◌∙◌, append_assoc}
use Rattle.json.specs.Token.{Token}
use Rattle.json.specs.Tree.{json_tokens}
use Rattle.json.specs.Written.{Written, Writes}
use Rattle.serde_json.specs.Data.{Data}
use Rattle.serde_json.specs.Written.{outline}

pub record IsAppended (tokens : List Token) (old new : Written) : Type 0 where
  pub before : new.before ≡ old.before
  pub written : new.tokens ≡ old.tokens ++ tokens

-- one token
pub token : {E : Type 0} {old new : Written} {t : Token} → Writes {E = E} (Ok tt) old new t → IsAppended (t ∷ []) old new
token h = record { before = h.room.0; written = h.ok }

-- a value
pub value : (d : Data) (old new : Written) → (new.before ≡ old.before) × (new.tokens ≡ old.tokens ++ json_tokens (outline d)) → IsAppended (json_tokens (outline d)) old new
value d old new h = record { before = h.0; written = h.1 }

pub then : {ts us : List Token} {old mid new : Written} → IsAppended ts old mid → IsAppended us mid new → IsAppended (ts ++ us) old new
then {ts} {us} {old} h k = record {
  before = k.before ∙ h.before;
  written = k.written ∙ ap (λ tokens. tokens ++ us) h.written ∙ append_assoc old.tokens ts us;
}

pub both : {ts : List Token} {old new : Written} → IsAppended ts old new → (new.before ≡ old.before) × (new.tokens ≡ old.tokens ++ ts)
both h = (h.before, h.written)
