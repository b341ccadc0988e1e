-- How a text in JSON stands to the value that it is.
use Rattle.std.specs.Prelude.{◌≡◌, ◌≤◌, ℕ, List, ◌++◌, Option, Some, None, Result, Ok, Err, OnOk, if◌then◌else◌}
use Rattle.std.specs.List.{flat_map}
use Rattle.std.specs.Str.{is_utf8}
use Rattle.json.specs.Json.{value}
use Rattle.json.specs.Token.{Token}
use Rattle.json.specs.Tree.{json_tokens}
use Rattle.json.specs.Written.{Written}
use Rattle.serde_json.specs.Data.{Data}
use Rattle.serde_json.specs.Read.{converted, of_json, read}
use Rattle.serde_json.specs.Written.{outline}
use Rattle.block_wire.specs.declared.bundle.Bundle.{Bundle}
use Rattle.bundle_json.specs.declared.fault.JsonFault.{JsonFault}
use Rattle.bundle_json.specs.declared.fault.JsonFault.TheVariants.{Json, Shape}
use Rattle.bundle_json.specs.Shape.{bundle_of}

-- ## Reading

-- the value that a text is, where it is UTF-8 and has a reading as JSON
abbrev pub reading : List ℕ → Option Data
reading text = if is_utf8 text then read text else None

abbrev pub bundle_or_shape : Option Bundle → Result Bundle JsonFault
bundle_or_shape (Some bundle) = Ok bundle
bundle_or_shape None = Err Shape

abbrev pub bundle_or_fault : Option Data → Result Bundle JsonFault
bundle_or_fault (Some value) = bundle_or_shape (bundle_of value)
bundle_or_fault None = Err Json

-- The bundle that a text of JSON stands for. One without a reading is refused as Json, and one
-- whose value stands for no bundle as Shape.
abbrev pub bundle_in_text : List ℕ → Result Bundle JsonFault
bundle_in_text text = bundle_or_fault (reading text)

-- What the value at the front of the tokens stands for, where it nests no deeper than so many, and
-- the tokens behind it.
abbrev pub at_front : {A : Type 0} → (Data → Option A) → ℕ → List Token → Option (A × List Token)
at_front stands depth ts = converted stands (converted of_json (value depth ts))

-- the tokens begin with a value that stands for x and nests no deeper than so many, and go on as new
abbrev pub Front : {A : Type 0} → (Data → Option A) → ℕ → List Token → A → List Token → Type 0
Front stands nests old x new = (depth : ℕ) → nests ≤ depth → at_front stands depth old ≡ Some (x, new)

-- ## Writing

-- the tokens were written behind those that stood before
abbrev pub AppendsTokens : {E : Type 0} → List Token → Written → Result (Unit {0}) E → Written → Type 0
AppendsTokens tokens old result new =
    OnOk result ((new.before ≡ old.before) × (new.tokens ≡ old.tokens ++ tokens))

abbrev pub Appends : {E : Type 0} → Data → Written → Result (Unit {0}) E → Written → Type 0
Appends value = AppendsTokens (json_tokens (outline value))

-- the tokens of values, one behind the other
abbrev pub tokens_of : {A : Type 0} → (A → Data) → List A → List Token
tokens_of json xs = flat_map (λ x. json_tokens (outline (json x))) xs
