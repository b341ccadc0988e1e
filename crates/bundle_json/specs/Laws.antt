-- What follows from what the JSON of a bundle is.
use Rattle.std.specs.Prelude.{◌≡◌, [], ◌∷◌, ◌++◌, Some, Ok}
use Rattle.serde_json.specs.Data.{Data}
use Rattle.serde_json.specs.Written.{compact_text}
use Rattle.block_wire.specs.Bundles.{bundle_form}
use Rattle.block_wire.specs.declared.bundle.Bundle.{Bundle}
use Rattle.bundle_json.specs.Json.{json_of}
use Rattle.bundle_json.specs.Shape.{bundle_of}
use Rattle.bundle_json.specs.Text.{reading, bundle_in_text}

-- the value that a bundle is written as stands for that bundle
abbrev pub StandsForItself : Type 0
StandsForItself = (bundle : Bundle) → bundle_form.in_range bundle → bundle_of (json_of bundle) ≡ Some bundle

-- what is written of a bundle reads as that value
abbrev pub ReadsAsWritten : Type 0
ReadsAsWritten = (bundle : Bundle) → bundle_form.in_range bundle
    → reading (compact_text (json_of bundle)) ≡ Some (json_of bundle)

-- the same line stands for the bundle with a line feed behind it
abbrev pub LineStands : Type 0
LineStands = (bundle : Bundle) → bundle_form.in_range bundle
    → bundle_in_text (compact_text (json_of bundle) ++ 10 ∷ []) ≡ Ok bundle

-- a bundle that a value stands for is in range
abbrev pub IsInRange : Type 0
IsInRange = (value : Data) (bundle : Bundle) → bundle_of value ≡ Some bundle → bundle_form.in_range bundle
