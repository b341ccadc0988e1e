-- What was written of a bundle is read as that bundle.
use Rattle.std.proofs.Common.{◌≡◌, ◌≢◌, ℕ, List, [], ◌∷◌, ◌++◌, Result, Ok, Err, IfOk, IfErr, refl, ap, ◌∙◌}
use Rattle.serde_json.specs.Written.{compact_text}
use Rattle.block_wire.specs.Bundles.{bundle_form}
use Rattle.block_wire.specs.declared.bundle.Bundle.{Bundle}
use Rattle.bundle_json.specs.declared.fault.JsonFault.{JsonFault}
use Rattle.bundle_json.specs.declared.fault.JsonFault.TheVariants.{Json, Shape, NoMemory}
use Rattle.bundle_json.specs.Json.{json_of}
use Rattle.bundle_json.specs.Text.{bundle_or_fault, bundle_or_shape, bundle_in_text}
use Rattle.bundle_json.proofs.BackLemmas.{bundle_back}
use Rattle.bundle_json.proofs.KeptLemmas.{bundle_reads, bundle_line_reads}

pub text_stands : (bundle : Bundle) → bundle_form.in_range bundle → (text : List ℕ) → text ≡ compact_text (json_of bundle) → bundle_in_text text ≡ Ok bundle
text_stands bundle h text is = ap bundle_in_text is ∙ (ap bundle_or_fault (bundle_reads bundle h) ∙ ap bundle_or_shape (bundle_back bundle h))

pub line_stands : (bundle : Bundle) → bundle_form.in_range bundle → bundle_in_text (compact_text (json_of bundle) ++ 10 ∷ []) ≡ Ok bundle
line_stands bundle h = ap bundle_or_fault (bundle_line_reads bundle h) ∙ ap bundle_or_shape (bundle_back bundle h)

-- an answer that the text determines
pub settled : {due : Result Bundle JsonFault} (bundle : Bundle) (result : Result Bundle JsonFault) → due ≡ Ok bundle → (result ≢ Err NoMemory → result ≡ due)
    → IfOk result (λ back. back ≡ bundle) × IfErr result (λ fault. fault ≡ NoMemory)
settled bundle (Ok back) is determined = let same : Ok back ≡ Ok bundle = determined (λ e. cc) ∙ is in (cc, tt)
settled bundle (Err NoMemory) is determined = (tt, refl)
settled bundle (Err Json) is determined = let same : Err Json ≡ Ok bundle = determined (λ e. cc) ∙ is in absurd (cc)
settled bundle (Err Shape) is determined = let same : Err Shape ≡ Ok bundle = determined (λ e. cc) ∙ is in absurd (cc)
