-- What is written of a bundle in its other form, and that the one form gives the other back.
use Rattle.std.proofs.Common.{◌≡◌, ℕ, ◌<◌, ◌≤◌, Bool, List, ◌++◌, length, Result, Ok, Err, if◌then◌else◌, refl, sym, ◌∙◌, ap, subst, inl, inr}
use Rattle.std.proofs.lemmas.Bool.{lt-ltb, le-ltb}
use Rattle.serde_json.specs.Written.{compact_text}
use Rattle.scale_wire.specs.declared.fault.WireFault.{WireFault}
use Rattle.scale_wire.specs.Form.{IsBytes}
use Rattle.scale_wire.specs.DecidedLaws.{decided_whole}
use Rattle.scale_wire.specs.WholeReading.{read_as, read_value, read_fault}
use Rattle.block_wire.specs.declared.bundle.Bundle.{Bundle}
use Rattle.block_wire.specs.Bundles.{bundle_form}
use Rattle.block_wire.specs.BundleLaws.{bundle_laws}
use Rattle.bundle_json.specs.Json.{json_of}
use Rattle.bundle_json.proofs.Rereading.{line_stands}
use Rattle.bundle_reports.specs.declared.asked.Rewriting.{Rewriting}
use Rattle.bundle_reports.specs.declared.asked.Rewriting.TheVariants.{Pack, Show}
use Rattle.bundle_reports.specs.declared.ending.Ending.TheVariants as endings
use Rattle.told_lines.specs.Texts.{newline}
use Rattle.bundle_reports.specs.Verdicts.{long_line}
use Rattle.bundle_reports.specs.Bundles.{Report, faulty}
use Rattle.bundle_reports.specs.Rewriting.{done, pack_report, show_report, rewritten, rewrite_report}

-- ## Bytes within the limit

pub rewrite_long : (way : Rewriting) (bytes : List ℕ) → 16777216 < length bytes → rewrite_report way bytes ≡ faulty long_line
rewrite_long way bytes over = ap (λ (b : Bool). if b then faulty long_line else rewritten way bytes) (lt-ltb 16777216 (length bytes) over)

pub rewrite_within : (way : Rewriting) (bytes : List ℕ) → length bytes ≤ 16777216 → rewrite_report way bytes ≡ rewritten way bytes
rewrite_within way bytes within = ap (λ (b : Bool). if b then faulty long_line else rewritten way bytes) (le-ltb 16777216 (length bytes) within)

-- ## From SCALE to JSON and back

-- what was read as a bundle is its spelling
record Spells (bytes : List ℕ) (bundle : Bundle) : Type 0 where
  pub in_range : bundle_form.in_range bundle
  pub whole : bytes ≡ bundle_form.spelling bundle

was_spelled : (bytes : List ℕ) (bundle : Bundle) → IsBytes bytes → read_as bundle_form bundle_laws bytes ≡ Ok bundle → Spells bytes bundle
was_spelled bytes bundle are is = elim ((decided_whole bundle_form bundle_laws).either bytes are) [
  | inl found ↦
      let read = read_value bundle_form bundle_laws bytes found.value are found.in_range found.whole in
      let same : found.value ≡ bundle = let e : Ok found.value ≡ Ok bundle = sym read ∙ is in cc in
      record {
        in_range = subst (λ (b : Bundle). bundle_form.in_range b) same found.in_range;
        whole = found.whole ∙ ap bundle_form.spelling same;
      }
  | inr refused ↦
      let fault : WireFault = record { at = refused.at; why = refused.why } in
      let read : read_as bundle_form bundle_laws bytes ≡ Err fault = read_fault bundle_form bundle_laws bytes fault are refused.bad in
      absurd (let e : Err fault ≡ Ok bundle = sym read ∙ is in cc)
]

-- a text that is done is the line of the bundle that was read
record Shows (bytes text : List ℕ) : Type 0 where
  pub bundle : Bundle
  pub is_bundle : read_as bundle_form bundle_laws bytes ≡ Ok bundle
  pub is_text : text ≡ compact_text (json_of bundle) ++ newline

was_shown : (bytes text : List ℕ) → done text ≡ show_report (read_as bundle_form bundle_laws bytes) → Shows bytes text
was_shown bytes text is = by (read_as bundle_form bundle_laws bytes) refl is where
  by : (read : Result Bundle WireFault) → read_as bundle_form bundle_laws bytes ≡ read → done text ≡ show_report read → Shows bytes text
  by (Ok bundle) e is = record { bundle = bundle; is_bundle = e; is_text = ap (λ (r : Report). r.text) is }
  by (Err fault) e is = absurd (let other : endings.Done ≡ endings.BadInput = ap (λ (r : Report). r.ending) is in cc)

-- within the limit, packing a text that was shown gives back what was shown
pub packs_shown : (bytes text : List ℕ) → IsBytes bytes → length bytes ≤ 16777216 → done text ≡ rewrite_report Show bytes → length text ≤ 16777216
    → done bytes ≡ rewrite_report Pack text
packs_shown bytes text are within shown short =
    let shows = was_shown bytes text (shown ∙ rewrite_within Show bytes within) in
    let spells = was_spelled bytes shows.bundle are shows.is_bundle in
    ap done spells.whole
    ∙ sym (rewrite_within Pack text short ∙ (ap (rewritten Pack) shows.is_text ∙ ap pack_report (line_stands shows.bundle spells.in_range)))
