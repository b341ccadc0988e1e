-- What is written of a bundle in its other form: SCALE of one in JSON, and JSON of one in SCALE.
use Rattle.std.specs.Prelude.{ℕ, nat_lt, if◌then◌else◌, List, [], ◌++◌, length, codes, Result, Ok, Err}
use Rattle.scale_wire.specs.declared.fault.WireFault.{WireFault}
use Rattle.scale_wire.specs.WholeReading.{read_as}
use Rattle.serde_json.specs.Written.{compact_text}
use Rattle.block_wire.specs.declared.bundle.Bundle.{Bundle}
use Rattle.block_wire.specs.Bundles.{bundle_form}
use Rattle.block_wire.specs.BundleLaws.{bundle_laws}
use Rattle.bundle_json.specs.declared.fault.JsonFault.{JsonFault}
use Rattle.bundle_json.specs.declared.fault.JsonFault.TheVariants.{Json, Shape, NoMemory}
use Rattle.bundle_json.specs.Json.{json_of}
use Rattle.bundle_json.specs.Text.{bundle_in_text}
use Rattle.bundle_reports.specs.declared.asked.Rewriting.{Rewriting}
use Rattle.bundle_reports.specs.declared.asked.Rewriting.TheVariants.{Pack, Show}
use Rattle.bundle_reports.specs.declared.ending.Ending.TheVariants as endings
use Rattle.told_lines.specs.Texts.{newline}
use Rattle.bundle_reports.specs.Texts.{fault_line}
use Rattle.bundle_reports.specs.Verdicts.{long_line}
use Rattle.bundle_reports.specs.Bundles.{Report, faulty}

abbrev pub done : List ℕ → Report
done text = record { text = text; ending = endings.Done }

-- want of memory has no line
abbrev pub json_fault_line : JsonFault → List ℕ
json_fault_line Json = codes "fault 0 json\n"
json_fault_line Shape = codes "fault 0 shape\n"
json_fault_line NoMemory = []

-- the spelling of the bundle, with nothing behind it
abbrev pub pack_report : Result Bundle JsonFault → Report
pack_report (Ok bundle) = done (bundle_form.spelling bundle)
pack_report (Err fault) = faulty (json_fault_line fault)

-- the text of the bundle in one line
abbrev pub show_report : Result Bundle WireFault → Report
show_report (Ok bundle) = done (compact_text (json_of bundle) ++ newline)
show_report (Err fault) = faulty (fault_line fault.at fault.why)

abbrev pub rewritten : Rewriting → List ℕ → Report
rewritten Pack bytes = pack_report (bundle_in_text bytes)
rewritten Show bytes = show_report (read_as bundle_form bundle_laws bytes)

abbrev pub rewrite_report : Rewriting → List ℕ → Report
rewrite_report way bytes = if nat_lt 16777216 (length bytes) then faulty long_line else rewritten way bytes
