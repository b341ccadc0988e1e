-- What an answer reports.
use Rattle.bundle_reports.specs.declared.answers.Answer.{Answer}
use Rattle.bundle_reports.specs.Bundles.{Report}

abbrev pub report_of : Answer → Report
report_of answer = record { text = answer.text.items; ending = answer.ending }
