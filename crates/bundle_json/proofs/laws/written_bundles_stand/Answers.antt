use Rattle.bundle_json.proofs.BackLemmas.{bundle_back}
use Rattle.bundle_json.proofs.KeptLemmas.{bundle_reads}
use Rattle.bundle_json.proofs.Rereading.{line_stands}
use Rattle.bundle_json.proofs.laws.written_bundles_stand.Goals as goal

pub returns-clause-shape : goal.returns-clause-shape
returns-clause-shape c = bundle_back

pub returns-clause-text : goal.returns-clause-text
returns-clause-text c = bundle_reads

pub returns-clause-line : goal.returns-clause-line
returns-clause-line c = line_stands
