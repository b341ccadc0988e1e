use Rattle.bundle_json.proofs.RangeLemmas.{bundle_range}
use Rattle.bundle_json.proofs.laws.bundles_of_json_are_in_range.Goals as goal

pub returns : goal.returns
returns c = bundle_range
