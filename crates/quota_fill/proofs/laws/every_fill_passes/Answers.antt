use Rattle.quota_fill.proofs.PassingLemmas.{every_fill_passes}
use Rattle.quota_fill.proofs.laws.every_fill_passes.Goals as goal

pub returns : goal.returns
returns c = every_fill_passes
