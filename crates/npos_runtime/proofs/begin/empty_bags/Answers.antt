use Rattle.npos_runtime.proofs.Rules.BeginLemmas.{rising_params}
use Rattle.npos_runtime.proofs.begin.empty_bags.Goals as goal

pub new-requires-clause-rising : goal.new-requires-clause-rising
new-requires-clause-rising c = rising_params c.args.params.now c.in_ok-thresholds.thresholds c.requires.sound c.in_ok-thresholds.ensures
