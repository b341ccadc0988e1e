use Rattle.npos_runtime.proofs.Histories.TimeLemmas.{none_crowded_out}
use Rattle.npos_runtime.proofs.laws.nothing_valid_is_crowded_out_for_free.Goals as goal

pub returns : goal.returns
returns c = none_crowded_out c.a_packed_yes_is_a_plain_yes.ensures
