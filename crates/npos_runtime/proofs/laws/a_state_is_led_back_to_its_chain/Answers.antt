use Rattle.npos_runtime.proofs.Kept.ChainLemmas.{restore}
use Rattle.npos_runtime.proofs.laws.a_state_is_led_back_to_its_chain.Goals as goal

pub returns : goal.returns
returns c = restore
