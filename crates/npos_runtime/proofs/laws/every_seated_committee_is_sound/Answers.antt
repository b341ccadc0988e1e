use Rattle.npos_runtime.proofs.Histories.LawLemmas.{sound_step, sound_all}
use Rattle.npos_runtime.proofs.laws.every_seated_committee_is_sound.Goals as goal

pub returns : goal.returns
returns c = record {
  step = sound_step c.a_packed_yes_is_a_plain_yes.ensures c.a_plain_yes_is_passing.ensures c.every_fill_passes.ensures
      c.committees_that_pass_are_answered.ensures c.weights_that_pass_are_proportional.ensures;
  blocks = sound_all c.a_packed_yes_is_a_plain_yes.ensures c.a_plain_yes_is_passing.ensures c.every_fill_passes.ensures
      c.committees_that_pass_are_answered.ensures c.weights_that_pass_are_proportional.ensures;
}
