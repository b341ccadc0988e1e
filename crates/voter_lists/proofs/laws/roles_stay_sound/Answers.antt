use Rattle.voter_lists.proofs.RoleLemmas.{sound_none, sound_put, nominates, sound_left}
use Rattle.voter_lists.proofs.laws.roles_stay_sound.Goals as goal

pub returns : goal.returns
returns c = record { none = sound_none; puts = sound_put; nominates = nominates; leaves = sound_left }
