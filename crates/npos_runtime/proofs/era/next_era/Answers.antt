use Rattle.std.proofs.Common.{sym, subst}
use Rattle.era_book.specs.Exposures.{AreSound}
use Rattle.npos_runtime.proofs.Rules.ExposureLemmas.{none_sound}
use Rattle.npos_runtime.proofs.era.next_era.Goals as goal

pub start_era-requires-clause-sound : goal.start_era-requires-clause-sound
start_era-requires-clause-sound c = subst AreSound (sym c.new.ensures) none_sound
