-- No exposure is sound.
use Rattle.std.proofs.Common.{[]}
use Rattle.std.proofs.lemmas.List.Elements.{All-nil}
use Rattle.std.specs.List.{IsDistinct}
use Rattle.era_book.specs.Exposures.{IsSoundExposure, AreSound}
use Rattle.room_tests.proofs.eras.start_empty.Goals as goal

none_sound : AreSound []
unfolding IsDistinct
none_sound = record { each = All-nil IsSoundExposure; distinct = tt }

pub start_era-requires-clause-sound : goal.start_era-requires-clause-sound
start_era-requires-clause-sound c = rw c.new.ensures none_sound
