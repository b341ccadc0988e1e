use Rattle.npos_runtime.proofs.Histories.SeatingsLemmas.{seatings_law}
use Rattle.npos_runtime.proofs.laws.every_round_ends_as_it_began.Goals as goal

pub returns : goal.returns
returns c = seatings_law
