use Rattle.npos_runtime.proofs.Histories.LawLemmas.{seats}
use Rattle.npos_runtime.proofs.laws.every_open_round_seats_a_committee.Goals as goal

pub returns : goal.returns
returns c = seats
