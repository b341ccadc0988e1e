use Rattle.npos_cli.proofs.laws.resumed_replays_keep_their_promise.Goals as goal

pub returns : goal.returns
returns c = λ bytes. record {
  books = c.resumed_replays_balance.ensures bytes;
  committees = c.resumed_replays_seat_sound_committees.ensures bytes;
  seats = c.resumed_replays_seat_each_round.ensures bytes;
  crowding = c.resumed_replays_crowd_nothing_out.ensures bytes;
  deposits = c.resumed_replays_settle_deposits.ensures bytes;
  eras = c.resumed_replays_keep_the_bounds_of_slashes.ensures bytes;
}
