use Rattle.npos_runtime.proofs.Histories.PromiseLemmas.{keeps_its_promise}
use Rattle.npos_runtime.proofs.laws.every_history_keeps_its_promise.Goals as goal

pub returns : goal.returns
returns c = keeps_its_promise record {
  start = c.every_history_starts_ready.ensures;
  committees = c.every_seated_committee_is_sound.ensures.blocks;
  seats = c.every_round_ends_as_it_began.ensures;
  crowding = c.nothing_valid_is_crowded_out_for_free.ensures;
  sums = c.the_books_count_what_was_told.ensures.genesis;
  deposits = c.deposits_are_settled.ensures;
  rewards = c.payouts_are_within_the_reward.ensures.together;
  payouts = c.payouts_are_within_the_reward.ensures.each;
  slashes = c.slashes_are_within_the_stake.ensures.each;
  taken = c.slashes_are_within_the_stake.ensures.taken;
  once = c.each_round_is_decided_once.ensures;
  dues = c.slashes_are_within_the_stake.ensures.due;
  queued = c.slashes_that_wait_take_what_is_due.ensures.each;
  applied = c.slashes_that_wait_take_what_is_due.ensures.applied;
  in_all = c.slashes_that_wait_take_what_is_due.ensures.together;
  answers = c.every_call_is_answered.ensures;
}
