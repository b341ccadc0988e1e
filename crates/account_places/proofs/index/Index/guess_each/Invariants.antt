use Rattle.std.proofs.Common.{◌≡◌, ◌+◌, length}
use Rattle.std.specs.Vec.{vec_len, vec_capacity}
use Rattle.account_places.proofs.index.Index.guess_each.Given as goal

-- as many guesses as accounts, and the room stays
abbrev pub invariant-loop-account : goal.invariant-loop-account
invariant-loop-account l = record {
  count : length l.guesses.items ≡ length l.initial.guesses.items + l.account-index;
  len : vec_len l.guesses ≡ vec_len l.initial.guesses + l.account-index;
  room : vec_capacity l.guesses ≡ vec_capacity l.initial.guesses;
}
