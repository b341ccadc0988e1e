use Rattle.std.proofs.Common.{◌≡◌, ◌≤◌, length, take, vec_len, vec_capacity}
use Rattle.voter_lists.proofs.targets.Targets.to_list.Given as goal

-- the targets so far, with room for the others
abbrev pub invariant-loop-i : goal.invariant-loop-i
invariant-loop-i l = record {
  items : l.accounts.items ≡ take l.i l.self;
  count : vec_len l.accounts ≡ l.i;
  room : length l.self ≤ vec_capacity l.accounts;
}
