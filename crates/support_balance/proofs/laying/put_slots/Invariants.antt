use Rattle.std.proofs.Common.{◌≡◌, ◌++◌, map, take}
use Rattle.support_balance.specs.Slots.{slot_of}
use Rattle.support_balance.proofs.laying.put_slots.Given as goal

abbrev pub invariant-loop-vote : goal.invariant-loop-vote
invariant-loop-vote l = l.slots.items ≡ l.fn.slots.items ++ map (slot_of l.voter) (take l.vote-index l.votes)
