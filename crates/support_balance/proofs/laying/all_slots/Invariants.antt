use Rattle.support_balance.specs.Slots.{AreSlots}
use Rattle.support_balance.proofs.laying.all_slots.Given as goal

-- the slots of the voters so far
abbrev pub invariant-loop-voter : goal.invariant-loop-voter
invariant-loop-voter l = AreSlots l.snapshot l.voter l.slots.items
