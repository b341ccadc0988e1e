use Rattle.std.proofs.Common.{false, slice_index_or}
use Rattle.support_balance.proofs.LayLemmas.{IsLaying}
use Rattle.support_balance.proofs.laying.lay.Given as goal

-- the slots so far are laid
abbrev pub invariant-loop-slot : goal.invariant-loop-slot
invariant-loop-slot l = IsLaying (λ target. slice_index_or l.is_member target false) l.slots l.edges l.slot-index l.at l.laid.items
