use Rattle.std.proofs.Common.{◌≡◌, ℕ, false, length, take, slice_index_or}
use Rattle.election_snapshot.specs.Snapshot.{has}
use Rattle.support_balance.proofs.laying.mark.Given as goal

-- the members so far are marked
abbrev pub invariant-loop-member : goal.invariant-loop-member
invariant-loop-member l = ((target : ℕ) → slice_index_or l.is_member target false ≡ has (take l.member-index l.members) target) × (length l.is_member ≡ length l.fn.is_member)
