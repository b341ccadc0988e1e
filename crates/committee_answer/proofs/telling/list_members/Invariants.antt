use Rattle.std.proofs.Common.{◌≡◌, ◌&&◌, filter, false, get_or}
use Rattle.std.specs.List.{range_with_len}
use Rattle.election_snapshot.specs.Snapshot.{has}
use Rattle.committee_answer.proofs.telling.list_members.Given as goal

abbrev pub invariant-loop-target : goal.invariant-loop-target
invariant-loop-target l = l.members.items ≡ filter (λ target. has l.committee target && get_or l.marks target false) (range_with_len 0 l.target)
