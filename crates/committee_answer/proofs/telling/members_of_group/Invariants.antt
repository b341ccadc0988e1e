use Rattle.std.proofs.Common.{◌≡◌, ℕ, ◌<◌, take, length, false, get_or}
use Rattle.weight_book.specs.Proportional.{nominated_by}
use Rattle.committee_answer.proofs.telling.members_of_group.Given as goal

abbrev pub invariant-loop-voter : goal.invariant-loop-voter
invariant-loop-voter l = (length l.is_nominated.items ≡ length l.snapshot.targets)
    × ((target : ℕ) → target < length l.snapshot.targets → get_or l.is_nominated.items target false ≡ nominated_by l.snapshot (take l.voter-index l.group) target)
