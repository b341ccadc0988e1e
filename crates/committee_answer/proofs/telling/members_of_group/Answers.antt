use Rattle.std.proofs.Common.{arith, ◌≡◌, ℕ, ◌&&◌, Bool, false, List, length, get_or, filter, ap, ◌∙◌}
use Rattle.std.specs.List.{range_with_len}
use Rattle.std.proofs.lemmas.List.{take_all}
use Rattle.election_snapshot.specs.Snapshot.{has}
use Rattle.weight_book.specs.Proportional.{nominated_by}
use Rattle.seat_race.proofs.InLemmas.{In, from_range}
use Rattle.committee_answer.proofs.TableLemmas.{filter_agree}
use Rattle.committee_answer.proofs.telling.members_of_group.Goals as goal

pub returns : goal.returns
returns c =
    let snapshot = c.args.snapshot.now in
    let committee = c.args.committee.now in
    let group = c.args.group.now in
    let marks = c.loop-voter.is_nominated.items in
    let so = c.loop-voter.invariant in
    let all = take_all c.loop-voter.voter-index group (omega (arith, c.loop-voter-test.false)) in
    let listed = rw c.deref.ensures.value at c.in_ok-members.ensures in
    let marked : (target : ℕ) → In (range_with_len 0 (length snapshot.targets)) target → get_or marks target false ≡ nominated_by snapshot group target =
    λ target i. so.1 target (omega (arith, (from_range 0 (length snapshot.targets) target i).1)) ∙ ap (λ (g : List ℕ). nominated_by snapshot g target) all in
    listed
    ∙ ap (λ (n : ℕ). filter (λ target. has committee target && get_or marks target false) (range_with_len 0 n)) so.0
    ∙ filter_agree (λ target. has committee target && get_or marks target false) (λ target. has committee target && nominated_by snapshot group target)
    (range_with_len 0 (length snapshot.targets)) (λ target i. ap (λ (b : Bool). has committee target && b) (marked target i))
