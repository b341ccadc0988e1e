use Rattle.std.proofs.Common.{rules, ◌≡◌, ℕ, length, ap, ◌∙◌}
use Rattle.std.proofs.Math.ListN.{get_or-map}
use Rattle.std.proofs.lemmas.List.{with_items_is}
use Rattle.election_snapshot.specs.Snapshot.{Voter, nobody, stake_of}
use Rattle.weight_book.specs.Passing.{nominators}
use Rattle.weight_book.proofs.SumLemmas.{sum_same}
use Rattle.seat_race.specs.Tables.{says}
use Rattle.seq_phragmen.proofs.race.approvals_of.Goals as goal

pub returns-clause-approvals : goal.returns-clause-approvals
returns-clause-approvals c =
    let snapshot = c.args.snapshot.now in
    let size : length c.fill_sums.new.sums ≡ c.in_ok-approvals.approvals.len = search rules in
    let stakes : (voter : ℕ) → says c.stakes.result.now voter ≡ stake_of c.args.snapshot.now voter
    = λ voter. ap (λ ns. says ns voter) c.stakes.ensures.stakes ∙ get_or-map (λ (v : Voter). v.stake) snapshot.voters voter nobody in
    λ target h. ap (λ ns. says ns target) (with_items_is c.in_ok-approvals.approvals c.fill_sums.new.sums size)
    ∙ c.fill_sums.ensures target h
    ∙ sum_same (says c.stakes.result.now) (stake_of snapshot) stakes (nominators snapshot target)
