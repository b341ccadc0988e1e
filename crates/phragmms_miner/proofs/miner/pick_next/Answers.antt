use Rattle.std.proofs.Common.{arith, ◌≡◌, ◌<◌, length, get_or}
use Rattle.weight_book.specs.Weights.{Follows}
use Rattle.phragmms_miner.proofs.RunLemmas.{outside_rising, some_outside, best_of_all}
use Rattle.phragmms_miner.proofs.miner.pick_next.Goals as goal
use Rattle.election_snapshot.proofs.HasLemmas.{all_has}

pub best_outside-requires-clause-spare : goal.best_outside-requires-clause-spare
best_outside-requires-clause-spare c =
    let follows : Follows c.args.snapshot.now c.args.backing.now.weights = rw c.requires.snapshot at c.edges-edges.ensures.follows in
    let count : length c.supports.result.now ≡ length c.args.snapshot.now.targets = rw c.requires.snapshot at c.supports.ensures.count in
    rw c.edges-edges.ensures.edges (record {
      rising = rw c.edges-edges.ensures.edges at c.edges-edges.ensures.rising;
      voters = follows.voters_in_range;
      targets = λ k d h. all_has (λ target. target < length c.supports.result.now) c.args.backing.now.weights.committee
          (get_or c.args.backing.now.weights.edges k d).target (λ i e l. omega (arith, follows.members_in_range i e l, count)) (follows.to_members k d h);
      sums = c.supports.ensures.supports;
      within = c.requires.within;
    })

pub best_outside-requires-clause-some : goal.best_outside-requires-clause-some
best_outside-requires-clause-some c = rw c.fill_outside-count.ensures.outside (some_outside c.args.backing.now.weights.committee (length c.args.snapshot.now.targets) c.requires.seats)

pub best_outside-requires-clause-rising : goal.best_outside-requires-clause-rising
best_outside-requires-clause-rising c = rw c.fill_outside-count.ensures.outside (outside_rising c.args.backing.now.weights.committee (length c.args.snapshot.now.targets))

pub returns-clause-best : goal.returns-clause-best
returns-clause-best c = best_of_all c.args.snapshot.now c.args.backing.now.weights.committee c.args.backing.now.weights.edges c.best_outside.result
    (rw (c.edges-edges.ensures.edges, c.fill_outside-count.ensures.outside) at c.best_outside.ensures.best)
