use Rattle.support_balance.proofs.PutLemmas.{none_balanced, balanced_between}
use Rattle.support_balance.proofs.balancing.balance.Goals as goal

pub returns-then-rounds-eq0-clause-balanced : goal.returns-then-rounds-eq0-clause-balanced
returns-then-rounds-eq0-clause-balanced c = rw c.if-rounds-eq0.true (none_balanced c.args.snapshot.now c.args.weights.now.plain.committee c.args.weights.now.plain.edges)

pub returns-clause-balanced : goal.returns-clause-balanced
returns-clause-balanced c =
    let balanced = rw (c.in_ok-backing.ensures.snapshot, c.in_ok-backing.ensures.committee) at c.balance-made.ensures.balanced in
    balanced_between _ _ _ _ c.args.weights.now.plain.edges _ _ _ c.in_ok-backing.ensures.same c.in_ok-put_into.ensures.same balanced
