use Rattle.std.proofs.Common.{arith, ◌≡◌, length, sym}
use Rattle.support_balance.proofs.AlikeLemmas.{covers_alike}
use Rattle.support_balance.proofs.BackingLemmas.{kept_alike, written}
use Rattle.support_balance.proofs.SpendLemmas.{spends_within}
use Rattle.support_balance.proofs.backing.Backing.balance.Goals as goal

pub returns-clause-balanced : goal.returns-clause-balanced
returns-clause-balanced c =
    let covers = c.self.invariant.0.covers in
    let value = c.deref_mut.ensures.value in
    let balanced = c.rounds.ensures.balanced c.self.inside.members.items (rw (sym value) at covers) in
    let count : length c.rounds.new.edges ≡ length c.self.inside.edges.items = rw value at c.rounds.ensures.alike.count in
    let whole = written c.self.inside.edges.len c.rounds.new.edges c.self.inside.edges.items (omega (arith, c.self.inside.edges.ok.0)) count in
    rw (sym c.self.view_is, whole) (rw value at balanced)

pub returns-clause-spends : goal.returns-clause-spends
returns-clause-spends c =
    let covers = c.self.invariant.0.covers in
    let value = c.deref_mut.ensures.value in
    let balanced = rw value at (c.rounds.ensures.balanced c.self.inside.members.items (rw (sym value) at covers)) in
    let alike = rw value at c.rounds.ensures.alike in
    let count : length c.rounds.new.edges ≡ length c.self.inside.edges.items = alike.count in
    let whole = written c.self.inside.edges.len c.rounds.new.edges c.self.inside.edges.items (omega (arith, c.self.inside.edges.ok.0)) count in
    rw whole (λ some. spends_within c.self.inside.snapshot.now c.self.inside.members.items c.args.asked c.rounds.result c.self.inside.edges.items c.rounds.new.edges
    (covers_alike c.self.inside.snapshot.now c.self.inside.members.items c.self.inside.edges.items c.rounds.new.edges alike covers) some balanced)

pub invariant_of-self : goal.invariant_of-self
invariant_of-self c =
    let so = c.self.invariant.0 in
    let alike = rw c.deref_mut.ensures.value at c.rounds.ensures.alike in
    let kept = c.rounds.ensures.kept in
    let count : length c.rounds.new.supports ≡ length c.self.inside.supports.items = rw c.deref_mut-2.ensures.value at c.rounds.ensures.count in
    let edges = written c.self.inside.edges.len c.rounds.new.edges c.self.inside.edges.items (omega (arith, c.self.inside.edges.ok.0)) alike.count in
    let supports = written c.self.inside.supports.len c.rounds.new.supports c.self.inside.supports.items (omega (arith, c.self.inside.supports.ok.0)) count in
    rw (edges, supports) (kept_alike _ _ _ _ _ so c.rounds.new.edges c.rounds.new.supports alike kept count, rw c.rounds.ensures.room c.self.invariant.1)
