use Rattle.std.proofs.Common.{rules, ◌≡◌, sym}
use Rattle.support_balance.specs.Backing.{above_zero}
use Rattle.support_balance.proofs.BackingLemmas.{kept_follows}
use Rattle.support_balance.proofs.PutLemmas.{same_above, listed_above, follows_above}
use Rattle.support_balance.proofs.backing.Backing.put_into.Goals as goal

pub returns-clause-same : goal.returns-clause-same
returns-clause-same c =
    let edges : c.put_edges.new.weights.plain.edges ≡ above_zero c.self.inside.edges.items = search rules in
    rw (sym c.self.view_is, edges) (same_above c.self.inside.edges.items)

pub returns-clause-listed : goal.returns-clause-listed
returns-clause-listed c =
    let edges : c.put_edges.new.weights.plain.edges ≡ above_zero c.self.inside.edges.items = search rules in
    rw edges (listed_above c.self.inside.edges.items c.self.invariant.0.kept.rising)

pub returns-clause-follows : goal.returns-clause-follows
returns-clause-follows c =
    let edges : c.put_edges.new.weights.plain.edges ≡ above_zero c.self.inside.edges.items = search rules in
    let members : c.put_edges.new.weights.plain.committee ≡ c.self.inside.members.items = search rules in
    let plain : c.put_edges.new.weights.plain ≡ record { committee = c.self.inside.members.items; edges = above_zero c.self.inside.edges.items } =
    λ i. record { committee = members i; edges = edges i } in
    rw (sym c.self.view_is, plain)
    (follows_above c.self.inside.snapshot.now c.self.inside.members.items c.self.inside.edges.items c.self.invariant.0.kept.rising (kept_follows _ _ _ _ _ c.self.invariant.0))
