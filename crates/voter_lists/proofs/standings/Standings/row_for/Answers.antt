-- Marks that are all known are places.
use Rattle.std.proofs.Common.{◌≡◌, false, nat_eq, rules}
use Rattle.std.specs.List.{list_any}
use Rattle.voter_lists.specs.Marks.{unknown}
use Rattle.voter_lists.proofs.NamedLemmas.{near_named, notes_named}
use Rattle.voter_lists.proofs.standings.Standings.row_for.Goals as goal

pub returns-then-not-contains-clause-named : goal.returns-then-not-contains-clause-named
returns-then-not-contains-clause-named c =
    let known : list_any (λ mark. nat_eq mark unknown) c.args.marks ≡ false = search rules in
    rw c.near.ensures (notes_named c.args.self.now.accounts c.args.marks c.args.targets.now (near_named c.args.self.now.accounts c.args.marks c.args.targets.now c.requires known))

pub returns-clause-named : goal.returns-clause-named
returns-clause-named c = rw c.far.ensures (notes_named c.places_for.new.self.accounts c.in_ok-places.places c.args.targets.now c.in_ok-places.ensures.named)
