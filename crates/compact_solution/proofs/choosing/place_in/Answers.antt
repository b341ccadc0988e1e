use Rattle.std.proofs.Common.{rules, ◌≤◌}
use Rattle.std.proofs.lemmas.List.Elements.{All-more}
use Rattle.npos_base.specs.declared.figures.Edge.{Edge}
use Rattle.compact_solution.proofs.PackLemmas.{all_lower}
use Rattle.compact_solution.proofs.choosing.place_in.Goals as goal

pub returns-clause-place : goal.returns-clause-place
returns-clause-place c = all_lower c.args.edge c.args.edges.now c.loop-at.at c.loop-at-test.false c.loop-at.invariant

pub loop-at-preserved : goal.loop-at-preserved
loop-at-preserved c =
    All-more (λ (other : Edge). other.target ≤ c.args.edge.target) c.args.edges.now c.loop-at.at (record { voter = 0; target = 0; amount = 0 }) (search rules) c.loop-at.invariant (search rules)
