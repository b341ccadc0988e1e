use Rattle.std.proofs.Common.{arith, ℕ, ◌<◌, ◌≤◌, List, length, All, IsPermutation, sym, subst, ap₂, ◌∙◌}
use Rattle.npos_base.specs.declared.figures.Edge.{Edge}
use Rattle.weight_book.specs.Weights.{Weights, IsFeasible}
use Rattle.seq_phragmen.specs.Mined.{picked}
use Rattle.seq_phragmen.proofs.PickLemmas.{are_run}
use Rattle.seq_phragmen.proofs.FeasibleLemmas.{mined_feasible, mined_above}
use Rattle.seq_phragmen.proofs.SortLemmas.{sorted_gifts}
use Rattle.seq_phragmen.proofs.mining.mine_seq.Goals as goal

abbrev weights_of : List ℕ → List Edge → Weights
weights_of committee edges = record { committee = committee; edges = edges }

pub returns-clause-mined : goal.returns-clause-mined
returns-clause-mined c =
    let snapshot = c.args.snapshot.now in
    let running = c.in_ok-run.ensures.running in
    let picks = picked snapshot snapshot.seats in
    let moved = subst (λ (es : List Edge). IsPermutation es c.put_by_voter.new.weights.plain.edges) (c.deref_mut.ensures.value ∙ c.in_ok-edges.ensures) c.in_ok-put_by_voter.ensures.same in
    let few : length snapshot.targets ≤ 65536 = omega (arith, c.in_ok-run.ensures.well_formed.voters.targets_few) in
    let edges = sorted_gifts snapshot few picks (are_run snapshot snapshot.seats) c.put_by_voter.new.weights.plain.edges moved c.in_ok-put_by_voter.ensures.order in
    ap₂ weights_of (c.in_ok-put_by_voter.ensures.members ∙ running.members) edges

pub returns-clause-feasible : goal.returns-clause-feasible
returns-clause-feasible c = subst (λ (weights : Weights). IsFeasible c.args.snapshot.now weights) (sym (returns-clause-mined c))
    (mined_feasible c.args.snapshot.now c.in_ok-run.ensures.well_formed)

pub returns-clause-above : goal.returns-clause-above
returns-clause-above c = subst (λ (weights : Weights). All (λ (edge : Edge). 0 < edge.amount) weights.edges) (sym (returns-clause-mined c))
    (mined_above c.args.snapshot.now c.in_ok-run.ensures.well_formed)
