use Rattle.std.proofs.Common.{◌≡◌, ◌≢◌, subst, IfOk, IfErr, ℕ, List, Result, Ok, Err}
use Rattle.compact_solution.specs.declared.packing.PackFault.TheVariants as faults
use Rattle.compact_solution.specs.Solution.{Entry}
use Rattle.election_work.proofs.JudgedLaws.{packable_as, packed_as, packed_soundly}
use Rattle.election_work.proofs.judging.packed_weights.Goals as goal

pub pack-requires : goal.pack-requires
pack-requires c = packable_as c.args.snapshot.now c.args.weights.now.plain c.stakes.result.now c.committee.result.now c.edges.result.now
    c.stakes.ensures.stakes c.committee.ensures c.edges.ensures c.every_snapshot_is_well_formed.ensures c.requires.feasible c.requires.above

pub returns-clause-solution : goal.returns-clause-solution
returns-clause-solution c = subst (λ (p : Result (List (List Entry)) ℕ). IfOk c.pack.result (λ solution. p ≡ Ok solution))
    (packed_as c.args.snapshot.now c.args.weights.now.plain c.stakes.result.now c.committee.result.now c.edges.result.now c.stakes.ensures.stakes c.committee.ensures c.edges.ensures)
    c.pack.ensures.solution

pub returns-clause-sound : goal.returns-clause-sound
returns-clause-sound c = packed_soundly c.args.snapshot.now c.args.weights.now.plain c.pack.result c.every_snapshot_is_well_formed.ensures c.requires.feasible
    (subst (λ (p : Result (List (List Entry)) ℕ). IfOk c.pack.result (λ solution. p ≡ Ok solution))
    (packed_as c.args.snapshot.now c.args.weights.now.plain c.stakes.result.now c.committee.result.now c.edges.result.now c.stakes.ensures.stakes c.committee.ensures c.edges.ensures)
    c.pack.ensures.solution)

pub returns-clause-lost : goal.returns-clause-lost
returns-clause-lost c = subst (λ (p : Result (List (List Entry)) ℕ). IfErr c.pack.result (λ fault. fault ≢ faults.NoMemory → (member : ℕ) × (fault ≡ faults.LostWinner member) × (p ≡ Err member)))
    (packed_as c.args.snapshot.now c.args.weights.now.plain c.stakes.result.now c.committee.result.now c.edges.result.now c.stakes.ensures.stakes c.committee.ensures c.edges.ensures)
    c.pack.ensures.lost
