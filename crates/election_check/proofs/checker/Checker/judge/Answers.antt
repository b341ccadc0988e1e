use Rattle.std.proofs.Common.{◌≡◌, ◌∙◌, [], ◌∷◌, sym, subst}
use Rattle.election_snapshot.specs.Snapshot.{Snapshot}
use Rattle.weight_book.specs.Weights.{Weights, IsFeasible}
use Rattle.compact_solution.specs.Solution.{entries_of}
use Rattle.election_check.specs.Packed.{expanded, entries_fault, expand_fault}
use Rattle.election_check.specs.Steps.{size_fault}
use Rattle.election_check.proofs.FirstLemmas.{first_none}
use Rattle.election_check.proofs.SoundLemmas.{feasible_packed}
use Rattle.election_check.proofs.TakingLemmas.{no_error}
use Rattle.election_check.proofs.checker.Checker.judge.Goals as goal

pub check_claim-requires : goal.check_claim-requires
check_claim-requires c =
    let snapshot = c.args.self.now in
    let entries = entries_of c.args.solution.now in
    let weights = expanded snapshot c.args.solution.now in
    let none = no_error (expand_fault snapshot c.args.solution.now) (sym c.take_solution.ensures.fault ∙ c.in-Ok.is) in
    let (sound, more) = first_none (entries_fault snapshot [] entries) (size_fault snapshot weights ∷ []) none in
    let (filled, _) = first_none (size_fault snapshot weights) [] more in
    let is : c.take_solution.new.weights.plain ≡ weights = c.in-Ok.ensures.weights in
    subst (λ (w : Weights). IsFeasible c.take_solution.new.self w) (sym is)
    (subst (λ (s : Snapshot). IsFeasible s weights) (sym c.take_solution.ensures.snapshot) (feasible_packed snapshot entries sound filled))
