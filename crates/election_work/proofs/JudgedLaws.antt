-- Weights that are packed, and solutions that are judged.
use Rattle.std.proofs.Common.{◌≡◌, ℕ, ◌<◌, List, [], ◌∷◌, length, get_or, filter, nat_eq, All, IsPermutation, None, Result, Ok, Err, IfOk, ap, sym, subst, ◌∙◌, arith}
use Rattle.std.specs.List.{range_with_len, IsDistinct}
use Rattle.std.specs.List.Sorted.{IsNonDecreasing}
use Rattle.std.proofs.lemmas.List.Sorted.{IsPermutation-sym}
use Rattle.std.proofs.lemmas.Map.Keys.{IsDistinct-IsPermutation}
use Rattle.npos_base.specs.declared.figures.Edge.{Edge}
use Rattle.election_snapshot.specs.Snapshot.{Snapshot, IsWellFormed, has, stakes_of}
use Rattle.weight_book.specs.Weights.{Weights, IsFeasible}
use Rattle.weight_book.proofs.SumLemmas.{eqb_turned}
use Rattle.seat_race.proofs.InLemmas.{in_filter, from_filter, in_range, in_has, from_has, in_permuted, all_at}
use Rattle.seat_race.proofs.OrderLemmas.{same_list, rises_sorted, rises-filter, rises_range}
use Rattle.scale_wire.specs.Form.{IsBytes}
use Rattle.scale_wire.specs.WholeReading.{read_value}
use Rattle.compact_solution.specs.Decoded.{decoded}
use Rattle.compact_solution.specs.SolutionLaws.{solution_laws}
use Rattle.compact_solution.specs.Solution.{Entry, entries_of, solution_form}
use Rattle.compact_solution.specs.declared.packing.PackFault.{PackFault}
use Rattle.compact_solution.specs.Packing.{packed, IsPackable}
use Rattle.election_check.specs.Steps.{size_fault}
use Rattle.election_check.specs.Packed.{expanded, entries_fault, expand_fault, weights_unless, weights_decoded}
use Rattle.election_check.specs.Laws.{packed_of}
use Rattle.election_check.proofs.PackingLemmas.{packable, packed_expands}
use Rattle.election_check.proofs.FirstLemmas.{first_none}
use Rattle.election_check.proofs.SoundLemmas.{feasible_packed}
use Rattle.election_work.proofs.SpelledLaws.{bytes_solution}

-- the members that were sorted are the targets that are members, in their order
pub rising_members : (targets : ℕ) (old new : List ℕ) → IsPermutation old new → IsNonDecreasing new → IsDistinct nat_eq old
    → ((k d : ℕ) → k < length old → get_or old k d < targets) → new ≡ filter (has old) (range_with_len 0 targets)
rising_members targets old new moved up distinct within = same_list (λ n. n) new (filter (has old) (range_with_len 0 targets))
    (rises_sorted (λ n. n) new up (IsDistinct-IsPermutation nat_eq eqb_turned old new moved distinct))
    (rises-filter (λ n. n) (has old) (range_with_len 0 targets) (rises_range 0 targets))
    (λ n h. let there = in_permuted new old n (IsPermutation-sym old new moved) h in
    in_filter (has old) (range_with_len 0 targets) n (in_range 0 targets n (omega arith) (omega (arith, all_at (λ m. m < targets) old within n there))) (in_has old n there))
    (λ n h. in_permuted old new n moved (from_has old n (from_filter (has old) (range_with_len 0 targets) n h).1))

-- ## Packed weights

-- what a solution without a fault expands to is feasible
pub expanded_feasible : (snapshot : Snapshot) (solution : List (List Entry)) → expand_fault snapshot solution ≡ None → IsFeasible snapshot (expanded snapshot solution)
expanded_feasible snapshot solution none =
    let sound = first_none (entries_fault snapshot [] (entries_of solution)) (size_fault snapshot (expanded snapshot solution) ∷ []) none in
    feasible_packed snapshot (entries_of solution) sound.0 (first_none (size_fault snapshot (expanded snapshot solution)) [] sound.1).0

pub packed_soundly : (snapshot : Snapshot) (weights : Weights) (result : Result (List (List Entry)) PackFault) → IsWellFormed snapshot → IsFeasible snapshot weights
    → IfOk result (λ solution. packed_of snapshot weights ≡ Ok solution) → IfOk result (λ solution. expand_fault snapshot solution ≡ None)
packed_soundly snapshot weights (Ok solution) well feasible is = packed_expands snapshot weights well feasible solution is
packed_soundly snapshot weights (Err fault) well feasible is = tt

-- what packing is asked for, by what it is handed
module _ (snapshot : Snapshot) (weights : Weights) (stakes members : List ℕ) (edges : List Edge) (stakes_are : stakes ≡ stakes_of snapshot.voters)
    (members_are : members ≡ weights.committee) (edges_are : edges ≡ weights.edges) where
  pub packable_as : IsWellFormed snapshot → IsFeasible snapshot weights → All (λ (edge : Edge). 0 < edge.amount) weights.edges → IsPackable stakes members edges
  packable_as well feasible above =
      subst (λ (s : List ℕ). IsPackable s members edges) (sym stakes_are)
      (subst (λ (m : List ℕ). IsPackable (stakes_of snapshot.voters) m edges) (sym members_are)
      (subst (λ (e : List Edge). IsPackable (stakes_of snapshot.voters) weights.committee e) (sym edges_are) (packable snapshot weights well feasible above)))

  pub packed_as : packed stakes members edges ≡ packed_of snapshot weights
  packed_as = λ i. packed (stakes_are i) (members_are i) (edges_are i)

-- ## A solution

pub whole_as : (snapshot checker : Snapshot) (solution : List (List Entry)) (weights : Weights) → checker ≡ snapshot → expand_fault snapshot solution ≡ None
    → weights ≡ weights_unless (expand_fault checker solution) (expanded checker solution) → weights ≡ expanded snapshot solution
whole_as snapshot checker solution weights same none is =
    is ∙ (ap (λ (s : Snapshot). weights_unless (expand_fault s solution) (expanded s solution)) same ∙ ap (λ fault. weights_unless fault (expanded snapshot solution)) none)

-- and so do the bytes that spell it
pub decoded_whole : (snapshot checker : Snapshot) (solution : List (List Entry)) (weights : Weights) (bytes : List ℕ) → checker ≡ snapshot → expand_fault snapshot solution ≡ None
    → solution_form.in_range solution → bytes ≡ solution_form.spelling solution → weights ≡ weights_decoded checker (decoded bytes) → weights ≡ expanded snapshot solution
decoded_whole snapshot checker solution weights bytes same none range spelled is =
    whole_as snapshot checker solution weights same none
    (is ∙ ap (weights_decoded checker) (read_value solution_form solution_laws bytes solution (subst IsBytes (sym spelled) (bytes_solution solution)) range spelled))

pub whole_feasible : (snapshot : Snapshot) (solution : List (List Entry)) (weights : Weights) → expand_fault snapshot solution ≡ None → weights ≡ expanded snapshot solution
    → IsFeasible snapshot weights
whole_feasible snapshot solution weights none is = subst (λ (w : Weights). IsFeasible snapshot w) (sym is) (expanded_feasible snapshot solution none)
