-- What the tables by voter and by target say once they are filled.
use Rattle.std.proofs.Common.{◌≡◌, ℕ, ◌<◌, ◌≤◌, Bool, false, not, nat_le, List, length, take, get_or, option_map, Ok, Err, refl, sym, ap, ◌∙◌, arith, Option, Some, None, find, ap₂, ◌&&◌}
use Rattle.std.specs.List.{range_with_len}
use Rattle.std.proofs.lemmas.List.{take_all}
use Rattle.std.proofs.lemmas.Bool.{lt-ltb, le-ltb}
use Rattle.npos_base.specs.declared.figures.Edge.{Edge}
use Rattle.election_snapshot.specs.Snapshot.{Snapshot, stake_of, threshold}
use Rattle.weight_book.specs.Weights.{Weights, spent}
use Rattle.election_check.specs.declared.fault.Fault.TheVariants.{Outweighed, Overspent}
use Rattle.election_check.specs.First.{answer_of}
use Rattle.election_check.specs.Kept.{AreMarks, reaches, reached}
use Rattle.election_check.specs.Steps.{outweighed, outweighs, prescore_of}
use Rattle.election_check.specs.Plain.{overspent, overspends}
use Rattle.election_check.proofs.FirstLemmas.{lowest_found, none_found, find_agree, found_below}
use Rattle.election_check.proofs.StepLemmas.{AreSpent}

-- ---- spending
module _ (snapshot : Snapshot) (edges : List Edge) (i lowest : ℕ) (left : List ℕ) (so_far : AreSpent snapshot edges i lowest left) (ends : length edges ≤ i) where
  all : (voter : ℕ) → spent (take i edges) voter ≡ spent edges voter
  all voter = ap (λ es. spent es voter) (take_all i edges ends)

  within : (voter : ℕ) → voter < lowest → overspends snapshot edges voter ≡ false
  within voter h = le-ltb (stake_of snapshot voter) (spent edges voter) (omega (arith, so_far.kept voter h, all voter))

  pub spent_over : lowest < length snapshot.voters → Err (Overspent lowest) ≡ answer_of (overspent snapshot edges)
  spent_over h = sym (ap (λ o. answer_of (option_map Overspent o)) (lowest_found (overspends snapshot edges) (length snapshot.voters) lowest h
      (lt-ltb (stake_of snapshot lowest) (spent edges lowest) (omega (arith, so_far.over h, all lowest))) within))

  pub spent_within : length snapshot.voters ≤ lowest → Ok tt ≡ answer_of (overspent snapshot edges)
  spent_within h = sym (ap (λ o. answer_of (option_map Overspent o)) (none_found (overspends snapshot edges) (length snapshot.voters) (λ voter l. within voter (omega (arith, h, l)))))

-- ---- prescores
module _ (snapshot : Snapshot) (weights : Weights) where
  module _ (marks : List Bool) (prescores : List ℕ) (are_marks : AreMarks marks weights.committee)
      (are_prescores : (target : ℕ) → target < length snapshot.targets → get_or prescores target 0 ≡ prescore_of snapshot weights target)
      (size : length prescores ≡ length snapshot.targets) where
    same_search : find (reaches (threshold snapshot) marks prescores) (range_with_len 0 (length prescores))
        ≡ find (outweighs snapshot weights) (range_with_len 0 (length snapshot.targets))
    same_search = ap (λ n. find (reaches (threshold snapshot) marks prescores) (range_with_len 0 n)) size
        ∙ find_agree (reaches (threshold snapshot) marks prescores) (outweighs snapshot weights) 0 (length snapshot.targets) (λ target l.
        ap₂ (λ b p. not b && nat_le (threshold snapshot) p) (are_marks target) (are_prescores target (omega (arith, l))))

    -- so the tables say which target outweighs
    pub reached_is_outweighed : reached (threshold snapshot) marks prescores ≡ outweighed snapshot weights
    reached_is_outweighed = ap (option_map (λ target. Outweighed target (get_or prescores target 0))) same_search
        ∙ map_agree (find (outweighs snapshot weights) (range_with_len 0 (length snapshot.targets))) (λ target e.
        ap (Outweighed target) (are_prescores target (below target e)))
      where
        below : (target : ℕ) → find (outweighs snapshot weights) (range_with_len 0 (length snapshot.targets)) ≡ Some target → target < length snapshot.targets
        below target e = omega (arith, found_below (outweighs snapshot weights) 0 (length snapshot.targets) target e)

        map_agree : (o : Option ℕ) → ((n : ℕ) → o ≡ Some n → Outweighed n (get_or prescores n 0) ≡ Outweighed n (prescore_of snapshot weights n))
            → option_map (λ target. Outweighed target (get_or prescores target 0)) o ≡ option_map (λ n. Outweighed n (prescore_of snapshot weights n)) o
        map_agree None h = refl
        map_agree (Some n) h = ap Some (h n refl)
