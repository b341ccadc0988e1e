-- A packed Yes is a plain Yes.
use Rattle.std.proofs.Common.{◌≡◌, ℕ, true, not, ◌&&◌, nat_eq, List, [], ◌∷◌, refl, ap, ◌∙◌}
use Rattle.std.specs.Prelude.{Result, Ok, Err}
use Rattle.std.proofs.lemmas.Bool.{not-false, eqb-true, and_parts}
use Rattle.npos_base.specs.declared.figures.Score.{Score}
use Rattle.scale_wire.specs.declared.fault.WireFault.{WireFault}
use Rattle.election_snapshot.specs.Snapshot.{Snapshot}
use Rattle.weight_book.specs.Scoring.{score_of}
use Rattle.compact_solution.specs.Solution.{Entry, entries_of}
use Rattle.compact_solution.specs.Decoded.{decoded}
use Rattle.election_check.specs.declared.fault.Fault.TheVariants.{WrongScore}
use Rattle.election_check.specs.declared.verdict.Verdict.TheVariants.{Yes}
use Rattle.election_check.specs.First.{or_yes}
use Rattle.election_check.specs.Laws.{IsAccepted}
use Rattle.election_check.specs.Packed.{expanded, entries_fault, expand_fault, same_score, score_fault, solution_fault}
use Rattle.election_check.specs.Packed.{verdict_solution, verdict_decoded, verdict_packed, weights_decoded, weights_unless}
use Rattle.election_check.specs.Steps.{size_fault, outweighed}
use Rattle.election_check.proofs.FaultLemmas.{yes_is_none}
use Rattle.election_check.proofs.FirstLemmas.{when_none, first_none}
use Rattle.election_check.proofs.PassingLemmas.{none_outweighs, no_plain_fault}
use Rattle.election_check.proofs.SoundLemmas.{feasible_packed}

scores_equal : (a b : Score) → same_score a b ≡ true → a ≡ b
scores_equal a b e =
    let (minimal, rest) = and_parts (nat_eq a.minimal b.minimal) (nat_eq a.sum b.sum && nat_eq a.squares b.squares) e in
    let (sum, squares) = and_parts (nat_eq a.sum b.sum) (nat_eq a.squares b.squares) rest in
    ap (λ n. record { minimal = n; sum = a.sum; squares = a.squares }) (eqb-true a.minimal b.minimal minimal)
    ∙ (ap (λ n. record { minimal = b.minimal; sum = n; squares = a.squares }) (eqb-true a.sum b.sum sum)
    ∙ ap (λ n. record { minimal = b.minimal; sum = b.sum; squares = n }) (eqb-true a.squares b.squares squares))

pub accepted : (snapshot : Snapshot) (claim : Score) (bytes : List ℕ) → verdict_packed snapshot claim bytes ≡ Yes → IsAccepted snapshot claim bytes
accepted snapshot claim bytes accepts = by (decoded bytes) refl accepts
  where
    by_solution : (solution : List (List Entry)) → decoded bytes ≡ Ok solution → verdict_solution snapshot claim solution ≡ Yes → IsAccepted snapshot claim bytes
    by_solution solution is e =
        let weights = expanded snapshot solution in
        let none = yes_is_none (solution_fault snapshot claim solution) e in
        let (expands, rest) = first_none (expand_fault snapshot solution) (score_fault claim weights ∷ outweighed snapshot weights ∷ []) none in
        let (sound, more) = first_none (entries_fault snapshot [] (entries_of solution)) (size_fault snapshot weights ∷ []) expands in
        let (filled, _) = first_none (size_fault snapshot weights) [] more in
        let (scored, last) = first_none (score_fault claim weights) (outweighed snapshot weights ∷ []) rest in
        let (outside, _) = first_none (outweighed snapshot weights) [] last in
        record {
          solution = solution;
          decoded_is = is;
          given_are = ap (weights_decoded snapshot) is ∙ ap (λ fault. weights_unless fault weights) expands;
          plain_yes = ap or_yes (no_plain_fault snapshot weights record {
            feasible = feasible_packed snapshot (entries_of solution) sound filled;
            none_outweighs = none_outweighs snapshot weights outside;
          });
          claimed = scores_equal (score_of weights) claim (not-false (same_score (score_of weights) claim)
              (when_none (not (same_score (score_of weights) claim)) (WrongScore (score_of weights)) scored));
        }

    by : (read : Result (List (List Entry)) WireFault) → decoded bytes ≡ read → verdict_decoded snapshot claim read ≡ Yes → IsAccepted snapshot claim bytes
    by (Ok solution) is e = by_solution solution is e
    by (Err fault) is e = absurd (cc)
