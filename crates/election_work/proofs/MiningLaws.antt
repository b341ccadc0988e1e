-- What is mined, by what the code holds.
use Rattle.std.proofs.Common.{◌≡◌, ℕ, ◌<◌, ◌≤◌, ◌^◌, true, false, List, length, filter, Option, Some, Result, Ok, Err, IfOk, ap, sym, subst, ◌∙◌, arith}
use Rattle.std.specs.List.{range_with_len}
use Rattle.npos_base.specs.declared.figures.Score.{Score}
use Rattle.npos_base.specs.declared.no_memory.NoMemory.{NoMemory}
use Rattle.npos_base.specs.declared.miner.Miner.{Miner}
use Rattle.npos_base.specs.declared.miner.Miner.TheVariants as miners
use Rattle.election_snapshot.specs.Snapshot.{Snapshot, IsWellFormed, has}
use Rattle.weight_book.specs.Weights.{Weights, IsFeasible, amount_sum}
use Rattle.weight_book.specs.Scoring.{score_of}
use Rattle.weight_book.proofs.StakeLemmas.{amounts_within}
use Rattle.compact_solution.specs.Solution.{Entry, solution_form}
use Rattle.election_check.specs.declared.verdict.Verdict.{Verdict}
use Rattle.election_check.specs.Packed.{expanded, verdict_packed}
use Rattle.election_check.specs.Laws.{packed_of}
use Rattle.election_work.specs.declared.mined.Mining.{Mining}
use Rattle.election_work.specs.declared.finding.Finding.{Finding}
use Rattle.election_work.specs.Mining.{Outcome, mined_from, plain_mined, solution_mined, packed_mined, due_of, IsMined, IsYes, AreTargets}
use Rattle.election_work.proofs.MinedLaws.{by_targets}
use Rattle.election_work.proofs.SoundLaws.{fill_is_mined}

abbrev outcome_with : Snapshot → Weights → Score → Option (List ℕ) → Verdict → Outcome
outcome_with snapshot weights score solution verdict =
    record { snapshot = snapshot; weights = weights; score = score; solution = solution; verdict = verdict }

-- members that were put in rising order, and the score
pub mined_is : (snapshot : Snapshot) (weights up : Weights) (score : Score) (solution : Option (List ℕ)) (verdict : Verdict)
    → up.committee ≡ filter (has weights.committee) (range_with_len 0 (length snapshot.targets)) → up.edges ≡ weights.edges → score ≡ score_of weights
    → outcome_with snapshot up score solution verdict ≡ mined_from snapshot weights solution verdict
mined_is snapshot weights up score solution verdict members_are edges_are score_is =
    λ i. outcome_with snapshot (record { committee = members_are i; edges = edges_are i }) (score_is i) solution verdict

-- what a solution comes to, by a checker of the snapshot and by the snapshot that it gives back
pub solution_is : (snapshot checker back : Snapshot) (solution : List (List Entry)) (weights : Weights) (bytes : List ℕ) (verdict : Verdict) (outcome : Outcome)
    → back ≡ checker → checker ≡ snapshot → weights ≡ expanded checker solution → bytes ≡ solution_form.spelling solution
    → verdict ≡ verdict_packed checker (score_of (expanded checker solution)) (solution_form.spelling solution)
    → outcome ≡ mined_from back weights (Some bytes) verdict → outcome ≡ solution_mined snapshot solution
solution_is snapshot checker back solution weights bytes verdict outcome back_is checker_is weights_are bytes_are verdict_is is =
    is ∙ ((λ i. mined_from (back_is i) (weights_are i) (Some (bytes_are i)) (verdict_is i))
    ∙ ap (λ (s : Snapshot). solution_mined s solution) checker_is)

-- ## The fill and its like

pub some_members : (snapshot : Snapshot) (weights : Weights) → IsWellFormed snapshot → IsFeasible snapshot weights → 1 ≤ length weights.committee
some_members snapshot weights well feasible = omega (arith, feasible.seats_filled, well.seats_some)

pub amounts_fit : (snapshot : Snapshot) (weights : Weights) → IsWellFormed snapshot → IsFeasible snapshot weights → amount_sum weights.edges < 2 ^ 64
amounts_fit snapshot weights well feasible = omega (arith, amounts_within snapshot weights feasible, well.voters.total_fits)

-- ## What the calls answer

pub packed_members : (snapshot : Snapshot) (weights : Weights) (result : Result Mining NoMemory) → IfOk result (λ mining. due_of mining ≡ packed_mined snapshot (packed_of snapshot weights))
    → IfOk result (λ mining. AreTargets (due_of mining))
packed_members snapshot weights (Ok mining) is = subst (λ (d : Result Outcome Finding). AreTargets d) (sym is) (by_targets true snapshot weights)
packed_members snapshot weights (Err want) is = tt

pub plain_members : (snapshot : Snapshot) (weights : Weights) (outcome : Outcome) → outcome ≡ plain_mined snapshot weights → AreTargets (Ok outcome)
plain_members snapshot weights outcome is = subst (λ (o : Outcome). AreTargets (Ok o)) (sym is) (by_targets false snapshot weights)

pub fill_passes_as : (miner : Miner) (snapshot : Snapshot) (weights : Weights) (outcome : Outcome) → IsWellFormed snapshot → IsMined miner snapshot weights → outcome ≡ plain_mined snapshot weights
    → miner ≡ miners.Fill → IsYes (Ok outcome)
fill_passes_as miner snapshot weights outcome well mined is asked =
    fill_is_mined snapshot (Ok outcome) well (weights, subst (λ (m : Miner). IsMined m snapshot weights) asked mined, ap Ok is)
