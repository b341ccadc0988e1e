-- The text of what was mined.
use Rattle.std.proofs.Common.{◌≡◌, ℕ, ◌+◌, ◌<◌, List, [], ◌++◌, length, get_or, take, flat_map, Option, Result, Ok, Err, IfOk, ap, ap₂, sym, ◌∙◌, append_assoc}
use Rattle.std.proofs.lemmas.List.{take_more, flat_map_more}
use Rattle.npos_base.specs.declared.account.AccountId.{AccountId}
use Rattle.npos_base.specs.declared.no_memory.NoMemory.{NoMemory}
use Rattle.election_snapshot.specs.Snapshot.{Snapshot}
use Rattle.weight_book.specs.Weights.{Weights, support}
use Rattle.election_work.specs.Mining.{Outcome}
use Rattle.bundle_reports.specs.declared.answers.Answer.{Answer}
use Rattle.bundle_reports.specs.Answer.{report_of}
use Rattle.bundle_reports.specs.Verdicts.{member_line, score_line}
use Rattle.bundle_reports.specs.Bundles.{told}
use Rattle.bundle_reports.specs.Mining.{target_at, line_of, member_lines, solution_lines, outcome_report}

-- one line more
pub member_more : (snapshot : Snapshot) (weights : Weights) (text before : List ℕ) (i d : ℕ) (who : AccountId) (number : ℕ) → i < length weights.committee
    → who ≡ target_at snapshot (get_or weights.committee i d) → number ≡ support weights.edges (get_or weights.committee i d)
    → text ≡ before ++ flat_map (line_of snapshot weights) (take i weights.committee)
    → text ++ member_line who number ≡ before ++ flat_map (line_of snapshot weights) (take (i + 1) weights.committee)
member_more snapshot weights text before i d who number h who_is number_is so_far =
    ap₂ (λ t line. t ++ line) so_far (ap₂ member_line who_is number_is)
    ∙ flat_map_more (line_of snapshot weights) before (take i weights.committee) (get_or weights.committee i d)
    ∙ ap (λ ms. before ++ flat_map (line_of snapshot weights) ms) (sym (take_more weights.committee i d h))

-- the lines one behind the other, and then the verdict
pub outcome_told : (outcome : Outcome) (result : Result Answer NoMemory) (start members scored lines : List ℕ) → start ≡ []
    → members ≡ start ++ member_lines outcome.snapshot outcome.weights → scored ≡ members ++ score_line outcome.score → lines ≡ scored ++ solution_lines outcome.solution
    → IfOk result (λ answer. report_of answer ≡ told lines outcome.verdict) → IfOk result (λ answer. report_of answer ≡ outcome_report outcome)
outcome_told outcome (Ok answer) start members scored lines none members_are score_is lines_are is =
    is ∙ ap (λ (text : List ℕ). told text outcome.verdict)
    (lines_are ∙ (ap (λ text. text ++ solution_lines outcome.solution)
    (score_is ∙ ap (λ text. text ++ score_line outcome.score) (members_are ∙ ap (λ text. text ++ member_lines outcome.snapshot outcome.weights) none))
    ∙ append_assoc (member_lines outcome.snapshot outcome.weights) (score_line outcome.score) (solution_lines outcome.solution)))
outcome_told outcome (Err want) start members scored lines none members_are score_is lines_are is = tt
