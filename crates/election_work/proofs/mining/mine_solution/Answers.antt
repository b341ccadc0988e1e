use Rattle.std.proofs.Common.{rules, ◌≡◌, ◌∙◌, Some}
use Rattle.weight_book.specs.Scoring.{score_of}
use Rattle.compact_solution.specs.Solution.{solution_form}
use Rattle.election_check.specs.Packed.{expanded, verdict_packed}
use Rattle.election_work.specs.Mining.{outcome_of, mined_from}
use Rattle.election_work.proofs.MiningLaws.{solution_is}
use Rattle.election_work.proofs.mining.mine_solution.Goals as goal

pub returns : goal.returns
returns c =
    let whole : c.in_ok-weights.weights.plain ≡ expanded c.in_ok-checker.checker c.args.solution = search rules in
    let spelled : c.in_ok-weights.bytes ≡ solution_form.spelling c.args.solution = search rules in
    let judged : c.in_ok-weights.verdict ≡ verdict_packed c.in_ok-checker.checker (score_of
    (expanded c.in_ok-checker.checker c.args.solution)) (solution_form.spelling c.args.solution) = search rules in
    let made : outcome_of c.as_mined.result ≡ mined_from c.into_snapshot.result c.in_ok-weights.weights.plain (Some c.in_ok-weights.bytes)
    c.in_ok-weights.verdict = search rules in
    solution_is c.args.snapshot c.in_ok-checker.checker c.into_snapshot.result c.args.solution c.in_ok-weights.weights.plain
    c.in_ok-weights.bytes c.in_ok-weights.verdict
    (outcome_of c.as_mined.result) (c.into_snapshot.ensures ∙ c.in_ok-weights.ensures.snapshot) c.in_ok-checker.ensures whole spelled judged made
