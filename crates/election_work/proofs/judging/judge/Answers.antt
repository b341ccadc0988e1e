use Rattle.std.proofs.Common.{◌≡◌, ◌∙◌, ℕ, List, arith, refl, sym, ap, ap₂, subst}
use Rattle.npos_base.specs.declared.figures.Score.{Score}
use Rattle.compact_solution.specs.Solution.{solution_form}
use Rattle.election_check.specs.Packed.{expanded, verdict_packed}
use Rattle.election_snapshot.specs.Snapshot.{Snapshot}
use Rattle.weight_book.specs.Weights.{IsFeasible}
use Rattle.weight_book.specs.Scoring.{score_of}
use Rattle.weight_book.proofs.StakeLemmas.{amounts_within}
use Rattle.election_work.proofs.JudgedLaws.{whole_as, decoded_whole, whole_feasible}
use Rattle.election_work.proofs.judging.judge.Goals as goal

pub score-score-requires-clause-distinct : goal.score-score-requires-clause-distinct
score-score-requires-clause-distinct c =
    (whole_feasible c.args.checker.now c.args.solution c.expand-yes.new.weights.plain c.requires
    (whole_as c.args.checker.now c.args.checker.now c.args.solution c.expand-yes.new.weights.plain refl c.requires c.expand-yes.ensures.weights)).follows.members_distinct

pub score-score-requires-clause-fits : goal.score-score-requires-clause-fits
score-score-requires-clause-fits c =
    let feasible = whole_feasible c.args.checker.now c.args.solution c.expand-yes.new.weights.plain c.requires
    (whole_as c.args.checker.now c.args.checker.now c.args.solution c.expand-yes.new.weights.plain refl c.requires c.expand-yes.ensures.weights) in
    let here = subst (λ (s : Snapshot). IsFeasible s c.expand-yes.new.weights.plain) (sym c.snapshot.ensures) feasible in
    omega (arith, amounts_within c.snapshot.result.now c.expand-yes.new.weights.plain here, c.every_snapshot_is_well_formed.ensures.voters.total_fits)

pub returns-clause-weights : goal.returns-clause-weights
returns-clause-weights c =
    decoded_whole c.args.checker.now c.expand-yes.new.self c.args.solution c.judge_bytes.new.weights.plain c.as_slice.result.now c.expand-yes.ensures.snapshot c.requires
    c.in_ok-bytes.ensures.range (c.as_slice.ensures ∙ c.in_ok-bytes.ensures.bytes) c.in_ok-verdict.ensures.weights

pub returns-clause-feasible : goal.returns-clause-feasible
returns-clause-feasible c =
    whole_feasible c.args.checker.now c.args.solution c.judge_bytes.new.weights.plain c.requires
    (decoded_whole c.args.checker.now c.expand-yes.new.self c.args.solution c.judge_bytes.new.weights.plain c.as_slice.result.now c.expand-yes.ensures.snapshot c.requires
    c.in_ok-bytes.ensures.range (c.as_slice.ensures ∙ c.in_ok-bytes.ensures.bytes) c.in_ok-verdict.ensures.weights)

pub returns-clause-verdict : goal.returns-clause-verdict
returns-clause-verdict c =
    let whole = whole_as c.args.checker.now c.args.checker.now c.args.solution c.expand-yes.new.weights.plain refl c.requires c.expand-yes.ensures.weights in
    let claim : c.score-score.result ≡ score_of (expanded c.args.checker.now c.args.solution) =
    c.score-score.ensures ∙ ap score_of whole in
    let bytes : c.as_slice.result.now ≡ solution_form.spelling c.args.solution = c.as_slice.ensures ∙ c.in_ok-bytes.ensures.bytes in
    c.in_ok-verdict.ensures.verdict
    ∙ ap (λ (s : Snapshot). verdict_packed s c.score-score.result c.as_slice.result.now) c.expand-yes.ensures.snapshot
    ∙ ap₂ (λ (claim : Score) (spelled : List ℕ). verdict_packed c.args.checker.now claim spelled) claim bytes
