-- What is reported of what a miner makes of an election.
use Rattle.std.specs.Prelude.{ℕ, List, [], ◌++◌, flat_map, slice_index_or, Option, Some, None, Result, Ok, Err}
use Rattle.npos_base.specs.declared.account.AccountId.{AccountId}
use Rattle.election_snapshot.specs.Snapshot.{Snapshot, no_account}
use Rattle.weight_book.specs.Weights.{Weights, support}
use Rattle.election_work.specs.declared.finding.Finding.{Finding}
use Rattle.election_work.specs.Mining.{Outcome}
use Rattle.bundle_reports.specs.Verdicts.{member_line, score_line, solution_line}
use Rattle.bundle_reports.specs.Bundles.{Report, told, reported}

abbrev pub target_at : Snapshot → ℕ → AccountId
target_at snapshot target = slice_index_or snapshot.targets target no_account

-- a target that is a member
abbrev pub line_of : Snapshot → Weights → ℕ → List ℕ
line_of snapshot weights member = member_line (target_at snapshot member) (support weights.edges member)

abbrev pub member_lines : Snapshot → Weights → List ℕ
member_lines snapshot weights = flat_map (line_of snapshot weights) weights.committee

-- weights that are not packed have no line of a solution
abbrev pub solution_lines : Option (List ℕ) → List ℕ
solution_lines None = []
solution_lines (Some bytes) = solution_line bytes

-- the members, the score and the solution, and then the verdict
abbrev pub outcome_report : Outcome → Report
outcome_report outcome =
    told (member_lines outcome.snapshot outcome.weights ++ (score_line outcome.score ++ solution_lines outcome.solution)) outcome.verdict

-- where nothing was mined, what was found in its place
abbrev pub mined_report : Result Outcome Finding → Report
mined_report (Ok outcome) = outcome_report outcome
mined_report (Err finding) = reported finding
