-- What is reported of a generated election: its size, the score and the verdict of the greedy fill,
-- and those of sequential Phragmén, packed and expanded again.
use Rattle.std.specs.Prelude.{ℕ, List, ◌++◌, flat_map, length, codes, Result, Ok, Err}
use Rattle.npos_base.specs.declared.figures.Score.{Score}
use Rattle.election_snapshot.specs.Snapshot.{Snapshot, total_stake}
use Rattle.quota_fill.specs.Filled.{filled}
use Rattle.seq_phragmen.specs.Mined.{mined}
use Rattle.election_check.specs.declared.verdict.Verdict.{Verdict}
use Rattle.election_check.specs.Laws.{packed_of}
use Rattle.demo_election.specs.Generated.{generated}
use Rattle.election_work.specs.declared.finding.Finding.{Finding}
use Rattle.election_work.specs.Mining.{Outcome, plain_mined, packed_mined}
use Rattle.told_lines.specs.Texts.{newline, number_text}
use Rattle.bundle_reports.specs.declared.ending.Ending.TheVariants as endings
use Rattle.bundle_reports.specs.Verdicts.{score_numbers, verdict_line}
use Rattle.bundle_reports.specs.Bundles.{Report, finding_line}

-- how many targets and voters there are, and all their stake
abbrev pub size_line : Snapshot → List ℕ
size_line snapshot =
    codes "demo targets" ++ (number_text (length snapshot.targets)
    ++ (codes " voters" ++ (number_text (length snapshot.voters)
    ++ (codes " total" ++ (number_text (total_stake snapshot) ++ newline)))))

-- who made it, the score, and the verdict
abbrev pub judged_line : List ℕ → Score → Verdict → List ℕ
judged_line whose score verdict =
    whose ++ (codes " score" ++ (flat_map number_text (score_numbers score)
    ++ (codes " " ++ verdict_line verdict)))

-- the score and the verdict of what was mined, or what was found in its place
abbrev pub mined_line : List ℕ → Result Outcome Finding → List ℕ
mined_line whose (Ok outcome) = judged_line whose outcome.score outcome.verdict
mined_line whose (Err finding) = whose ++ (codes " " ++ finding_line finding)

-- the weights of the fill are judged as they are, and those of sequential Phragmén packed
abbrev pub election_text : Snapshot → List ℕ
election_text snapshot =
    size_line snapshot ++ (mined_line (codes "fill") (Ok (plain_mined snapshot (filled snapshot)))
    ++ mined_line (codes "seq") (packed_mined snapshot (packed_of snapshot (mined snapshot))))

-- it is done, whatever the verdicts
abbrev pub demo_report : ℕ → ℕ → ℕ → Report
demo_report seed voters seats =
    record { text = election_text (generated seed voters seats); ending = endings.Done }
