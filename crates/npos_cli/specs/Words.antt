-- The words of a call of the program: the job that they ask for, and what is written where they ask for none.
use Rattle.std.specs.Prelude.{⊤, ℕ, ◌≤◌, List, ◌++◌, codes, Option, Some, None, option_map, IsSome}
use Rattle.npos_base.specs.declared.limits.TheConstants.{MOST_SEATS, MOST_VOTERS}
use Rattle.npos_words.specs.declared.command.Command.{Command}
use Rattle.npos_words.specs.declared.command.Command.TheVariants as commands
use Rattle.npos_words.specs.Words.{command_of}
use Rattle.npos_cli.specs.declared.job.Job.{Job}
use Rattle.npos_cli.specs.declared.job.Job.TheVariants as jobs
use Rattle.election_work.specs.declared.asked.Task.TheVariants as tasks
use Rattle.bundle_reports.specs.declared.asked.Rewriting.TheVariants as ways
use Rattle.election_work.specs.Sound.{TaskHasRounds}
use Rattle.told_lines.specs.Texts.{newline}

abbrev pub job_by : Command → Job
job_by commands.Replay = jobs.Replay
job_by commands.Check = jobs.OnBundle tasks.Check
job_by (commands.Mine miner) = jobs.OnBundle (tasks.Mine miner)
job_by commands.Pack = jobs.Rewrite ways.Pack
job_by commands.Show = jobs.Rewrite ways.Show
job_by (commands.Demo seed voters seats) = jobs.Demo seed voters seats
job_by commands.Checkpoint = jobs.Checkpoint
job_by commands.Resume = jobs.Resume
job_by commands.Pools = jobs.Pools

abbrev pub job_of : List (List ℕ) → Option Job
job_of words = option_map job_by (command_of words)

-- the words ask for a job
abbrev pub HasForm : List (List ℕ) → Type 0
HasForm words = IsSome (job_of words)

-- PHRAGMMS has at least one round, and a generated election has voters and seats, and no more than
-- an election may have
abbrev pub KeepsBounds : Option Job → Type 0
KeepsBounds None = ⊤
KeepsBounds (Some jobs.Replay) = ⊤
KeepsBounds (Some (jobs.OnBundle task)) = TaskHasRounds task
KeepsBounds (Some (jobs.Rewrite way)) = ⊤
KeepsBounds (Some jobs.Checkpoint) = ⊤
KeepsBounds (Some jobs.Resume) = ⊤
KeepsBounds (Some jobs.Pools) = ⊤
KeepsBounds (Some (jobs.Demo seed voters seats)) = (1 ≤ voters) × (voters ≤ MOST_VOTERS)
    × (1 ≤ seats) × (seats ≤ MOST_SEATS)

abbrev pub usage_line : List ℕ
usage_line = codes "usage: npos replay|check|mine|pack|show|demo|checkpoint|resume|pools" ++ newline
