-- What the numbers of a call ask for.
use Rattle.std.specs.Prelude.{◌≡◌, ⊤, ℕ, nat_eq, if◌then◌else◌, List, Option, Some, None}
use Rattle.npos_base.specs.declared.miner.Miner.{Miner}
use Rattle.npos_base.specs.Miner.{numbered}
use Rattle.election_work.specs.declared.asked.Task.TheVariants as tasks
use Rattle.bundle_reports.specs.declared.asked.Rewriting.TheVariants as ways
use Rattle.election_work.specs.Sound.{TaskHasRounds}
use Rattle.bundle_reports.specs.Bundles.{Report}
use Rattle.bundle_reports.specs.Tasks.{IsBundleReport}
use Rattle.bundle_reports.specs.Rewriting.{rewrite_report}
use Rattle.npos_c.specs.declared.asked.Asked.{Asked}
use Rattle.npos_c.specs.declared.asked.Asked.TheVariants as jobs

abbrev pub mining_asked : Option Miner → Option Asked
mining_asked (Some miner) = Some (jobs.OnBundle (tasks.Mine miner))
mining_asked None = None

-- the numbers of the tasks
abbrev pub asked_of : ℕ → ℕ → Option Asked
asked_of number rounds =
    if nat_eq number 0 then Some (jobs.OnBundle tasks.Check) else
    if nat_eq number 4 then Some (jobs.Rewrite ways.Pack) else
    if nat_eq number 5 then Some (jobs.Rewrite ways.Show) else mining_asked (numbered number rounds)

abbrev pub AskedHasRounds : Asked → Type 0
AskedHasRounds (jobs.OnBundle task) = TaskHasRounds task
AskedHasRounds (jobs.Rewrite way) = ⊤

-- a row a job, as a run of the program owes it
abbrev pub IsDue : Asked → List ℕ → Report → Type 0
IsDue (jobs.OnBundle task) bytes report = IsBundleReport task bytes report
IsDue (jobs.Rewrite way) bytes report = report ≡ rewrite_report way bytes
