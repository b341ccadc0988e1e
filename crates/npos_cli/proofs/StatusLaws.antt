-- What is owed has a status that answers.
use Rattle.std.proofs.Common.{ℕ, Bool, true, false, List, Option, Some, None, sym, subst}
use Rattle.npos_cli.specs.declared.job.Job.{Job}
use Rattle.npos_cli.specs.declared.job.Job.TheVariants as jobs
use Rattle.run_edges.specs.declared.status.Status.{Status}
use Rattle.bundle_reports.specs.declared.ending.Ending.{Ending}
use Rattle.bundle_reports.specs.declared.ending.Ending.TheVariants as endings
use Rattle.bundle_reports.specs.Bundles.{Report}
use Rattle.run_edges.specs.Status.{status_of, replay_status}
use Rattle.npos_cli.specs.Report.{Tells, IsAnswer}
use Rattle.npos_cli.specs.Owed.{FindsFor}

-- each report has an answer
ending_answers : (ending : Ending) → IsAnswer (status_of ending)
ending_answers endings.Done = tt
ending_answers endings.No = tt
ending_answers endings.BadInput = tt

told_answers : (report : Report) (text : List ℕ) (status : Status) → Tells report text status → IsAnswer status
told_answers report text status tells = subst (λ (s : Status). IsAnswer s) (sym tells.status_is) (ending_answers report.ending)

replayed : (faulty : Bool) → IsAnswer (replay_status faulty)
replayed true = tt
replayed false = tt

-- what is found to be owed has a status that answers
pub found_answers : (job : Option Job) (left : Option (List ℕ)) (text : List ℕ) (status : Status) → FindsFor job left text status → IsAnswer status
found_answers None left text status finds = subst (λ (s : Status). IsAnswer s) (sym finds.2.1) tt
found_answers (Some jobs.Replay) left text status finds = subst (λ (s : Status). IsAnswer s) (sym finds.2.3) (replayed finds.2.0.faulty)
found_answers (Some (jobs.OnBundle task)) left text status finds = told_answers finds.2.0 text status finds.2.2
found_answers (Some (jobs.Demo seed voters seats)) left text status finds = subst (λ (s : Status). IsAnswer s) (sym finds.2.status_is) tt
found_answers (Some (jobs.Rewrite way)) left text status finds = subst (λ (s : Status). IsAnswer s) (sym finds.2.status_is) (ending_answers _)
found_answers (Some jobs.Checkpoint) left text status finds = subst (λ (s : Status). IsAnswer s) (sym finds.2.3) (replayed finds.2.0.faulty)
found_answers (Some jobs.Resume) left text status finds = subst (λ (s : Status). IsAnswer s) (sym finds.2.3) (replayed finds.2.0.faulty)
found_answers (Some jobs.Pools) left text status finds = subst (λ (s : Status). IsAnswer s) (sym finds.2.3) (replayed finds.2.0.faulty)
