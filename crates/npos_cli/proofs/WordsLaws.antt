-- From the words of a call to what is said of its run.
use Rattle.std.proofs.Common.{◌≡◌, ◌≢◌, ◌∙◌, ℕ, false, List, Option, None, Result, Err, ap, sym, subst}
use Rattle.std.specs.Prelude.{option_map}
use Rattle.npos_words.specs.declared.command.Command.{Command}
use Rattle.npos_words.specs.Words.{command_of, has_verb}
use Rattle.npos_words.proofs.WordLemmas.{no_verb}
use Rattle.npos_cli.specs.declared.job.Job.{Job}
use Rattle.run_edges.specs.declared.status.Status.{Status}
use Rattle.run_edges.specs.declared.halt.Halt.{Halt}
use Rattle.run_edges.specs.declared.halt.Halt.TheVariants as halts
use Rattle.npos_cli.specs.Words.{job_by, job_of, KeepsBounds}
use Rattle.npos_cli.proofs.RunLaws.{job_has_rounds}

-- the job of the command that the words ask for
pub job_asked : (words : List (List ℕ)) (command : Option Command) (job : Option Job) → command ≡ command_of words → job ≡ option_map job_by command → job ≡ job_of words
job_asked words command job asked is = is ∙ ap (option_map job_by) asked

pub job_bounded : (words : List (List ℕ)) (job : Option Job) → job ≡ job_of words → KeepsBounds job
job_bounded words job is = subst (λ (j : Option Job). KeepsBounds j) (sym is) (job_has_rounds words)

-- words without a verb ask for no job, so they take no memory
pub formless_never_starve : (words : List (List ℕ)) (job : Option Job) (result : Result Status Halt) → job ≡ job_of words → (job ≡ None → result ≢ Err halts.NoMemory)
    → has_verb words ≡ false → result ≢ Err halts.NoMemory
formless_never_starve words job result is never none = never (is ∙ ap (option_map job_by) (no_verb words none))
