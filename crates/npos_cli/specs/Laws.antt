-- What follows for all words and all bytes.
use Rattle.std.specs.Prelude.{◌≡◌, ◌≤◌, ℕ, List, length, Some}
use Rattle.scale_wire.specs.Form.{IsBytes}
use Rattle.run_edges.specs.declared.status.Status.{Status}
use Rattle.run_edges.specs.declared.status.Status.TheVariants as statuses
use Rattle.npos_cli.specs.declared.job.Job.TheVariants as jobs
use Rattle.bundle_reports.specs.declared.asked.Rewriting.TheVariants as ways
use Rattle.npos_cli.specs.Report.{JobOwes, Owes}

-- words and bytes owe at most one text and one status
abbrev pub OwesOnce : Type 0
OwesOnce = (words : List (List ℕ)) (bytes text other : List ℕ) (status end : Status)
    → Owes words bytes text status → Owes words bytes other end
    → (text ≡ other) × (status ≡ end)

-- words owe a text and a status for each list of bytes
abbrev pub OwesAlways : Type 0
OwesAlways = (words : List (List ℕ)) (bytes : List ℕ) → IsBytes bytes
    → (text : List ℕ) × (status : Status) × Owes words bytes text status

-- What `pack` writes of a text that `show` wrote is what `show` read, unless the text is too long
-- for a bundle.
abbrev pub PacksBack : Type 0
PacksBack = (bytes text : List ℕ) → IsBytes bytes
    → JobOwes (Some (jobs.Rewrite ways.Show)) bytes text statuses.Done → length text ≤ 16777216
    → JobOwes (Some (jobs.Rewrite ways.Pack)) text bytes statuses.Done
