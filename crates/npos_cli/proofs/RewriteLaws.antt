-- What is owed where a bundle is written in its other form.
use Rattle.std.proofs.Common.{◌≡◌, ℕ, ◌≤◌, List, length, Option, Some, None, refl, sym, ◌∙◌, ap, subst, inl, inr, arith, length-append}
use Rattle.std.proofs.lemmas.Bool.{cases_lt}
use Rattle.npos_cli.specs.declared.job.Job.TheVariants as jobs
use Rattle.bundle_reports.specs.declared.asked.Rewriting.{Rewriting}
use Rattle.bundle_reports.specs.declared.asked.Rewriting.TheVariants.{Show}
use Rattle.bundle_reports.specs.declared.ending.Ending.{Ending}
use Rattle.bundle_reports.specs.declared.ending.Ending.TheVariants as endings
use Rattle.bundle_reports.specs.Bundles.{Report}
use Rattle.bundle_reports.specs.Rewriting.{done, rewrite_report}
use Rattle.bundle_reports.proofs.RewriteLaws.{rewrite_long, packs_shown}
use Rattle.run_edges.specs.declared.status.Status.TheVariants as statuses
use Rattle.run_edges.specs.Status.{status_of}
use Rattle.npos_cli.specs.Report.{Tells, IsJudged}
use Rattle.run_edges.specs.Owed.{ReadsUpTo, IsDrained}
use Rattle.npos_cli.specs.Owed.{FindsFor}
use Rattle.npos_cli.specs.Laws.{PacksBack}
use Rattle.npos_cli.proofs.RunLaws.{all_left, is_done, tells_itself}

-- what is written of the bytes that were read is what is written of all
rewrite_read : (way : Rewriting) (left : List ℕ) (now : Option (List ℕ)) (bytes : List ℕ) → ReadsUpTo 16777216 (Some left) now bytes
    → rewrite_report way bytes ≡ rewrite_report way left
rewrite_read way left now bytes reads = elim (cases_lt 16777216 (length bytes)) [
  | inl over ↦
      let t = reads.taken in
      rewrite_long way bytes over ∙ sym (rewrite_long way left (omega (arith, over, ap length t.2, length-append bytes t.0)))
  | inr within ↦ ap (rewrite_report way) (all_left 16777216 left now bytes reads within)
]

pub rewrite_found : (way : Rewriting) (old now : Option (List ℕ)) (bytes : List ℕ) (report : Report) → ReadsUpTo 16777216 old now bytes
    → report ≡ rewrite_report way bytes → FindsFor (Some (jobs.Rewrite way)) old report.text (status_of report.ending)
rewrite_found way None now bytes report reads is = (bytes, tt, subst (λ (r : Report). Tells r report.text (status_of report.ending)) is (tells_itself report))
rewrite_found way (Some left) now bytes report reads is =
    (left, refl, subst (λ (r : Report). Tells r report.text (status_of report.ending)) (is ∙ rewrite_read way left now bytes reads) (tells_itself report))

-- what is done comes of bytes within the limit
judged_within : (way : Rewriting) (bytes : List ℕ) (report : Report) → report ≡ rewrite_report way bytes → IsJudged (status_of report.ending) → length bytes ≤ 16777216
judged_within way bytes report is judged = elim (cases_lt 16777216 (length bytes)) [
  | inl over ↦ absurd (subst (λ (r : Report). IsJudged (status_of r.ending)) (is ∙ rewrite_long way bytes over) judged)
  | inr within ↦ within
]

pub rewrite_drained : (way : Rewriting) (old now : Option (List ℕ)) (bytes : List ℕ) (report : Report) → ReadsUpTo 16777216 old now bytes
    → report ≡ rewrite_report way bytes → IsJudged (status_of report.ending) → IsDrained old now
rewrite_drained way old now bytes report reads is judged = reads.ended (judged_within way bytes report is judged)

-- a text that tells of a report that is done is that report's
told_done : (report : Report) (text : List ℕ) → Tells report text statuses.Done → done text ≡ report
told_done report text tells =
    (λ i. record { text = tells.text_is i; ending = endings.Done }) ∙ ap (λ (e : Ending). record { text = report.text; ending = e }) (sym (is_done report.ending (sym tells.status_is)))

done_told : (report : Report) (text : List ℕ) → done text ≡ report → Tells report text statuses.Done
done_told report text is = record { text_is = ap (λ (r : Report). r.text) is; status_is = ap (λ (r : Report). status_of r.ending) is }

-- what `pack` writes of a text that `show` wrote is what `show` read
pub packs_back : PacksBack
packs_back bytes text are shown short =
    let is = told_done (rewrite_report Show bytes) text shown in
    done_told _ bytes (packs_shown bytes text are (judged_within Show bytes (done text) is tt) is short)
