-- The decided weights have a plain Yes, and pass.
use Rattle.std.proofs.Common.{◌≡◌, List, [], ◌∷◌, ◌∙◌, ap, refl}
use Rattle.submission_queue.specs.declared.submission.Submission.{Submission}
use Rattle.election_snapshot.specs.Snapshot.{Snapshot, IsWellFormed}
use Rattle.compact_solution.specs.Decoded.{decoded}
use Rattle.election_check.specs.declared.verdict.Verdict.TheVariants as verdicts
use Rattle.election_check.specs.Packed.{weights_decoded}
use Rattle.election_check.specs.Plain.{verdict_plain}
use Rattle.election_check.specs.Laws.{PackedYesIsAccepting, PlainYesIsPassing}
use Rattle.weight_book.specs.Passing.{Passes}
use Rattle.quota_fill.specs.Filled.{filled}
use Rattle.quota_fill.specs.Laws.{EveryFillPasses}
use Rattle.round_decision.specs.Decision.{judged, others, decided_weights}
use Rattle.round_decision.proofs.DecisionLemmas.{winner_holds}

pub winner_passes : PackedYesIsAccepting → (snapshot : Snapshot) (winner : Submission) → judged snapshot winner ≡ verdicts.Yes
    → verdict_plain snapshot (weights_decoded snapshot (decoded winner.bytes)) ≡ verdicts.Yes
winner_passes law snapshot winner holds =
    let is = law snapshot winner.score winner.bytes holds in ap (verdict_plain snapshot) is.given_are ∙ is.plain_yes

pub fill_passes : EveryFillPasses → PlainYesIsPassing → (snapshot : Snapshot) → IsWellFormed snapshot → verdict_plain snapshot (filled snapshot) ≡ verdicts.Yes
fill_passes law plain snapshot sound = (plain snapshot (filled snapshot)).1 (law snapshot sound)

-- whoever won, and where nobody did
pub decided_passes : PackedYesIsAccepting → EveryFillPasses → PlainYesIsPassing → (snapshot : Snapshot) (items : List Submission) → IsWellFormed snapshot
    → Passes snapshot (decided_weights snapshot (others snapshot items))
decided_passes packed fill plain snapshot items sound = at (others snapshot items) refl where
  at : (kept : List Submission) → others snapshot items ≡ kept → Passes snapshot (decided_weights snapshot kept)
  at [] is = fill snapshot sound
  at (winner ∷ rest) is =
      (plain snapshot (weights_decoded snapshot (decoded winner.bytes))).0
      (winner_passes packed snapshot winner (winner_holds snapshot items winner rest is))
