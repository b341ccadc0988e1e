-- The numbers by which it is told what was found of a bundle.
use Rattle.std.specs.Prelude.{ℕ, ◌/◌, ◌%◌, ◌^◌, List, [], ◌∷◌, slice_index_or}
use Rattle.scale_wire.specs.Reason as reasons
use Rattle.election_check.specs.Number.{verdict_number as verdict_number}
use Rattle.election_work.specs.declared.finding.Finding.{Finding}
use Rattle.election_work.specs.declared.finding.Finding.TheVariants.{Judged, Lost, Unsolved, Unread}
use Rattle.election_work.specs.declared.reading.NoElection.TheVariants.{Long, Refused, Unelectable}
use Rattle.election_work.specs.declared.reading.TheConstants.{MOST_BUNDLE}
use Rattle.bundle_reports.specs.Verdicts.{verdict_details, fault_numbers}
use Rattle.npos_c.specs.declared.finding.NposFinding.{NposFinding}
use Rattle.npos_c.specs.declared.finding.TheConstants.{JUDGED, LOST, REFUSED, UNELECTABLE, UNSOLVED, LONG}

-- a number and up to three details; those that are not there are 0
abbrev pub figures : ℕ → List ℕ → NposFinding
figures kind numbers = record {
  kind = kind;
  number = slice_index_or numbers 0 0;
  first = slice_index_or numbers 1 0;
  second = slice_index_or numbers 2 0;
  third_high = slice_index_or numbers 3 0 / 2 ^ 64;
  third_low = slice_index_or numbers 3 0 % 2 ^ 64;
}

-- the numbers of its line
abbrev pub told_as : Finding → NposFinding
told_as (Judged verdict) = figures JUDGED (verdict_number verdict ∷ verdict_details verdict)
told_as (Lost member) = figures LOST (0 ∷ member ∷ [])
told_as (Unsolved at) = figures UNSOLVED (0 ∷ at ∷ [])
told_as (Unread (Refused fault)) = figures REFUSED (reasons.why_number fault.why ∷ fault.at ∷ [])
told_as (Unread (Unelectable fault)) = figures UNELECTABLE (fault_numbers fault)
told_as (Unread Long) = figures LONG (0 ∷ MOST_BUNDLE ∷ [])
