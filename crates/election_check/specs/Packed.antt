-- The verdict on a packed solution with a claimed score: the first fault of the entries in their
-- order, then of the committee's size, then of the claim, then a target that outweighs.
use Rattle.std.specs.Prelude.{ℕ, ◌-◌, ◌*◌, ◌/◌, Bool, not, ◌&&◌, ◌||◌, nat_eq, nat_le, if◌then◌else◌, List, [], ◌∷◌, ◌++◌}
use Rattle.std.specs.Prelude.{length, map, filter, sum, sum_by, find, Option, Some, None, option_map, Result, Ok, Err}
use Rattle.std.specs.List.{list_any, flat_map, range_with_len}
use Rattle.npos_base.specs.declared.figures.Score.{Score}
use Rattle.npos_base.specs.declared.figures.Edge.{Edge}
use Rattle.scale_wire.specs.declared.fault.WireFault.{WireFault}
use Rattle.election_snapshot.specs.Snapshot.{Snapshot, has, nominates, stake_of}
use Rattle.weight_book.specs.Weights.{Weights, no_weights}
use Rattle.weight_book.specs.Scoring.{score_of}
use Rattle.compact_solution.specs.declared.entry.Share.{Share}
use Rattle.compact_solution.specs.Solution.{Entry, targets_of, parts_of, entries_of, whole_stake}
use Rattle.compact_solution.specs.Decoded.{decoded}
use Rattle.election_check.specs.declared.fault.Fault.{Fault}
use Rattle.election_check.specs.declared.fault.Fault.TheVariants.{NoVoter, NoTarget, VoterTwice, TargetTwice, NotNominated, BadShare, WrongScore}
use Rattle.election_check.specs.declared.verdict.Verdict.{Verdict}
use Rattle.election_check.specs.declared.verdict.Verdict.TheVariants.{Undecodable}
use Rattle.election_check.specs.First.{when, first_of, or_yes}
use Rattle.election_check.specs.Steps.{size_fault, outweighed}

-- ## The weights of a solution

-- what a share of this stake is, rounded down
abbrev pub amount_of : ℕ → Share → ℕ
amount_of stake share = stake * share.parts / whole_stake

-- the edge of a share, of a voter with this stake
abbrev pub edge_of : ℕ → ℕ → Share → Edge
edge_of stake voter share = record { voter = voter; target = share.target; amount = amount_of stake share }

-- what the shares leave for the last target
abbrev pub rest_of : ℕ → List Share → ℕ
rest_of stake shares = stake - sum_by (amount_of stake) shares

-- the edges of an entry whose voter has this stake, in the order of its targets
abbrev pub entry_edges : ℕ → Entry → List Edge
entry_edges stake entry =
    map (edge_of stake entry.voter) entry.shares
    ++ record { voter = entry.voter; target = entry.last; amount = rest_of stake entry.shares } ∷ []

-- the targets that some entry names
abbrev pub listed_in : List Entry → List ℕ
listed_in entries = flat_map targets_of entries

-- the listed targets, rising, as the committee, and the edges of all entries in their order
abbrev pub weights_of : Snapshot → List Entry → Weights
weights_of snapshot entries = record {
  committee = filter (has (listed_in entries)) (range_with_len 0 (length snapshot.targets));
  edges = flat_map (λ entry. entry_edges (stake_of snapshot entry.voter) entry) entries;
}

abbrev pub expanded : Snapshot → List (List Entry) → Weights
expanded snapshot solution = weights_of snapshot (entries_of solution)

-- ## The faults of entries

-- the first target that stands earlier, before these targets or among them
abbrev pub first_repeat : List ℕ → List ℕ → Option ℕ
first_repeat before [] = None
first_repeat before (target ∷ targets) =
    if has before target then Some target
    else first_repeat (before ++ target ∷ []) targets

-- Each of these is looked for among all targets of an entry.
abbrev pub unknown_target : Snapshot → Entry → Option Fault
unknown_target snapshot entry =
    option_map NoTarget (find (λ target. nat_le (length snapshot.targets) target) (targets_of entry))

abbrev pub repeated_target : Entry → Option Fault
repeated_target entry = option_map TargetTwice (first_repeat [] (targets_of entry))

abbrev pub unnominated_target : Snapshot → Entry → Option Fault
unnominated_target snapshot entry =
    option_map (NotNominated entry.voter)
    (find (λ target. not (nominates snapshot entry.voter target)) (targets_of entry))

-- a share is nothing, or the shares leave nothing for the last target
abbrev pub has_bad_share : Entry → Bool
has_bad_share entry =
    list_any (λ parts. nat_eq parts 0) (parts_of entry) || nat_le whole_stake (sum (parts_of entry))

-- the first fault of an entry, whose voter stands in an earlier one or not
abbrev pub entry_fault : Snapshot → Bool → Entry → Option Fault
entry_fault snapshot is_repeated entry = first_of (
    when (nat_le (length snapshot.voters) entry.voter) (NoVoter entry.voter)
    ∷ unknown_target snapshot entry
    ∷ when is_repeated (VoterTwice entry.voter)
    ∷ repeated_target entry
    ∷ unnominated_target snapshot entry
    ∷ when (has_bad_share entry) (BadShare entry.voter)
    ∷ [])

abbrev pub voters_in : List Entry → List ℕ
voters_in entries = map (λ entry. entry.voter) entries

-- the first fault of entries behind others
abbrev pub entries_fault : Snapshot → List Entry → List Entry → Option Fault
entries_fault snapshot before [] = None
entries_fault snapshot before (entry ∷ entries) = first_of (
    entry_fault snapshot (has (voters_in before) entry.voter) entry
    ∷ entries_fault snapshot (before ++ entry ∷ []) entries
    ∷ [])

-- ## The verdicts

abbrev pub expand_fault : Snapshot → List (List Entry) → Option Fault
expand_fault snapshot solution = first_of (
    entries_fault snapshot [] (entries_of solution)
    ∷ size_fault snapshot (expanded snapshot solution)
    ∷ [])

-- the verdict without the claim and the prescores
abbrev pub expand_verdict : Snapshot → List (List Entry) → Verdict
expand_verdict snapshot solution = or_yes (expand_fault snapshot solution)

abbrev pub same_score : Score → Score → Bool
same_score a b = nat_eq a.minimal b.minimal && (nat_eq a.sum b.sum && nat_eq a.squares b.squares)

-- the weights have another score than the claim
abbrev pub score_fault : Score → Weights → Option Fault
score_fault claim weights = when (not (same_score (score_of weights) claim)) (WrongScore (score_of weights))

abbrev pub solution_fault : Snapshot → Score → List (List Entry) → Option Fault
solution_fault snapshot claim solution = first_of (
    expand_fault snapshot solution
    ∷ score_fault claim (expanded snapshot solution)
    ∷ outweighed snapshot (expanded snapshot solution)
    ∷ [])

abbrev pub verdict_solution : Snapshot → Score → List (List Entry) → Verdict
verdict_solution snapshot claim solution = or_yes (solution_fault snapshot claim solution)

-- what was decoded is no solution, or has this verdict
abbrev pub verdict_decoded : Snapshot → Score → Result (List (List Entry)) WireFault → Verdict
verdict_decoded snapshot claim (Ok solution) = verdict_solution snapshot claim solution
verdict_decoded snapshot claim (Err fault) = Undecodable fault.at fault.why

-- the verdict on bytes
abbrev pub verdict_packed : Snapshot → Score → List ℕ → Verdict
verdict_packed snapshot claim bytes = verdict_decoded snapshot claim (decoded bytes)

-- weights that stand where there is no fault, and else none
abbrev pub weights_unless : Option Fault → Weights → Weights
weights_unless None weights = weights
weights_unless (Some fault) weights = no_weights

-- the weights after the verdict on what was decoded
abbrev pub weights_decoded : Snapshot → Result (List (List Entry)) WireFault → Weights
weights_decoded snapshot (Ok solution) = weights_unless (expand_fault snapshot solution) (expanded snapshot solution)
weights_decoded snapshot (Err fault) = no_weights
