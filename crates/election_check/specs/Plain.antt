-- The verdict on plain weights: the first fault of the members in their order, then of the edges in
-- theirs, then of the voters' spending, then of the committee's size, then a target that outweighs.
use Rattle.std.specs.Prelude.{ℕ, Bool, not, nat_lt, nat_le, List, [], ◌∷◌, ◌++◌, length, Option, None, option_map, find}
use Rattle.std.specs.List.{list_any, range_with_len}
use Rattle.npos_base.specs.declared.figures.Edge.{Edge}
use Rattle.election_snapshot.specs.Snapshot.{Snapshot, has, nominates, stake_of}
use Rattle.weight_book.specs.Weights.{Weights, same_pair, spent}
use Rattle.election_check.specs.declared.fault.Fault.{Fault}
use Rattle.election_check.specs.declared.fault.Fault.TheVariants.{NoVoter, NoTarget, TargetTwice, NotNominated, Overspent}
use Rattle.election_check.specs.declared.verdict.Verdict.{Verdict}
use Rattle.election_check.specs.First.{when, first_of, or_yes}
use Rattle.election_check.specs.Steps.{size_fault, outweighed}

-- the first fault of a member behind others
abbrev pub member_fault : Snapshot → List ℕ → ℕ → Option Fault
member_fault snapshot before member = first_of (
    when (nat_le (length snapshot.targets) member) (NoTarget member)
    ∷ when (has before member) (TargetTwice member)
    ∷ [])

abbrev pub members_fault : Snapshot → List ℕ → List ℕ → Option Fault
members_fault snapshot before [] = None
members_fault snapshot before (member ∷ members) = first_of (
    member_fault snapshot before member
    ∷ members_fault snapshot (before ++ member ∷ []) members
    ∷ [])

-- the first fault of an edge behind others
abbrev pub edge_fault : Snapshot → List ℕ → List Edge → Edge → Option Fault
edge_fault snapshot committee before edge = first_of (
    when (nat_le (length snapshot.voters) edge.voter) (NoVoter edge.voter)
    ∷ when (not (has committee edge.target)) (NoTarget edge.target)
    ∷ when (not (nominates snapshot edge.voter edge.target)) (NotNominated edge.voter edge.target)
    ∷ when (list_any (λ other. same_pair other edge) before) (TargetTwice edge.target)
    ∷ [])

abbrev pub edges_fault : Snapshot → List ℕ → List Edge → List Edge → Option Fault
edges_fault snapshot committee before [] = None
edges_fault snapshot committee before (edge ∷ edges) = first_of (
    edge_fault snapshot committee before edge
    ∷ edges_fault snapshot committee (before ++ edge ∷ []) edges
    ∷ [])

abbrev pub overspends : Snapshot → List Edge → ℕ → Bool
overspends snapshot edges voter = nat_lt (stake_of snapshot voter) (spent edges voter)

-- the lowest voter that gives more than its stake
abbrev pub overspent : Snapshot → List Edge → Option Fault
overspent snapshot edges =
    option_map Overspent (find (overspends snapshot edges) (range_with_len 0 (length snapshot.voters)))

abbrev pub plain_fault : Snapshot → Weights → Option Fault
plain_fault snapshot weights = first_of (
    members_fault snapshot [] weights.committee
    ∷ edges_fault snapshot weights.committee [] weights.edges
    ∷ overspent snapshot weights.edges
    ∷ size_fault snapshot weights
    ∷ outweighed snapshot weights
    ∷ [])

abbrev pub verdict_plain : Snapshot → Weights → Verdict
verdict_plain snapshot weights = or_yes (plain_fault snapshot weights)
