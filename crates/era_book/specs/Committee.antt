-- The exposures of a committee, from the edges by which it was elected.
use Rattle.std.specs.Prelude.{◌≡◌, ℕ, zero, suc, ◌<◌, ◌≤◌, Bool, true, false, not, ◌&&◌, nat_eq, nat_lt, if◌then◌else◌, List, [], ◌++◌, length, map, filter, sum_by, slice_index_or, All}
use Rattle.std.specs.List.{IsDistinct}
use Rattle.npos_base.specs.declared.account.AccountId.{AccountId}
use Rattle.npos_base.specs.declared.figures.Edge.{Edge}
use Rattle.npos_base.specs.Account.{same_account, account_at}
use Rattle.npos_base.specs.Edge.{same_pair, edges_from, support}
use Rattle.npos_base.specs.declared.limits.TheConstants.{WHOLE_FRACTION}
use Rattle.era_book.specs.declared.exposure.Backer.{Backer}
use Rattle.era_book.specs.declared.exposure.Exposure.{Exposure}
use Rattle.era_book.specs.Exposures.{amount_sum, exposed_for, AreSound}
use Rattle.era_book.specs.Payouts.{line}

-- the edge gives something to the target
abbrev pub gives_to : ℕ → Edge → Bool
gives_to target edge = nat_eq edge.target target && nat_lt 0 edge.amount

abbrev pub backer_of : List AccountId → Edge → Backer
backer_of voters edge = line (account_at voters edge.voter) edge.amount

-- the validator's own edge, or one of another
abbrev pub is_of : Bool → List AccountId → List AccountId → Edge → Bool
is_of own targets voters edge =
    if own then same_account (account_at voters edge.voter) (account_at targets edge.target)
    else not (same_account (account_at voters edge.voter) (account_at targets edge.target))

-- those who give to a target in the order of the edges: the validator itself, or the others
abbrev pub backers_among : Bool → List AccountId → List AccountId → List Edge → ℕ → List Backer
backers_among own targets voters edges target =
    map (backer_of voters) (filter (λ edge. gives_to target edge && is_of own targets voters edge) edges)

-- the validator's own part first, then the others
abbrev pub backers_of : List AccountId → List AccountId → List Edge → ℕ → List Backer
backers_of targets voters edges target =
    backers_among true targets voters edges target ++ backers_among false targets voters edges target

-- the exposure of one member; commissions and supports stand by target
abbrev pub exposure_of : List AccountId → List ℕ → List ℕ → List AccountId → List Edge → ℕ → Exposure
exposure_of targets commissions supports voters edges member =
    record {
      validator = account_at targets member;
      commission = slice_index_or commissions member 0;
      support = slice_index_or supports member 0;
      backers = backers_of targets voters edges member;
    }

-- what the edges of one account give
abbrev pub spent_by : List AccountId → AccountId → List Edge → ℕ
spent_by voters who edges =
    sum_by (λ edge. edge.amount) (filter (λ edge. same_account (account_at voters edge.voter) who) edges)

-- the backers of a target give together what its edges do
abbrev pub SupportLaw : Type 0
SupportLaw = (targets voters : List AccountId) (edges : List Edge) (target : ℕ) →
    amount_sum (backers_of targets voters edges target) ≡ support edges target

-- all exposures of a committee hold for an account at most what its edges give
abbrev pub SpentLaw : Type 0
SpentLaw = (targets voters : List AccountId) (commissions supports : List ℕ) (edges : List Edge)
    (members : List ℕ) (who : AccountId) → IsDistinct nat_eq members →
    exposed_for who (map (exposure_of targets commissions supports voters edges) members)
    ≤ spent_by voters who edges

-- where no account is two voters and no voter gives twice to a target, no account backs it twice
abbrev pub BackersLaw : Type 0
BackersLaw = (targets voters : List AccountId) (edges : List Edge) (target : ℕ) →
    IsDistinct same_account voters → All (λ edge. edge.voter < length voters) edges →
    IsDistinct same_pair edges →
    IsDistinct same_account (map (λ backer. backer.who) (backers_of targets voters edges target))

-- the places that an edge names
pub record IsWithin (targets voters : List AccountId) (edge : Edge) : Type 0 where
  pub target : edge.target < length targets
  pub voter : edge.voter < length voters

-- the edges of the first voters, so many of them, in the order of the voters: those of voter 0 as
-- they stand, then those of voter 1, and so on
abbrev pub edges_by_voter : ℕ → List Edge → List Edge
edges_by_voter zero edges = []
edges_by_voter (suc voter) edges =
    edges_by_voter voter edges ++ edges_from edges voter

-- A committee and the edges by which it was elected: no account stands twice among the targets or
-- among the voters, the members are different targets, no voter gives twice to a target, and a
-- member's support is what the edges give to it. Commissions and supports stand by target.
pub record IsElected (targets voters : List AccountId) (commissions supports : List ℕ)
    (edges : List Edge) (members : List ℕ) : Type 0 where
  pub targets_distinct : IsDistinct same_account targets
  pub voters_distinct : IsDistinct same_account voters
  pub commissions_within : All (λ commission. commission ≤ WHOLE_FRACTION) commissions
  pub edges_within : All (IsWithin targets voters) edges
  pub pairs_distinct : IsDistinct same_pair edges
  pub members_within : All (λ member. member < length targets) members
  pub members_distinct : IsDistinct nat_eq members
  pub supports_given : All (λ member. slice_index_or supports member 0 ≡ support edges member) members

-- the exposures of an elected committee are sound
abbrev pub SoundLaw : Type 0
SoundLaw = (targets voters : List AccountId) (commissions supports : List ℕ) (edges : List Edge)
    (members : List ℕ) → IsElected targets voters commissions supports edges members →
    AreSound (map (exposure_of targets commissions supports voters edges) members)

-- in the order of the voters the edges elect the same committee, and each account gives as much
abbrev pub OrderLaw : Type 0
OrderLaw = (targets voters : List AccountId) (commissions supports : List ℕ) (edges : List Edge)
    (members : List ℕ) → IsElected targets voters commissions supports edges members →
    IsElected targets voters commissions supports (edges_by_voter (length voters) edges) members
    × ((who : AccountId) → spent_by voters who (edges_by_voter (length voters) edges)
    ≡ spent_by voters who edges)
