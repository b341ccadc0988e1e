-- Ways on which what a voter has left can still go: to a member that takes more, or to one where another voter makes
-- room that can give elsewhere.
use Rattle.std.specs.Prelude.{◌≡◌, ℕ, ◌+◌, ◌<◌, ◌≤◌, ◌⊎◌, Bool, not, nat_lt, List, length, filter, count_by, slice_index_or}
use Rattle.committee_answer.specs.declared.reach.TheConstants.{FAR}
use Rattle.committee_answer.specs.declared.offers.Offers.{Offers}
use Rattle.committee_answer.specs.declared.reach.Way.{Way}
use Rattle.committee_answer.specs.declared.lists.Lists.{Lists}
use Rattle.npos_base.specs.declared.limits.TheConstants.{MOST_TARGETS}
use Rattle.committee_answer.specs.Offers.{at, edge_at}

abbrev pub no_way : Way
no_way = record { steps = FAR; edge = 0 }

abbrev pub way_at : List Way → ℕ → Way
way_at ways number = slice_index_or ways number no_way

abbrev pub steps_at : List Way → ℕ → ℕ
steps_at ways number = (way_at ways number).steps

-- a voter, or a member, from which there is a way
abbrev pub IsReached : List Way → ℕ → Type 0
IsReached ways number = steps_at ways number < FAR

abbrev pub reached : List Way → ℕ → Bool
reached ways number = nat_lt (steps_at ways number) FAR

-- those of the voters from whom there is no way
abbrev pub stuck : List Way → List ℕ → List ℕ
stuck ways voters = filter (λ voter. not (reached ways voter)) voters

abbrev pub unreached : List Way → ℕ
unreached ways = count_by (λ way. not (nat_lt way.steps FAR)) ways

-- the first step of a voter's way: an edge to a member from which it is no further
pub record IsNext (offers : Offers) (members : List Way) (voter : ℕ) (way : Way) : Type 0 where
  pub inside : way.edge < length offers.edges.items
  pub of_voter : (edge_at offers way.edge).voter ≡ voter
  pub no_further : steps_at members (edge_at offers way.edge).target ≤ way.steps

-- the first step of a member's way: back along an edge that gives something, to a voter from which it is nearer
pub record IsBack (offers : Offers) (voters : List Way) (member : ℕ) (way : Way) : Type 0 where
  pub inside : way.edge < length offers.edges.items
  pub to_member : (edge_at offers way.edge).target ≡ member
  pub gives : 0 < (edge_at offers way.edge).amount
  pub nearer : steps_at voters (edge_at offers way.edge).voter < way.steps

-- whoever has fewer steps to go than this has a way
pub record AreWays (steps : ℕ) (offers : Offers) (voters members : List Way) : Type 0 where
  pub of_voter : (voter : ℕ) → steps_at voters voter < steps → IsNext offers members voter (way_at voters voter)
  pub of_member : (member : ℕ) → steps_at members member < steps
      → (0 < at offers.spare.items member) ⊎ IsBack offers voters member (way_at members member)

-- what is reached has a way, which is no longer than there are members reached
pub record IsReach (offers : Offers) (voters members : List Way) : Type 0 where
  pub voter_count : length voters ≡ length offers.left.items
  pub member_count : length members ≡ length offers.spare.items
  pub few : length members ≤ MOST_TARGETS
  pub ways : AreWays FAR offers voters members
  pub voters_short : (voter : ℕ) → IsReached voters voter → steps_at voters voter + unreached members ≤ length members
  pub members_short : (member : ℕ) → IsReached members member → steps_at members member + unreached members ≤ length members

-- members that are reached stay so
abbrev pub StayReached : List Way → List Way → Type 0
StayReached old new = (member : ℕ) → IsReached old member → IsReached new member

-- along each of the first edges to a member that is reached, its voter is
abbrev pub VotersFollow : Offers → List Way → List Way → ℕ → Type 0
VotersFollow offers voters members count = (place : ℕ) → place < count
    → IsReached members (edge_at offers place).target → IsReached voters (edge_at offers place).voter

-- along each of the first edges that gives something from a voter that is reached, its member is
abbrev pub MembersFollow : Offers → List Way → List Way → ℕ → Type 0
MembersFollow offers voters members count = (place : ℕ) → place < count
    → IsReached voters (edge_at offers place).voter → 0 < (edge_at offers place).amount
    → IsReached members (edge_at offers place).target

-- each member that takes more is reached
abbrev pub SparesFollow : Offers → List Way → Type 0
SparesFollow offers members = (target : ℕ) → 0 < at offers.spare.items target → IsReached members target

-- nobody more can be reached
pub record IsWhole (offers : Offers) (voters members : List Way) : Type 0 where
  pub spares_follow : SparesFollow offers members
  pub voters_follow : VotersFollow offers voters members (length offers.edges.items)
  pub members_follow : MembersFollow offers voters members (length offers.edges.items)

-- the lists of edges have a place for each voter, target and edge
pub record AreLists (offers : Offers) (lists : Lists) : Type 0 where
  pub begins : length lists.begins.items ≡ length offers.left.items
  pub heads : length lists.heads.items ≡ length offers.spare.items
  pub nexts : length lists.nexts.items ≡ length offers.edges.items
