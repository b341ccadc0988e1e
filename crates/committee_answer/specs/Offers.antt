-- How the answer is searched for. The nominators of a target offer the members their stake times the seats, and each
-- member takes at most the total stake.
use Rattle.std.specs.Prelude.{◌≡◌, ℕ, ◌+◌, ◌-◌, ◌*◌, ◌^◌, ◌<◌, if◌then◌else◌, IsTrue, List, length, map, filter, flat_map, sum, slice_index_or, slice_set}
use Rattle.npos_base.specs.declared.figures.Edge.{Edge}
use Rattle.election_snapshot.specs.Snapshot.{Snapshot, has, votes_of, stake_of, total_stake}
use Rattle.weight_book.specs.Weights.{amount_sum, spent, support}
use Rattle.weight_book.specs.Proportional.{group_stake}
use Rattle.committee_answer.specs.declared.offers.Offers.{Offers}

-- what a table of numbers says
abbrev pub at : List ℕ → ℕ → ℕ
at table number = slice_index_or table number 0

abbrev pub no_edge : Edge
no_edge = record { voter = 0; target = 0; amount = 0 }

abbrev pub edge_at : Offers → ℕ → Edge
edge_at offers place = slice_index_or offers.edges.items place no_edge

-- the edge, before anything is given along it
abbrev pub emptied : Edge → Edge
emptied edge = record { voter = edge.voter; target = edge.target; amount = 0 }

-- an edge along each nomination of a member, of one voter with these votes
abbrev pub row_of : List ℕ → ℕ → List ℕ → List Edge
row_of committee voter votes =
    map (λ member. record { voter = voter; target = member; amount = 0 }) (filter (has committee) votes)

abbrev pub row : Snapshot → List ℕ → ℕ → List Edge
row snapshot committee voter = row_of committee voter (votes_of snapshot voter)

-- of all voters, in their order
abbrev pub rows : Snapshot → List ℕ → List ℕ → List Edge
rows snapshot committee voters = flat_map (row snapshot committee) voters

-- nothing is given yet
pub record AreLaid (snapshot : Snapshot) (committee voters : List ℕ) (offers : Offers) : Type 0 where
  pub edges : offers.edges.items ≡ rows snapshot committee voters
  pub left : (voter : ℕ) → IsTrue (has voters voter) → at offers.left.items voter ≡ snapshot.seats * stake_of snapshot voter
  pub spare : (target : ℕ) → at offers.spare.items target ≡ (if has committee target then total_stake snapshot else 0)
  pub rest : offers.rest ≡ snapshot.seats * group_stake snapshot voters

-- each edge has its place in the tables, no sum is too large, and the rest is that of all voters
pub record AreSmall (offers : Offers) : Type 0 where
  pub voters : (place : ℕ) → place < length offers.edges.items → (edge_at offers place).voter < length offers.left.items
  pub targets : (place : ℕ) → place < length offers.edges.items → (edge_at offers place).target < length offers.spare.items
  pub left : (voter : ℕ) → at offers.left.items voter + spent offers.edges.items voter < 2 ^ 128
  pub spare : (target : ℕ) → at offers.spare.items target + support offers.edges.items target < 2 ^ 64
  pub all : offers.rest + amount_sum offers.edges.items < 2 ^ 128
  pub rest : offers.rest ≡ sum offers.left.items

-- amounts moved: what a voter gives and has left is the same in sum, and so is what a member has and still takes
pub record AreMoved (old new : Offers) : Type 0 where
  pub edges : map emptied new.edges.items ≡ map emptied old.edges.items
  pub left_count : length new.left.items ≡ length old.left.items
  pub spare_count : length new.spare.items ≡ length old.spare.items
  pub left : (voter : ℕ) → at new.left.items voter + spent new.edges.items voter
      ≡ at old.left.items voter + spent old.edges.items voter
  pub spare : (target : ℕ) → at new.spare.items target + support new.edges.items target
      ≡ at old.spare.items target + support old.edges.items target
  pub rest : new.rest + amount_sum new.edges.items ≡ old.rest + amount_sum old.edges.items

abbrev pub less_at : Offers → ℕ → ℕ → Edge
less_at offers place amount = record (edge_at offers place) { amount = (edge_at offers place).amount - amount }

abbrev pub more_at : Offers → ℕ → ℕ → Edge
more_at offers place amount = record (edge_at offers place) { amount = (edge_at offers place).amount + amount }

-- an amount is taken back along an edge
pub record IsTaken (old new : Offers) (place amount : ℕ) : Type 0 where
  pub edges : new.edges.items ≡ slice_set old.edges.items place (less_at old place amount)
  pub left : new.left.items ≡ slice_set old.left.items (edge_at old place).voter (at old.left.items (edge_at old place).voter + amount)
  pub spare : new.spare.items ≡ slice_set old.spare.items (edge_at old place).target (at old.spare.items (edge_at old place).target + amount)

-- an amount is given along an edge
pub record IsGiven (old new : Offers) (place amount : ℕ) : Type 0 where
  pub edges : new.edges.items ≡ slice_set old.edges.items place (more_at old place amount)
  pub left : new.left.items ≡ slice_set old.left.items (edge_at old place).voter (at old.left.items (edge_at old place).voter - amount)
  pub spare : new.spare.items ≡ slice_set old.spare.items (edge_at old place).target (at old.spare.items (edge_at old place).target - amount)
