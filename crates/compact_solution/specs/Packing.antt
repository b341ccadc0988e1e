-- Packing: how weights become a solution. What a voter gives is rounded down to parts of its stake,
-- and what is too little for one part is dropped.
use Rattle.std.specs.Prelude.{ℕ, ◌+◌, ◌-◌, ◌*◌, ◌/◌, ◌<◌, ◌≤◌, Bool, not, nat_eq, nat_lt, nat_le, IsTrue, if◌then◌else◌, min, List, [], ◌∷◌}
use Rattle.std.specs.Prelude.{length, map, filter, take, fold, sum_by, All, slice_index_or, Option, Some, None, option_to_list, Result, Ok, Err}
use Rattle.std.specs.List.{list_all, list_any, range_with_len, IsDistinct}
use Rattle.npos_base.specs.declared.figures.Edge.{Edge}
pub use Rattle.npos_base.specs.Edge.{same_pair, edges_from}
use Rattle.npos_base.specs.declared.limits.TheConstants.{MOST_NOMINATIONS, MOST_VOTERS}
use Rattle.compact_solution.specs.declared.entry.Share.{Share}
use Rattle.compact_solution.specs.Solution.{Entry, plain_groups, groups_in, whole_stake}

-- ## What a voter keeps

abbrev pub stake_at : List ℕ → ℕ → ℕ
stake_at stakes voter = slice_index_or stakes voter 0

-- how many parts of its voter's stake an edge gives, of whole_stake in all, rounded down
abbrev pub parts_in : ℕ → Edge → ℕ
parts_in stake edge = edge.amount * whole_stake / stake

abbrev pub has_part : ℕ → Edge → Bool
has_part stake edge = nat_lt 0 (parts_in stake edge)

-- an edge goes before the first one with a higher target
abbrev pub placed : List Edge → Edge → List Edge
placed [] edge = edge ∷ []
placed (first ∷ rest) edge =
    if nat_lt edge.target first.target then edge ∷ first ∷ rest else first ∷ placed rest edge

abbrev pub by_target : List Edge → List Edge
by_target edges = fold placed [] edges

-- the better of the best edge so far and the next one: a later one has to give more
abbrev pub greater : Option Edge → Edge → Option Edge
greater None edge = Some edge
greater (Some best) edge = if nat_lt best.amount edge.amount then Some edge else Some best

-- the first edge with the greatest amount
abbrev pub greatest : List Edge → Option Edge
greatest edges = fold greater None edges

-- what there is to choose from: the edges with a part, by rising target, and the first of the greatest
pub record Choice : Type 0 where
  pub with_part : List Edge
  pub greatest : Option Edge

abbrev pub choice_of : ℕ → List Edge → Choice
choice_of stake edges = record {
  with_part = by_target (filter (has_part stake) edges);
  greatest = greatest edges;
}

-- edges with a part are kept; where none has one, the first of the greatest is
abbrev pub chosen_from : List Edge → Option Edge → List Edge
chosen_from [] best = option_to_list best
chosen_from (edge ∷ more) best = edge ∷ more

abbrev pub chosen : Choice → List Edge
chosen choice = chosen_from choice.with_part choice.greatest

-- what there is to choose from, by voter
abbrev pub choices_of : List ℕ → List Edge → List Choice
choices_of stakes edges =
    map (λ voter. choice_of (stake_at stakes voter) (edges_from edges voter)) (range_with_len 0 (length stakes))

-- the edges that are kept, by voter
abbrev pub kept_of : List ℕ → List Edge → List (List Edge)
kept_of stakes edges = map chosen (choices_of stakes edges)

-- ## Entries

abbrev pub share_of : ℕ → Edge → Share
share_of stake edge = record { target = edge.target; parts = parts_in stake edge }

abbrev pub no_edge : Edge
no_edge = record { voter = 0; target = 0; amount = 0 }

-- the last of the kept edges is not listed with its parts: its target gets what the others leave
abbrev pub entry_of : ℕ → ℕ → List Edge → Entry
entry_of voter stake kept = record {
  voter = voter;
  shares = map (share_of stake) (take (length kept - 1) kept);
  last = (slice_index_or kept (length kept - 1) no_edge).target;
}

abbrev pub kept_at : List (List Edge) → ℕ → List Edge
kept_at kept voter = slice_index_or kept voter []

-- the entries of those of the first voters that keep so many edges, by rising voter
abbrev pub entries_with : List ℕ → List (List Edge) → ℕ → ℕ → List Entry
entries_with stakes kept voters count =
    map (λ voter. entry_of voter (stake_at stakes voter) (kept_at kept voter))
    (filter (λ voter. nat_eq (length (kept_at kept voter)) count) (range_with_len 0 voters))

-- so many groups: the first has the entries with one target, the second those with two, and so on
abbrev pub grouped : ℕ → List ℕ → List (List Edge) → ℕ → List (List Entry)
grouped groups stakes kept voters =
    map (λ group. entries_with stakes kept voters (group + 1)) (range_with_len 0 groups)

-- no voter keeps more edges than an entry of a plain solution can name targets
abbrev pub fits_plain : List (List Edge) → Bool
fits_plain kept = list_all (λ edges. nat_le (length edges) plain_groups) kept

-- the solution is plain where what is kept fits into it, and wide otherwise
abbrev pub groups_for : List (List Edge) → ℕ
groups_for kept = groups_in (not (fits_plain kept))

-- the groups of the solution
abbrev pub groups_of : List ℕ → List (List Edge) → List (List Entry)
groups_of stakes kept = grouped (groups_for kept) stakes kept (length stakes)

-- ## Members that are lost

abbrev pub leads_to : ℕ → Edge → Bool
leads_to target edge = nat_eq edge.target target

-- some voter keeps an edge to the target
abbrev pub is_kept : List (List Edge) → ℕ → Bool
is_kept kept target = list_any (λ edges. list_any (leads_to target) edges) kept

abbrev pub lower : Option ℕ → ℕ → Option ℕ
lower None number = Some number
lower (Some least) number = Some (min least number)

-- the lowest number that passes, if there is one
abbrev pub lowest_where : (ℕ → Bool) → List ℕ → Option ℕ
lowest_where test numbers = fold lower None (filter test numbers)

-- the lowest of the members to which no edge is kept, if there is one
abbrev pub lost_among : List (List Edge) → List ℕ → Option ℕ
lost_among kept members = lowest_where (λ member. not (is_kept kept member)) members

-- ## The solution

abbrev pub packed_or_lost : Option ℕ → List (List Entry) → Result (List (List Entry)) ℕ
packed_or_lost None groups = Ok groups
packed_or_lost (Some member) groups = Err member

-- the solution that the weights of these voters pack to, or the lowest member that would be lost
abbrev pub packed : List ℕ → List ℕ → List Edge → Result (List (List Entry)) ℕ
packed stakes committee edges =
    packed_or_lost (lost_among (kept_of stakes edges) committee)
    (groups_of stakes (kept_of stakes edges))

-- ## What can be packed

-- There are no more voters than an election can have; each has at most one edge to a member, no more in
-- all than it can nominate, and gives no more than its stake.
pub record IsPackable (stakes committee : List ℕ) (edges : List Edge) : Type 0 where
  pub few_voters : length stakes ≤ MOST_VOTERS
  pub voters_in_range : All (λ edge. edge.voter < length stakes) edges
  pub pairs_distinct : IsDistinct same_pair edges
  pub to_members : All (λ edge. IsTrue (list_any (λ member. nat_eq member edge.target) committee)) edges
  pub above : All (λ edge. 0 < edge.amount) edges
  pub few_edges : (voter : ℕ) → length (edges_from edges voter) ≤ MOST_NOMINATIONS
  pub within : (voter : ℕ) → voter < length stakes
      → sum_by (λ edge. edge.amount) (edges_from edges voter) ≤ stake_at stakes voter
