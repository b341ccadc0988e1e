-- A committee has no more edges than its snapshot has votes.
use Rattle.std.proofs.Common.{◌≡◌, ℕ, zero, suc, ◌+◌, ◌*◌, ◌<◌, ◌≤◌, Bool, true, false, ◌||◌, ◌&&◌, nat_eq, All, List, [], ◌∷◌, ◌++◌, length, map, get_or, refl, ap, sym, ◌∙◌, true≢false, arith}
use Rattle.std.specs.Bool.{IsTrue}
use Rattle.std.specs.Cmp.{IsEquivalence}
use Rattle.std.specs.List.{IsDistinct, list_any}
use Rattle.std.proofs.lemmas.Bool.{or_right, and_parts}
use Rattle.std.proofs.lemmas.Bool.Decides.{nat_tests}
use Rattle.std.proofs.lemmas.List.{length-map, length-append}
use Rattle.std.proofs.lemmas.List.Elements.{All-head, All-tail}
use Rattle.std.proofs.lemmas.Map.Made.{length-le_from_is_member}
use Rattle.npos_base.specs.declared.figures.Edge.{Edge}
use Rattle.npos_base.specs.Edge.{same_pair}
use Rattle.npos_base.proofs.NumberTests.{number_tie}
use Rattle.election_snapshot.specs.Snapshot.{Snapshot, Voter, IsVoterOf, has, nobody, nominates}

-- an edge by its ends alone
abbrev pair_of : ℕ → ℕ → Edge
pair_of voter target = record { voter = voter; target = target; amount = 0 }

-- one for each vote of each voter, where the voters are numbered from this one on
abbrev vote_pairs : ℕ → List Voter → List Edge
vote_pairs number [] = []
vote_pairs number (voter ∷ more) = map (pair_of number) voter.votes ++ vote_pairs (suc number) more

few_pairs : (number targets : ℕ) (voters : List Voter) → All (IsVoterOf targets) voters
    → length (vote_pairs number voters) ≤ 24 * length voters
few_pairs number targets [] all = omega arith
few_pairs number targets (voter ∷ more) all =
    let first : IsVoterOf targets voter = All-head (IsVoterOf targets) voter more all in
    omega (
      arith,
      few_pairs (suc number) targets more (All-tail (IsVoterOf targets) voter more all),
      length-append (map (pair_of number) voter.votes) (vote_pairs (suc number) more),
      length-map voter.votes (pair_of number),
      first.few_votes,
    )

-- ## Pairs that are the same

equal_sides : (n m : ℕ) → nat_eq n m ≡ nat_eq m n
equal_sides n m = grind (arith, nat_tests)

itself : (n : ℕ) → nat_eq n n ≡ true
itself n = grind (arith, nat_tests)

pair_same : IsEquivalence same_pair
pair_same = record {
  refl = λ x. ap (λ b. b && nat_eq x.target x.target) (itself x.voter) ∙ itself x.target;
  symm = λ x y. ap (λ b. b && nat_eq x.target y.target) (equal_sides x.voter y.voter)
      ∙ ap (λ b. nat_eq y.voter x.voter && b) (equal_sides x.target y.target);
  congr = λ x y z is.
      let parts = and_parts (nat_eq x.voter y.voter) (nat_eq x.target y.target) is in
      ap (λ n. nat_eq n z.voter && nat_eq x.target z.target) (number_tie x.voter y.voter parts.0)
      ∙ ap (λ n. nat_eq y.voter z.voter && nat_eq n z.target) (number_tie x.target y.target parts.1);
}

-- ## Each edge is one of them

in_front : (xs ys : List Edge) (edge : Edge) → list_any (same_pair edge) xs ≡ true
    → list_any (same_pair edge) (xs ++ ys) ≡ true
in_front [] ys edge is = absurd (true≢false (sym is))
in_front (x ∷ xs) ys edge is = at (same_pair edge x) is (in_front xs ys edge) where
  at : (b : Bool) → (b || list_any (same_pair edge) xs) ≡ true
      → (list_any (same_pair edge) xs ≡ true → list_any (same_pair edge) (xs ++ ys) ≡ true)
      → (b || list_any (same_pair edge) (xs ++ ys)) ≡ true
  at true here rest = refl
  at false here rest = rest here

behind : (xs ys : List Edge) (edge : Edge) → list_any (same_pair edge) ys ≡ true
    → list_any (same_pair edge) (xs ++ ys) ≡ true
behind [] ys edge is = is
behind (x ∷ xs) ys edge is = or_right (same_pair edge x) (list_any (same_pair edge) (xs ++ ys)) (behind xs ys edge is)

voted : (number : ℕ) (votes : List ℕ) (edge : Edge) → edge.voter ≡ number → has votes edge.target ≡ true
    → list_any (same_pair edge) (map (pair_of number) votes) ≡ true
voted number [] edge same is = absurd (true≢false (sym is))
voted number (vote ∷ votes) edge same is = at (nat_eq vote edge.target) refl is (voted number votes edge same) where
  at : (b : Bool) → nat_eq vote edge.target ≡ b → (b || has votes edge.target) ≡ true
      → (has votes edge.target ≡ true → list_any (same_pair edge) (map (pair_of number) votes) ≡ true)
      → (same_pair edge (pair_of number vote) || list_any (same_pair edge) (map (pair_of number) votes)) ≡ true
  at true e here rest =
      let tied : same_pair edge (pair_of number vote) ≡ true =
      ap (λ b. b && nat_eq edge.target vote) (ap (λ n. nat_eq n number) same ∙ itself number)
      ∙ (equal_sides edge.target vote ∙ e) in
      ap (λ b. b || list_any (same_pair edge) (map (pair_of number) votes)) tied
  at false e here rest =
      or_right (same_pair edge (pair_of number vote)) (list_any (same_pair edge) (map (pair_of number) votes)) (rest here)

-- the edge of a voter, by its place from a number on
stands : (number place : ℕ) (voters : List Voter) (edge : Edge) → place < length voters → edge.voter ≡ number + place
    → has (get_or voters place nobody).votes edge.target ≡ true
    → list_any (same_pair edge) (vote_pairs number voters) ≡ true
stands number place [] edge inside same is = absurd (omega (arith, inside))
stands number zero (voter ∷ more) edge inside same is =
    in_front (map (pair_of number) voter.votes) (vote_pairs (suc number) more) edge
    (voted number voter.votes edge (omega (arith, same)) is)
stands number (suc place) (voter ∷ more) edge inside same is =
    behind (map (pair_of number) voter.votes) (vote_pairs (suc number) more) edge
    (stands (suc number) place more edge (omega (arith, inside)) (omega (arith, same)) is)

-- ## How many edges there are

same_stands : (pairs : List Edge) (edge other : Edge) → same_pair edge other ≡ true
    → list_any (same_pair other) pairs ≡ true
    → list_any (same_pair edge) pairs ≡ true
same_stands [] edge other same is = is
same_stands (pair ∷ pairs) edge other same is =
    at (same_pair other pair) refl is (same_stands pairs edge other same) where
      at : (b : Bool) → same_pair other pair ≡ b → (b || list_any (same_pair other) pairs) ≡ true
          → (list_any (same_pair other) pairs ≡ true → list_any (same_pair edge) pairs ≡ true)
          → (same_pair edge pair || list_any (same_pair edge) pairs) ≡ true
      at true e here rest = ap (λ b. b || list_any (same_pair edge) pairs) (pair_same.congr edge other pair same ∙ e)
      at false e here rest = or_right (same_pair edge pair) (list_any (same_pair edge) pairs) (rest here)

all_stand : (edges pairs : List Edge) → All (λ edge. list_any (same_pair edge) pairs ≡ true) edges → (edge : Edge)
    → list_any (same_pair edge) edges ≡ true → list_any (same_pair edge) pairs ≡ true
all_stand [] pairs all edge is = absurd (true≢false (sym is))
all_stand (first ∷ edges) pairs all edge is =
    at (same_pair edge first) refl is
    (all_stand edges pairs (All-tail (λ e. list_any (same_pair e) pairs ≡ true) first edges all) edge) where
      at : (b : Bool) → same_pair edge first ≡ b → (b || list_any (same_pair edge) edges) ≡ true
          → (list_any (same_pair edge) edges ≡ true → list_any (same_pair edge) pairs ≡ true)
          → list_any (same_pair edge) pairs ≡ true
      at true e here rest =
          same_stands pairs edge first e (All-head (λ e. list_any (same_pair e) pairs ≡ true) first edges all)
      at false e here rest = rest here

-- no voter gives twice to one target, and each edge is a vote
pub few_edges : (snapshot : Snapshot) (edges : List Edge) → All (IsVoterOf (length snapshot.targets)) snapshot.voters
    → IsDistinct same_pair edges → All (λ edge. edge.voter < length snapshot.voters) edges
    → All (λ edge. IsTrue (nominates snapshot edge.voter edge.target)) edges
    → length edges ≤ 24 * length snapshot.voters
few_edges snapshot edges voters distinct inside nominated =
    let pairs : List Edge = vote_pairs 0 snapshot.voters in
    omega (
      arith,
      length-le_from_is_member pair_same edges pairs distinct
          (all_stand edges pairs (λ k d few. stands 0 (get_or edges k d).voter snapshot.voters (get_or edges k d) (inside k d few) (omega arith) (nominated k d few))),
      few_pairs 0 (length snapshot.targets) snapshot.voters voters,
    )
