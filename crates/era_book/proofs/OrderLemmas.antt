-- The edges in the order of the voters: they are the same edges, and a sort by voter gives every
-- target the same backers.
use Rattle.std.proofs.Common.{◌≡◌, ℕ, zero, suc, ◌+◌, ◌<◌, ◌≤◌, Bool, true, false, cond, ◌&&◌, nat_eq, nat_lt, List, []}
use Rattle.std.proofs.Common.{◌∷◌, ◌++◌, length, map, filter, sum_by, get_or, All, refl, ap, ap₂, sym, subst, ◌∙◌, arith}
use Rattle.std.specs.List.{IsDistinct, AllByRecursion}
use Rattle.std.specs.List.Sorted.{IsPermutation, IsNonDecreasingBy}
use Rattle.std.proofs.lemmas.Bool.Decides.{nat_tests}
use Rattle.std.proofs.lemmas.List.Sums.{sum_by-cons, sum_by-append, sum_by-le-sum_by}
use Rattle.std.proofs.lemmas.List.Sorted.{sum_by-IsPermutation, IsNonDecreasingBy-drop}
use Rattle.std.proofs.lemmas.List.Elements.{All-nil, All-cons, All-head, All-tail, All-filter, All-append, filter-append, recursion_from_All}
use Rattle.std.proofs.lemmas.Bool.{and_parts}
use Rattle.npos_base.specs.declared.account.AccountId.{AccountId}
use Rattle.npos_base.specs.declared.figures.Edge.{Edge}
use Rattle.npos_base.specs.Account.{same_account, account_at}
use Rattle.npos_base.specs.Edge.{same_pair, support}
use Rattle.era_book.specs.Committee.{gives_to, is_of, backer_of, backers_of, exposure_of, spent_by, edges_by_voter}
use Rattle.era_book.proofs.CommitteeLemmas.{filter_sum}

-- ---- the edges by voter weigh what the edges do
abbrev below : ℕ → Edge → Bool
below n edge = nat_lt edge.voter n

abbrev from : ℕ → Edge → Bool
from n edge = nat_eq edge.voter n

next_below : (f : Edge → ℕ) (n : ℕ) (edge : Edge) → cond (below (suc n) edge) (f edge) 0 ≡ cond (below n edge) (f edge) 0 + cond (from n edge) (f edge) 0
next_below f n edge = at (nat_lt edge.voter (suc n)) (nat_lt edge.voter n) (nat_eq edge.voter n) refl refl refl where
  at : (a b c : Bool) → nat_lt edge.voter (suc n) ≡ a → nat_lt edge.voter n ≡ b → nat_eq edge.voter n ≡ c → cond a (f edge) 0 ≡ cond b (f edge) 0 + cond c (f edge) 0
  at true true true p q r = absurd (grind (arith, nat_tests))
  at true true false p q r = omega arith
  at true false true p q r = omega arith
  at true false false p q r = absurd (grind (arith, nat_tests))
  at false true c p q r = absurd (grind (arith, nat_tests))
  at false false true p q r = absurd (grind (arith, nat_tests))
  at false false false p q r = omega arith

sum_next : (f : Edge → ℕ) (n : ℕ) (edges : List Edge)
    → sum_by (λ edge. cond (below (suc n) edge) (f edge) 0) edges ≡ sum_by (λ edge. cond (below n edge) (f edge) 0) edges + sum_by (λ edge. cond (from n edge) (f edge) 0) edges
sum_next f n [] = refl
sum_next f n (e ∷ es) =
    omega (
      arith,
      sum_next f n es,
      next_below f n e,
      sum_by-cons (λ edge. cond (below (suc n) edge) (f edge) 0) e es,
      sum_by-cons (λ edge. cond (below n edge) (f edge) 0) e es,
      sum_by-cons (λ edge. cond (from n edge) (f edge) 0) e es,
    )

none_below : (f : Edge → ℕ) (edges : List Edge) → sum_by (λ edge. cond (below zero edge) (f edge) 0) edges ≡ 0
none_below f [] = refl
none_below f (e ∷ es) =
    let no : nat_lt e.voter zero ≡ false = grind (arith, nat_tests) in
    let here : cond (nat_lt e.voter zero) (f e) 0 ≡ 0 = ap (λ b. cond b (f e) 0) no in
    omega (arith, none_below f es, here, sum_by-cons (λ edge. cond (below zero edge) (f edge) 0) e es)

sum_below : (f : Edge → ℕ) (n : ℕ) (edges : List Edge) → sum_by f (edges_by_voter n edges) ≡ sum_by (λ edge. cond (below n edge) (f edge) 0) edges
sum_below f zero edges = sym (none_below f edges)
sum_below f (suc n) edges =
    omega (
      arith,
      sum_by-append f (edges_by_voter n edges) (filter (from n) edges),
      sum_below f n edges,
      filter_sum f (from n) edges,
      sum_next f n edges,
    )

all_below : (f : Edge → ℕ) (n : ℕ) (edges : List Edge) → All (λ edge. edge.voter < n) edges → sum_by (λ edge. cond (below n edge) (f edge) 0) edges ≡ sum_by f edges
all_below f n [] within = refl
all_below f n (e ∷ es) within =
    let inside : e.voter < n = All-head (λ (edge : Edge). edge.voter < n) e es within in
    let yes : nat_lt e.voter n ≡ true = grind (arith, nat_tests) in
    let here : cond (nat_lt e.voter n) (f e) 0 ≡ f e = ap (λ b. cond b (f e) 0) yes in
    omega (
      arith,
      all_below f n es (All-tail (λ (edge : Edge). edge.voter < n) e es within),
      here,
      sum_by-cons (λ edge. cond (below n edge) (f edge) 0) e es,
      sum_by-cons f e es,
    )

-- whatever is summed over the edges is the same in the order of the voters
pub sum_by_voter : (f : Edge → ℕ) (n : ℕ) (edges : List Edge) → All (λ edge. edge.voter < n) edges → sum_by f (edges_by_voter n edges) ≡ sum_by f edges
sum_by_voter f n edges within = sum_below f n edges ∙ all_below f n edges within

pub all_by_voter : (P : Edge → Type 0) (n : ℕ) (edges : List Edge) → All P edges → All P (edges_by_voter n edges)
all_by_voter P zero edges all = All-nil P
all_by_voter P (suc n) edges all = All-append P (edges_by_voter n edges) (filter (from n) edges) (all_by_voter P n edges all) (All-filter (from n) P edges all)

-- ---- no pair stands twice where each counts at most once
abbrev one : Bool → ℕ
one b = cond b 1 0

abbrev pub pair_count : Edge → List Edge → ℕ
pair_count pair edges = sum_by (λ edge. one (same_pair pair edge)) edges

same_itself : (e : Edge) → same_pair e e ≡ true
same_itself e = let p : nat_eq e.voter e.voter ≡ true = grind (arith, nat_tests) in let q : nat_eq e.target e.target ≡ true = grind (arith, nat_tests) in rw (p, q) refl

same_ends : (a b : Edge) → same_pair a b ≡ true → (a.voter ≡ b.voter) × (a.target ≡ b.target)
same_ends a b e =
    let p : nat_eq a.voter b.voter ≡ true = (and_parts (nat_eq a.voter b.voter) (nat_eq a.target b.target) e).0 in
    let q : nat_eq a.target b.target ≡ true = (and_parts (nat_eq a.voter b.voter) (nat_eq a.target b.target) e).1 in
    let voters : a.voter ≡ b.voter = grind (arith, nat_tests, p) in
    let targets : a.target ≡ b.target = grind (arith, nat_tests, q) in
    (voters, targets)

none_counted : (pair : Edge) (edges : List Edge) → AllByRecursion (λ other. same_pair pair other ≡ false) edges → pair_count pair edges ≡ 0
none_counted pair [] apart = refl
none_counted pair (e ∷ es) apart =
    let here : one (same_pair pair e) ≡ 0 = ap one apart.0 in
    omega (arith, here, none_counted pair es apart.1, sum_by-cons (λ edge. one (same_pair pair edge)) e es)

counted_like : (a b : Edge) → same_pair a b ≡ true → (edges : List Edge) → pair_count a edges ≡ pair_count b edges
counted_like a b e edges =
    let same = same_ends a b e in
    ap₂ (λ voter target. sum_by (λ edge. one (nat_eq voter edge.voter && nat_eq target edge.target)) edges) same.0 same.1

pub counted_once : (pair : Edge) (edges : List Edge) → IsDistinct same_pair edges → pair_count pair edges ≤ 1
unfolding IsDistinct
counted_once pair [] distinct = omega arith
counted_once pair (e ∷ es) distinct = at (same_pair pair e) refl (counted_once pair es distinct.1) where
  at : (b : Bool) → same_pair pair e ≡ b → pair_count pair es ≤ 1 → pair_count pair (e ∷ es) ≤ 1
  at true is rest =
      let here : one (same_pair pair e) ≡ 1 = ap one is in
      omega (arith, here, counted_like pair e is es, none_counted e es distinct.0, sum_by-cons (λ edge. one (same_pair pair edge)) e es)
  at false is rest =
      let here : one (same_pair pair e) ≡ 0 = ap one is in
      omega (arith, here, rest, sum_by-cons (λ edge. one (same_pair pair edge)) e es)

none_left : (pair : Edge) (edges : List Edge) → pair_count pair edges ≡ 0 → AllByRecursion (λ other. same_pair pair other ≡ false) edges
none_left pair [] none = tt
none_left pair (e ∷ es) none = at (same_pair pair e) refl (λ left. none_left pair es left) where
  step : pair_count pair (e ∷ es) ≡ one (same_pair pair e) + pair_count pair es
  step = sum_by-cons (λ edge. one (same_pair pair edge)) e es

  at : (b : Bool) → same_pair pair e ≡ b → (pair_count pair es ≡ 0 → AllByRecursion (λ other. same_pair pair other ≡ false) es)
      → (same_pair pair e ≡ false) × AllByRecursion (λ other. same_pair pair other ≡ false) es
  at true is rest =
      let here : one (same_pair pair e) ≡ 1 = ap one is in
      absurd (omega (arith, here, step, none))
  at false is rest =
      let here : one (same_pair pair e) ≡ 0 = ap one is in
      (is, rest (omega (arith, here, step, none)))

pub distinct_counted : (edges : List Edge) → ((pair : Edge) → pair_count pair edges ≤ 1) → IsDistinct same_pair edges
unfolding IsDistinct
distinct_counted [] once = tt
distinct_counted (e ∷ es) once =
    let here : one (same_pair e e) ≡ 1 = ap one (same_itself e) in (
      none_left e es (omega (arith, here, once e, sum_by-cons (λ edge. one (same_pair e edge)) e es)),
      distinct_counted es (λ pair. omega (arith, once pair, sum_by-cons (λ edge. one (same_pair pair edge)) e es)),
    )

pub pairs_by_voter : (n : ℕ) (edges : List Edge) → All (λ edge. edge.voter < n) edges → IsDistinct same_pair edges → IsDistinct same_pair (edges_by_voter n edges)
pairs_by_voter n edges within distinct =
    distinct_counted (edges_by_voter n edges)
    (λ pair. omega (arith, sum_by_voter (λ edge. one (same_pair pair edge)) n edges within, counted_once pair edges distinct))

pub given_by_voter : (target n : ℕ) (edges : List Edge) → All (λ edge. edge.voter < n) edges → support (edges_by_voter n edges) target ≡ support edges target
given_by_voter target n edges within =
    filter_sum (λ (edge : Edge). edge.amount) (λ edge. nat_eq edge.target target) (edges_by_voter n edges)
    ∙ sum_by_voter (λ edge. cond (nat_eq edge.target target) edge.amount 0) n edges within
    ∙ sym (filter_sum (λ (edge : Edge). edge.amount) (λ edge. nat_eq edge.target target) edges)

pub spent_by_voter : (voters : List AccountId) (who : AccountId) (n : ℕ) (edges : List Edge) → All (λ edge. edge.voter < n) edges
    → spent_by voters who (edges_by_voter n edges) ≡ spent_by voters who edges
spent_by_voter voters who n edges within =
    filter_sum (λ (edge : Edge). edge.amount) (λ edge. same_account (account_at voters edge.voter) who) (edges_by_voter n edges)
    ∙ sum_by_voter (λ edge. cond (same_account (account_at voters edge.voter) who) edge.amount 0) n edges within
    ∙ sym (filter_sum (λ (edge : Edge). edge.amount) (λ edge. same_account (account_at voters edge.voter) who) edges)

-- ---- edges that rise by voter stand in the order of the voters
pub Rises : List Edge → Type 0
Rises [] = Unit {0}
Rises (e ∷ es) = AllByRecursion (λ (later : Edge). e.voter ≤ later.voter) es × Rises es

pub rises : (edges : List Edge) → IsNonDecreasingBy (λ (edge : Edge). edge.voter) edges → Rises edges
unfolding Rises
rises [] up = tt
rises (e ∷ es) up = (
  recursion_from_All (λ (later : Edge). e.voter ≤ later.voter) es (λ k d h. up 0 (suc k) d (omega arith) (omega arith)),
  rises es (IsNonDecreasingBy-drop (λ (edge : Edge). edge.voter) 1 (e ∷ es) up),
)

none_before : (n : ℕ) (edges : List Edge) → AllByRecursion (λ (edge : Edge). n ≤ edge.voter) edges → filter (below n) edges ≡ []
none_before n [] late = refl
none_before n (e ∷ es) late =
    let late_here : n ≤ e.voter = late.0 in
    let no : nat_lt e.voter n ≡ false = grind (arith, nat_tests) in
    ap (λ b. cond b (e ∷ filter (below n) es) (filter (below n) es)) no ∙ none_before n es late.1

later_still : (n m : ℕ) (edges : List Edge) → n ≤ m → AllByRecursion (λ (edge : Edge). m ≤ edge.voter) edges → AllByRecursion (λ (edge : Edge). n ≤ edge.voter) edges
later_still n m [] h late = tt
later_still n m (e ∷ es) h late = let late_here : m ≤ e.voter = late.0 in (omega arith, later_still n m es h late.1)

next_front : (n : ℕ) (edges : List Edge) → Rises edges → filter (below (suc n)) edges ≡ filter (below n) edges ++ filter (from n) edges
unfolding Rises
next_front n [] up = refl
next_front n (e ∷ es) up = at (nat_lt e.voter (suc n)) (nat_lt e.voter n) (nat_eq e.voter n) refl refl refl (next_front n es up.1) where
  at : (a b c : Bool) → nat_lt e.voter (suc n) ≡ a → nat_lt e.voter n ≡ b → nat_eq e.voter n ≡ c
      → filter (below (suc n)) es ≡ filter (below n) es ++ filter (from n) es
      → cond a (e ∷ filter (below (suc n)) es) (filter (below (suc n)) es)
      ≡ cond b (e ∷ filter (below n) es) (filter (below n) es) ++ cond c (e ∷ filter (from n) es) (filter (from n) es)
  at true true true p q r rest = absurd (grind (arith, nat_tests))
  at true true false p q r rest = ap (λ xs. e ∷ xs) rest
  at true false true p q r rest =
      let level : n ≤ e.voter = grind (arith, nat_tests) in
      let none : filter (below n) es ≡ [] = none_before n es (later_still n e.voter es level up.0) in
      ap (λ xs. e ∷ xs) rest ∙ ap (λ xs. e ∷ (xs ++ filter (from n) es)) none ∙ sym (ap (λ xs. xs ++ e ∷ filter (from n) es) none)
  at true false false p q r rest = absurd (grind (arith, nat_tests))
  at false true c p q r rest = absurd (grind (arith, nat_tests))
  at false false true p q r rest = absurd (grind (arith, nat_tests))
  at false false false p q r rest = rest

front_by_voter : (n : ℕ) (edges : List Edge) → Rises edges → edges_by_voter n edges ≡ filter (below n) edges
front_by_voter zero edges up = sym (none edges) where
  none : (xs : List Edge) → filter (below zero) xs ≡ []
  none [] = refl
  none (x ∷ xs) = let no : nat_lt x.voter zero ≡ false = grind (arith, nat_tests) in ap (λ b. cond b (x ∷ filter (below zero) xs) (filter (below zero) xs)) no ∙ none xs
front_by_voter (suc n) edges up = ap (λ xs. xs ++ filter (from n) edges) (front_by_voter n edges up) ∙ sym (next_front n edges up)

all_front : (n : ℕ) (edges : List Edge) → All (λ edge. edge.voter < n) edges → filter (below n) edges ≡ edges
all_front n [] within = refl
all_front n (e ∷ es) within =
    let inside : e.voter < n = All-head (λ (edge : Edge). edge.voter < n) e es within in
    let yes : nat_lt e.voter n ≡ true = grind (arith, nat_tests) in
    ap (λ b. cond b (e ∷ filter (below n) es) (filter (below n) es)) yes
    ∙ ap (λ xs. e ∷ xs) (all_front n es (All-tail (λ (edge : Edge). edge.voter < n) e es within))

pub risen_by_voter : (n : ℕ) (edges : List Edge) → Rises edges → All (λ edge. edge.voter < n) edges → edges_by_voter n edges ≡ edges
risen_by_voter n edges up within = front_by_voter n edges up ∙ all_front n edges within

-- ---- what is kept of the edges by voter
filters_swap : (p q : Edge → Bool) (edges : List Edge) → filter p (filter q edges) ≡ filter q (filter p edges)
filters_swap p q [] = refl
filters_swap p q (e ∷ es) = at (p e) (q e) refl refl (filters_swap p q es) where
  at : (a b : Bool) → p e ≡ a → q e ≡ b → filter p (filter q es) ≡ filter q (filter p es)
      → filter p (cond b (e ∷ filter q es) (filter q es)) ≡ filter q (cond a (e ∷ filter p es) (filter p es))
  at true true is also rest =
      ap (λ b. cond b (e ∷ filter p (filter q es)) (filter p (filter q es))) is
      ∙ ap (λ xs. e ∷ xs) rest
      ∙ sym (ap (λ b. cond b (e ∷ filter q (filter p es)) (filter q (filter p es))) also)
  at true false is also rest = rest ∙ sym (ap (λ b. cond b (e ∷ filter q (filter p es)) (filter q (filter p es))) also)
  at false true is also rest = ap (λ b. cond b (e ∷ filter p (filter q es)) (filter p (filter q es))) is ∙ rest
  at false false is also rest = rest

pub kept_by_voter : (p : Edge → Bool) (n : ℕ) (edges : List Edge) → filter p (edges_by_voter n edges) ≡ edges_by_voter n (filter p edges)
kept_by_voter p zero edges = refl
kept_by_voter p (suc n) edges =
    filter-append p (edges_by_voter n edges) (filter (from n) edges)
    ∙ ap₂ (λ xs ys. xs ++ ys) (kept_by_voter p n edges) (filters_swap p (from n) edges)

pub same_chunks : (n : ℕ) (xs ys : List Edge) → ((voter : ℕ) → filter (from voter) xs ≡ filter (from voter) ys) → edges_by_voter n xs ≡ edges_by_voter n ys
same_chunks zero xs ys each = refl
same_chunks (suc n) xs ys each = ap₂ (λ us vs. us ++ vs) (same_chunks n xs ys each) (each n)

-- ---- a voter's edge to a target is one and the same in and_parts lists
abbrev Leads : ℕ → ℕ → Edge → Type 0
Leads voter target edge = (edge.voter ≡ voter) × (edge.target ≡ target)

same_edge : (voter target : ℕ) (a b : Edge) → Leads voter target a → Leads voter target b → a.amount ≡ b.amount → a ≡ b
same_edge voter target a b here there amounts =
    ap₂ (λ (ends : ℕ × ℕ) (amount : ℕ). record { voter = ends.0; target = ends.1; amount = amount })
    (ap₂ (λ (x y : ℕ). (x, y)) (here.0 ∙ sym there.0) (here.1 ∙ sym there.1)) amounts

same_few : (voter target : ℕ) (xs ys : List Edge) → length xs ≤ 1 → length ys ≡ length xs
    → sum_by (λ (edge : Edge). edge.amount) ys ≡ sum_by (λ (edge : Edge). edge.amount) xs → All (Leads voter target) xs → All (Leads voter target) ys → xs ≡ ys
same_few voter target [] [] few long sums here there = refl
same_few voter target [] (y ∷ ys) few long sums here there = absurd (omega arith)
same_few voter target (x ∷ xs) [] few long sums here there = absurd (omega arith)
same_few voter target (x ∷ []) (y ∷ []) few long sums here there =
    ap (λ edge. edge ∷ [])
    (same_edge voter target x y (All-head (Leads voter target) x [] here) (All-head (Leads voter target) y [] there)
    (omega (arith, sums, sum_by-cons (λ (edge : Edge). edge.amount) x [], sum_by-cons (λ (edge : Edge). edge.amount) y [])))
same_few voter target (x ∷ []) (y ∷ z ∷ ys) few long sums here there = absurd (omega arith)
same_few voter target (x ∷ w ∷ xs) (y ∷ ys) few long sums here there = absurd (omega arith)

length_sum : (xs : List Edge) → length xs ≡ sum_by (λ (edge : Edge). 1) xs
length_sum [] = refl
length_sum (x ∷ xs) = omega (arith, length_sum xs, sum_by-cons (λ (edge : Edge). 1) x xs)

pub filters_join : (p q : Edge → Bool) (edges : List Edge) → filter p (filter q edges) ≡ filter (λ edge. q edge && p edge) edges
filters_join p q [] = refl
filters_join p q (e ∷ es) = at (q e) refl (filters_join p q es) where
  at : (b : Bool) → q e ≡ b → filter p (filter q es) ≡ filter (λ edge. q edge && p edge) es
      → filter p (cond b (e ∷ filter q es) (filter q es)) ≡ cond (b && p e) (e ∷ filter (λ edge. q edge && p edge) es) (filter (λ edge. q edge && p edge) es)
  at true is rest = ap (λ xs. cond (p e) (e ∷ xs) xs) rest
  at false is rest = rest

module _ (targets voters : List AccountId) (own : Bool) (target : ℕ) where
  abbrev test : Edge → Bool
  test edge = gives_to target edge && is_of own targets voters edge

  test_leads : (voter : ℕ) (edge : Edge) → (test edge && from voter edge) ≡ true → Leads voter target edge
  test_leads voter edge e =
      let parts = and_parts (test edge) (from voter edge) e in
      let p : nat_eq edge.voter voter ≡ true = parts.1 in
      let q : nat_eq edge.target target ≡ true = (and_parts (nat_eq edge.target target) (nat_lt 0 edge.amount) (and_parts (gives_to target edge) (is_of own targets voters edge) parts.0).0).0 in
      let voter_is : edge.voter ≡ voter = grind (arith, nat_tests, p) in
      let target_is : edge.target ≡ target = grind (arith, nat_tests, q) in
      (voter_is, target_is)

  -- an edge that is kept counts as one of its pair
  kept_counts : (voter : ℕ) (edge : Edge) → one (test edge && from voter edge) ≤ one (same_pair (record { voter = voter; target = target; amount = 0 }) edge)
  kept_counts voter edge = at (test edge && from voter edge) refl where
    at : (b : Bool) → (test edge && from voter edge) ≡ b → one b ≤ one (same_pair (record { voter = voter; target = target; amount = 0 }) edge)
    at true is =
        let leads = test_leads voter edge is in
        let same : same_pair (record { voter = voter; target = target; amount = 0 }) edge ≡ true =
        subst (λ (v : ℕ). (nat_eq v edge.voter && nat_eq target edge.target) ≡ true) leads.0
        (subst (λ (t : ℕ). (nat_eq edge.voter edge.voter && nat_eq t edge.target) ≡ true) leads.1
        (same_itself edge)) in
        let here : one (same_pair (record { voter = voter; target = target; amount = 0 }) edge) ≡ 1 = ap one same in
        omega (arith, here)
    at false is = omega arith

  few_kept : (voter : ℕ) (edges : List Edge) → IsDistinct same_pair edges → length (filter (from voter) (filter test edges)) ≤ 1
  few_kept voter edges distinct =
      let joined = filters_join (from voter) test edges in
      omega (
        arith,
        ap length joined,
        length_sum (filter (λ edge. test edge && from voter edge) edges),
        filter_sum (λ (edge : Edge). 1) (λ edge. test edge && from voter edge) edges,
        sum_by-le-sum_by (λ edge. one (test edge && from voter edge)) (λ edge. one (same_pair (record { voter = voter; target = target; amount = 0 }) edge)) edges (kept_counts voter),
        counted_once (record { voter = voter; target = target; amount = 0 }) edges distinct,
      )

  leads_all : (voter : ℕ) (edges : List Edge) → All (Leads voter target) (filter (λ edge. test edge && from voter edge) edges)
  leads_all voter [] = All-nil (Leads voter target)
  leads_all voter (e ∷ es) = at (test e && from voter e) refl (leads_all voter es) where
    at : (b : Bool) → (test e && from voter e) ≡ b → All (Leads voter target) (filter (λ edge. test edge && from voter edge) es)
        → All (Leads voter target) (cond b (e ∷ filter (λ edge. test edge && from voter edge) es) (filter (λ edge. test edge && from voter edge) es))
    at true is rest = All-cons (Leads voter target) e (filter (λ edge. test edge && from voter edge) es) (test_leads voter e is) rest
    at false is rest = rest

  kept_sum : (f : Edge → ℕ) (voter : ℕ) (old new : List Edge) → IsPermutation old new
      → sum_by f (filter (λ edge. test edge && from voter edge) new) ≡ sum_by f (filter (λ edge. test edge && from voter edge) old)
  kept_sum f voter old new moved =
      filter_sum f (λ edge. test edge && from voter edge) new
      ∙ sum_by-IsPermutation (λ edge. cond (test edge && from voter edge) (f edge) 0) old new moved
      ∙ sym (filter_sum f (λ edge. test edge && from voter edge) old)

  same_kept : (voter : ℕ) (old new : List Edge) → IsPermutation old new → IsDistinct same_pair old
      → filter (from voter) (filter test old) ≡ filter (from voter) (filter test new)
  same_kept voter old new moved distinct =
      filters_join (from voter) test old
      ∙ same_few voter target (filter (λ edge. test edge && from voter edge) old) (filter (λ edge. test edge && from voter edge) new)
      (subst (λ (xs : List Edge). length xs ≤ 1) (filters_join (from voter) test old) (few_kept voter old distinct))
      (length_sum (filter (λ edge. test edge && from voter edge) new) ∙ kept_sum (λ (edge : Edge). 1) voter old new moved ∙ sym (length_sum (filter (λ edge. test edge && from voter edge) old)))
      (kept_sum (λ (edge : Edge). edge.amount) voter old new moved)
      (leads_all voter old)
      (leads_all voter new)
      ∙ sym (filters_join (from voter) test new)

  -- edges that are sorted by voter give the target the same backers as the edges by voter
  kept_sorted : (n : ℕ) (old new : List Edge) → IsPermutation old new → Rises new → All (λ edge. edge.voter < n) new → IsDistinct same_pair old
      → filter test new ≡ filter test (edges_by_voter n old)
  kept_sorted n old new moved up within distinct =
      ap (λ xs. filter test xs) (sym (risen_by_voter n new up within))
      ∙ kept_by_voter test n new
      ∙ sym (same_chunks n (filter test old) (filter test new) (λ voter. same_kept voter old new moved distinct))
      ∙ sym (kept_by_voter test n old)

backers_sorted : (targets voters : List AccountId) (n : ℕ) (old new : List Edge) (target : ℕ) → IsPermutation old new → Rises new → All (λ edge. edge.voter < n) new → IsDistinct same_pair old
    → backers_of targets voters new target ≡ backers_of targets voters (edges_by_voter n old) target
backers_sorted targets voters n old new target moved up within distinct =
    ap₂ (λ xs ys. map (backer_of voters) xs ++ map (backer_of voters) ys)
    (kept_sorted targets voters true target n old new moved up within distinct)
    (kept_sorted targets voters false target n old new moved up within distinct)

pub exposures_sorted : (targets : List AccountId) (commissions supports : List ℕ) (voters : List AccountId) (n : ℕ) (old new : List Edge) (members : List ℕ)
    → IsPermutation old new → Rises new → All (λ edge. edge.voter < n) new → IsDistinct same_pair old
    → map (exposure_of targets commissions supports voters new) members ≡ map (exposure_of targets commissions supports voters (edges_by_voter n old)) members
exposures_sorted targets commissions supports voters n old new [] moved up within distinct = refl
exposures_sorted targets commissions supports voters n old new (m ∷ ms) moved up within distinct =
    ap₂ (λ backers rest. record { validator = account_at targets m; commission = get_or commissions m 0; support = get_or supports m 0; backers = backers } ∷ rest)
    (backers_sorted targets voters n old new m moved up within distinct)
    (exposures_sorted targets commissions supports voters n old new ms moved up within distinct)
