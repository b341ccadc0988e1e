-- What a group of voters holds is given to members that it nominates, or left. So no more is due to it than what all
-- voters have left, and where as much is due to it, it keeps to itself.
use Rattle.std.proofs.Common.{◌≡◌, ℕ, ◌+◌, ◌*◌, ◌<◌, ◌≤◌, Bool, true, false, cond, nat_eq, List, [], ◌∷◌, length, filter, sum_by, inl, inr, refl, ap, ◌∙◌, sym, subst, arith}
use Rattle.std.specs.List.{IsDistinct, AllByRecursion}
use Rattle.std.proofs.lemmas.List.Sums.{sum_by-cons, length-filter}
use Rattle.std.proofs.lemmas.Bool.{cases_Bool, cases_lt, cond-true, cond-false, or_cases, or_left, or_right, eqb-true, true≢false}
use Rattle.npos_base.specs.declared.figures.Edge.{Edge}
use Rattle.election_snapshot.specs.Snapshot.{Snapshot, has, nominates, stake_of, total_stake}
use Rattle.weight_book.specs.Weights.{spent, support}
use Rattle.weight_book.specs.Proportional.{group_stake, nominated_by}
use Rattle.weight_book.proofs.SumLemmas.{at_least, at_most, sum_covered, sum_of_sums}
use Rattle.seat_race.proofs.InLemmas.{In, in_has, from_has, in_filter, from_filter, all_in, sum_agree, term_le}
use Rattle.seat_race.proofs.OrderLemmas.{distinct_cons}
use Rattle.committee_answer.specs.Denials.{represented}
use Rattle.committee_answer.specs.Offers.{at}

-- each voter has its stake times the seats, given or left, and each member the total, taken or spare
pub record IsBalanced (snapshot : Snapshot) (committee voters : List ℕ) (edges : List Edge) (left spare : List ℕ) : Type 0 where
  pub committee_distinct : IsDistinct nat_eq committee
  pub voters_distinct : IsDistinct nat_eq voters
  pub of_voters : (edge : Edge) → In edges edge → has voters edge.voter ≡ true
  pub to_members : (edge : Edge) → In edges edge → has committee edge.target ≡ true
  pub nominated : (edge : Edge) → In edges edge → nominates snapshot edge.voter edge.target ≡ true
  pub offered : (voter : ℕ) → has voters voter ≡ true → at left voter + spent edges voter ≡ snapshot.seats * stake_of snapshot voter
  pub taken : (member : ℕ) → has committee member ≡ true → at spare member + support edges member ≡ total_stake snapshot

pub sum_in : {X : Type 0} (f g : X → ℕ) (xs : List X) → ((x : X) → In xs x → f x ≤ g x) → sum_by f xs ≤ sum_by g xs
sum_in f g [] below = omega arith
sum_in f g (x ∷ xs) below = omega (arith, below x (inl refl), sum_in f g xs (λ y i. below y (inr i)), sum_by-cons f x xs, sum_by-cons g x xs)

-- where a sum of larger terms is no larger, each term is the same
pub same_terms : {X : Type 0} (f g : X → ℕ) (xs : List X) → ((x : X) → In xs x → f x ≤ g x) → sum_by g xs ≤ sum_by f xs
    → (x : X) → In xs x → f x ≡ g x
same_terms f g [] below h x i = absurd i
same_terms f g (y ∷ xs) below h x (inl e) =
    let first = below y (inl refl) in
    let rest = sum_in f g xs (λ z j. below z (inr j)) in
    subst (λ z. f z ≡ g z) e (omega (arith, first, rest, h, sum_by-cons f y xs, sum_by-cons g y xs))
same_terms f g (y ∷ xs) below h x (inr i) =
    same_terms f g xs (λ z j. below z (inr j)) (omega (arith, below y (inl refl), h, sum_by-cons f y xs, sum_by-cons g y xs)) x i

-- the same number times the length
pub sum_of_same : (n : ℕ) (f : ℕ → ℕ) (xs : List ℕ) → ((x : ℕ) → In xs x → f x ≡ n) → sum_by f xs ≡ length xs * n
sum_of_same n f [] h = omega arith
sum_of_same n f (x ∷ xs) h = omega (arith, sum_by-cons f x xs, h x (inl refl), sum_of_same n f xs (λ y i. h y (inr i)))

pub sum_scaled : (n : ℕ) (f : ℕ → ℕ) (xs : List ℕ) → sum_by (λ x. n * f x) xs ≡ n * sum_by f xs
sum_scaled n f [] = omega arith
sum_scaled n f (x ∷ xs) = omega (arith, sum_by-cons (λ y. n * f y) x xs, ap (λ m. n * m) (sum_by-cons f x xs), sum_scaled n f xs)

-- one number more
distinct_more : (n : ℕ) (numbers : List ℕ) → IsDistinct nat_eq numbers → has numbers n ≡ false → IsDistinct nat_eq (n ∷ numbers)
distinct_more n numbers h out = distinct_cons (λ m. m) n numbers (λ m i e. true≢false (sym (in_has numbers m i) ∙ ap (has numbers) (sym e) ∙ out)) h

-- numbers that stand among others
pub covered : (f : ℕ → ℕ) (numbers others : List ℕ) → IsDistinct nat_eq numbers → ((n : ℕ) → In numbers n → has others n ≡ true)
    → sum_by f numbers ≤ sum_by f others
covered f numbers others distinct h = sum_covered f numbers others distinct (all_in (λ n. has others n ≡ true) numbers h)

-- some voter of the group nominates it
pub nominated_in : (snapshot : Snapshot) (group : List ℕ) (voter target : ℕ) → has group voter ≡ true → nominates snapshot voter target ≡ true
    → nominated_by snapshot group target ≡ true
nominated_in snapshot [] voter target h t = absurd (true≢false (sym h))
nominated_in snapshot (other ∷ group) voter target h t = elim (or_cases (nat_eq other voter) (has group voter) h) [
  | inl e ↦ or_left (nominates snapshot other target) (nominated_by snapshot group target) (ap (λ v. nominates snapshot v target) (eqb-true other voter e) ∙ t)
  | inr e ↦ or_right (nominates snapshot other target) (nominated_by snapshot group target) (nominated_in snapshot group voter target e t)
]

pub some_nominator : (snapshot : Snapshot) (group : List ℕ) (target : ℕ) → nominated_by snapshot group target ≡ true
    → (voter : ℕ) × (has group voter ≡ true) × (nominates snapshot voter target ≡ true)
some_nominator snapshot [] target h = absurd (true≢false (sym h))
some_nominator snapshot (voter ∷ group) target h = elim (or_cases (nominates snapshot voter target) (nominated_by snapshot group target) h) [
  | inl t ↦ (voter, in_has (voter ∷ group) voter (inl refl), t)
  | inr r ↦ let rest = some_nominator snapshot group target r in (rest.0, or_right (nat_eq voter rest.0) (has group rest.0) rest.1, rest.2)
]

pub distinct_filter : (p : ℕ → Bool) (numbers : List ℕ) → IsDistinct nat_eq numbers → IsDistinct nat_eq (filter p numbers)
unfolding IsDistinct
distinct_filter p [] h = tt
distinct_filter p (n ∷ numbers) h = elim (cases_Bool (p n)) [
  | inl t ↦ rw t (kept numbers h.0, distinct_filter p numbers h.1)
  | inr f ↦ rw f (distinct_filter p numbers h.1)
] where
  kept : (others : List ℕ) → AllByRecursion (λ m. nat_eq n m ≡ false) others → AllByRecursion (λ m. nat_eq n m ≡ false) (filter p others)
  kept [] all = tt
  kept (m ∷ others) all = elim (cases_Bool (p m)) [
    | inl t ↦ rw t (all.0, kept others all.1)
    | inr f ↦ rw f (kept others all.1)
  ]

-- a group among the voters
module _ (snapshot : Snapshot) (committee voters : List ℕ) (edges : List Edge) (left spare : List ℕ)
    (balanced : IsBalanced snapshot committee voters edges left spare)
    (group : List ℕ) (distinct : IsDistinct nat_eq group) (among : (voter : ℕ) → In group voter → has voters voter ≡ true) where
  abbrev members : List ℕ
  members = filter (nominated_by snapshot group) committee

  member_in : (member : ℕ) → In members member → (has committee member ≡ true) × (nominated_by snapshot group member ≡ true)
  member_in member i = let from = from_filter (nominated_by snapshot group) committee member i in (in_has committee member from.0, from.1)

  member_has : (member : ℕ) → has committee member ≡ true → nominated_by snapshot group member ≡ true → In members member
  member_has member c n = in_filter (nominated_by snapshot group) committee member (from_has committee member c) n

  members_distinct : IsDistinct nat_eq members
  members_distinct = distinct_filter (nominated_by snapshot group) committee balanced.committee_distinct

  -- what goes from the group, and what goes to its members
  abbrev from_group : Edge → ℕ
  from_group edge = cond (has group edge.voter) edge.amount 0

  abbrev to_group : Edge → ℕ
  to_group edge = cond (has members edge.target) edge.amount 0

  within_group : (edge : Edge) → In edges edge → from_group edge ≤ to_group edge
  within_group edge i = elim (cases_Bool (has group edge.voter)) [
    | inl t ↦
        let there = in_has members edge.target (member_has edge.target (balanced.to_members edge i)
        (nominated_in snapshot group edge.voter edge.target t (balanced.nominated edge i))) in
        rw (t, there) (omega arith)
    | inr f ↦ rw f (omega arith)
  ]

  given_is : sum_by (spent edges) group ≡ sum_by from_group edges
  given_is = omega (arith, at_least (λ (e : Edge). e.voter) (λ (e : Edge). e.amount) edges group, at_most (λ (e : Edge). e.voter) (λ (e : Edge). e.amount) edges group distinct)

  taken_is : sum_by (support edges) members ≡ sum_by to_group edges
  taken_is = omega (arith, at_least (λ (e : Edge). e.target) (λ (e : Edge). e.amount) edges members, at_most (λ (e : Edge). e.target) (λ (e : Edge). e.amount) edges members members_distinct)

  offer_is : snapshot.seats * group_stake snapshot group ≡ sum_by (at left) group + sum_by (spent edges) group
  offer_is = sym (sum_scaled snapshot.seats (stake_of snapshot) group)
      ∙ sum_agree (λ voter. snapshot.seats * stake_of snapshot voter) (λ voter. at left voter + spent edges voter) group
      (λ voter i. sym (balanced.offered voter (among voter i)))
      ∙ sum_of_sums (at left) (spent edges) group

  price_is : represented snapshot committee group * total_stake snapshot ≡ sum_by (at spare) members + sum_by (support edges) members
  price_is = ap (λ n. n * total_stake snapshot) (sym (length-filter (nominated_by snapshot group) committee))
      ∙ sym (sum_of_same (total_stake snapshot) (λ member. at spare member + support edges member) members (λ member i. balanced.taken member (member_in member i).0))
      ∙ sum_of_sums (at spare) (support edges) members

  left_within : sum_by (at left) group ≤ sum_by (at left) voters
  left_within = covered (at left) group voters distinct among

  -- what its stake stands for is within the price of its members and what all have left
  pub no_more_due : snapshot.seats * group_stake snapshot group ≤ represented snapshot committee group * total_stake snapshot + sum_by (at left) voters
  no_more_due = omega (arith, offer_is, price_is, given_is, taken_is, left_within, sum_in from_group to_group edges within_group)

  -- where as much is due to it
  module _ (due : represented snapshot committee group * total_stake snapshot + sum_by (at left) voters ≤ snapshot.seats * group_stake snapshot group) where
    none_spare : sum_by (at spare) members ≤ 0
    none_spare = omega (arith, due, offer_is, price_is, given_is, taken_is, left_within, sum_in from_group to_group edges within_group)

    as_much : sum_by to_group edges ≤ sum_by from_group edges
    as_much = omega (arith, due, offer_is, price_is, given_is, taken_is, left_within, sum_in from_group to_group edges within_group)

    pub members_full : (member : ℕ) → has committee member ≡ true → nominated_by snapshot group member ≡ true → at spare member ≡ 0
    members_full member c n = omega (arith, none_spare, term_le (at spare) members member (member_has member c n))

    pub own_edges : (edge : Edge) → In edges edge → 0 < edge.amount → nominated_by snapshot group edge.target ≡ true → has group edge.voter ≡ true
    own_edges edge i some n = elim (cases_Bool (has group edge.voter)) [
      | inl t ↦ t
      | inr f ↦
          let same = same_terms from_group to_group edges within_group as_much edge i in
          let there = in_has members edge.target (member_has edge.target (balanced.to_members edge i) n) in
          absurd (omega (arith, some, same, cond-true (has members edge.target) edge.amount 0 there, cond-false (has group edge.voter) edge.amount 0 f))
    ]

    pub others_gave : (voter : ℕ) → has voters voter ≡ true → has group voter ≡ false → at left voter ≡ 0
    others_gave voter v out = omega (
      arith,
      due,
      offer_is,
      price_is,
      given_is,
      taken_is,
      sum_in from_group to_group edges within_group,
      sum_by-cons (at left) voter group,
      covered (at left) (voter ∷ group) voters (distinct_more voter group distinct out) (λ n i. both n i),
    ) where
      both : (n : ℕ) → In (voter ∷ group) n → has voters n ≡ true
      both n (inl e) = subst (λ m. has voters m ≡ true) e v
      both n (inr i) = among n i

  -- where its members are full of what it gives, and it has all that is left, as much is due to it
  pub as_much_due : ((member : ℕ) → has committee member ≡ true → nominated_by snapshot group member ≡ true → at spare member ≡ 0)
      → ((edge : Edge) → In edges edge → 0 < edge.amount → nominated_by snapshot group edge.target ≡ true → has group edge.voter ≡ true)
      → sum_by (at left) voters ≤ sum_by (at left) group
      → represented snapshot committee group * total_stake snapshot + sum_by (at left) voters ≤ snapshot.seats * group_stake snapshot group
  as_much_due full own all_left = omega (arith, offer_is, price_is, given_is, taken_is, all_left, no_spare, sum_in to_group from_group edges back) where
    no_spare : sum_by (at spare) members ≡ 0
    no_spare = sum_of_same 0 (at spare) members (λ member i. full member (member_in member i).0 (member_in member i).1) ∙ omega arith

    back : (edge : Edge) → In edges edge → to_group edge ≤ from_group edge
    back edge i = elim (cases_Bool (has members edge.target)) [
      | inl t ↦ elim (cases_lt 0 edge.amount) [
        | inl some ↦ rw (t, own edge i some (member_in edge.target (from_has members edge.target t)).1) (omega arith)
        | inr none ↦ rw t (omega (arith, none))
      ]
      | inr f ↦ rw f (omega arith)
    ]
