-- Edges in order, without those that give nothing, weigh what the edges do, and a test that is passed by
-- edges of one voter and target alone finds the same of them.
use Rattle.std.proofs.Common.{◌≡◌, ℕ, ◌+◌, Bool, true, false, cond, ◌&&◌, ◌||◌, nat_eq, nat_lt, List, [], ◌∷◌, filter, sum_by, refl, ap, sym, ◌∙◌, true≢false, arith}
use Rattle.std.specs.List.{AllByRecursion, IsDistinct}
use Rattle.std.proofs.lemmas.Bool.Decides.{nat_tests}
use Rattle.std.proofs.lemmas.List.Sums.{sum_by-cons}
use Rattle.npos_base.specs.declared.figures.Edge.{Edge}
use Rattle.npos_base.specs.Edge.{same_pair}
use Rattle.weight_book.specs.Weights.{support}
use Rattle.weight_book.specs.GivenEdges.{gives, is_before, joined, in_order, kept_edges}
use Rattle.weight_book.proofs.SumLemmas.{sum_filter-cons}

-- ## Sums

module _ (f : Edge → ℕ) where
  sum_joined : (edge : Edge) (edges : List Edge) → sum_by f (joined edge edges) ≡ f edge + sum_by f edges
  sum_joined edge [] = sum_by-cons f edge []
  sum_joined edge (first ∷ more) = at (is_before first edge) (sum_joined edge more) where
    at : (b : Bool) → sum_by f (joined edge more) ≡ f edge + sum_by f more
        → sum_by f (cond b (first ∷ joined edge more) (edge ∷ first ∷ more)) ≡ f edge + sum_by f (first ∷ more)
    at true rest = omega (arith, rest, sum_by-cons f first (joined edge more), sum_by-cons f first more)
    at false rest = sum_by-cons f edge (first ∷ more)

  pub sum_in_order : (edges : List Edge) → sum_by f (in_order edges) ≡ sum_by f edges
  sum_in_order [] = refl
  sum_in_order (edge ∷ more) = omega (arith, sum_joined edge (in_order more), sum_in_order more, sum_by-cons f edge more)

  sum_given : ((edge : Edge) → edge.amount ≡ 0 → f edge ≡ 0) → (edges : List Edge) → sum_by f (filter gives edges) ≡ sum_by f edges
  sum_given nothing [] = refl
  sum_given nothing (edge ∷ more) = at (nat_lt 0 edge.amount) refl (sum_given nothing more) where
    at : (b : Bool) → nat_lt 0 edge.amount ≡ b → sum_by f (filter gives more) ≡ sum_by f more
        → sum_by f (cond b (edge ∷ filter gives more) (filter gives more)) ≡ sum_by f (edge ∷ more)
    at true is rest = omega (arith, rest, sum_by-cons f edge (filter gives more), sum_by-cons f edge more)
    at false is rest =
        let none : edge.amount ≡ 0 = grind (arith, nat_tests) in
        omega (arith, rest, nothing edge none, sum_by-cons f edge more)

  -- whatever is 0 where nothing is given sums to the same over the edges that are kept
  pub sum_kept : ((edge : Edge) → edge.amount ≡ 0 → f edge ≡ 0) → (edges : List Edge) → sum_by f (kept_edges edges) ≡ sum_by f edges
  sum_kept nothing edges = sum_in_order (filter gives edges) ∙ sum_given nothing edges

pub filtered_sum : {X : Type 0} (f : X → ℕ) (p : X → Bool) (xs : List X) → sum_by f (filter p xs) ≡ sum_by (λ x. cond (p x) (f x) 0) xs
filtered_sum f p [] = refl
filtered_sum {X = X} f p (x ∷ xs) =
    omega (arith, sum_filter-cons p f x xs, filtered_sum f p xs, sum_by-cons (λ (y : X). cond (p y) (f y) 0) x xs)

pub support_kept : (edges : List Edge) (target : ℕ) → support (kept_edges edges) target ≡ support edges target
support_kept edges target =
    filtered_sum (λ (edge : Edge). edge.amount) (λ edge. nat_eq edge.target target) (kept_edges edges)
    ∙ sum_kept (λ edge. cond (nat_eq edge.target target) edge.amount 0) nothing edges
    ∙ sym (filtered_sum (λ (edge : Edge). edge.amount) (λ edge. nat_eq edge.target target) edges) where
      nothing : (edge : Edge) → edge.amount ≡ 0 → cond (nat_eq edge.target target) edge.amount 0 ≡ 0
      nothing edge none = at (nat_eq edge.target target) where
        at : (b : Bool) → cond b edge.amount 0 ≡ 0
        at true = none
        at false = refl

-- ## Tests that edges of one voter and target pass

-- of the edges that pass none stands before another
abbrev pub IsLevel : (Edge → Bool) → Type 0
IsLevel test = (a b : Edge) → test a ≡ true → test b ≡ true → is_before a b ≡ false

module _ (test : Edge → Bool) (level : IsLevel test) where
  joined_level : (edge : Edge) (edges : List Edge) → filter test (joined edge edges) ≡ filter test (edge ∷ edges)
  joined_level edge [] = refl
  joined_level edge (first ∷ more) = at (is_before first edge) (test first) (test edge) refl refl refl (joined_level edge more) where
    at : (b p q : Bool) → is_before first edge ≡ b → test first ≡ p → test edge ≡ q → filter test (joined edge more) ≡ filter test (edge ∷ more)
        → filter test (cond b (first ∷ joined edge more) (edge ∷ first ∷ more)) ≡ filter test (edge ∷ first ∷ more)
    at true true true before p q rest = absurd (true≢false (sym before ∙ level first edge p q))
    at true true false before p q rest = rw (p, q) (ap (λ (es : List Edge). first ∷ es) (rest ∙ rw q refl))
    at true false q before p q_is rest = rw p rest
    at false p q before p_is q_is rest = refl

  in_order_level : (edges : List Edge) → filter test (in_order edges) ≡ filter test edges
  in_order_level [] = refl
  in_order_level (edge ∷ more) =
      joined_level edge (in_order more) ∙ ap (λ (es : List Edge). cond (test edge) (edge ∷ es) es) (in_order_level more)

  given_level : ((edge : Edge) → test edge ≡ true → gives edge ≡ true) → (edges : List Edge) → filter test (filter gives edges) ≡ filter test edges
  given_level giving [] = refl
  given_level giving (edge ∷ more) = at (gives edge) (test edge) refl refl (given_level giving more) where
    at : (b p : Bool) → gives edge ≡ b → test edge ≡ p → filter test (filter gives more) ≡ filter test more
        → filter test (cond b (edge ∷ filter gives more) (filter gives more)) ≡ cond p (edge ∷ filter test more) (filter test more)
    at true true g p rest = rw p (ap (λ (es : List Edge). edge ∷ es) rest)
    at true false g p rest = rw p rest
    at false true g p rest = absurd (true≢false (sym (giving edge p) ∙ g))
    at false false g p rest = rest

  -- the edges that pass stand among those that are kept as they stood
  pub kept_level : ((edge : Edge) → test edge ≡ true → gives edge ≡ true) → (edges : List Edge) → filter test (kept_edges edges) ≡ filter test edges
  kept_level giving edges = in_order_level (filter gives edges) ∙ given_level giving edges

-- ## Edges in order

neither : (b : Bool) → (b && false) ≡ false
neither true = refl
neither false = refl

-- of two edges at most one stands before the other
pub before_apart : (a b : Edge) → is_before a b ≡ true → is_before b a ≡ false
before_apart a b is = at (nat_lt a.voter b.voter) (nat_eq a.voter b.voter) (nat_lt a.target b.target) refl refl refl is where
  at : (p q r : Bool) → nat_lt a.voter b.voter ≡ p → nat_eq a.voter b.voter ≡ q → nat_lt a.target b.target ≡ r → (p || (q && r)) ≡ true
      → (nat_lt b.voter a.voter || (nat_eq b.voter a.voter && nat_lt b.target a.target)) ≡ false
  at true q r earlier same lower e =
      let later : nat_lt b.voter a.voter ≡ false = grind (arith, nat_tests, earlier) in
      let other : nat_eq b.voter a.voter ≡ false = grind (arith, nat_tests, earlier) in
      rw (later, other) refl
  at false true true earlier same lower e =
      let later : nat_lt b.voter a.voter ≡ false = grind (arith, nat_tests, same) in
      let higher : nat_lt b.target a.target ≡ false = grind (arith, nat_tests, lower) in
      rw (later, higher) (neither (nat_eq b.voter a.voter))
  at false true false earlier same lower e = absurd (true≢false (sym e))
  at false false r earlier same lower e = absurd (true≢false (sym e))

-- of two edges that lead from one voter to different targets, or from two, one stands before the other
before_or : (a b : Edge) → is_before a b ≡ false → same_pair b a ≡ false → is_before b a ≡ true
before_or a b behind apart =
    at (nat_lt a.voter b.voter) (nat_eq a.voter b.voter) (nat_lt a.target b.target) (nat_eq b.voter a.voter) (nat_eq b.target a.target) refl refl refl refl refl behind apart where
      at : (p q r u v : Bool) → nat_lt a.voter b.voter ≡ p → nat_eq a.voter b.voter ≡ q → nat_lt a.target b.target ≡ r
          → nat_eq b.voter a.voter ≡ u → nat_eq b.target a.target ≡ v → (p || (q && r)) ≡ false → (u && v) ≡ false
          → (nat_lt b.voter a.voter || (nat_eq b.voter a.voter && nat_lt b.target a.target)) ≡ true
      at true q r u v e1 e2 e3 e4 e5 behind apart = absurd (true≢false behind)
      at false true true u v e1 e2 e3 e4 e5 behind apart = absurd (true≢false behind)
      at false q r true true e1 e2 e3 e4 e5 behind apart = absurd (true≢false apart)
      at false true false true false e1 e2 e3 e4 e5 behind apart =
          let later : nat_lt b.voter a.voter ≡ false = grind (arith, nat_tests, e4) in
          let lower : nat_lt b.target a.target ≡ true = grind (arith, nat_tests, e3, e5) in
          rw (later, e4, lower) refl
      at false true false false v e1 e2 e3 e4 e5 behind apart = absurd (grind (arith, nat_tests, e2, e4))
      at false false r true false e1 e2 e3 e4 e5 behind apart = absurd (grind (arith, nat_tests, e2, e4))
      at false false r false v e1 e2 e3 e4 e5 behind apart =
          let earlier : nat_lt b.voter a.voter ≡ true = grind (arith, nat_tests, e1, e2) in
          rw earlier refl

before_then : (a b c : Edge) → is_before a b ≡ true → is_before b c ≡ true → is_before a c ≡ true
before_then a b c first second =
    at (nat_lt a.voter b.voter) (nat_eq a.voter b.voter) (nat_lt a.target b.target) (nat_lt b.voter c.voter) (nat_eq b.voter c.voter) (nat_lt b.target c.target)
    refl refl refl refl refl refl first second where
      at : (p q r u v w : Bool) → nat_lt a.voter b.voter ≡ p → nat_eq a.voter b.voter ≡ q → nat_lt a.target b.target ≡ r
          → nat_lt b.voter c.voter ≡ u → nat_eq b.voter c.voter ≡ v → nat_lt b.target c.target ≡ w → (p || (q && r)) ≡ true → (u || (v && w)) ≡ true
          → (nat_lt a.voter c.voter || (nat_eq a.voter c.voter && nat_lt a.target c.target)) ≡ true
      at true q r true v w e1 e2 e3 e4 e5 e6 first second =
          let lt : nat_lt a.voter c.voter ≡ true = grind (arith, nat_tests, e1, e4) in rw lt refl
      at true q r false true w e1 e2 e3 e4 e5 e6 first second =
          let lt : nat_lt a.voter c.voter ≡ true = grind (arith, nat_tests, e1, e5) in rw lt refl
      at true q r false false w e1 e2 e3 e4 e5 e6 first second = absurd (true≢false (sym second))
      at false true true true v w e1 e2 e3 e4 e5 e6 first second =
          let lt : nat_lt a.voter c.voter ≡ true = grind (arith, nat_tests, e2, e4) in rw lt refl
      at false true true false true true e1 e2 e3 e4 e5 e6 first second =
          let level : nat_lt a.voter c.voter ≡ false = grind (arith, nat_tests, e2, e5) in
          let same : nat_eq a.voter c.voter ≡ true = grind (arith, nat_tests, e2, e5) in
          let lower : nat_lt a.target c.target ≡ true = grind (arith, nat_tests, e3, e6) in
          rw (level, same, lower) refl
      at false true true false true false e1 e2 e3 e4 e5 e6 first second = absurd (true≢false (sym second))
      at false true true false false w e1 e2 e3 e4 e5 e6 first second = absurd (true≢false (sym second))
      at false true false u v w e1 e2 e3 e4 e5 e6 first second = absurd (true≢false (sym first))
      at false false r u v w e1 e2 e3 e4 e5 e6 first second = absurd (true≢false (sym first))

abbrev pub IsAhead : Edge → Edge → Type 0
IsAhead edge later = is_before edge later ≡ true

-- each edge stands before all behind it
abbrev pub Rise : List Edge → Type 0
Rise [] = Unit {0}
Rise (edge ∷ more) = AllByRecursion (IsAhead edge) more × Rise more

-- edges that rise are in order already
pub in_order_risen : (edges : List Edge) → Rise edges → in_order edges ≡ edges
in_order_risen [] up = refl
in_order_risen (edge ∷ more) up = ap (joined edge) (in_order_risen more up.1) ∙ at more up.0 where
  at : (more : List Edge) → AllByRecursion (IsAhead edge) more → joined edge more ≡ edge ∷ more
  at [] ahead = refl
  at (first ∷ more) ahead = rw (before_apart edge first ahead.0) refl

pub given_whole : (edges : List Edge) → AllByRecursion (λ edge. gives edge ≡ true) edges → filter gives edges ≡ edges
given_whole [] all = refl
given_whole (edge ∷ more) all = rw all.0 (ap (λ (es : List Edge). edge ∷ es) (given_whole more all.1))

module _ (P : Edge → Type 0) where
  all_joined : (edge : Edge) (edges : List Edge) → P edge → AllByRecursion P edges → AllByRecursion P (joined edge edges)
  all_joined edge [] here all = (here, tt)
  all_joined edge (first ∷ more) here all = at (is_before first edge) (all_joined edge more here all.1) where
    at : (b : Bool) → AllByRecursion P (joined edge more) → AllByRecursion P (cond b (first ∷ joined edge more) (edge ∷ first ∷ more))
    at true rest = (all.0, rest)
    at false rest = (here, all)

  pub all_in_order : (edges : List Edge) → AllByRecursion P edges → AllByRecursion P (in_order edges)
  all_in_order [] all = tt
  all_in_order (edge ∷ more) all = all_joined edge (in_order more) all.0 (all_in_order more all.1)

  all_given : (edges : List Edge) → AllByRecursion P edges → AllByRecursion P (filter gives edges)
  all_given [] all = tt
  all_given (edge ∷ more) all = at (gives edge) (all_given more all.1) where
    at : (b : Bool) → AllByRecursion P (filter gives more) → AllByRecursion P (cond b (edge ∷ filter gives more) (filter gives more))
    at true rest = (all.0, rest)
    at false rest = rest

behind_too : (edge first : Edge) (more : List Edge) → is_before edge first ≡ true → AllByRecursion (IsAhead first) more → AllByRecursion (IsAhead edge) more
behind_too edge first [] ahead all = tt
behind_too edge first (next ∷ more) ahead all = (before_then edge first next ahead all.0, behind_too edge first more ahead all.1)

rise_joined : (edge : Edge) (edges : List Edge) → AllByRecursion (λ other. same_pair edge other ≡ false) edges → Rise edges → Rise (joined edge edges)
rise_joined edge [] apart up = (tt, tt)
rise_joined edge (first ∷ more) apart up = at (is_before first edge) refl (rise_joined edge more apart.1 up.1) where
  at : (b : Bool) → is_before first edge ≡ b → Rise (joined edge more) → Rise (cond b (first ∷ joined edge more) (edge ∷ first ∷ more))
  at true is rest = (all_joined (IsAhead first) edge more is up.0, rest)
  at false is rest =
      let ahead : is_before edge first ≡ true = before_or first edge is apart.0 in
      ((ahead, behind_too edge first more ahead up.0), up)

rise_in_order : (edges : List Edge) → IsDistinct same_pair edges → Rise (in_order edges)
unfolding IsDistinct
rise_in_order [] distinct = tt
rise_in_order (edge ∷ more) distinct =
    rise_joined edge (in_order more) (all_in_order (λ other. same_pair edge other ≡ false) more distinct.0) (rise_in_order more distinct.1)

given_distinct : (edges : List Edge) → IsDistinct same_pair edges → IsDistinct same_pair (filter gives edges)
unfolding IsDistinct
given_distinct [] distinct = tt
given_distinct (edge ∷ more) distinct = at (gives edge) (given_distinct more distinct.1) where
  at : (b : Bool) → IsDistinct same_pair (filter gives more) → IsDistinct same_pair (cond b (edge ∷ filter gives more) (filter gives more))
  at true rest = (all_given (λ other. same_pair edge other ≡ false) more distinct.0, rest)
  at false rest = rest

-- where no voter gives twice to one target, the edges that are kept rise
pub kept_rise : (edges : List Edge) → IsDistinct same_pair edges → Rise (kept_edges edges)
kept_rise edges distinct = rise_in_order (filter gives edges) (given_distinct edges distinct)

gives_given : (edges : List Edge) → AllByRecursion (λ edge. gives edge ≡ true) (filter gives edges)
gives_given [] = tt
gives_given (edge ∷ more) = at (gives edge) refl (gives_given more) where
  at : (b : Bool) → gives edge ≡ b → AllByRecursion (λ e. gives e ≡ true) (filter gives more)
      → AllByRecursion (λ e. gives e ≡ true) (cond b (edge ∷ filter gives more) (filter gives more))
  at true is rest = (is, rest)
  at false is rest = rest

-- and each gives something
pub kept_give : (edges : List Edge) → AllByRecursion (λ edge. gives edge ≡ true) (kept_edges edges)
kept_give edges = all_in_order (λ edge. gives edge ≡ true) (filter gives edges) (gives_given edges)
