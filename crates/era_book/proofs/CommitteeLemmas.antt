-- The exposures of a committee give what its edges do.
use Rattle.std.proofs.Common.{◌≡◌, ℕ, ◌+◌, ◌≤◌, Bool, true, false, cond, not, ◌&&◌, nat_eq, nat_lt, List, [], ◌∷◌, map, filter, sum_by, refl, ap, sym, ◌∙◌, arith}
use Rattle.std.specs.List.{IsDistinct, AllByRecursion}
use Rattle.std.proofs.lemmas.Bool.Decides.{nat_tests}
use Rattle.std.proofs.lemmas.List.Sums.{sum_by-cons, sum_by-append, sum_by-le-sum_by}
use Rattle.npos_base.specs.declared.account.AccountId.{AccountId}
use Rattle.npos_base.specs.declared.figures.Edge.{Edge}
use Rattle.npos_base.specs.Account.{same_account, account_at}
use Rattle.era_book.specs.declared.exposure.Backer.{Backer}
use Rattle.era_book.specs.declared.exposure.Exposure.{Exposure}
use Rattle.era_book.specs.Exposures.{amount_for, exposed_for}
use Rattle.era_book.specs.Committee.{gives_to, backer_of, is_of, backers_among, backers_of, exposure_of, SupportLaw, SpentLaw}
use Rattle.era_book.proofs.LawLemmas.{for_sum}

pub filter_sum : {X : Type 0} (f : X → ℕ) (p : X → Bool) (xs : List X) → sum_by f (filter p xs) ≡ sum_by (λ x. cond (p x) (f x) 0) xs
filter_sum f p [] = refl
filter_sum {X = X} f p (x ∷ xs) = at (p x) refl (filter_sum f p xs) where
  at : (b : Bool) → p x ≡ b → sum_by f (filter p xs) ≡ sum_by (λ y. cond (p y) (f y) 0) xs → sum_by f (cond b (x ∷ filter p xs) (filter p xs)) ≡ sum_by (λ y. cond (p y) (f y) 0) (x ∷ xs)
  at true is rest =
      let here : cond (p x) (f x) 0 ≡ f x = ap (λ b. cond b (f x) 0) is in
      omega (arith, rest, here, sum_by-cons f x (filter p xs), sum_by-cons (λ (y : X). cond (p y) (f y) 0) x xs)
  at false is rest =
      let here : cond (p x) (f x) 0 ≡ 0 = ap (λ b. cond b (f x) 0) is in
      omega (arith, rest, here, sum_by-cons (λ (y : X). cond (p y) (f y) 0) x xs)

map_sum : (w : Backer → ℕ) (f : Edge → Backer) (edges : List Edge) → sum_by w (map f edges) ≡ sum_by (λ edge. w (f edge)) edges
map_sum w f [] = refl
map_sum w f (e ∷ es) = omega (arith, map_sum w f es, sum_by-cons w (f e) (map f es), sum_by-cons (λ (x : Edge). w (f x)) e es)

joined : (f g h : Edge → ℕ) → ((edge : Edge) → f edge + g edge ≡ h edge) → (edges : List Edge) → sum_by f edges + sum_by g edges ≡ sum_by h edges
joined f g h each [] = refl
joined f g h each (e ∷ es) = omega (arith, joined f g h each es, each e, sum_by-cons f e es, sum_by-cons g e es, sum_by-cons h e es)

-- own edges and the others', by what they weigh
split : (n a t : Bool) (x : ℕ) → (a ≡ false → x ≡ 0) → cond ((n && a) && t) x 0 + cond ((n && a) && not t) x 0 ≡ cond n x 0
split true true true x none = omega arith
split true true false x none = omega arith
split true false true x none = omega (arith, none refl)
split true false false x none = omega (arith, none refl)
split false a t x none = refl

backers_sum : (targets voters : List AccountId) (w : Backer → ℕ) → ((b : Backer) → b.amount ≡ 0 → w b ≡ 0) → (edges : List Edge) (m : ℕ)
    → sum_by w (backers_of targets voters edges m) ≡ sum_by (λ edge. cond (nat_eq edge.target m) (w (backer_of voters edge)) 0) edges
backers_sum targets voters w nothing edges m =
    sum_by-append w (backers_among true targets voters edges m) (backers_among false targets voters edges m)
    ∙ omega (arith, among true, among false, joined (part true) (part false) whole each edges) where
      test : Bool → Edge → Bool
      test = λ own edge. gives_to m edge && is_of own targets voters edge

      weight : Edge → ℕ
      weight = λ edge. w (backer_of voters edge)

      part : Bool → Edge → ℕ
      part = λ own edge. cond (gives_to m edge && is_of own targets voters edge) (w (backer_of voters edge)) 0

      whole : Edge → ℕ
      whole = λ edge. cond (nat_eq edge.target m) (w (backer_of voters edge)) 0

      among : (own : Bool) → sum_by w (backers_among own targets voters edges m) ≡ sum_by (part own) edges
      among own = map_sum w (backer_of voters) (filter (test own) edges) ∙ filter_sum weight (test own) edges

      each : (edge : Edge) → part true edge + part false edge ≡ whole edge
      each edge =
          split (nat_eq edge.target m) (nat_lt 0 edge.amount) (same_account (account_at voters edge.voter) (account_at targets edge.target)) (w (backer_of voters edge))
          (λ zero_amount. nothing (backer_of voters edge) (grind (arith, nat_tests)))

pub support_law : SupportLaw
support_law targets voters edges target =
    backers_sum targets voters (λ b. b.amount) (λ b none. none) edges target
    ∙ sym (filter_sum (λ (edge : Edge). edge.amount) (λ edge. nat_eq edge.target target) edges)

-- ---- what one account gives
abbrev shares : List AccountId → AccountId → List ℕ → Edge → ℕ
shares voters who members edge = sum_by (λ m. cond (nat_eq edge.target m) (cond (same_account (account_at voters edge.voter) who) edge.amount 0) 0) members

none_among : (target m x : ℕ) (members : List ℕ) → nat_eq target m ≡ true → AllByRecursion (λ other. nat_eq m other ≡ false) members → sum_by (λ n. cond (nat_eq target n) x 0) members ≡ 0
none_among target m x [] is apart = refl
none_among target m x (n ∷ ns) is apart =
    let differs : nat_eq target n ≡ false = grind (arith, nat_tests, is, apart.0) in
    let here : cond (nat_eq target n) x 0 ≡ 0 = ap (λ b. cond b x 0) differs in
    omega (arith, here, none_among target m x ns is apart.1, sum_by-cons (λ k. cond (nat_eq target k) x 0) n ns)

once : (target x : ℕ) (members : List ℕ) → IsDistinct nat_eq members → sum_by (λ n. cond (nat_eq target n) x 0) members ≤ x
unfolding IsDistinct
once target x [] distinct = omega arith
once target x (m ∷ ms) distinct = at (nat_eq target m) refl (once target x ms distinct.1) where
  at : (b : Bool) → nat_eq target m ≡ b → sum_by (λ n. cond (nat_eq target n) x 0) ms ≤ x → sum_by (λ n. cond (nat_eq target n) x 0) (m ∷ ms) ≤ x
  at true is rest =
      let here : cond (nat_eq target m) x 0 ≡ x = ap (λ b. cond b x 0) is in
      omega (arith, here, none_among target m x ms is distinct.0, sum_by-cons (λ k. cond (nat_eq target k) x 0) m ms)
  at false is rest =
      let here : cond (nat_eq target m) x 0 ≡ 0 = ap (λ b. cond b x 0) is in
      omega (arith, here, rest, sum_by-cons (λ k. cond (nat_eq target k) x 0) m ms)

zeros : (edges : List Edge) → sum_by (λ (edge : Edge). 0) edges ≡ 0
zeros [] = refl
zeros (e ∷ es) = omega (arith, zeros es, sum_by-cons (λ (edge : Edge). 0) e es)

exposed_sum : (targets voters : List AccountId) (commissions supports : List ℕ) (edges : List Edge) (members : List ℕ) (who : AccountId)
    → exposed_for who (map (exposure_of targets commissions supports voters edges) members) ≡ sum_by (shares voters who members) edges
exposed_sum targets voters commissions supports edges [] who = sym (zeros edges)
exposed_sum targets voters commissions supports edges (m ∷ ms) who =
    omega (
      arith,
      sum_by-cons (λ (exposure : Exposure). amount_for who exposure.backers) (exposure_of targets commissions supports voters edges m)
          (map (exposure_of targets commissions supports voters edges) ms),
      for_sum who (backers_of targets voters edges m)
          ∙ backers_sum targets voters (λ l. cond (same_account l.who who) l.amount 0) (λ b none. of (same_account b.who who) b.amount none) edges m,
      exposed_sum targets voters commissions supports edges ms who,
      joined (λ edge. cond (nat_eq edge.target m) (cond (same_account (account_at voters edge.voter) who) edge.amount 0) 0) (shares voters who ms) (shares voters who (m ∷ ms))
          (λ edge. sym (sum_by-cons (λ n. cond (nat_eq edge.target n) (cond (same_account (account_at voters edge.voter) who) edge.amount 0) 0) m ms)) edges,
    ) where
      of : (b : Bool) (n : ℕ) → n ≡ 0 → cond b n 0 ≡ 0
      of true n e = e
      of false n e = refl

pub spent_law : SpentLaw
spent_law targets voters commissions supports edges members who distinct =
    omega (
      arith,
      exposed_sum targets voters commissions supports edges members who,
      sum_by-le-sum_by (shares voters who members) (λ (edge : Edge). cond (same_account (account_at voters edge.voter) who) edge.amount 0) edges
          (λ edge. once edge.target (cond (same_account (account_at voters edge.voter) who) edge.amount 0) members distinct),
      filter_sum (λ (edge : Edge). edge.amount) (λ edge. same_account (account_at voters edge.voter) who) edges,
    )
