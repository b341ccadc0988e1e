-- A turn at one voter, whose edges stand between those of the voters before and behind it.
use Rattle.std.proofs.Common.{◌≡◌, ◌≢◌, ℕ, suc, ◌<◌, ◌≤◌, Bool, true, false, not, nat_eq, List, [], ◌∷◌, ◌++◌, length, filter, get_or, All, inl, inr, refl, ap, ap₂, sym, ◌∙◌, arith}
use Rattle.std.proofs.lemmas.List.{append-nil}
use Rattle.std.proofs.lemmas.List.Elements.{All-head, All-tail, filter-append}
use Rattle.std.proofs.lemmas.Bool.{cases_Bool, ne_eqb, eq-eqb, eqb-true, true≢false}
use Rattle.npos_base.specs.declared.figures.Edge.{Edge}
use Rattle.election_snapshot.specs.Snapshot.{Snapshot, has, stake_of}
use Rattle.weight_book.specs.Weights.{edges_from, edges_to, amount_sum, support}
use Rattle.support_balance.specs.Turns.{given, edges_but, backs, LiesLow, IsTurn}
use Rattle.support_balance.specs.Rows.{at, AreAlike, IsEven}
use Rattle.support_balance.specs.Laid.{targets_of}
use Rattle.support_balance.specs.Spans.{IsIdle}
use Rattle.support_balance.proofs.Edges.{no_edge}
use Rattle.support_balance.proofs.RowLemmas.{IsRising, own_amount, rising_alike}

pub filter_all : {X : Type 0} (p : X → Bool) (xs : List X) → All (λ x. p x ≡ true) xs → filter p xs ≡ xs
filter_all p [] all = refl
filter_all {X = X} p (x ∷ xs) all = rw (All-head (λ x. p x ≡ true) x xs all) (ap (λ ys. x ∷ ys) (filter_all p xs (All-tail (λ x. p x ≡ true) x xs all)))

pub filter_none : {X : Type 0} (p : X → Bool) (xs : List X) → All (λ x. p x ≡ false) xs → filter p xs ≡ []
filter_none p [] all = refl
filter_none {X = X} p (x ∷ xs) all = rw (All-head (λ x. p x ≡ false) x xs all) (filter_none p xs (All-tail (λ x. p x ≡ false) x xs all))

-- the edges of a voter, between those of others
pub from_between : (voter : ℕ) (front row back : List Edge) → All (λ (e : Edge). e.voter ≢ voter) front → All (λ (e : Edge). e.voter ≡ voter) row
    → All (λ (e : Edge). e.voter ≢ voter) back → edges_from (front ++ (row ++ back)) voter ≡ row
from_between voter front row back f r b =
    filter-append own front (row ++ back)
    ∙ ap₂ (λ xs ys. xs ++ ys) (filter_none own front (λ k d h. ne_eqb (get_or front k d).voter voter (f k d h))) (filter-append own row back)
    ∙ ap₂ (λ xs ys. xs ++ ys) (filter_all own row (λ k d h. eq-eqb (get_or row k d).voter voter (r k d h)))
    (filter_none own back (λ k d h. ne_eqb (get_or back k d).voter voter (b k d h)))
    ∙ append-nil row
  where
    own : Edge → Bool
    own edge = nat_eq edge.voter voter

-- the edges of another voter, whatever that row is
pub other_between : (voter other : ℕ) (front row back : List Edge) → All (λ (e : Edge). e.voter ≡ voter) row → other ≢ voter
    → edges_from (front ++ (row ++ back)) other ≡ edges_from front other ++ edges_from back other
other_between voter other front row back r ne =
    filter-append own front (row ++ back)
    ∙ ap (λ ys. filter own front ++ ys)
    (filter-append own row back ∙ ap (λ ys. ys ++ filter own back) (filter_none own row (λ k d h. ne_eqb (get_or row k d).voter other (λ e. ne (sym e ∙ r k d h)))))
  where
    own : Edge → Bool
    own edge = nat_eq edge.voter other

but_between : (voter : ℕ) (front row back : List Edge) → All (λ (e : Edge). e.voter ≢ voter) front → All (λ (e : Edge). e.voter ≡ voter) row
    → All (λ (e : Edge). e.voter ≢ voter) back → edges_but (front ++ (row ++ back)) voter ≡ front ++ back
but_between voter front row back f r b =
    filter-append other front (row ++ back)
    ∙ ap₂ (λ xs ys. xs ++ ys) (filter_all other front (λ k d h. ap not (ne_eqb (get_or front k d).voter voter (f k d h)))) (filter-append other row back)
    ∙ ap (λ ys. front ++ ys) (ap₂ (λ xs ys. xs ++ ys) (filter_none other row (λ k d h. ap not (eq-eqb (get_or row k d).voter voter (r k d h))))
    (filter_all other back (λ k d h. ap not (ne_eqb (get_or back k d).voter voter (b k d h)))))
  where
    other : Edge → Bool
    other edge = not (nat_eq edge.voter voter)

-- a target that is not among those of the edges gets nothing
pub none_to : (edges : List Edge) (target : ℕ) → has (targets_of edges) target ≡ false → amount_sum (edges_to edges target) ≡ 0
none_to [] target none = refl
none_to (edge ∷ edges) target none = elim (cases_Bool (nat_eq edge.target target)) [
  | inl t ↦ absurd (true≢false (rw t at none))
  | inr f ↦ rw f (none_to edges target (rw f at none))
]

-- one that is has its place there
pub place_of : (edges : List Edge) (target : ℕ) → has (targets_of edges) target ≡ true → (k : ℕ) × (k < length edges) × ((d : Edge) → (get_or edges k d).target ≡ target)
place_of [] target some = absurd (true≢false (sym some))
place_of (edge ∷ edges) target some = elim (cases_Bool (nat_eq edge.target target)) [
  | inl t ↦ (0, omega arith, λ d. eqb-true edge.target target t)
  | inr f ↦ let rest = place_of edges target (rw f at some) in (suc rest.0, omega (arith, rest.1), λ d. rest.2 d)
]

pub targets_alike : (old new : List Edge) → AreAlike old new → targets_of new ≡ targets_of old
targets_alike [] [] alike = refl
targets_alike [] (new ∷ news) alike = absurd (omega (arith, alike.count))
targets_alike (old ∷ olds) [] alike = absurd (omega (arith, alike.count))
targets_alike (old ∷ olds) (new ∷ news) alike = ap₂ (λ n ns. n ∷ ns) (alike.targets 0 old (omega arith)) (targets_alike olds news (record {
  count = omega (arith, alike.count);
  voters = λ k d h. alike.voters (suc k) d (omega (arith, h));
  targets = λ k d h. alike.targets (suc k) d (omega (arith, h));
}))

-- the turn of a voter that has no edge, or a single one that is given the whole stake
pub idle_turn : (snapshot : Snapshot) (committee : List ℕ) (voter : ℕ) (edges : List Edge) → IsIdle (stake_of snapshot voter) (edges_from edges voter)
    → ((target : ℕ) → has (targets_of (edges_from edges voter)) target ≡ backs snapshot committee voter target) → IsTurn snapshot committee voter edges edges
idle_turn snapshot committee voter edges idle covers = record {
  others = refl;
  to_backed = λ target out. none_to (edges_from edges voter) target (covers target ∙ out);
  whole = λ target some. idle.whole (omega (arith, (place_of (edges_from edges voter) target (covers target ∙ some)).1));
  level = λ one other p q ne _.
      let (i, below, is) = place_of (edges_from edges voter) one (covers one ∙ p) in
      let (j, below', is') = place_of (edges_from edges voter) other (covers other ∙ q) in
      let same : i ≡ j = omega (arith, below, below', idle.few) in
      absurd (ne (sym (is no_edge) ∙ ap (λ n. (get_or (edges_from edges voter) n no_edge).target) same ∙ is' no_edge));
}

module _ (snapshot : Snapshot) (committee : List ℕ) (voter : ℕ) (front row now back : List Edge) (table : List ℕ) (alike : AreAlike row now) (rising : IsRising row)
    (even : 1 ≤ length row → IsEven (stake_of snapshot voter) now table)
    (f : All (λ (e : Edge). e.voter ≢ voter) front) (r : All (λ (e : Edge). e.voter ≡ voter) row) (b : All (λ (e : Edge). e.voter ≢ voter) back)
    (covers : (target : ℕ) → has (targets_of row) target ≡ backs snapshot committee voter target)
    (kept : (target : ℕ) → at table target ≡ support (front ++ (now ++ back)) target) where
  own_now : All (λ (e : Edge). e.voter ≡ voter) now
  own_now k d h = alike.voters k d (omega (arith, h, alike.count)) ∙ r k d (omega (arith, h, alike.count))

  from_now : edges_from (front ++ (now ++ back)) voter ≡ now
  from_now = from_between voter front now back f own_now b

  has_now : (target : ℕ) → has (targets_of now) target ≡ backs snapshot committee voter target
  has_now target = ap (λ ns. has ns target) (targets_alike row now alike) ∙ covers target

  given_now : (target : ℕ) → given (front ++ (now ++ back)) voter target ≡ amount_sum (edges_to now target)
  given_now target = ap (λ es. amount_sum (edges_to es target)) from_now

  some_row : (target : ℕ) → backs snapshot committee voter target ≡ true → 1 ≤ length row
  some_row target some = let place = place_of now target (has_now target ∙ some) in omega (arith, place.1, alike.count)

  level_now : (one other : ℕ) → backs snapshot committee voter one ≡ true → backs snapshot committee voter other ≡ true → one ≢ other
      → 0 < given (front ++ (now ++ back)) voter one → LiesLow (support (front ++ (now ++ back))) one other
  level_now one other p q ne some =
      let (i, below, is) = place_of now one (has_now one ∙ p) in
      let (j, below', is') = place_of now other (has_now other ∙ q) in
      let d = get_or now i no_edge in
      let amount : 0 < (get_or now i no_edge).amount = omega (
        arith,
        some,
        given_now one,
        own_amount now (rising_alike row now alike rising) i no_edge below,
        ap (λ n. amount_sum (edges_to now n)) (is no_edge),
      ) in
      let apart : i ≢ j = λ same. ne (sym (is no_edge) ∙ ap (λ n. (get_or now n no_edge).target) same ∙ is' no_edge) in
      elim ((even (some_row one p)).level i j no_edge below below' apart amount) [
        | inl low ↦ inl (omega (arith, low, kept one, kept other, ap (at table) (is no_edge), ap (at table) (is' no_edge)))
        | inr step ↦ inr (omega (arith, step.0, kept one, kept other, ap (at table) (is no_edge), ap (at table) (is' no_edge)), omega (arith, step.1, is no_edge, is' no_edge))
      ]

  pub made_turn : IsTurn snapshot committee voter (front ++ (row ++ back)) (front ++ (now ++ back))
  made_turn = record {
    others = but_between voter front now back f own_now b ∙ sym (but_between voter front row back f r b);
    to_backed = λ target none. given_now target ∙ none_to now target (has_now target ∙ none);
    whole = λ target some. ap amount_sum from_now ∙ (even (some_row target some)).whole;
    level = level_now;
  }
