-- A member's slots join the edges.
use Rattle.std.proofs.Common.{◌≡◌, ◌≢◌, ℕ, zero, suc, ◌+◌, ◌-◌, ◌^◌, ◌<◌, ◌≤◌, true, false, ◌&&◌, ◌||◌, nat_eq, List, []}
use Rattle.std.proofs.Common.{◌∷◌, ◌++◌, length, take, drop, get_or, All, inl, inr, refl, ap, ap₂, sym, subst, ◌∙◌, arith}
use Rattle.std.specs.List.{AllPairs}
use Rattle.std.proofs.lemmas.List.{get_or-drop, get_or-take, length-drop, length-take-le, take-append-drop, take_all, get_or_default}
use Rattle.std.proofs.Math.Seq.{take-append-add}
use Rattle.std.proofs.lemmas.List.Sums.{sum_by-append, sum_by-cons}
use Rattle.std.proofs.lemmas.List.Elements.{All-append, All-cons, All-nil}
use Rattle.std.proofs.lemmas.List.Folds.{list_any-append}
use Rattle.std.proofs.lemmas.Bool.{cases_Bool, cases_lt, cases_eq, eq-eqb, ne_eqb, or_left, or_right, and_parts, true≢false}
use Rattle.npos_base.specs.declared.figures.Edge.{Edge}
use Rattle.election_snapshot.specs.Snapshot.{Snapshot, has, nominates}
use Rattle.weight_book.specs.Weights.{same_pair}
use Rattle.support_balance.specs.Turns.{given, backs}
use Rattle.support_balance.specs.Rounds.{IsBefore}
use Rattle.support_balance.specs.Laid.{Covers}
use Rattle.support_balance.specs.Slots.{has_pair, slot_of, IsOldOrNew, IsJoined}
use Rattle.support_balance.proofs.GivenLemmas.{pair_weight, given_weight, none_weight}
use Rattle.support_balance.proofs.LayLemmas.{pair_place, place_pair, same_pair_true}
use Rattle.support_balance.proofs.SlotLemmas.{pairs_append}
use Rattle.support_balance.proofs.CoverLemmas.{from_pair}

-- ---- the edges up to a place, with the slots of the voters so far
pub record IsJoining (snapshot : Snapshot) (target : ℕ) (edges : List Edge) (voter done : ℕ) (joined : List Edge) : Type 0 where
  pub rising : AllPairs IsBefore joined
  pub ahead : (i k : ℕ) (d : Edge) → i < length joined → done ≤ k → k < length edges → IsBefore (get_or joined i d) (get_or edges k d)
  pub all : (k : ℕ) (d : Edge) → k < done → k < length edges → has_pair joined (get_or edges k d) ≡ true
  pub new : (other : ℕ) → other < voter → nominates snapshot other target ≡ true → has_pair joined (slot_of other target) ≡ true
  pub only : All (IsOldOrNew snapshot target edges) joined
  pub same : (other place : ℕ) → given joined other place ≡ given (take done edges) other place
  pub small : All (λ (e : Edge). e.amount < 2 ^ 64) joined
  pub inside : done ≤ length edges

more_pairs : (xs ys : List Edge) (edge : Edge) → has_pair xs edge ≡ true → has_pair (xs ++ ys) edge ≡ true
more_pairs xs ys edge h = list_any-append (λ other. same_pair other edge) xs ys ∙ or_left (has_pair xs edge) (has_pair ys edge) h

last_pairs : (xs ys : List Edge) (edge : Edge) → has_pair ys edge ≡ true → has_pair (xs ++ ys) edge ≡ true
last_pairs xs ys edge h = list_any-append (λ other. same_pair other edge) xs ys ∙ or_right (has_pair xs edge) (has_pair ys edge) h

given_append : (xs ys : List Edge) (voter target : ℕ) → given (xs ++ ys) voter target ≡ given xs voter target + given ys voter target
given_append xs ys voter target = omega (
  arith,
  given_weight (xs ++ ys) voter target,
  given_weight xs voter target,
  given_weight ys voter target,
  sum_by-append (pair_weight voter target) xs ys,
)

module _ (snapshot : Snapshot) (target : ℕ) (edges : List Edge) (up : AllPairs IsBefore edges) (fits : All (λ (e : Edge). e.amount < 2 ^ 64) edges) (voter done : ℕ)
    (joined : List Edge) (so : IsJoining snapshot target edges voter done joined) where
  -- the edges up to a later place are copied
  module _ (place : ℕ) (ahead : done ≤ place) (within : place ≤ length edges) where
    abbrev row : List Edge
    row = take (place - done) (drop done edges)

    long : length row ≡ place - done
    long = length-take-le (place - done) (drop done edges) (omega (arith, within, length-drop done edges))

    row_at : (k : ℕ) (d : Edge) → k < length row → get_or row k d ≡ get_or edges (done + k) d
    row_at k d h = get_or-take (place - done) (drop done edges) k d (omega (arith, h, long)) ∙ get_or-drop done edges k d

    row_in : (k : ℕ) → k < length row → done + k < length edges
    row_in k h = omega (arith, h, long, within, ahead)

    copied_all : (k : ℕ) (d : Edge) → k < place → k < length edges → has_pair (joined ++ row) (get_or edges k d) ≡ true
    copied_all k d h l = elim (cases_lt k done) [
      | inl low ↦ more_pairs joined row (get_or edges k d) (so.all k d low l)
      | inr high ↦
          let at : done + (k - done) ≡ k = omega (arith, high) in
          let h' : k - done < length row = omega (arith, high, h, long) in
          let is : get_or row (k - done) d ≡ get_or edges k d = row_at (k - done) d h' ∙ ap (λ n. get_or edges n d) at in
          last_pairs joined row (get_or edges k d) (place_pair row (get_or edges k d) (k - done) d h' (ap (λ (e : Edge). e.voter) is) (ap (λ (e : Edge). e.target) is))
    ]

    pub copied : IsJoining snapshot target edges voter place (joined ++ row)
    copied = record {
      rising = pairs_append IsBefore joined row so.rising
          (λ i j d a b. subst (λ (e : Edge). IsBefore e (get_or row j d)) (sym (row_at i d (omega (arith, a, b))))
          (subst (λ (e : Edge). IsBefore (get_or edges (done + i) d) e) (sym (row_at j d b)) (up (done + i) (done + j) d (omega (arith, a)) (row_in j b))))
          (λ i j d a b. subst (λ (e : Edge). IsBefore (get_or joined i d) e) (sym (row_at j d b)) (so.ahead i (done + j) d a (omega arith) (row_in j b)));
      ahead = λ i k d a b h. All-append (λ (e : Edge). IsBefore e (get_or edges k d)) joined row
          (λ n f l. moved_to (get_or joined n f) k d f h (so.ahead n k f l (omega (arith, b, ahead)) h))
          (λ n f l. subst (λ (e : Edge). IsBefore e (get_or edges k d)) (sym (row_at n f l))
          (moved_to (get_or edges (done + n) f) k d f h (up (done + n) k f (omega (arith, l, long, b, ahead)) h))) i d a;
      all = copied_all;
      new = λ other h n. more_pairs joined row (slot_of other target) (so.new other h n);
      only = All-append (IsOldOrNew snapshot target edges) joined row so.only
          (λ k d h. inl (place_pair edges (get_or row k d) (done + k) d (row_in k h) (ap (λ (e : Edge). e.voter) (sym (row_at k d h))) (ap (λ (e : Edge). e.target) (sym (row_at k d h)))));
      same = λ other spot. given_append joined row other spot ∙ ap (λ n. n + given row other spot) (so.same other spot)
          ∙ sym (given_append (take done edges) row other spot) ∙ ap (λ es. given es other spot) front;
      small = All-append (λ (e : Edge). e.amount < 2 ^ 64) joined row so.small
          (λ k d h. omega (arith, ap (λ (e : Edge). e.amount) (row_at k d h), fits (done + k) d (row_in k h)));
      inside = within;
    } where
      moved_to : (e : Edge) (k : ℕ) (d f : Edge) → k < length edges → IsBefore e (get_or edges k f) → IsBefore e (get_or edges k d)
      moved_to e k d f h before = subst (λ (x : Edge). IsBefore e x) (get_or_default edges k f d h) before

      front : take done edges ++ row ≡ take place edges
      front =
          sym (take-append-add (take done edges) (drop done edges) (place - done))
          ∙ ap (λ es. take (length (take done edges) + (place - done)) es) (take-append-drop done edges)
          ∙ ap (λ n. take n edges) (omega (arith, length-take-le done edges so.inside, ahead))

  -- the voter's own slot follows
  module _ (votes : nominates snapshot voter target ≡ true) (in_range : voter < length snapshot.voters)
      (before : All (λ (e : Edge). IsBefore e (slot_of voter target)) joined)
      (next : (k : ℕ) (d : Edge) → done ≤ k → k < length edges → IsBefore (slot_of voter target) (get_or edges k d)) where
    abbrev slot : Edge
    slot = slot_of voter target

    pub put : IsJoining snapshot target edges (voter + 1) done (joined ++ slot ∷ [])
    put = record {
      rising = pairs_append IsBefore joined (slot ∷ []) so.rising (λ i j d a b. absurd (omega (arith, a, b))) last;
      ahead = λ i k d a b h. All-append (λ (e : Edge). IsBefore e (get_or edges k d)) joined (slot ∷ [])
          (λ n f l. subst (λ (x : Edge). IsBefore (get_or joined n f) x) (get_or_default edges k f d h) (so.ahead n k f l b h))
          (All-cons (λ (e : Edge). IsBefore e (get_or edges k d)) slot [] (next k d b h) (All-nil (λ (e : Edge). IsBefore e (get_or edges k d)))) i d a;
      all = λ k d h l. more_pairs joined (slot ∷ []) (get_or edges k d) (so.all k d h l);
      new = λ other h n. elim (cases_lt other voter) [
        | inl low ↦ more_pairs joined (slot ∷ []) (slot_of other target) (so.new other low n)
        | inr high ↦
            let e : voter ≡ other = omega (arith, high, h) in
            last_pairs joined (slot ∷ []) (slot_of other target) (or_left (same_pair slot (slot_of other target)) false (same_pair_true slot (slot_of other target) e refl))
      ];
      only = All-append (IsOldOrNew snapshot target edges) joined (slot ∷ []) so.only
          (All-cons (IsOldOrNew snapshot target edges) slot [] (inr (in_range, votes, refl)) (All-nil (IsOldOrNew snapshot target edges)));
      same = λ other spot. given_append joined (slot ∷ []) other spot ∙ omega (arith, so.same other spot, none other spot);
      small = All-append (λ (e : Edge). e.amount < 2 ^ 64) joined (slot ∷ []) so.small
          (All-cons (λ (e : Edge). e.amount < 2 ^ 64) slot [] (omega arith) (All-nil (λ (e : Edge). e.amount < 2 ^ 64)));
      inside = so.inside;
    } where
      last : (i j : ℕ) (d : Edge) → i < length joined → j < length (slot ∷ []) → IsBefore (get_or joined i d) (get_or (slot ∷ []) j d)
      last i zero d a b = before i d a
      last i (suc j) d a b = absurd (omega (arith, b))

      none : (other spot : ℕ) → given (slot ∷ []) other spot ≡ 0
      none other spot = omega (arith, given_weight (slot ∷ []) other spot, sum_by-cons (pair_weight other spot) slot [], none_weight slot other spot (omega arith))

  -- voters that do not nominate the target are passed by
  pub passed_by : (bound : ℕ) → ((other : ℕ) → other < bound → nominates snapshot other target ≡ true → other < voter)
      → IsJoining snapshot target edges bound done joined
  passed_by bound silent = record {
    rising = so.rising;
    ahead = so.ahead;
    all = so.all;
    new = λ other h n. so.new other (silent other h n) n;
    only = so.only;
    same = so.same;
    small = so.small;
    inside = so.inside;
  }

pub none_joined : (snapshot : Snapshot) (target : ℕ) (edges : List Edge) → IsJoining snapshot target edges 0 0 []
none_joined snapshot target edges = record {
  rising = λ i j d a b. absurd (omega (arith, b));
  ahead = λ i k d a b h. absurd (omega (arith, a));
  all = λ k d h l. absurd (omega (arith, h));
  new = λ other h n. absurd (omega (arith, h));
  only = All-nil (IsOldOrNew snapshot target edges);
  same = λ other spot. refl;
  small = All-nil (λ (e : Edge). e.amount < 2 ^ 64);
  inside = omega arith;
}

pub before_trans : (one other third : Edge) → IsBefore one other → IsBefore other third → IsBefore one third
before_trans one other third x y = elim x [
  | inl a ↦ elim y [
    | inl b ↦ inl (omega (arith, a, b))
    | inr b ↦ inl (omega (arith, a, b.0))
  ]
  | inr a ↦ elim y [
    | inl b ↦ inl (omega (arith, a.0, b))
    | inr b ↦ inr (omega (arith, a.0, b.0), omega (arith, a.1, b.1))
  ]
]

turned_before : (one other : Edge) → (one.target ≢ other.target) → (IsBefore one other → ⊥) → IsBefore other one
turned_before one other apart not_before = elim (cases_lt one.voter other.voter) [
  | inl l ↦ absurd (not_before (inl l))
  | inr m ↦ elim (cases_lt other.voter one.voter) [
    | inl l ↦ inl l
    | inr n ↦
        let same : one.voter ≡ other.voter = omega (arith, m, n) in
        elim (cases_lt one.target other.target) [
          | inl l ↦ absurd (not_before (inr (same, l)))
          | inr u ↦ elim (cases_lt other.target one.target) [
            | inl l ↦ inr (sym same, l)
            | inr v ↦ absurd (apart (omega (arith, u, v)))
          ]
        ]
  ]
]

voter_below : (one other : Edge) → IsBefore one other → one.voter < other.voter + 1
voter_below one other before = elim before [
  | inl l ↦ omega (arith, l)
  | inr l ↦ omega (arith, l.0)
]

pub row_joined : (snapshot : Snapshot) (target : ℕ) (edges : List Edge) → AllPairs IsBefore edges → All (λ (e : Edge). e.amount < 2 ^ 64) edges
    → (voter done : ℕ) (joined : List Edge) → IsJoining snapshot target edges voter done joined → All (λ (e : Edge). e.target ≢ target) edges
    → (place : ℕ) → done ≤ place → place ≤ length edges
    → ((k : ℕ) (d : Edge) → done ≤ k → k < place → IsBefore (get_or edges k d) (slot_of voter target))
    → ((d : Edge) → place < length edges → IsBefore (get_or edges place d) (slot_of voter target) → ⊥)
    → nominates snapshot voter target ≡ true → voter < length snapshot.voters → All (λ (e : Edge). e.voter < voter) joined
    → IsJoining snapshot target edges (voter + 1) place ((joined ++ take (place - done) (drop done edges)) ++ slot_of voter target ∷ [])
    × All (λ (e : Edge). e.voter < voter + 1) ((joined ++ take (place - done) (drop done edges)) ++ slot_of voter target ∷ [])
row_joined snapshot target edges up fits voter done joined so fresh place ahead within before next votes in_range below = (
  put snapshot target edges up fits voter place (joined ++ take (place - done) (drop done edges))
      (copied snapshot target edges up fits voter done joined so place ahead within) votes in_range in_front
      behind_slot,
  All-append (λ (e : Edge). e.voter < voter + 1) (joined ++ take (place - done) (drop done edges)) (slot_of voter target ∷ [])
      (λ k d h. voter_below (get_or (joined ++ take (place - done) (drop done edges)) k d) (slot_of voter target) (in_front k d h))
      (All-cons (λ (e : Edge). e.voter < voter + 1) (slot_of voter target) [] (omega arith) (All-nil (λ (e : Edge). e.voter < voter + 1))),
) where
  long_taken : length (take (place - done) (drop done edges)) ≡ place - done
  long_taken = length-take-le (place - done) (drop done edges) (omega (arith, within, length-drop done edges))

  in_front : All (λ (e : Edge). IsBefore e (slot_of voter target)) (joined ++ take (place - done) (drop done edges))
  in_front = All-append (λ (e : Edge). IsBefore e (slot_of voter target)) joined (take (place - done) (drop done edges))
      (λ k d h. inl (below k d h))
      (λ k d h. subst (λ (e : Edge). IsBefore e (slot_of voter target))
      (sym (get_or-take (place - done) (drop done edges) k d (omega (arith, h, long_taken)) ∙ get_or-drop done edges k d))
      (before (done + k) d (omega arith) (omega (arith, h, long_taken, ahead))))

  behind_slot : (k : ℕ) (d : Edge) → place ≤ k → k < length edges → IsBefore (slot_of voter target) (get_or edges k d)
  behind_slot k d b h =
      let inside : place < length edges = omega (arith, b, h) in
      let first : IsBefore (slot_of voter target) (get_or edges place d) = turned_before (get_or edges place d) (slot_of voter target) (fresh place d inside) (next d inside) in
      elim (cases_lt place k) [
        | inl later ↦ before_trans (slot_of voter target) (get_or edges place d) (get_or edges k d) first (up place k d later h)
        | inr same ↦ subst (λ n. IsBefore (slot_of voter target) (get_or edges n d)) (omega (arith, same, b)) first
      ]

pub end_joined : (snapshot : Snapshot) (target : ℕ) (edges : List Edge) → AllPairs IsBefore edges → All (λ (e : Edge). e.amount < 2 ^ 64) edges
    → (voter done : ℕ) (joined : List Edge) → length snapshot.voters ≤ voter → IsJoining snapshot target edges voter done joined
    → IsJoined snapshot target edges (joined ++ take (length edges - done) (drop done edges))
end_joined snapshot target edges up fits voter done joined enough so =
    whole (joined ++ take (length edges - done) (drop done edges)) (copied snapshot target edges up fits voter done joined so (length edges) so.inside (omega arith))
  where
    whole : (all : List Edge) → IsJoining snapshot target edges voter (length edges) all → IsJoined snapshot target edges all
    whole all is = record {
      rising = is.rising;
      all = λ k d h. is.all k d h h;
      new = λ other h n. is.new other (omega (arith, h, enough)) n;
      only = is.only;
      same = λ other spot. is.same other spot ∙ ap (λ es. given es other spot) (take_all (length edges) edges (omega arith));
      small = is.small;
    }

-- ---- what joined covers the nominations of one member more
leads_same : (edges : List Edge) (one other : Edge) → one.voter ≡ other.voter → one.target ≡ other.target → has_pair edges one ≡ true → has_pair edges other ≡ true
leads_same edges one other v t leads =
    let (k, h, w, u) = pair_place edges one leads in
    place_pair edges other k one h (w one ∙ v) (u one ∙ t)

module _ (snapshot : Snapshot) (members more : List ℕ) (target : ℕ) (grown : (other : ℕ) → has more other ≡ has members other || (nat_eq target other || false))
    (edges joined : List Edge) (covers : Covers snapshot members edges) (joins : IsJoined snapshot target edges joined) where
  -- what holds of the edges and of the new ones holds of all
  pub joined_all : (P : ℕ → ℕ → Type 0) → All (λ (e : Edge). P e.voter e.target) edges → ((voter : ℕ) → voter < length snapshot.voters → P voter target)
      → All (λ (e : Edge). P e.voter e.target) joined
  joined_all P old new k d h =
      let edge = get_or joined k d in
      elim (joins.only k d h) [
        | inl there ↦
            let (i, l, v, t) = pair_place edges edge there in
            subst (λ n. P n edge.target) (v d) (subst (P (get_or edges i d).voter) (t d) (old i d l))
        | inr (range, votes, same) ↦ subst (P edge.voter) (sym same) (new edge.voter range)
      ]

  pub joined_covers : Covers snapshot more joined
  joined_covers voter other h = from_pair joined slot ∙ elim (cases_Bool (backs snapshot more voter other)) [
    | inl t ↦ leads t ∙ sym t
    | inr f ↦ elim (cases_Bool (has_pair joined slot)) [
      | inl t ↦ absurd (true≢false (sym (backed t) ∙ f))
      | inr g ↦ g ∙ sym f
    ]
  ] where
    slot : Edge
    slot = slot_of voter other

    leads : backs snapshot more voter other ≡ true → has_pair joined slot ≡ true
    leads backs_it =
        let (member, votes) = and_parts (has more other) (nominates snapshot voter other) backs_it in
        elim (cases_Bool (has members other)) [
          | inl old ↦
              let (i, l, v, t) = pair_place edges slot (sym (from_pair edges slot) ∙ covers voter other h ∙ ap₂ (λ a b. a && b) old votes) in
              leads_same joined (get_or edges i slot) slot (v slot) (t slot) (joins.all i slot l)
          | inr apart ↦ elim (cases_eq target other) [
            | inl same ↦ leads_same joined (slot_of voter target) slot refl same (joins.new voter h (subst (λ n. nominates snapshot voter n ≡ true) (sym same) votes))
            | inr differ ↦ absurd (true≢false (sym member ∙ grown other ∙ ap₂ (λ a b. a || (b || false)) apart (ne_eqb target other differ)))
          ]
        ]

    backed : has_pair joined slot ≡ true → backs snapshot more voter other ≡ true
    backed there =
        let (k, l, v, t) = pair_place joined slot there in
        elim (joins.only k slot l) [
          | inl old ↦
              let (member, votes) = and_parts (has members other) (nominates snapshot voter other)
              (sym (covers voter other h) ∙ from_pair edges slot ∙ leads_same edges (get_or joined k slot) slot (v slot) (t slot) old) in
              ap₂ (λ a b. a && b) (grown other ∙ or_left (has members other) (nat_eq target other || false) member) votes
          | inr (range, votes, same) ↦
              let is : target ≡ other = sym same ∙ t slot in
              ap₂ (λ a b. a && b)
              (grown other ∙ or_right (has members other) (nat_eq target other || false) (or_left (nat_eq target other) false (eq-eqb target other is)))
              (ap₂ (λ a b. nominates snapshot a b) (sym (v slot)) (sym is) ∙ votes)
        ]
