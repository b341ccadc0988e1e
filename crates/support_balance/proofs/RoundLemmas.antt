-- A round, voter by voter.
use Rattle.std.proofs.Common.{◌≡◌, ◌≢◌, ℕ, suc, ◌+◌, ◌-◌, ◌^◌, ◌<◌, ◌≤◌, Bool, true, false, ◌||◌, List, ◌++◌, length}
use Rattle.std.proofs.Common.{take, drop, get_or, All, inl, inr, refl, ap, ap₂, sym, subst, ◌∙◌, arith, append_assoc}
use Rattle.std.proofs.lemmas.List.{take-append-drop, drop-drop, length-drop, get_or-drop, get_or-take, length-take-le, length-map, map-append}
use Rattle.std.proofs.lemmas.List.Elements.{All-take, All-drop, All-append}
use Rattle.std.proofs.lemmas.List.Sums.{get_or-le-sum_by}
use Rattle.std.proofs.lemmas.Slice.{take-put_mid, drop-put_mid}
use Rattle.std.proofs.lemmas.Bool.{cases_lt}
use borrow.Rule.Slice.PartMut.{put_mid}
use Rattle.npos_base.specs.declared.figures.Edge.{Edge}
use Rattle.election_snapshot.specs.Snapshot.{Snapshot, has, stake_of}
use Rattle.weight_book.specs.Weights.{edges_from, support}
use Rattle.support_balance.specs.Turns.{backs, IsTurn}
use Rattle.support_balance.specs.Rounds.{AreTurns}
use Rattle.support_balance.specs.Rows.{at, IsRow, AreAlike, AreMoved, IsEven, amounts, differs}
use Rattle.support_balance.specs.Laid.{targets_of, Covers, AreKept}
use Rattle.support_balance.proofs.HandLemmas.{differs_self, alike_self}
use Rattle.support_balance.proofs.AlikeLemmas.{alike_between, alike_trans, from_alike, rising_before, support-append, support_small, amount_counted, differs-append}
use Rattle.support_balance.specs.Spans.{IsSpan}
use Rattle.support_balance.proofs.TurnLemmas.{from_between, other_between, made_turn}

pub record IsTurned (snapshot : Snapshot) (edges : List Edge) (supports : List ℕ) (now : List Edge) (table : List ℕ) (start : ℕ) (changed : Bool) (voter : ℕ) : Type 0 where
  pub within : start ≤ length now
  pub before : (k : ℕ) (d : Edge) → k < start → k < length now → (get_or now k d).voter < voter
  pub behind : (k : ℕ) (d : Edge) → start ≤ k → k < length now → voter ≤ (get_or now k d).voter
  pub unread : drop start now ≡ drop start edges
  pub kept : AreKept table now
  pub count : length table ≡ length supports
  pub alike : AreAlike edges now
  pub told : changed ≡ differs (amounts edges) (amounts now)
  pub turns : (committee : List ℕ) → Covers snapshot committee edges → AreTurns snapshot committee voter edges now

pub none_turned : (snapshot : Snapshot) (edges : List Edge) (supports : List ℕ) → AreKept supports edges → IsTurned snapshot edges supports edges supports 0 false 0
none_turned snapshot edges supports kept = record {
  within = omega arith;
  before = λ k d h _. absurd (omega (arith, h));
  behind = λ k d _ _. omega arith;
  unread = refl;
  kept = kept;
  count = refl;
  alike = alike_self edges;
  told = sym (differs_self (amounts edges));
  turns = λ committee _ voter target. refl;
}

-- the list in three
pub in_three : {X : Type 0} (start end : ℕ) (xs : List X) → start ≤ end → take start xs ++ (take (end - start) (drop start xs) ++ drop end xs) ≡ xs
in_three start end xs h =
    let e : start + (end - start) ≡ end = omega (arith, h) in
    ap (λ ys. take start xs ++ (take (end - start) (drop start xs) ++ ys)) (ap (λ n. drop n xs) (sym e) ∙ sym (drop-drop (end - start) start xs))
    ∙ ap (λ ys. take start xs ++ ys) (take-append-drop (end - start) (drop start xs))
    ∙ take-append-drop start xs

pub put_three : {X : Type 0} (start end : ℕ) (xs ys : List X) → start ≤ end → end ≤ length xs → length ys ≡ end - start
    → put_mid start (end - start) xs ys ≡ take start xs ++ (ys ++ drop end xs)
put_three start end xs ys h m l =
    sym (take-append-drop end (put_mid start (end - start) xs ys))
    ∙ ap₂ (λ a b. a ++ b) (take-put_mid start (end - start) xs ys end (omega (arith, h, l)) (omega (arith, h, m)))
    (drop-put_mid start (end - start) xs ys end (omega (arith, h)) (omega (arith, h, m)) l)
    ∙ append_assoc (take start xs) ys (drop end xs)

module _ (snapshot : Snapshot) (edges : List Edge) (supports : List ℕ) (now : List Edge) (table : List ℕ) (start : ℕ) (changed : Bool) (voter : ℕ)
    (so : IsTurned snapshot edges supports now table start changed voter) (end : ℕ) (ahead : start ≤ end) (inside : end ≤ length now)
    (own : (k : ℕ) (d : Edge) → start ≤ k → k < end → (get_or now k d).voter ≡ voter)
    (next : (d : Edge) → end < length now → (get_or now end d).voter ≢ voter) where
  abbrev front : List Edge
  front = take start now

  abbrev row : List Edge
  row = take (end - start) (drop start now)

  abbrev back : List Edge
  back = drop end now

  now_is : front ++ (row ++ back) ≡ now
  now_is = in_three start end now ahead

  long_front : length front ≡ start
  long_front = length-take-le start now so.within

  pub long_row : length row ≡ end - start
  long_row = length-take-le (end - start) (drop start now) (omega (arith, inside, length-drop start now))

  row_at : (k : ℕ) (d : Edge) → k < length row → get_or row k d ≡ get_or now (start + k) d
  row_at k d h = get_or-take (end - start) (drop start now) k d (omega (arith, h, long_row)) ∙ get_or-drop start now k d

  of_front : All (λ (e : Edge). e.voter ≢ voter) front
  of_front k d h same = omega (
    arith,
    so.before k d (omega (arith, h, long_front)) (omega (arith, h, long_front, so.within)),
    ap (λ (e : Edge). e.voter) (get_or-take start now k d (omega (arith, h, long_front))),
    same,
  )

  of_row : All (λ (e : Edge). e.voter ≡ voter) row
  of_row k d h = ap (λ (e : Edge). e.voter) (row_at k d h) ∙ own (start + k) d (omega arith) (omega (arith, h, long_row))

  -- behind the row each voter is a later one
  later : (k : ℕ) (d : Edge) → end ≤ k → k < length now → voter + 1 ≤ (get_or now k d).voter
  later k d h l =
      let first : voter < (get_or now end d).voter = omega (arith, so.behind end d ahead (omega (arith, h, l)), next d (omega (arith, h, l))) in
      elim (cases_lt end k) [
        | inl m ↦ elim (so.kept.rising end k d m l) [
          | inl above ↦ omega (arith, above, first)
          | inr level ↦ omega (arith, level.0, first)
        ]
        | inr m ↦ omega (arith, first, ap (λ n. (get_or now n d).voter) (same m))
      ]
    where
      same : k ≤ end → k ≡ end
      same m = omega (arith, m, h)

  of_back : All (λ (e : Edge). e.voter ≢ voter) back
  of_back k d h same = omega (
    arith,
    later (end + k) d (omega arith) (omega (arith, h, length-drop end now)),
    ap (λ (e : Edge). e.voter) (get_or-drop end now k d),
    same,
  )

  small_support : (target : ℕ) → at table target < 2 ^ 100
  small_support target = omega (arith, so.kept.table target, support_small now target so.kept.small, so.kept.few)

  pub row_sound : IsRow table row
  row_sound = record {
    few = omega (arith, long_row, so.kept.few, inside);
    rising = λ i j d a b.
        let ai : i < length row = omega (arith, a, b) in
        elim (so.kept.rising (start + i) (start + j) d (omega (arith, a)) (omega (arith, b, long_row, inside))) [
          | inl below ↦ absurd (omega (arith, below, own (start + i) d (omega arith) (omega (arith, ai, long_row)), own (start + j) d (omega arith) (omega (arith, b, long_row))))
          | inr level ↦ omega (arith, level.1, ap (λ (e : Edge). e.target) (row_at i d ai), ap (λ (e : Edge). e.target) (row_at j d b))
        ];
    in_range = λ k d h. omega (arith, so.kept.in_range (start + k) d (omega (arith, h, long_row, inside)), ap (λ (e : Edge). e.target) (row_at k d h));
    counted = λ k d h. omega (
      arith,
      amount_counted now (start + k) d (omega (arith, h, long_row, inside)),
      so.kept.table (get_or now (start + k) d).target,
      ap (λ (e : Edge). e.amount) (row_at k d h),
      ap (λ (e : Edge). at table e.target) (row_at k d h),
    );
    small = small_support;
  }

  pub span_here : start < end → IsSpan now (record { voter = voter; start = start; end = end })
  span_here some = record {
    some = some;
    within = inside;
    before = λ k d h. so.before k d h (omega (arith, h, so.within));
    own = own;
    behind = λ k d a b. omega (arith, later k d a b);
  }

  module _ (new : List Edge) (after : List ℕ) (told : Bool) (alike : AreAlike row new) (moved : AreMoved row new table after)
      (even : 1 ≤ length row → IsEven (stake_of snapshot voter) new after) (tells : told ≡ differs (amounts row) (amounts new)) (fits : stake_of snapshot voter < 2 ^ 64)
      (in_snapshot : voter < length snapshot.voters) where
    abbrev laid : List Edge
    laid = front ++ (new ++ back)

    laid_alike : AreAlike now laid
    laid_alike = subst (λ es. AreAlike es laid) now_is (alike_between front row new back alike)

    all_alike : AreAlike edges laid
    all_alike = alike_trans edges now laid so.alike laid_alike

    new_small : All (λ (e : Edge). e.amount < 2 ^ 64) new
    new_small k d h =
        let whole = (even (omega (arith, h, alike.count))).whole in
        omega (arith, whole, fits, get_or-le-sum_by (λ (e : Edge). e.amount) new k d h)

    table_laid : (target : ℕ) → at after target ≡ support laid target
    table_laid target = omega (
      arith,
      so.kept.table target,
      ap (λ es. support es target) (sym now_is),
      support-append front (row ++ back) target,
      support-append row back target,
      support-append front (new ++ back) target,
      support-append new back target,
      moved.moved target,
    )

    laid_kept : AreKept after laid
    laid_kept = record {
      rising = rising_before now laid laid_alike so.kept.rising;
      few = omega (arith, laid_alike.count, so.kept.few);
      small = All-append (λ (e : Edge). e.amount < 2 ^ 64) front (new ++ back) (All-take (λ (e : Edge). e.amount < 2 ^ 64) start now so.kept.small)
          (All-append (λ (e : Edge). e.amount < 2 ^ 64) new back new_small (All-drop (λ (e : Edge). e.amount < 2 ^ 64) end now so.kept.small));
      in_range = λ k d h. omega (arith, moved.count, laid_alike.targets k d (omega (arith, h, laid_alike.count)), so.kept.in_range k d (omega (arith, h, laid_alike.count)));
      table = table_laid;
    }

    edges_is : take start edges ++ (row ++ back) ≡ edges
    edges_is = ap (λ es. take start edges ++ es) (tail now) ∙ ap (λ es. take start edges ++ es) so.unread ∙ take-append-drop start edges where
      tail : (es : List Edge) → take (end - start) (drop start now) ++ drop end now ≡ drop start now
      tail es = let e : start + (end - start) ≡ end = omega (arith, ahead) in
          ap (λ ys. take (end - start) (drop start now) ++ ys) (ap (λ n. drop n now) (sym e) ∙ sym (drop-drop (end - start) start now))
          ∙ take-append-drop (end - start) (drop start now)

    differing : (new' : List Edge) → length new' ≡ length row
        → differs (amounts edges) (amounts (front ++ (new' ++ back))) ≡ differs (amounts (take start edges)) (amounts front) || (differs (amounts row) (amounts new') || false)
    differing new' same =
        let f = λ (e : Edge). e.amount in
        let long : length (take start edges) ≡ start = length-take-le start edges (omega (arith, so.within, so.alike.count)) in
        ap (λ es. differs (amounts es) (amounts (front ++ (new' ++ back)))) (sym edges_is)
        ∙ ap₂ differs (map-append f (take start edges) (row ++ back) ∙ ap (λ ns. amounts (take start edges) ++ ns) (map-append f row back))
        (map-append f front (new' ++ back) ∙ ap (λ ns. amounts front ++ ns) (map-append f new' back))
        ∙ differs-append (amounts (take start edges)) (amounts row ++ amounts back) (amounts front) (amounts new' ++ amounts back)
        (omega (arith, length-map front f, length-map (take start edges) f, long, long_front))
        ∙ ap (λ b. differs (amounts (take start edges)) (amounts front) || b)
        (differs-append (amounts row) (amounts back) (amounts new') (amounts back) (omega (arith, length-map new' f, length-map row f, same))
        ∙ ap (λ b. differs (amounts row) (amounts new') || b) (differs_self (amounts back)))

    told_laid : changed || told ≡ differs (amounts edges) (amounts laid)
    told_laid =
        let before : changed ≡ differs (amounts (take start edges)) (amounts front) || (differs (amounts row) (amounts row) || false) =
        so.told ∙ ap (λ es. differs (amounts edges) (amounts es)) (sym now_is) ∙ differing row refl in
        ap (λ b. b || told) before ∙ ap₂ (λ b c. (differs (amounts (take start edges)) (amounts front) || (b || false)) || c) (differs_self (amounts row)) tells
        ∙ join (differs (amounts (take start edges)) (amounts front)) (differs (amounts row) (amounts new))
        ∙ sym (differing new alike.count)
      where
        join : (a b : Bool) → (a || (false || false)) || b ≡ a || (b || false)
        join true b = refl
        join false true = refl
        join false false = refl

    turn_laid : (committee : List ℕ) → Covers snapshot committee edges → IsTurn snapshot committee voter now laid
    turn_laid committee covers = subst (λ es. IsTurn snapshot committee voter es laid) now_is
        (made_turn snapshot committee voter front row new back after alike row_sound.rising even of_front of_row of_back covers_row table_laid)
      where
        covers_row : (target : ℕ) → has (targets_of row) target ≡ backs snapshot committee voter target
        covers_row target =
            let own_edges : edges_from now voter ≡ row = ap (λ es. edges_from es voter) (sym now_is) ∙ from_between voter front row back of_front of_row of_back in
            ap (λ es. has (targets_of es) target) (sym own_edges) ∙ ap (λ ns. has ns target) (from_alike voter edges now so.alike) ∙ covers voter target in_snapshot

    next_turned : IsTurned snapshot edges supports laid after end (changed || told) (voter + 1)
    next_turned = record {
      within = omega (arith, inside, laid_alike.count);
      before = λ k d h l.
          let l' : k < length now = omega (arith, l, laid_alike.count) in
          let same = laid_alike.voters k d l' in
          elim (cases_lt k start) [
            | inl m ↦ omega (arith, so.before k d m l', same)
            | inr m ↦ omega (arith, own k d m h, same)
          ];
      behind = λ k d h l.
          let l' : k < length now = omega (arith, l, laid_alike.count) in
          omega (arith, later k d h l', laid_alike.voters k d l');
      unread = unread';
      kept = laid_kept;
      count = moved.count ∙ so.count;
      alike = all_alike;
      told = told_laid;
      turns = λ committee covers.
          let one : suc voter ≡ voter + 1 = omega arith in
          let made : AreTurns snapshot committee (suc voter) edges laid = (now, so.turns committee covers, turn_laid committee covers) in
          subst (λ n. AreTurns snapshot committee n edges laid) one made;
    } where
      unread' : drop end laid ≡ drop end edges
      unread' =
          let l : length new ≡ end - start = alike.count ∙ long_row in
          let e : start + (end - start) ≡ end = omega (arith, ahead) in
          ap (λ es. drop end es) (sym (put_three start end now new ahead inside l))
          ∙ drop-put_mid start (end - start) now new end (omega (arith, ahead)) so.within l
          ∙ ap (λ n. drop n now) (sym e) ∙ sym (drop-drop (end - start) start now) ∙ ap (drop (end - start)) so.unread
          ∙ drop-drop (end - start) start edges ∙ ap (λ n. drop n edges) e

    pub turned_next : IsTurned snapshot edges supports (put_mid start (end - start) now new) after end (changed || told) (voter + 1)
    turned_next = subst (λ es. IsTurned snapshot edges supports es after end (changed || told) (voter + 1))
        (sym (put_three start end now new ahead inside (alike.count ∙ long_row))) next_turned

    pub laid_is : put_mid start (end - start) now new ≡ laid
    laid_is = put_three start end now new ahead inside (alike.count ∙ long_row)

    pub alike_next : AreAlike now (put_mid start (end - start) now new)
    alike_next = subst (AreAlike now) (sym laid_is) laid_alike

    of_new : All (λ (e : Edge). e.voter ≡ voter) new
    of_new k d h = alike.voters k d (omega (arith, h, alike.count)) ∙ of_row k d (omega (arith, h, alike.count))

    pub own_next : edges_from (put_mid start (end - start) now new) voter ≡ new
    own_next = ap (λ es. edges_from es voter) laid_is ∙ from_between voter front new back of_front of_new of_back

    pub others_next : (other : ℕ) → other ≢ voter → edges_from (put_mid start (end - start) now new) other ≡ edges_from now other
    others_next other ne = ap (λ es. edges_from es other) laid_is ∙ other_between voter other front new back of_new ne
        ∙ sym (other_between voter other front row back of_row ne) ∙ ap (λ es. edges_from es other) now_is
