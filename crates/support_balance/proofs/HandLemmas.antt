-- Handing a stake out, edge by edge.
use Rattle.std.proofs.Common.{◌≡◌, ◌≢◌, ℕ, suc, ◌+◌, ◌-◌, ◌<◌, ◌≤◌, min, Bool, true, false, not, ◌||◌, cond, nat_eq, nat_le, List, []}
use Rattle.std.proofs.Common.{◌∷◌, ◌++◌, length, take, drop, sum, get_or, set, inl, inr, refl, ap, ap₂, sym, ◌∙◌, arith, append_assoc}
use Rattle.std.proofs.lemmas.List.{get_or-set_same, get_or-set_other, get_or_default, length-set, length-map, map-append, get_or-map}
use Rattle.std.proofs.Math.Seq.{drop-cons}
use Rattle.std.proofs.lemmas.Grind.{take-set_at}
use Rattle.std.proofs.lemmas.List.Sums.{sum-map}
use Rattle.std.proofs.lemmas.Bool.{cases_Bool, cases_eq, cond-true, cond-false, ne_eqb, eq-eqb, cond_both}
use Rattle.npos_base.specs.declared.figures.Edge.{Edge}
use Rattle.weight_book.specs.Weights.{edges_to, amount_sum}
use Rattle.support_balance.specs.Turns.{LiesLow}
use Rattle.support_balance.specs.Levels.{base_of, bases, filled, IsLevel}
use Rattle.support_balance.proofs.LevelLemmas.{filled_whole, filled_even}
use Rattle.support_balance.specs.Rows.{at, IsRow, AreAlike, AreMoved, IsEven, amounts, differs}
use Rattle.support_balance.proofs.RowLemmas.{own_amount, rising_alike, to_set}

-- the first edges have their new amounts
pub record IsHanded (height above : ℕ) (row : List Edge) (supports : List ℕ) (now : List Edge) (table : List ℕ) (left : ℕ) (changed : Bool) (i : ℕ) : Type 0 where
  pub alike : AreAlike row now
  pub unread : (k : ℕ) (d : Edge) → i ≤ k → k < length row → get_or now k d ≡ get_or row k d
  pub moved : AreMoved row now supports table
  pub no_more : left ≤ above
  pub done : amounts (take i now) ++ filled height left (drop i (bases supports row)) ≡ filled height above (bases supports row)
  pub told : changed || differs (drop i (amounts row)) (filled height left (drop i (bases supports row))) ≡ differs (amounts row) (filled height above (bases supports row))

pub or_assoc : (a b c : Bool) → (a || b) || c ≡ a || (b || c)
or_assoc true b c = refl
or_assoc false b c = refl

filled_cons : (h a x : ℕ) (xs : List ℕ) → filled h a (x ∷ xs) ≡ cond (nat_le x h) (h - x + min a 1) 0 ∷ filled h (cond (nat_le x h) (a - min a 1) a) xs
filled_cons h a x xs = elim (cases_Bool (nat_le x h)) [
  | inl t ↦ rw t refl
  | inr t ↦ rw t refl
]

module _ (height above : ℕ) (row : List Edge) (supports : List ℕ) (sound : IsRow supports row) (now : List Edge) (table : List ℕ) (left : ℕ) (changed : Bool) (i : ℕ)
    (so : IsHanded height above row supports now table left changed i) (h : i < length row) (d : Edge) where
  -- the support of the next target is as it was
  pub same_support : at table (get_or row i d).target ≡ at supports (get_or row i d).target
  same_support =
      let here = so.moved.moved (get_or row i d).target in
      let before = own_amount row sound.rising i d h in
      let after : amount_sum (edges_to now (get_or now i d).target) ≡ (get_or now i d).amount =
      own_amount now (rising_alike row now so.alike sound.rising) i d (omega (arith, h, so.alike.count)) in
      let after' : amount_sum (edges_to now (get_or row i d).target) ≡ (get_or row i d).amount = rw (so.unread i d (omega arith) h) at after in
      omega (arith, here, before, after')

  -- the base of the next edge, as the table has it
  pub same_base : at table (get_or now i d).target - (get_or now i d).amount ≡ base_of supports (get_or row i d)
  same_base = ap₂ (λ n m. n - m) (ap (λ (x : Edge). at table x.target) (so.unread i d (omega arith) h) ∙ same_support)
      (ap (λ (x : Edge). x.amount) (so.unread i d (omega arith) h))

  pub within_table : (get_or now i d).amount ≤ at table (get_or now i d).target
  within_table = rw (so.unread i d (omega arith) h, same_support) (sound.counted i d h)

  next_base : drop i (bases supports row) ≡ base_of supports (get_or row i d) ∷ drop (i + 1) (bases supports row)
  next_base = let one : suc i ≡ i + 1 = omega arith in
      drop-cons (bases supports row) i 0 (omega (arith, h, length-map row (base_of supports)))
      ∙ ap₂ (λ n k. n ∷ drop k (bases supports row)) (get_or-map (base_of supports) row i d 0 h) one

  next_amount : drop i (amounts row) ≡ (get_or row i d).amount ∷ drop (i + 1) (amounts row)
  next_amount = let one : suc i ≡ i + 1 = omega arith in
      drop-cons (amounts row) i 0 (omega (arith, h, length-map row (λ (e : Edge). e.amount)))
      ∙ ap₂ (λ n k. n ∷ drop k (amounts row)) (get_or-map (λ (e : Edge). e.amount) row i d 0 h) one

  in_now : i < length now
  in_now = omega (arith, h, so.alike.count)

  abbrev given_anew : ℕ → Edge
  given_anew amount = record { voter = (get_or now i d).voter; target = (get_or now i d).target; amount = amount }

  module _ (base amount left' : ℕ) (base_is : base ≡ base_of supports (get_or row i d)) (amount_is : amount ≡ cond (nat_le base height) (height - base + min left 1) 0)
      (left_is : left' ≡ cond (nat_le base height) (left - min left 1) left) where
    rest : filled height left (drop i (bases supports row)) ≡ amount ∷ filled height left' (drop (i + 1) (bases supports row))
    rest = ap (filled height left) (next_base ∙ ap (λ n. n ∷ drop (i + 1) (bases supports row)) (sym base_is))
        ∙ filled_cons height left base (drop (i + 1) (bases supports row))
        ∙ ap₂ (λ n m. n ∷ filled height m (drop (i + 1) (bases supports row))) (sym amount_is) (sym left_is)

    alike' : AreAlike row (set now i (given_anew amount))
    alike' = record {
      count = length-set now i (given_anew amount) ∙ so.alike.count;
      voters = λ k e l. ap (λ n. n) (kept (λ (x : Edge). x.voter) refl k e) ∙ so.alike.voters k e l;
      targets = λ k e l. kept (λ (x : Edge). x.target) refl k e ∙ so.alike.targets k e l;
    } where
      kept : (f : Edge → ℕ) → f (given_anew amount) ≡ f (get_or now i d) → (k : ℕ) (e : Edge) → f (get_or (set now i (given_anew amount)) k e) ≡ f (get_or now k e)
      kept f same k e = elim (cases_eq k i) [
        | inl here ↦ ap (λ n. f (get_or (set now i (given_anew amount)) n e)) here ∙ ap f (get_or-set_same now i (given_anew amount) e in_now)
            ∙ same ∙ ap f (get_or_default now i d e in_now) ∙ ap (λ n. f (get_or now n e)) (sym here)
        | inr other ↦ ap f (get_or-set_other now i k (given_anew amount) e other)
      ]

    unread' : (k : ℕ) (e : Edge) → i + 1 ≤ k → k < length row → get_or (set now i (given_anew amount)) k e ≡ get_or row k e
    unread' k e l m = get_or-set_other now i k (given_anew amount) e (λ same. omega (arith, l, same)) ∙ so.unread k e (omega (arith, l)) m

    moved' : AreMoved row (set now i (given_anew amount)) supports (set table (get_or now i d).target (base + amount))
    moved' = record { count = length-set table (get_or now i d).target (base + amount) ∙ so.moved.count; moved = at_each } where
      place : (get_or now i d).target ≡ (get_or row i d).target
      place = so.alike.targets i d h

      at_each : (target : ℕ) → at (set table (get_or now i d).target (base + amount)) target + amount_sum (edges_to row target)
          ≡ at supports target + amount_sum (edges_to (set now i (given_anew amount)) target)
      at_each target = elim (cases_eq target (get_or now i d).target) [
        | inl here ↦
            let to = to_set now i (given_anew amount) d target in_now refl in
            let hit = eq-eqb (get_or now i d).target target (sym here) in
            let old = cond-true (nat_eq (get_or now i d).target target) (get_or now i d).amount 0 hit in
            let new = cond-true (nat_eq (get_or now i d).target target) amount 0 hit in
            let there : at (set table (get_or now i d).target (base + amount)) target ≡ base + amount =
            ap (λ n. at (set table (get_or now i d).target (base + amount)) n) here ∙ get_or-set_same table (get_or now i d).target (base + amount) 0
            (omega (arith, sound.in_range i d h, place, so.moved.count)) in
            let counted = sound.counted i d h in
            let same_amount = ap (λ (x : Edge). x.amount) (so.unread i d (omega arith) h) in
            let support_here : at table target ≡ at supports (get_or row i d).target = ap (at table) (here ∙ place) ∙ same_support in
            omega (arith, to, old, new, there, so.moved.moved target, counted, base_is, same_amount, support_here)
        | inr other ↦
            let to = to_set now i (given_anew amount) d target in_now refl in
            let miss = ne_eqb (get_or now i d).target target (λ e. other (sym e)) in
            let old = cond-false (nat_eq (get_or now i d).target target) (get_or now i d).amount 0 miss in
            let new = cond-false (nat_eq (get_or now i d).target target) amount 0 miss in
            omega (arith, to, old, new, get_or-set_other table (get_or now i d).target target (base + amount) 0 other, so.moved.moved target)
      ]

    done' : amounts (take (i + 1) (set now i (given_anew amount))) ++ filled height left' (drop (i + 1) (bases supports row)) ≡ filled height above (bases supports row)
    done' = ap (λ es. amounts es ++ filled height left' (drop (i + 1) (bases supports row))) (take-set_at now i (i + 1) (given_anew amount) refl in_now)
        ∙ ap (λ ns. ns ++ filled height left' (drop (i + 1) (bases supports row))) (map-append (λ (e : Edge). e.amount) (take i now) (given_anew amount ∷ []))
        ∙ append_assoc (amounts (take i now)) (amount ∷ []) (filled height left' (drop (i + 1) (bases supports row)))
        ∙ ap (λ ns. amounts (take i now) ++ ns) (sym rest)
        ∙ so.done

    told' : (changed || not (nat_eq amount (get_or now i d).amount)) || differs (drop (i + 1) (amounts row)) (filled height left' (drop (i + 1) (bases supports row)))
        ≡ differs (amounts row) (filled height above (bases supports row))
    told' = or_assoc changed (not (nat_eq amount (get_or now i d).amount)) (differs (drop (i + 1) (amounts row)) (filled height left' (drop (i + 1) (bases supports row))))
        ∙ ap (λ n. changed || (not (nat_eq amount n) || differs (drop (i + 1) (amounts row)) (filled height left' (drop (i + 1) (bases supports row)))))
        (ap (λ (x : Edge). x.amount) (so.unread i d (omega arith) h))
        ∙ ap₂ (λ olds news. changed || differs olds news) (sym next_amount) (sym rest)
        ∙ so.told

    pub handed_next : IsHanded height above row supports (set now i (given_anew amount)) (set table (get_or now i d).target (base + amount)) left'
        (changed || not (nat_eq amount (get_or now i d).amount)) (i + 1)
    handed_next = record { alike = alike'; unread = unread'; moved = moved'; no_more = fewer; done = done'; told = told' } where
      fewer : left' ≤ above
      fewer = rw left_is (cond_both (nat_le base height) (left - min left 1) left (λ n. n ≤ above) (λ _. omega (arith, so.no_more)) (λ _. so.no_more))

-- what was handed out is level
module _ (stake height above : ℕ) (row now : List Edge) (supports table : List ℕ) (sound : IsRow supports row) (level : IsLevel stake (bases supports row) height above)
    (alike : AreAlike row now) (moved : AreMoved row now supports table) (done : amounts now ≡ filled height above (bases supports row)) where
  support_at : (i : ℕ) (d : Edge) → i < length row → at table (get_or now i d).target ≡ get_or (bases supports row) i 0 + get_or (filled height above (bases supports row)) i 0
  support_at i d h =
      let here = moved.moved (get_or row i d).target in
      let place = alike.targets i d h in
      let in_now : i < length now = omega (arith, h, alike.count) in
      let before = own_amount row sound.rising i d h in
      let after : amount_sum (edges_to now (get_or now i d).target) ≡ (get_or now i d).amount = own_amount now (rising_alike row now alike sound.rising) i d in_now in
      let after' : amount_sum (edges_to now (get_or row i d).target) ≡ (get_or now i d).amount = ap (λ n. amount_sum (edges_to now n)) (sym place) ∙ after in
      let base = get_or-map (base_of supports) row i d 0 h in
      let amount : get_or (filled height above (bases supports row)) i 0 ≡ (get_or now i d).amount =
      ap (λ ns. get_or ns i 0) (sym done) ∙ get_or-map (λ (e : Edge). e.amount) now i d 0 in_now in
      omega (arith, here, before, after', base, amount, sound.counted i d h, ap (at table) place)

  pub handed_even : IsEven stake now table
  handed_even = record { whole = whole; level = even } where
    whole : amount_sum now ≡ stake
    whole = sym (sum-map (λ (e : Edge). e.amount) now) ∙ ap sum done ∙ filled_whole stake height above (bases supports row) level

    even : (i j : ℕ) (d : Edge) → i < length now → j < length now → i ≢ j → 0 < (get_or now i d).amount
        → LiesLow (at table) (get_or now i d).target (get_or now j d).target
    even i j d a b ne some =
        let ai : i < length row = omega (arith, a, alike.count) in
        let bj : j < length row = omega (arith, b, alike.count) in
        let amount : get_or (filled height above (bases supports row)) i 0 ≡ (get_or now i d).amount =
        ap (λ ns. get_or ns i 0) (sym done) ∙ get_or-map (λ (e : Edge). e.amount) now i d 0 a in
        let size = length-map row (base_of supports) in
        elim (filled_even height above (bases supports row) i j (omega (arith, ai, size)) (omega (arith, bj, size)) ne (omega (arith, some, amount))) [
          | inl low ↦ inl (omega (arith, low, support_at i d ai, support_at j d bj))
          | inr step ↦ inr (omega (arith, step.0, support_at i d ai, support_at j d bj), rising_alike row now alike sound.rising i j d step.1 b)
        ]

pub alike_self : (row : List Edge) → AreAlike row row
alike_self row = record { count = refl; voters = λ k d l. refl; targets = λ k d l. refl }

pub differs_self : (xs : List ℕ) → differs xs xs ≡ false
differs_self [] = refl
differs_self (x ∷ xs) = rw (eq-eqb x x refl) (differs_self xs)
