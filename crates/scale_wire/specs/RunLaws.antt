-- Proofs: runs keep the laws of a form.
use Rattle.std.specs.Prelude.{◌≡◌, ◌⊎◌, ℕ, zero, suc, ◌+◌, ◌<◌, List, [], ◌∷◌, ◌++◌, length, drop, Option, Some, None, refl}
use Rattle.std.specs.List.{AllByRecursion}
use Rattle.std.proofs.Common.{sym, ◌∙◌, ap, subst, inl, inr, arith, append_assoc, length-append}
use Rattle.scale_wire.specs.declared.fault.Why.{Why}
use Rattle.scale_wire.specs.Form.{Form, Begins, IsRefused, IsWire, IsBytes}
use Rattle.scale_wire.specs.Parts.{tag_form}
use Rattle.scale_wire.specs.Composite.{optional, optional_bytes, turns_bytes, run, run_bytes}
use Rattle.scale_wire.specs.FormLaws.{IsBytes-rest, optional_laws}

module _ {A : Type 0} (item : Form A) (item_laws : IsWire item) (tag_laws : IsWire (tag_form 2)) where
  abbrev turn : Form (Option A)
  turn = optional item

  turn_laws : IsWire turn
  turn_laws = optional_laws item item_laws tag_laws

  -- the first item, and then the run of the others
  run_more : (x : A) (xs : List A) (rest : List ℕ) → run_bytes item (x ∷ xs) ++ rest ≡ optional_bytes item (Some x) ++ (run_bytes item xs ++ rest)
  run_more x xs rest =
      ap (λ (s : List ℕ). 1 ∷ (s ++ rest)) (append_assoc (item.spelling x) (turns_bytes item xs) (0 ∷ []))
      ∙ ap (λ (s : List ℕ). 1 ∷ s) (append_assoc (item.spelling x) (run_bytes item xs) rest)

  turns_more : (x : A) (xs : List A) (rest : List ℕ) → turns_bytes item (x ∷ xs) ++ rest ≡ optional_bytes item (Some x) ++ (turns_bytes item xs ++ rest)
  turns_more x xs rest = ap (λ (s : List ℕ). 1 ∷ s) (append_assoc (item.spelling x) (turns_bytes item xs) rest)

  -- what begins with an item does not begin with the end
  end_or_item : (x : A) (rest more : List ℕ) → item.in_range x → 0 ∷ rest ≡ optional_bytes item (Some x) ++ more → ⊥
  end_or_item x rest more fits same = cc

  one_item : (x y : A) (rest more : List ℕ) → item.in_range x → item.in_range y → optional_bytes item (Some x) ++ rest ≡ optional_bytes item (Some y) ++ more → (x ≡ y) × (rest ≡ more)
  one_item x y rest more x_fits y_fits same = item_laws.one_reading x y rest more x_fits y_fits (ap (drop 1) same)

  run_reading : (xs ys : List A) (rest more : List ℕ) → AllByRecursion item.in_range xs
      → AllByRecursion item.in_range ys → run_bytes item xs ++ rest ≡ run_bytes item ys ++ more
      → (xs ≡ ys) × (rest ≡ more)
  run_reading [] [] rest more xs_fit ys_fit same = (refl, ap (drop 1) same)
  run_reading [] (y ∷ ys) rest more xs_fit ys_fit same = absurd (end_or_item y rest (run_bytes item ys ++ more) ys_fit.0 (same ∙ run_more y ys more))
  run_reading (x ∷ xs) [] rest more xs_fit ys_fit same = absurd (end_or_item x more (run_bytes item xs ++ rest) xs_fit.0 (sym same ∙ run_more x xs rest))
  run_reading (x ∷ xs) (y ∷ ys) rest more xs_fit ys_fit same =
      let p = one_item x y (run_bytes item xs ++ rest) (run_bytes item ys ++ more) xs_fit.0 ys_fit.0 (sym (run_more x xs rest) ∙ (same ∙ run_more y ys more)) in
      let q = run_reading xs ys rest more xs_fit.1 ys_fit.1 p.1 in
      (ap (λ (z : A). z ∷ xs) p.0 ∙ ap (λ zs. y ∷ zs) q.0, q.1)

  -- a run begins with an item where it goes on behind it
  begun : (bytes : List ℕ) (x : A) (rest : List ℕ) → item.in_range x → bytes ≡ optional_bytes item (Some x) ++ rest
      → Begins (run item) rest ⊎ IsRefused (run item) rest → Begins (run item) bytes ⊎ IsRefused (run item) bytes
  begun bytes x rest fits whole (inl begins) = inl record {
    value = x ∷ begins.value;
    in_range = (fits, begins.in_range);
    rest = begins.rest;
    whole = whole ∙ (ap (λ s. optional_bytes item (Some x) ++ s) begins.whole ∙ sym (run_more x begins.value begins.rest));
  }
  begun bytes x rest fits whole (inr refused) = inr record {
    at = length (optional_bytes item (Some x)) + refused.at;
    why = refused.why;
    bad = record {
      before = x ∷ refused.bad.before;
      in_range = (fits, refused.bad.in_range);
      rest = refused.bad.rest;
      whole = whole ∙ (ap (λ s. optional_bytes item (Some x) ++ s) refused.bad.whole ∙ sym (turns_more x refused.bad.before refused.bad.rest));
      place = refused.bad.place;
      at_is = omega (arith, refused.bad.at_is, length-append (item.spelling x) (turns_bytes item refused.bad.before));
      refused = refused.bad.refused;
    };
  }

  begun_by : (bytes : List ℕ) (begins : Begins turn bytes) → (length begins.rest < length bytes → Begins (run item) begins.rest ⊎ IsRefused (run item) begins.rest)
      → Begins (run item) bytes ⊎ IsRefused (run item) bytes
  begun_by bytes begins = at begins.value begins.in_range begins.rest begins.whole
    where
      at : (head : Option A) → turn.in_range head → (rest : List ℕ) → bytes ≡ optional_bytes item head ++ rest → (length rest < length bytes → Begins (run item) rest ⊎ IsRefused (run item) rest)
          → Begins (run item) bytes ⊎ IsRefused (run item) bytes
      at None fits rest whole further = inl record { value = []; in_range = tt; rest = rest; whole = whole }
      at (Some x) fits rest whole further =
          begun bytes x rest fits whole (further (omega (arith, ap length whole, length-append (optional_bytes item (Some x)) rest)))

  turn_refused : (bytes : List ℕ) → IsRefused turn bytes → IsRefused (run item) bytes
  turn_refused bytes refused = record {
    at = refused.at;
    why = refused.why;
    bad = record { before = []; in_range = tt; rest = bytes; whole = refl; place = refused.at; at_is = omega arith; refused = refused.bad };
  }

  run_covers_up_to : (most : ℕ) (bytes : List ℕ) → length bytes < most → IsBytes bytes → Begins (run item) bytes ⊎ IsRefused (run item) bytes
  run_covers_up_to zero bytes below are_bytes = absurd (omega (arith, below))
  run_covers_up_to (suc most) bytes below are_bytes = elim (turn_laws.covers bytes are_bytes) [
    | inl begins ↦ begun_by bytes begins (λ shorter.
        run_covers_up_to most begins.rest (omega (arith, below, shorter)) (IsBytes-rest (turn.spelling begins.value) begins.rest (subst IsBytes begins.whole are_bytes)))
    | inr refused ↦ inr (turn_refused bytes refused)
  ]

  run_exclusive_at : (xs before : List A) (rest more : List ℕ) (place : ℕ) (why : Why) → AllByRecursion item.in_range xs → AllByRecursion item.in_range before
      → run_bytes item xs ++ rest ≡ turns_bytes item before ++ more → turn.bad more place why → ⊥
  run_exclusive_at [] [] rest more place why xs_fit before_fit same bad =
      turn_laws.exclusive None rest place why tt (subst (λ s. turn.bad s place why) (sym same) bad)
  run_exclusive_at (x ∷ xs) [] rest more place why xs_fit before_fit same bad =
      turn_laws.exclusive (Some x) (run_bytes item xs ++ rest) place why xs_fit.0 (subst (λ s. turn.bad s place why) (sym same ∙ run_more x xs rest) bad)
  run_exclusive_at [] (y ∷ before) rest more place why xs_fit before_fit same bad =
      end_or_item y rest (turns_bytes item before ++ more) before_fit.0 (same ∙ turns_more y before more)
  run_exclusive_at (x ∷ xs) (y ∷ before) rest more place why xs_fit before_fit same bad =
      let p = one_item x y (run_bytes item xs ++ rest) (turns_bytes item before ++ more) xs_fit.0 before_fit.0 (sym (run_more x xs rest) ∙ (same ∙ turns_more y before more)) in
      run_exclusive_at xs before rest more place why xs_fit.1 before_fit.1 p.1 bad

  run_one_fault_at : (xs ys : List A) (rest more : List ℕ) (place place' : ℕ) (why why' : Why) → AllByRecursion item.in_range xs → AllByRecursion item.in_range ys
      → turns_bytes item xs ++ rest ≡ turns_bytes item ys ++ more → turn.bad rest place why → turn.bad more place' why'
      → (length (turns_bytes item xs) + place ≡ length (turns_bytes item ys) + place') × (why ≡ why')
  run_one_fault_at [] [] rest more place place' why why' xs_fit ys_fit same bad bad' =
      let p = turn_laws.one_fault rest place place' why why' bad (subst (λ s. turn.bad s place' why') (sym same) bad') in
      (omega (arith, p.0), p.1)
  run_one_fault_at (x ∷ xs) [] rest more place place' why why' xs_fit ys_fit same bad bad' =
      absurd (turn_laws.exclusive (Some x) (turns_bytes item xs ++ rest) place' why' xs_fit.0 (subst (λ s. turn.bad s place' why') (sym same ∙ turns_more x xs rest) bad'))
  run_one_fault_at [] (y ∷ ys) rest more place place' why why' xs_fit ys_fit same bad bad' =
      absurd (turn_laws.exclusive (Some y) (turns_bytes item ys ++ more) place why ys_fit.0 (subst (λ s. turn.bad s place why) (same ∙ turns_more y ys more) bad))
  run_one_fault_at (x ∷ xs) (y ∷ ys) rest more place place' why why' xs_fit ys_fit same bad bad' =
      let p = one_item x y (turns_bytes item xs ++ rest) (turns_bytes item ys ++ more) xs_fit.0 ys_fit.0 (sym (turns_more x xs rest) ∙ (same ∙ turns_more y ys more)) in
      let q = run_one_fault_at xs ys rest more place place' why why' xs_fit.1 ys_fit.1 p.1 bad bad' in
      let size : length (item.spelling x) ≡ length (item.spelling y) = ap (λ (z : A). length (item.spelling z)) p.0 in
      (omega (arith, q.0, size, length-append (item.spelling x) (turns_bytes item xs), length-append (item.spelling y) (turns_bytes item ys)), q.1)

  pub run_laws : IsWire (run item)
  run_laws = record {
    one_reading = run_reading;
    covers = λ bytes are_bytes. run_covers_up_to (suc (length bytes)) bytes (omega arith) are_bytes;
    exclusive = λ xs rest at why fits bad. run_exclusive_at xs bad.before rest bad.rest bad.place why fits bad.in_range bad.whole bad.refused;
    one_fault = λ bytes at at' why why' bad bad'.
        let p = run_one_fault_at bad.before bad'.before bad.rest bad'.rest bad.place bad'.place why why' bad.in_range bad'.in_range (sym bad.whole ∙ bad'.whole) bad.refused bad'.refused in
        (bad.at_is ∙ (p.0 ∙ sym bad'.at_is), p.1);
    persists = λ bytes more at why are_bytes not_short bad. record {
      before = bad.before;
      in_range = bad.in_range;
      rest = bad.rest ++ more;
      whole = ap (λ s. s ++ more) bad.whole ∙ append_assoc (turns_bytes item bad.before) bad.rest more;
      place = bad.place;
      at_is = bad.at_is;
      refused = turn_laws.persists bad.rest more bad.place why (IsBytes-rest (turns_bytes item bad.before) bad.rest (subst IsBytes bad.whole are_bytes)) not_short bad.refused;
    };
    no_trailing = λ bytes at bad. turn_laws.no_trailing bad.rest bad.place bad.refused;
    bounded = λ xs fits. tt;
    short = λ bytes at bad. tt;
  }
