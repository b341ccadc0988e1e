-- What the readers of a solution answer, where one part stands behind another.
use Rattle.std.proofs.Common.{◌≡◌, ℕ, zero, suc, ◌+◌, ◌^◌, ◌<◌, ◌≤◌, List, [], ◌∷◌, ◌++◌, length, get_or, refl, sym, ◌∙◌, ap, subst, inl, inr, arith, append_assoc, length-append, append-nil, zero-add}
use Rattle.std.specs.Prelude.{Err}
use Rattle.scale_wire.specs.declared.fault.Why.{Why}
use Rattle.scale_wire.specs.declared.fault.WireFault.{WireFault}
use Rattle.scale_wire.specs.declared.fault.ReadFault.{ReadFault}
use Rattle.scale_wire.specs.declared.fault.ReadFault.TheVariants.{Wire, NoMemory}
use Rattle.std.specs.List.{AllByRecursion, flat_map}
use Rattle.std.proofs.lemmas.Grind.{flat_map-append}
use Rattle.scale_wire.specs.Form.{Form}
use Rattle.scale_wire.specs.Compact.{compact_bytes}
use Rattle.scale_wire.specs.CompactRange.{Suits}
use Rattle.scale_wire.specs.CompactWritingLaws.{gives_back}
use Rattle.scale_wire.specs.CompactLaws.{suits_u16, suits_u32}
use Rattle.scale_wire.specs.Composite.{pair, triple, items, row, row_bytes, IsRow, BadRow}
use Rattle.scale_wire.specs.Reading.{Place, IsRead, IsFault, Reads}
use Rattle.scale_wire.proofs.ReadLemmas.{behind_fault}
use Rattle.compact_solution.specs.Solution.{Entry, share_form, entry_form}

-- the second of a pair was refused; `here` is a copy of the cursor as it was
pub pair_fault : {A B : Type 0} (a : Form A) (b : Form B) (old here mid new : Place) (first : A) (fault : WireFault) → here ≡ old
    → IsRead a here first mid → IsFault b mid fault new → IsFault (pair a b) old fault old
pair_fault a b old here mid new first fault same read refused =
    subst (λ (o : Place). IsFault (pair a b) o fault o) same (behind_fault a (λ _. b.bad) here mid new first fault read refused)

module _ {A B C : Type 0} (a : Form A) (b : Form B) (c : Form C) where
  -- the second of three was refused
  pub second_err : (old here mid new : Place) (first : A) (fault : ReadFault) → here ≡ old
      → IsRead a here first mid → Reads b mid (Err fault) new → Reads (triple a b c) old (Err fault) old
  second_err old here mid new first (Wire fault) same read refused =
      subst (λ (o : Place). IsFault (triple a b c) o fault o) same
      (behind_fault a (λ _. (pair b c).bad) here mid new first fault read record {
        place = refused.place;
        bad = inl refused.bad;
        at_is = refused.at_is;
        unchanged = refused.unchanged;
      })
  second_err old here mid new first NoMemory same read refused = refl

  -- the third of three was refused
  pub third_fault : (old here mid next new : Place) (first : A) (second : B) (fault : WireFault) → here ≡ old
      → IsRead a here first mid → IsRead b mid second next → IsFault c next fault new → IsFault (triple a b c) old fault old
  third_fault old here mid next new first second fault same read more refused =
      subst (λ (o : Place). IsFault (triple a b c) o fault o) same
      (behind_fault a (λ _. (pair b c).bad) here mid mid first fault read
      (behind_fault b (λ _. c.bad) mid next new second fault more refused))

-- nothing is read of no items
pub none_read : {A : Type 0} (item : Form A) (place : Place) → IsRead (items item 0) place [] place
none_read item place = record { in_range = (tt, refl); whole = refl; at_is = omega arith }

-- ## Entries of a single target

compact_some : (most limit longest number : ℕ) → Suits most limit longest → number < limit → 1 ≤ length (compact_bytes number)
compact_some most limit longest number suits fits =
    omega (arith, (gives_back most limit longest number [] suits fits).kept.some, length-append {A = ℕ} (compact_bytes number) [])

-- such an entry has two bytes or more
pub single_long : (old new : Place) (entry : Entry) → IsRead (entry_form 0) old entry new → length new.rest + 2 ≤ length old.rest
single_long old new entry read =
    let shares : List ℕ = flat_map share_form.spelling entry.shares in
    let voter : List ℕ = compact_bytes entry.voter in
    let last : List ℕ = compact_bytes entry.last in
    let whole : old.rest ≡ (voter ++ (shares ++ last)) ++ new.rest = read.whole in
    omega (
      arith,
      ap length whole,
      length-append (voter ++ (shares ++ last)) new.rest,
      length-append voter (shares ++ last),
      length-append shares last,
      compact_some 4 (2 ^ 32) 5 entry.voter suits_u32 read.in_range.0,
      compact_some 0 (2 ^ 16) 4 entry.last suits_u16 read.in_range.2,
    )

all_more : {A : Type 0} (P : A → Type 0) (xs : List A) (x : A) → AllByRecursion P xs → P x → AllByRecursion P (xs ++ x ∷ [])
all_more P [] x all here = (here, tt)
all_more P (y ∷ xs) x all here = (all.0, all_more P xs x all.1 here)

-- one item more was read
pub items_more : {A : Type 0} (item : Form A) (done : ℕ) (old mid new : Place) (xs : List A) (x : A) → IsRead (items item done) old xs mid
    → IsRead item mid x new → IsRead (items item (done + 1)) old (xs ++ x ∷ []) new
items_more item done old mid new xs x read more =
    let front : List ℕ = flat_map item.spelling xs in
    let spelled : flat_map item.spelling (xs ++ x ∷ []) ≡ front ++ item.spelling x =
    flat_map-append item.spelling xs (x ∷ []) ∙ ap (λ (s : List ℕ). front ++ s) (append-nil (item.spelling x)) in
    record {
      in_range = (all_more item.in_range xs x read.in_range.0 more.in_range, omega (arith, length-append xs (x ∷ []), read.in_range.1));
      whole = read.whole ∙ (ap (λ (s : List ℕ). front ++ s) more.whole
          ∙ (sym (append_assoc front (item.spelling x) new.rest) ∙ ap (λ (s : List ℕ). s ++ new.rest) (sym spelled)));
      at_is = omega (arith, read.at_is, more.at_is, ap length spelled, length-append front (item.spelling x));
    }

-- ## Rows

module _ {A : Type 0} (item : ℕ → Form A) where
  bad_row : (xs : List A) (first count : ℕ) → length xs < count → IsRow item first (length xs) xs → (rest : List ℕ) (place : ℕ) (why : Why)
      → (item (first + length xs)).bad rest place why
      → BadRow item first count (row_bytes item first xs ++ rest) (length (row_bytes item first xs) + place) why
  bad_row xs first zero below fits rest place why bad = absurd (omega (arith, below))
  bad_row [] first (suc count) below fits rest place why bad =
      let at : first + 0 ≡ first = omega arith in
      let here : (item first).bad rest place why = subst (λ (n : ℕ). (item n).bad rest place why) at bad in
      inl (subst (λ (n : ℕ). (item first).bad rest n why) (sym (zero-add place)) here)
  bad_row (x ∷ xs) first (suc count) below fits rest place why bad = inr record {
    first = x;
    in_range = fits.0;
    rest = row_bytes item (suc first) xs ++ rest;
    whole = append_assoc ((item first).spelling x) (row_bytes item (suc first) xs) rest;
    place = length (row_bytes item (suc first) xs) + place;
    at_is = omega (arith, length-append ((item first).spelling x) (row_bytes item (suc first) xs));
    refused =
        let next : first + suc (length xs) ≡ suc first + length xs = omega arith in
        bad_row xs (suc first) count (omega (arith, below)) fits.1 rest place why (subst (λ (n : ℕ). (item n).bad rest place why) next bad);
  }

  row_length : (first count : ℕ) (xs : List A) → IsRow item first count xs → length xs ≡ count
  row_length first zero [] fits = refl
  row_length first zero (x ∷ xs) fits = absurd fits
  row_length first (suc count) [] fits = absurd fits
  row_length first (suc count) (x ∷ xs) fits = omega (arith, row_length (suc first) count xs fits.1)

  row_fault : (count done : ℕ) (old mid new : Place) (xs : List A) (fault : WireFault) → done < count
      → IsRead (row item 0 done) old xs mid → IsFault (item done) mid fault new → IsFault (row item 0 count) old fault old
  row_fault count done old mid new xs fault below read refused =
      let long : length xs ≡ done = row_length 0 done xs read.in_range in
      let place : 0 + length xs ≡ done = omega (arith, long) in
      record {
        place = length (row_bytes item 0 xs) + refused.place;
        bad = subst (λ (s : List ℕ). BadRow item 0 count s (length (row_bytes item 0 xs) + refused.place) fault.why) (sym read.whole)
            (bad_row xs 0 count (omega (arith, below, long)) (subst (λ (n : ℕ). IsRow item 0 n xs) (sym long) read.in_range) mid.rest refused.place fault.why
            (subst (λ (n : ℕ). (item n).bad mid.rest refused.place fault.why) (sym place) refused.bad));
        at_is = omega (arith, refused.at_is, read.at_is);
        unchanged = refl;
      }

  -- one item of a row was refused; `here` is a copy of the cursor as it was
  pub row_err : (count done : ℕ) (old here mid new : Place) (xs : List A) (fault : ReadFault) → here ≡ old → done < count
      → IsRead (row item 0 done) here xs mid → Reads (item done) mid (Err fault) new → Reads (row item 0 count) old (Err fault) old
  row_err count done old here mid new xs (Wire fault) same below read refused =
      subst (λ (o : Place). IsFault (row item 0 count) o fault o) same (row_fault count done here mid new xs fault below read refused)
  row_err count done old here mid new xs NoMemory same below read refused = refl

  row_more : (first count : ℕ) (xs : List A) (x : A) → IsRow item first count xs → (item (first + count)).in_range x
      → IsRow item first (suc count) (xs ++ x ∷ [])
  row_more first zero [] x fits here =
      let at : first + 0 ≡ first = omega arith in (subst (λ (n : ℕ). (item n).in_range x) at here, tt)
  row_more first zero (y ∷ xs) x fits here = absurd fits
  row_more first (suc count) [] x fits here = absurd fits
  row_more first (suc count) (y ∷ xs) x fits here =
      let at : first + suc count ≡ suc first + count = omega arith in
      (fits.0, row_more (suc first) count xs x fits.1 (subst (λ (n : ℕ). (item n).in_range x) at here))

  pub row_bytes-append : (first : ℕ) (xs ys : List A) → row_bytes item first (xs ++ ys) ≡ row_bytes item first xs ++ row_bytes item (first + length xs) ys
  row_bytes-append first [] ys = let at : first ≡ first + 0 = omega arith in ap (λ (n : ℕ). row_bytes item n ys) at
  row_bytes-append first (x ∷ xs) ys =
      let at : suc first + length xs ≡ first + suc (length xs) = omega arith in
      ap (λ (s : List ℕ). (item first).spelling x ++ s) (row_bytes-append (suc first) xs ys)
      ∙ (sym (append_assoc ((item first).spelling x) (row_bytes item (suc first) xs) (row_bytes item (suc first + length xs) ys))
      ∙ ap (λ (n : ℕ). ((item first).spelling x ++ row_bytes item (suc first) xs) ++ row_bytes item n ys) at)

  pub row_bytes_more : (xs : List A) (x : A) (count : ℕ) → length xs ≡ count → row_bytes item 0 (xs ++ x ∷ []) ≡ row_bytes item 0 xs ++ (item count).spelling x
  row_bytes_more xs x count long =
      let at : 0 + length xs ≡ count = omega (arith, long) in
      row_bytes-append 0 xs (x ∷ [])
      ∙ ap (λ (s : List ℕ). row_bytes item 0 xs ++ s) (append-nil ((item (0 + length xs)).spelling x) ∙ ap (λ (n : ℕ). (item n).spelling x) at)

  -- one item more of a row was read
  pub row_read : (done : ℕ) (old mid new : Place) (xs : List A) (x : A) → IsRead (row item 0 done) old xs mid
      → IsRead (item done) mid x new → IsRead (row item 0 (done + 1)) old (xs ++ x ∷ []) new
  row_read done old mid new xs x read more =
      let at : done ≡ 0 + done = omega arith in
      let next : suc done ≡ done + 1 = omega arith in
      let spelled : row_bytes item 0 (xs ++ x ∷ []) ≡ row_bytes item 0 xs ++ (item done).spelling x =
      row_bytes_more xs x done (row_length 0 done xs read.in_range) in
      record {
        in_range = subst (λ (n : ℕ). IsRow item 0 n (xs ++ x ∷ [])) next
            (row_more 0 done xs x read.in_range (subst (λ (n : ℕ). (item n).in_range x) at more.in_range));
        whole = read.whole ∙ (ap (λ (s : List ℕ). row_bytes item 0 xs ++ s) more.whole
            ∙ (sym (append_assoc (row_bytes item 0 xs) ((item done).spelling x) new.rest)
            ∙ ap (λ (s : List ℕ). s ++ new.rest) (sym spelled)));
        at_is = omega (arith, read.at_is, more.at_is, ap length spelled, length-append (row_bytes item 0 xs) ((item done).spelling x));
      }

-- a row of `count` items has that many
pub row_count : {A : Type 0} (item : ℕ → Form A) (count : ℕ) (xs : List A) → IsRow item 0 count xs → length xs ≡ count
row_count item count xs fits = row_length item 0 count xs fits

-- one item of a row
pub row_item : {A : Type 0} (item : ℕ → Form A) (count : ℕ) (xs : List A) (i : ℕ) (d : A) → IsRow item 0 count xs → i < count → (item i).in_range (get_or xs i d)
row_item {A = A} item count xs i d fits below =
    let at : 0 + i ≡ i = zero-add i in
    subst (λ (n : ℕ). (item n).in_range (get_or xs i d)) at (item_at 0 count xs i fits below)
  where
    item_at : (first count : ℕ) (xs : List A) (i : ℕ) → IsRow item first count xs → i < count → (item (first + i)).in_range (get_or xs i d)
    item_at first zero xs i fits below = absurd (omega (arith, below))
    item_at first (suc count) [] i fits below = absurd fits
    item_at first (suc count) (x ∷ xs) zero fits below =
        let at : first ≡ first + 0 = omega arith in subst (λ (n : ℕ). (item n).in_range x) at fits.0
    item_at first (suc count) (x ∷ xs) (suc i) fits below =
        let at : suc first + i ≡ first + suc i = omega arith in
        subst (λ (n : ℕ). (item n).in_range (get_or xs i d)) at (item_at (suc first) count xs i fits.1 (omega (arith, below)))
