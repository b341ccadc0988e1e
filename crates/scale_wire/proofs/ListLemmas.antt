-- What readers and writers of lists answer.
use Rattle.std.proofs.Common.{◌≡◌, ℕ, zero, suc, ◌+◌, ◌<◌, List, [], ◌∷◌, ◌++◌, length, take, drop, get_or, refl, sym, ◌∙◌, ap, subst, inl, inr, arith, append_assoc, length-append, zero-add}
use Rattle.std.specs.Prelude.{Err}
use Rattle.std.specs.List.{AllByRecursion, flat_map}
use Rattle.std.proofs.lemmas.Grind.{flat_map-append}
use Rattle.std.proofs.lemmas.List.{take-append-drop}
use Rattle.std.proofs.Math.Seq.{drop-cons}
use Rattle.scale_wire.specs.declared.fault.Why.{Why}
use Rattle.scale_wire.specs.declared.fault.WireFault.{WireFault}
use Rattle.scale_wire.specs.declared.fault.ReadFault.{ReadFault}
use Rattle.scale_wire.specs.declared.fault.ReadFault.TheVariants.{Wire, NoMemory}
use Rattle.scale_wire.specs.Form.{Form}
use Rattle.scale_wire.specs.Parts.{length_form, byte_string}
use Rattle.scale_wire.specs.Composite.{items, BadItems, list, byte_list, optional, run, turns_bytes}
use Rattle.scale_wire.specs.Reading.{Place, Passes, IsRead, IsFault, Reads, HasFront}
use Rattle.scale_wire.proofs.ReadLemmas.{behind_fault, front_more, front_behind}

-- an item was refused; `here` is a copy of the cursor as it was
pub list_err : {A : Type 0} (item : Form A) (limit : ℕ) (old here mid new : Place) (count : ℕ) (fault : ReadFault)
    → here ≡ old → IsRead (length_form limit) here count mid → Reads (items item count) mid (Err fault) new
    → Reads (list item limit) old (Err fault) old
list_err item limit old here mid new count (Wire fault) same read refused =
    subst (λ (o : Place). IsFault (list item limit) o fault o) same (behind_fault (length_form limit) (BadItems item) here mid new count fault read refused)
list_err item limit old here mid new count NoMemory same read refused = refl

-- fewer bytes are left than their length says
pub byte_list_err : (limit : ℕ) (old here mid new : Place) (count : ℕ) (fault : WireFault) → here ≡ old
    → IsRead (length_form limit) here count mid → IsFault (byte_string count) mid fault new
    → Reads (byte_list limit) old (Err (Wire fault)) old
byte_list_err limit old here mid new count fault same read refused =
    subst (λ (o : Place). IsFault (byte_list limit) o fault o) same (behind_fault (length_form limit) (λ n. (byte_string n).bad) here mid new count fault read refused)

module _ {A : Type 0} (item : Form A) where
  bad_items : (xs : List A) (count : ℕ) → length xs < count → AllByRecursion item.in_range xs
      → (rest : List ℕ) (place : ℕ) (why : Why) → item.bad rest place why
      → BadItems item count (flat_map item.spelling xs ++ rest) (length (flat_map item.spelling xs) + place) why
  bad_items xs zero below fits rest place why bad = absurd (omega (arith, below))
  bad_items [] (suc count) below fits rest place why bad = inl (subst (λ (n : ℕ). item.bad rest n why) (sym (zero-add place)) bad)
  bad_items (x ∷ xs) (suc count) below fits rest place why bad = inr record {
    first = x;
    in_range = fits.0;
    rest = flat_map item.spelling xs ++ rest;
    whole = append_assoc (item.spelling x) (flat_map item.spelling xs) rest;
    place = length (flat_map item.spelling xs) + place;
    at_is = omega (arith, length-append (item.spelling x) (flat_map item.spelling xs));
    refused = bad_items xs count (omega (arith, below)) fits.1 rest place why bad;
  }

  items_fault : (count done : ℕ) (old mid new : Place) (xs : List A) (fault : WireFault) → done < count
      → IsRead (items item done) old xs mid → IsFault item mid fault new → IsFault (items item count) old fault old
  items_fault count done old mid new xs fault below read refused = record {
    place = length (flat_map item.spelling xs) + refused.place;
    bad = subst (λ (s : List ℕ). BadItems item count s (length (flat_map item.spelling xs) + refused.place) fault.why) (sym read.whole)
        (bad_items xs count (omega (arith, below, read.in_range.1)) read.in_range.0 mid.rest refused.place fault.why refused.bad);
    at_is = omega (arith, refused.at_is, read.at_is);
    unchanged = refl;
  }

  -- one of the items was refused; `here` is a copy of the cursor as it was
  pub items_err : (count done : ℕ) (old here mid new : Place) (xs : List A) (fault : ReadFault) → here ≡ old
      → done < count → IsRead (items item done) here xs mid → Reads item mid (Err fault) new
      → Reads (items item count) old (Err fault) old
  items_err count done old here mid new xs (Wire fault) same below read refused =
      subst (λ (o : Place). IsFault (items item count) o fault o) same (items_fault count done here mid new xs fault below read refused)
  items_err count done old here mid new xs NoMemory same below read refused = refl

-- behind whole items a tag or an item was refused; `here` is a copy of the cursor as it was
pub run_err : {A : Type 0} (item : Form A) (old here mid new : Place) (xs : List A) (fault : ReadFault) → here ≡ old
    → Passes (AllByRecursion item.in_range xs) (turns_bytes item xs) here mid → Reads (optional item) mid (Err fault) new → Reads (run item) old (Err fault) old
run_err item old here mid new xs (Wire fault) same read refused = subst (λ (o : Place). IsFault (run item) o fault o) same record {
  place = length (turns_bytes item xs) + refused.place;
  bad = record {
    before = xs;
    in_range = read.in_range;
    rest = mid.rest;
    whole = read.whole;
    place = refused.place;
    at_is = refl;
    refused = refused.bad;
  };
  at_is = omega (arith, refused.at_is, read.at_is);
  unchanged = refl;
}
run_err item old here mid new xs NoMemory same read refused = refl

-- the items so far were written, and a front of the next one
pub items_front : {A : Type 0} (f : A → List ℕ) (xs : List A) (i : ℕ) (x : A) (old mid new : List ℕ) → i < length xs
    → x ≡ get_or xs i x → mid ≡ old ++ flat_map f (take i xs) → HasFront (f x) mid new
    → HasFront (flat_map f xs) old new
items_front f xs i x old mid new below here written has =
    let rest : List ℕ = flat_map f (drop (suc i) xs) in
    let split : flat_map f xs ≡ flat_map f (take i xs) ++ (f x ++ rest) =
    ap (flat_map f) (sym (take-append-drop i xs))
    ∙ (flat_map-append f (take i xs) (drop i xs)
    ∙ ap (λ ys. flat_map f (take i xs) ++ flat_map f ys) (drop-cons xs i x below ∙ ap (λ y. y ∷ drop (suc i) xs) (sym here))) in
    subst (λ (s : List ℕ). HasFront s old new) (sym split)
    (front_behind (flat_map f (take i xs)) (f x ++ rest) old mid new written (front_more (f x) rest mid new has))

-- the same where each item stands behind a 1
pub turns_front : {A : Type 0} (item : Form A) (xs : List A) (i : ℕ) (x : A) (old mid new : List ℕ) → i < length xs
    → x ≡ get_or xs i x → mid ≡ old ++ turns_bytes item (take i xs) → HasFront (1 ∷ item.spelling x) mid new
    → HasFront (turns_bytes item xs) old new
turns_front item xs i x old mid new below here written has = items_front (λ y. 1 ∷ item.spelling y) xs i x old mid new below here written has
