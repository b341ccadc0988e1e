-- The bags stay sound: they fall along the walk, and each is the bag of some score.
use Rattle.std.proofs.Common.{◌≡◌, ℕ, zero, suc, ◌+◌, ◌≤◌, ◌<◌, ◌^◌, Bool, true, false, cond, not, nat_eq, is_some, if◌then◌else◌, All, List, [], ◌∷◌, ◌++◌, length, Some, refl, sym, arith, true≢false}
use Rattle.std.specs.List.{AllPairs}
use Rattle.std.proofs.lemmas.List.Elements.{All-nil, All-cons, All-head, All-tail, All-append, All-filter, All-weaker}
use Rattle.std.proofs.lemmas.List.Kept.{AllPairs-cons}
use Rattle.npos_base.specs.declared.account.AccountId.{AccountId}
use Rattle.npos_base.specs.Account.{same_account}
use Rattle.npos_base.proofs.NumberTests.{number_tie}
use Rattle.voter_lists.specs.Bags.{Order, Listing, bag_of, number_of, number_at, is_listed, is_at_home, in_bag, from_bag}
use Rattle.voter_lists.specs.Bags.{joined, left, placed_before, arranged, inserted, removed, moved, updated, put_in_front}
use Rattle.npos_runtime.specs.Rules.Lists.{followed, unlisted, placed}
use Rattle.npos_runtime.specs.Kept.Sound.{HasScore}

-- ## The walk falls

pairs_append : {X : Type 0} (R : X → X → Type 0) (xs ys : List X) → AllPairs R xs → AllPairs R ys → All (λ x. All (R x) ys) xs → AllPairs R (xs ++ ys)
pairs_append R [] ys first second between = second
pairs_append R (x ∷ xs) ys first second between =
    AllPairs-cons R x (xs ++ ys)
    (All-append (R x) xs ys (λ k d within. first zero (suc k) d (omega arith) (omega arith)) (All-head (λ z. All (R z) ys) x xs between))
    (pairs_append R xs ys (λ i j d below within. first (suc i) (suc j) d (omega arith) (omega arith)) second (All-tail (λ z. All (R z) ys) x xs between))

abbrev Falls : AccountId × ℕ → AccountId × ℕ → Type 0
Falls first later = later.1 ≤ first.1

all_in_bag : (number : ℕ) (order : Order) → All (λ (entry : AccountId × ℕ). entry.1 ≡ number) (in_bag number order)
all_in_bag number [] = All-nil (λ (entry : AccountId × ℕ). entry.1 ≡ number)
all_in_bag number (entry ∷ order) = at (nat_eq entry.1 number) refl (all_in_bag number order) where
  at : (b : Bool) → nat_eq entry.1 number ≡ b → All (λ (e : AccountId × ℕ). e.1 ≡ number) (in_bag number order)
      → All (λ (e : AccountId × ℕ). e.1 ≡ number) (cond b (entry ∷ in_bag number order) (in_bag number order))
  at true is rest = All-cons (λ (e : AccountId × ℕ). e.1 ≡ number) entry (in_bag number order) (number_tie entry.1 number is) rest
  at false is rest = rest

all_from : (number more : ℕ) (order : Order) → All (λ (entry : AccountId × ℕ). number ≤ entry.1) (from_bag number more order)
all_from number zero order = All-nil (λ (entry : AccountId × ℕ). number ≤ entry.1)
all_from number (suc more) order =
    All-append (λ (entry : AccountId × ℕ). number ≤ entry.1) (from_bag (number + 1) more order) (in_bag number order)
    (All-weaker (λ (entry : AccountId × ℕ). number + 1 ≤ entry.1) (λ entry. number ≤ entry.1) (λ entry above. omega (arith, above))
    (from_bag (number + 1) more order) (all_from (number + 1) more order))
    (All-weaker (λ (entry : AccountId × ℕ). entry.1 ≡ number) (λ entry. number ≤ entry.1) (λ entry same. omega (arith, same))
    (in_bag number order) (all_in_bag number order))

falling_from : (number more : ℕ) (order : Order) → AllPairs Falls (from_bag number more order)
falling_from number zero order = λ i j d below within. absurd (omega (arith, within))
falling_from number (suc more) order =
    pairs_append Falls (from_bag (number + 1) more order) (in_bag number order) (falling_from (number + 1) more order)
    (λ i j d below within. omega (arith, all_in_bag number order i d (omega (arith, below, within)), all_in_bag number order j d within))
    (All-weaker (λ (entry : AccountId × ℕ). number + 1 ≤ entry.1) (λ entry. All (Falls entry) (in_bag number order))
    (λ entry above. All-weaker (λ (e : AccountId × ℕ). e.1 ≡ number) (Falls entry) (λ e same. omega (arith, above, same)) (in_bag number order) (all_in_bag number order))
    (from_bag (number + 1) more order) (all_from (number + 1) more order))

-- ## What holds of each bag

module _ (P : ℕ → Type 0) where
  abbrev Fits : AccountId × ℕ → Type 0
  Fits entry = P entry.1

  fit_from : (number more : ℕ) (order : Order) → All Fits order → All Fits (from_bag number more order)
  fit_from number zero order fit = All-nil Fits
  fit_from number (suc more) order fit =
      All-append Fits (from_bag (number + 1) more order) (in_bag number order) (fit_from (number + 1) more order fit)
      (All-filter (λ entry. nat_eq entry.1 number) Fits order fit)

  fit_left : (who : AccountId) (order : Order) → All Fits order → All Fits (left order who)
  fit_left who order fit = All-filter (λ entry. not (same_account entry.0 who)) Fits order fit

  fit_joined : (who : AccountId) (number : ℕ) (order : Order) → P number → All Fits order → All Fits (joined order who number)
  fit_joined who number order here fit = All-append Fits order ((who, number) ∷ []) fit (All-cons Fits (who, number) [] here (All-nil Fits))

  fit_before : (entry : AccountId × ℕ) (lighter : AccountId) (order : Order) → P entry.1 → All Fits order → All Fits (placed_before order entry lighter)
  fit_before entry lighter [] here fit = All-cons Fits entry [] here fit
  fit_before entry lighter (other ∷ order) here fit =
      at (same_account other.0 lighter) (fit_before entry lighter order here (All-tail Fits other order fit)) where
        at : (b : Bool) → All Fits (placed_before order entry lighter)
            → All Fits (if b then entry ∷ other ∷ order else other ∷ placed_before order entry lighter)
        at true rest = All-cons Fits entry (other ∷ order) here fit
        at false rest = All-cons Fits other (placed_before order entry lighter) (All-head Fits other order fit) rest

  fit_number : (who : AccountId) (order : Order) → is_listed order who ≡ true → All Fits order → P (number_at (number_of order who))
  fit_number who [] listed fit = absurd (true≢false (sym listed))
  fit_number who (entry ∷ order) listed fit =
      at (same_account entry.0 who) listed (λ is. fit_number who order is (All-tail Fits entry order fit)) where
        at : (b : Bool) → is_some (if b then Some entry.1 else number_of order who) ≡ true
            → (is_listed order who ≡ true → P (number_at (number_of order who)))
            → P (number_at (if b then Some entry.1 else number_of order who))
        at true is rest = All-head Fits entry order fit
        at false is rest = rest is

-- ## The bags after each change

pub record AreSoundBags (listing : Listing) : Type 0 where
  pub falling : AllPairs (λ (first later : AccountId × ℕ). later.1 ≤ first.1) listing.order
  pub scores : All (λ entry. HasScore listing.thresholds entry.1) listing.order

abbrev pub IsSmall : ℕ → Type 0
IsSmall score = score < 2 ^ 64

-- the bag of a score
at_score : (listing : Listing) (score : ℕ) → IsSmall score → HasScore listing.thresholds (bag_of listing.thresholds score)
at_score listing score small = (score, small, refl)

sound_arranged : (listing : Listing) (order : Order) → All (λ (entry : AccountId × ℕ). HasScore listing.thresholds entry.1) order
    → AreSoundBags (arranged listing order)
sound_arranged listing order fit = record {
  falling = falling_from 0 (length listing.thresholds + 1) order;
  scores = fit_from (HasScore listing.thresholds) 0 (length listing.thresholds + 1) order fit;
}

module _ (listing : Listing) (who : AccountId) (sound : AreSoundBags listing) where
  pub sound_inserted : (score : ℕ) → IsSmall score → AreSoundBags (inserted listing who score)
  sound_inserted score small =
      sound_arranged listing (joined listing.order who (bag_of listing.thresholds score))
      (fit_joined (HasScore listing.thresholds) who (bag_of listing.thresholds score) listing.order (at_score listing score small) sound.scores)

  pub sound_removed : AreSoundBags (removed listing who)
  sound_removed = sound_arranged listing (left listing.order who) (fit_left (HasScore listing.thresholds) who listing.order sound.scores)

  pub sound_moved : (score : ℕ) → IsSmall score → AreSoundBags (moved listing who score)
  sound_moved score small =
      sound_arranged listing (joined (left listing.order who) who (bag_of listing.thresholds score))
      (fit_joined (HasScore listing.thresholds) who (bag_of listing.thresholds score) (left listing.order who) (at_score listing score small)
      (fit_left (HasScore listing.thresholds) who listing.order sound.scores))

  sound_updated : (score : ℕ) → IsSmall score → AreSoundBags (updated listing who score)
  sound_updated score small = at (is_at_home listing who score) where
    at : (b : Bool) → AreSoundBags (if b then listing else moved listing who score)
    at true = sound
    at false = sound_moved score small

  pub sound_followed : (score : ℕ) → IsSmall score → AreSoundBags (followed listing who score)
  sound_followed score small = at (is_listed listing.order who) where
    at : (b : Bool) → AreSoundBags (if b then updated listing who score else listing)
    at true = sound_updated score small
    at false = sound

  sound_unlisted : AreSoundBags (unlisted listing who)
  sound_unlisted = at (is_listed listing.order who) where
    at : (b : Bool) → AreSoundBags (if b then removed listing who else listing)
    at true = sound_removed
    at false = sound

  pub sound_front : (lighter : AccountId) → is_listed listing.order who ≡ true → AreSoundBags (put_in_front listing who lighter)
  sound_front lighter listed = at (same_account who lighter) where
    entry : AccountId × ℕ
    entry = (who, number_at (number_of listing.order who))

    at : (b : Bool) → AreSoundBags (if b then listing else arranged listing (placed_before (left listing.order who) entry lighter))
    at true = sound
    at false =
        sound_arranged listing (placed_before (left listing.order who) entry lighter)
        (fit_before (HasScore listing.thresholds) entry lighter (left listing.order who)
        (fit_number (HasScore listing.thresholds) who listing.order listed sound.scores)
        (fit_left (HasScore listing.thresholds) who listing.order sound.scores))

pub sound_placed : (listing : Listing) (who : AccountId) → AreSoundBags listing → (stays : Bool) (score : ℕ) → IsSmall score
    → AreSoundBags (placed stays listing who score)
sound_placed listing who sound true score small = sound
sound_placed listing who sound false score small =
    sound_inserted (unlisted listing who) who (sound_unlisted listing who sound) score small
