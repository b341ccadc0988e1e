-- Where an item is placed among ranked ones, and what ranking keeps.
use Rattle.std.proofs.Common.{◌≡◌, ℕ, zero, suc, ◌+◌, ◌<◌, Bool, true, false, cond, not, List, [], ◌∷◌, ◌++◌, length, take}
use Rattle.std.proofs.Common.{drop, get_or, insert, fold, All, refl, sym, ◌∙◌, ap, subst, true≢false, append_assoc, arith}
use Rattle.std.proofs.lemmas.Bool.Decides.{nat_tests}
use Rattle.std.proofs.lemmas.List.{append-nil}
use Rattle.std.proofs.lemmas.List.Elements.{All-nil, All-cons, All-head, All-tail, All-take}
use Rattle.std.proofs.lemmas.List.Sums.{fold-append}
use Rattle.std.specs.List.{position_or_len}
use Rattle.npos_base.specs.declared.figures.Score.{Score}
use Rattle.npos_base.specs.Score.{is_better}
use Rattle.submission_queue.specs.declared.submission.Submission.{Submission}
use Rattle.submission_queue.specs.Rank.{outranks, placed, ranked, IsRanked}

pub no_better_than_itself : (a : Score) → is_better a a ≡ false
no_better_than_itself a = grind (arith, nat_tests)

-- what is no better than one is no better than what is better than that one
pub behind_better : (x a b : Score) → is_better x a ≡ true → is_better b a ≡ false → is_better b x ≡ false
behind_better x a b p q = grind (arith, nat_tests)

pub no_better_through : (a b c : Score) → is_better b a ≡ false → is_better c b ≡ false → is_better c a ≡ false
no_better_through a b c p q = grind (arith, nat_tests)

-- the item outranks none of them
abbrev pub OutranksNone : Submission → List Submission → Type 0
OutranksNone item others = All (λ other. outranks item other ≡ false) others

pub all_placed : (P : Submission → Type 0) (xs : List Submission) (x : Submission) → P x → All P xs → All P (placed xs x)
all_placed P [] x p h = All-cons P x [] p h
all_placed P (first ∷ rest) x p h = at (outranks x first) (all_placed P rest x p (All-tail P first rest h)) where
  at : (b : Bool) → All P (placed rest x) → All P (cond b (x ∷ first ∷ rest) (first ∷ placed rest x))
  at true more = All-cons P x (first ∷ rest) p h
  at false more = All-cons P first (placed rest x) (All-head P first rest h) more

pub ranked_placed : (xs : List Submission) (x : Submission) → IsRanked xs → IsRanked (placed xs x)
ranked_placed [] x h = (All-nil (λ later. outranks later x ≡ false), tt)
ranked_placed (first ∷ rest) x h = at (outranks x first) refl (ranked_placed rest x h.1) where
  behind : outranks x first ≡ true → (k : ℕ) (d : Submission) → k < length (first ∷ rest) → outranks (get_or (first ∷ rest) k d) x ≡ false
  behind better zero d within = behind_better x.score first.score first.score better (no_better_than_itself first.score)
  behind better (suc k) d within = behind_better x.score first.score (get_or rest k d).score better (h.0 k d (omega arith))

  at : (b : Bool) → outranks x first ≡ b → IsRanked (placed rest x) → IsRanked (cond b (x ∷ first ∷ rest) (first ∷ placed rest x))
  at true better more = (behind better, h)
  at false other more = (all_placed (λ later. outranks later first ≡ false) rest x other h.0, more)

-- an item that outranks none stands last
pub placed_last : (xs : List Submission) (x : Submission) → OutranksNone x xs → placed xs x ≡ xs ++ x ∷ []
placed_last [] x h = refl
placed_last (first ∷ rest) x h =
    at (outranks x first) (All-head (λ other. outranks x other ≡ false) first rest h)
    (placed_last rest x (All-tail (λ other. outranks x other ≡ false) first rest h)) where
      at : (b : Bool) → b ≡ false → placed rest x ≡ rest ++ x ∷ [] → cond b (x ∷ first ∷ rest) (first ∷ placed rest x) ≡ first ∷ (rest ++ x ∷ [])
      at true e more = absurd (true≢false e)
      at false e more = ap (λ zs. first ∷ zs) more

pub ranked_push : (xs : List Submission) (x : Submission) → ranked (xs ++ x ∷ []) ≡ placed (ranked xs) x
ranked_push xs x = fold-append placed [] xs (x ∷ [])

-- ranked so far
pub ranked_fold : (acc xs : List Submission) → IsRanked acc → IsRanked (fold placed acc xs)
ranked_fold acc [] h = h
ranked_fold acc (x ∷ rest) h = ranked_fold (placed acc x) rest (ranked_placed acc x h)

pub ranked_ranked : (xs : List Submission) → IsRanked (ranked xs)
ranked_ranked xs = ranked_fold [] xs tt

all_middle : (P : Submission → Type 0) (xs : List Submission) (x : Submission) (ys : List Submission) → All P (xs ++ x ∷ ys) → P x
all_middle P [] x ys h = All-head P x ys h
all_middle P (a ∷ xs) x ys h = all_middle P xs x ys (All-tail P a (xs ++ x ∷ ys) h)

outranks_none_before : (xs : List Submission) (x : Submission) (ys : List Submission) → IsRanked (xs ++ x ∷ ys) → OutranksNone x xs
outranks_none_before [] x ys h = All-nil (λ other. outranks x other ≡ false)
outranks_none_before (a ∷ xs) x ys h =
    All-cons (λ other. outranks x other ≡ false) a xs (all_middle (λ later. outranks later a ≡ false) xs x ys h.0) (outranks_none_before xs x ys h.1)

same_fold : (acc xs : List Submission) → IsRanked (acc ++ xs) → fold placed acc xs ≡ acc ++ xs
same_fold acc [] h = sym (append-nil acc)
same_fold acc (x ∷ rest) h =
    let next : placed acc x ≡ acc ++ x ∷ [] = placed_last acc x (outranks_none_before acc x rest h) in
    let joined : (acc ++ x ∷ []) ++ rest ≡ acc ++ x ∷ rest = append_assoc acc (x ∷ []) rest in
    ap (λ zs. fold placed zs rest) next
    ∙ same_fold (acc ++ x ∷ []) rest (subst IsRanked (sym joined) h)
    ∙ joined

-- what stands by rank stays
pub ranked_same : (xs : List Submission) → IsRanked xs → ranked xs ≡ xs
ranked_same xs h = same_fold [] xs h

pub ranked_take : (n : ℕ) (xs : List Submission) → IsRanked xs → IsRanked (take n xs)
ranked_take zero xs h = tt
ranked_take (suc n) [] h = tt
ranked_take (suc n) (x ∷ xs) h = (All-take (λ later. outranks later x ≡ false) n xs h.0, ranked_take n xs h.1)

pub ranked_drop : (xs : List Submission) → IsRanked xs → IsRanked (drop 1 xs)
ranked_drop [] h = tt
ranked_drop (x ∷ xs) h = h.1

take_shorter : (n : ℕ) (xs : List Submission) → take n (take (suc n) xs) ≡ take n xs
take_shorter zero xs = refl
take_shorter (suc n) [] = refl
take_shorter (suc n) (x ∷ xs) = ap (λ zs. x ∷ zs) (take_shorter n xs)

take_behind : (n : ℕ) (x : Submission) (xs : List Submission) → take n (x ∷ take n xs) ≡ take n (x ∷ xs)
take_behind zero x xs = refl
take_behind (suc n) x xs = ap (λ zs. x ∷ zs) (take_shorter n xs)

-- the best n after an item is placed are those of the best n and the item
pub take_placed : (n : ℕ) (xs : List Submission) (x : Submission) → take n (placed (take n xs) x) ≡ take n (placed xs x)
take_placed zero xs x = refl
take_placed (suc n) [] x = refl
take_placed (suc n) (first ∷ rest) x = at (outranks x first) (take_placed n rest x) where
  at : (b : Bool) → take n (placed (take n rest) x) ≡ take n (placed rest x)
      → take (suc n) (cond b (x ∷ first ∷ take n rest) (first ∷ placed (take n rest) x)) ≡ take (suc n) (cond b (x ∷ first ∷ rest) (first ∷ placed rest x))
  at true more = ap (λ zs. x ∷ zs) (take_behind n first rest)
  at false more = ap (λ zs. first ∷ zs) more

pub length_placed : (xs : List Submission) (x : Submission) → length (placed xs x) ≡ suc (length xs)
length_placed [] x = refl
length_placed (first ∷ rest) x = at (outranks x first) (length_placed rest x) where
  at : (b : Bool) → length (placed rest x) ≡ suc (length rest) → length (cond b (x ∷ first ∷ rest) (first ∷ placed rest x)) ≡ suc (suc (length rest))
  at true more = refl
  at false more = ap suc more

-- the code inserts the item at its place
pub inserted_is_placed : (xs : List Submission) (x : Submission) → insert xs (position_or_len (λ queued. is_better x.score queued.score) xs) x ≡ placed xs x
inserted_is_placed [] x = refl
inserted_is_placed (first ∷ rest) x = at (outranks x first) (inserted_is_placed rest x) where
  at : (b : Bool) → insert rest (position_or_len (λ queued. is_better x.score queued.score) rest) x ≡ placed rest x
      → insert (first ∷ rest) (cond (not b) (1 + position_or_len (λ queued. is_better x.score queued.score) rest) 0) x ≡ cond b (x ∷ first ∷ rest) (first ∷ placed rest x)
  at true more = refl
  at false more =
      let p : ℕ = position_or_len (λ queued. is_better x.score queued.score) rest in
      let next : 1 + p ≡ suc p = omega arith in
      ap (λ k. insert (first ∷ rest) k x) next ∙ ap (λ zs. first ∷ zs) more
