-- Many offers, and what the rank keeps.
use Rattle.std.proofs.Common.{◌≡◌, ℕ, zero, suc, ◌+◌, Bool, true, false, cond, not, ◌&&◌, List, [], ◌∷◌, ◌++◌, length, take, get_or}
use Rattle.std.proofs.Common.{fold, find, filter, All, AllPairs, Contains, Option, Some, None, MatchOption, IsPermutation, IsSortedBy}
use Rattle.std.proofs.Common.{refl, sym, ◌∙◌, ap, ap₂, subst, true≢false, append_assoc, arith, nat_lt, length-append}
use Rattle.std.proofs.lemmas.Grind.{common_steps}
use Rattle.std.proofs.lemmas.Bool.Decides.{nat_tests}
use Rattle.std.proofs.lemmas.List.{append-nil, take_all}
use Rattle.std.proofs.lemmas.List.Elements.{All-nil, All-cons, filter-append}
use Rattle.std.proofs.lemmas.List.Sums.{fold-append}
use Rattle.std.proofs.lemmas.List.Sorted.{IsPermutation-refl, IsPermutation-trans, IsPermutation-middle, IsPermutation-append_left, IsPermutation-insert, Contains-permutation}
use Rattle.std.proofs.Math.Seq.{take-nil}
use Rattle.std.specs.List.{position_or_len}
use Rattle.std.specs.List.Sorted.{IsStableBy, ties}
use Rattle.npos_base.specs.declared.figures.Score.{Score}
use Rattle.npos_base.specs.Score.{is_better}
use Rattle.submission_queue.specs.declared.submission.Submission.{Submission}
use Rattle.submission_queue.specs.Rank.{outranks, placed, ranked, IsRanked}
use Rattle.submission_queue.specs.Ranking.{Ranking, empty_queue, offered, after_offers}
use Rattle.submission_queue.specs.Laws.{BestOfAllLaw, BestOfBothLaw, CrowdingLaw, OffersAppendLaw, OffersRestoreLaw}
use Rattle.submission_queue.proofs.RankLemmas.{no_better_than_itself, ranked_placed, ranked_ranked, ranked_same, ranked_take, take_placed, inserted_is_placed}
use Rattle.submission_queue.proofs.QueueLemmas.{offered_placed}

-- an offer to a queue that holds the best n
offered_cut : (n : ℕ) (acc : List Submission) (x : Submission) → IsRanked acc
    → offered (record { items = take n acc; places = n }) x ≡ record { items = take n (placed acc x); places = n }
offered_cut n acc x h =
    ap (λ (zs : List Submission). record { items = zs; places = n }) (offered_placed n (take n acc) x (ranked_take n acc h) ∙ take_placed n acc x)

offers_cut : (n : ℕ) (acc offers : List Submission) → IsRanked acc
    → after_offers (record { items = take n acc; places = n }) offers ≡ record { items = take n (fold placed acc offers); places = n }
offers_cut n acc [] h = refl
offers_cut n acc (x ∷ rest) h = ap (λ q. fold offered q rest) (offered_cut n acc x h) ∙ offers_cut n (placed acc x) rest (ranked_placed acc x h)

pub best_of_all : BestOfAllLaw
best_of_all n offers =
    ap (λ (q : Ranking). q.items)
    (ap (λ zs. after_offers (record { items = zs; places = n }) offers) (sym (take-nil n)) ∙ offers_cut n [] offers tt)

pub best_of_both : BestOfBothLaw
best_of_both queue offers h =
    ap (λ (q : Ranking). q.items)
    (ap (λ zs. after_offers (record { items = zs; places = queue.places }) offers) (sym (take_all queue.places queue.items h.fits))
    ∙ offers_cut queue.places queue.items offers h.by_rank)
    ∙ ap (λ zs. take queue.places zs)
    (ap (λ zs. fold placed zs offers) (sym (ranked_same queue.items h.by_rank)) ∙ sym (fold-append placed [] queue.items offers))

-- ranking rearranges
placed_permutation : (xs : List Submission) (x : Submission) → IsPermutation (x ∷ xs) (placed xs x)
placed_permutation xs x =
    subst (λ zs. IsPermutation (x ∷ xs) zs) (inserted_is_placed xs x)
    (IsPermutation-insert xs (position_or_len (λ queued. is_better x.score queued.score) xs) x)

fold_permutation : (acc xs : List Submission) → IsPermutation (acc ++ xs) (fold placed acc xs)
fold_permutation acc [] = subst (λ zs. IsPermutation zs acc) (sym (append-nil acc)) (IsPermutation-refl acc)
fold_permutation acc (x ∷ rest) =
    IsPermutation-trans (acc ++ x ∷ rest) (x ∷ (acc ++ rest)) (fold placed (placed acc x) rest)
    (IsPermutation-middle acc x rest)
    (IsPermutation-trans (x ∷ (acc ++ rest)) (placed acc x ++ rest) (fold placed (placed acc x) rest)
    (IsPermutation-append_left rest (x ∷ acc) (placed acc x) (placed_permutation acc x))
    (fold_permutation (placed acc x) rest))

pub rank_permutation : (xs : List Submission) → IsPermutation xs (ranked xs)
rank_permutation xs = fold_permutation [] xs

-- no later one outranks an earlier one, by places
ranked_pairs : (xs : List Submission) → IsRanked xs → AllPairs (λ earlier later. outranks later earlier ≡ false) xs
ranked_pairs [] h i j d before within = absurd (omega arith)
ranked_pairs (first ∷ rest) h zero zero d before within = absurd (omega arith)
ranked_pairs (first ∷ rest) h (suc i) zero d before within = absurd (omega arith)
ranked_pairs (first ∷ rest) h zero (suc j) d before within = h.0 j d (omega arith)
ranked_pairs (first ∷ rest) h (suc i) (suc j) d before within = ranked_pairs rest h.1 i j d (omega arith) (omega arith)

pub rank_sorted : (xs : List Submission) → IsSortedBy outranks (ranked xs)
rank_sorted xs k d from within = ranked_pairs (ranked xs) (ranked_ranked xs) k (k + 1) d (omega arith) within

-- what ties with an item that outranks another ties with none behind that other
ties_apart : (x y first other : Score) → is_better y first ≡ true → is_better other first ≡ false
    → (not (is_better x y) && not (is_better y x)) ≡ true → (not (is_better x other) && not (is_better other x)) ≡ false
ties_apart x y first other better behind tie = grind (arith, nat_tests)

filter_none : (p : Submission → Bool) (xs : List Submission) → All (λ x. p x ≡ false) xs → filter p xs ≡ []
filter_none p [] h = refl
filter_none p (x ∷ xs) h = at (p x) (h 0 x (omega arith)) (filter_none p xs (λ k d within. h (suc k) d (omega arith))) where
  at : (b : Bool) → b ≡ false → filter p xs ≡ [] → cond b (x ∷ filter p xs) (filter p xs) ≡ []
  at true e more = absurd (true≢false e)
  at false e more = more

-- placing an item leaves those that tie with x in the order in which they came
placed_ties : (x : Submission) (acc : List Submission) (y : Submission) → IsRanked acc
    → filter (ties outranks x) (placed acc y) ≡ filter (ties outranks x) acc ++ filter (ties outranks x) (y ∷ [])
placed_ties x [] y h = refl
placed_ties x (first ∷ rest) y h = at (outranks y first) refl (placed_ties x rest y h.1) where
  tied : Submission → Bool
  tied other = ties outranks x other

  apart : outranks y first ≡ true → ties outranks x y ≡ true → All (λ other. ties outranks x other ≡ false) (first ∷ rest)
  apart better tie zero d within = ties_apart x.score y.score first.score first.score better (no_better_than_itself first.score) tie
  apart better tie (suc k) d within = ties_apart x.score y.score first.score (get_or rest k d).score better (h.0 k d (omega arith)) tie

  front : outranks y first ≡ true → (b : Bool) → ties outranks x y ≡ b
      → cond b (y ∷ filter (ties outranks x) (first ∷ rest)) (filter (ties outranks x) (first ∷ rest))
      ≡ filter (ties outranks x) (first ∷ rest) ++ cond b (y ∷ []) []
  front better true tie =
      let none : filter (ties outranks x) (first ∷ rest) ≡ [] = filter_none (ties outranks x) (first ∷ rest) (apart better tie) in
      ap (λ zs. y ∷ zs) none ∙ sym (ap (λ zs. zs ++ y ∷ []) none)
  front better false tie = sym (append-nil (filter (ties outranks x) (first ∷ rest)))

  behind : (b : Bool) → filter (ties outranks x) (placed rest y) ≡ filter (ties outranks x) rest ++ filter (ties outranks x) (y ∷ [])
      → cond b (first ∷ filter (ties outranks x) (placed rest y)) (filter (ties outranks x) (placed rest y))
      ≡ cond b (first ∷ filter (ties outranks x) rest) (filter (ties outranks x) rest) ++ filter (ties outranks x) (y ∷ [])
  behind true more = ap (λ zs. first ∷ zs) more
  behind false more = more

  at : (b : Bool) → outranks y first ≡ b
      → filter (ties outranks x) (placed rest y) ≡ filter (ties outranks x) rest ++ filter (ties outranks x) (y ∷ [])
      → filter (ties outranks x) (cond b (y ∷ first ∷ rest) (first ∷ placed rest y)) ≡ filter (ties outranks x) (first ∷ rest) ++ filter (ties outranks x) (y ∷ [])
  at true better more = front better (ties outranks x y) refl
  at false other more = behind (ties outranks x first) more

fold_ties : (x : Submission) (acc xs : List Submission) → IsRanked acc → filter (ties outranks x) (fold placed acc xs) ≡ filter (ties outranks x) (acc ++ xs)
fold_ties x acc [] h = ap (λ zs. filter (ties outranks x) zs) (sym (append-nil acc))
fold_ties x acc (y ∷ rest) h =
    fold_ties x (placed acc y) rest (ranked_placed acc y h)
    ∙ filter-append (ties outranks x) (placed acc y) rest
    ∙ ap (λ zs. zs ++ filter (ties outranks x) rest) (placed_ties x acc y h ∙ sym (filter-append (ties outranks x) acc (y ∷ [])))
    ∙ sym (filter-append (ties outranks x) (acc ++ y ∷ []) rest)
    ∙ ap (λ zs. filter (ties outranks x) zs) (append_assoc acc (y ∷ []) rest)

pub rank_stable : (xs : List Submission) → IsStableBy outranks xs (ranked xs)
rank_stable xs x = fold_ties x [] xs tt

-- the first valid one among the best n, or n invalid ones
abbrev ValidFirst : (Submission → Bool) → ℕ → List Submission → Submission → Option Submission → Type 0
ValidFirst valid n kept item found =
    MatchOption found ((length kept ≡ n) × All (λ other. valid other ≡ false) kept) (λ winner. outranks item winner ≡ false)

first_valid : (valid : Submission → Bool) (n : ℕ) (xs : List Submission) (item : Submission)
    → IsRanked xs → Contains xs item → valid item ≡ true
    → ValidFirst valid n (take n xs) item (find valid (take n xs))
first_valid valid zero xs item h held ok = (refl, All-nil (λ other. valid other ≡ false))
first_valid valid (suc n) [] item h (k, within, at) ok = absurd (omega (arith, within))
first_valid valid (suc n) (first ∷ rest) item h (zero, within, is) ok = at (valid first) (ap valid is ∙ ok) where
  at : (b : Bool) → b ≡ true → ValidFirst valid (suc n) (first ∷ take n rest) item (cond b (Some first) (find valid (take n rest)))
  at true e = ap (λ other. outranks other first) (sym is) ∙ no_better_than_itself first.score
  at false e = absurd (true≢false (sym e))
first_valid valid (suc n) (first ∷ rest) item h (suc k, within, is) ok =
    at (valid first) refl (find valid (take n rest)) (first_valid valid n rest item h.1 (k, omega (arith, within), is) ok) where
      more : (found : Option Submission) → valid first ≡ false → ValidFirst valid n (take n rest) item found → ValidFirst valid (suc n) (first ∷ take n rest) item found
      more None invalid (full, all) = (ap suc full, All-cons (λ other. valid other ≡ false) first (take n rest) invalid all)
      more (Some winner) invalid last = last

      at : (b : Bool) → valid first ≡ b → (found : Option Submission) → ValidFirst valid n (take n rest) item found
          → ValidFirst valid (suc n) (first ∷ take n rest) item (cond b (Some first) found)
      at true e found others = subst (λ other. outranks other first ≡ false) is (h.0 k item (omega (arith, within)))
      at false e found others = more found e others

pub crowding : CrowdingLaw
crowding valid n offers item held ok =
    subst (λ kept. ValidFirst valid n kept item (find valid kept)) (sym (best_of_all n offers))
    (first_valid valid n (ranked offers) item (ranked_ranked offers) (Contains-permutation offers (ranked offers) item (rank_permutation offers) held) ok)

-- ---- a queue is made anew

places_stay : (queue : Ranking) (offers : List Submission) → (after_offers queue offers).places ≡ queue.places
places_stay queue [] = refl
places_stay queue (item ∷ offers) = places_stay (offered queue item) offers

pub offers_append : OffersAppendLaw
offers_append queue item free ranks =
    let room : nat_lt (length queue.items) queue.places ≡ true = grind (arith, common_steps, free) in
    let whole : take queue.places (ranked (queue.items ++ item ∷ [])) ≡ queue.items ++ item ∷ [] =
    ap (take queue.places) (ranked_same (queue.items ++ item ∷ []) ranks)
    ∙ take_all queue.places (queue.items ++ item ∷ []) (omega (arith, free, length-append queue.items (item ∷ []))) in
    (rw room refl, ap (λ (items : List Submission). record queue { items = items }) whole)

pub offers_restore : OffersRestoreLaw
offers_restore places items fits ranks =
    let same : (after_offers (empty_queue places) items).items ≡ items =
    best_of_all places items ∙ (ap (take places) (ranked_same items ranks) ∙ take_all places items fits) in
    ap₂ (λ (waiting : List Submission) (n : ℕ). record { items = waiting; places = n }) same (places_stay (empty_queue places) items)
