-- One offer, as the code makes it.
use Rattle.std.proofs.Common.{◌≡◌, ℕ, zero, suc, ◌-◌, ◌<◌, ◌≤◌, Bool, true, false, cond, List, [], ◌∷◌, ◌++◌, length, take, slice_get, Some, All, refl, sym, ◌∙◌, ap, true≢false, arith}
use Rattle.std.proofs.lemmas.List.{take_all, take_at, length-take-le}
use Rattle.std.proofs.lemmas.List.Elements.{All-nil, All-cons}
use Rattle.std.proofs.lemmas.Option.{none-some}
use Rattle.std.specs.Option.{unwrap_or}
use Rattle.submission_queue.specs.declared.submission.Submission.{Submission}
use Rattle.submission_queue.specs.Rank.{outranks, placed, ranked, IsRanked}
use Rattle.submission_queue.specs.Ranking.{Ranking, IsOrdered}
use Rattle.submission_queue.proofs.RankLemmas.{OutranksNone, no_better_through, placed_last, ranked_push, ranked_same, ranked_placed, ranked_take, length_placed}

some_injective : {a b : Submission} → Some a ≡ Some b → a ≡ b
some_injective {a} {b} e = ap (λ o. unwrap_or o a) e

-- what an offer leaves, by where the item is placed
pub offered_placed : (n : ℕ) (xs : List Submission) (x : Submission) → IsRanked xs → take n (ranked (xs ++ x ∷ [])) ≡ take n (placed xs x)
offered_placed n xs x h = ap (λ zs. take n zs) (ranked_push xs x ∙ ap (λ zs. placed zs x) (ranked_same xs h))

-- with a free place
pub placed_fits : (n : ℕ) (xs : List Submission) (x : Submission) → IsRanked xs → length xs < n → placed xs x ≡ take n (ranked (xs ++ x ∷ []))
placed_fits n xs x h free =
    sym (offered_placed n xs x h ∙ take_all n (placed xs x) (omega (arith, length_placed xs x)))

-- in a full queue, with a better claim than the last: the last leaves, and the item is placed
placed_over : (n : ℕ) (xs : List Submission) (x last : Submission) → slice_get xs n ≡ Some last → outranks x last ≡ true → placed (take n xs) x ≡ take (suc n) (placed xs x)
placed_over n [] x last is better = absurd (none-some last is)
placed_over zero (first ∷ rest) x last is better = at (outranks x first) (ap (λ other. outranks x other) (some_injective is) ∙ better) where
  at : (b : Bool) → b ≡ true → x ∷ [] ≡ take 1 (cond b (x ∷ first ∷ rest) (first ∷ placed rest x))
  at true e = refl
  at false e = absurd (true≢false (sym e))
placed_over (suc n) (first ∷ rest) x last is better = at (outranks x first) (placed_over n rest x last is better) where
  at : (b : Bool) → placed (take n rest) x ≡ take (suc n) (placed rest x)
      → cond b (x ∷ first ∷ take n rest) (first ∷ placed (take n rest) x) ≡ take (suc (suc n)) (cond b (x ∷ first ∷ rest) (first ∷ placed rest x))
  at true more = refl
  at false more = ap (λ zs. first ∷ zs) more

pub placed_over_last : (n : ℕ) (xs : List Submission) (x last : Submission) → IsRanked xs → 1 ≤ n → length xs ≡ n
    → slice_get xs (length xs - 1) ≡ Some last → outranks x last ≡ true
    → placed (take (length xs - 1) xs) x ≡ take n (ranked (xs ++ x ∷ []))
placed_over_last zero xs x last h some full is better = absurd (omega arith)
placed_over_last (suc n) xs x last h some full is better =
    let back : length xs - 1 ≡ n = omega arith in
    ap (λ k. placed (take k xs) x) back
    ∙ placed_over n xs x last (ap (λ k. slice_get xs k) (sym back) ∙ is) better
    ∙ sym (offered_placed (suc n) xs x h)

-- in a full queue, with a claim that is no better than the last: nothing changes
behind_last : (n : ℕ) (xs : List Submission) (x last : Submission) → IsRanked xs → length xs ≡ suc n → slice_get xs n ≡ Some last → outranks x last ≡ false → OutranksNone x xs
behind_last n [] x last h full is worse = All-nil (λ other. outranks x other ≡ false)
behind_last zero (first ∷ []) x last h full is worse =
    All-cons (λ other. outranks x other ≡ false) first [] (ap (λ other. outranks x other) (some_injective is) ∙ worse) (All-nil (λ other. outranks x other ≡ false))
behind_last zero (first ∷ second ∷ rest) x last h full is worse = absurd (omega arith)
behind_last (suc n) (first ∷ rest) x last h full is worse =
    All-cons (λ other. outranks x other ≡ false) first rest
    (no_better_through first.score last.score x.score (last_behind n rest is h.0) worse)
    (behind_last n rest x last h.1 (omega arith) is worse) where
      last_behind : (n : ℕ) (xs : List Submission) → slice_get xs n ≡ Some last → All (λ later. outranks later first ≡ false) xs → outranks last first ≡ false
      last_behind n [] is h = absurd (none-some last is)
      last_behind zero (a ∷ more) is h = ap (λ other. outranks other first) (sym (some_injective is)) ∙ h 0 a (omega arith)
      last_behind (suc n) (a ∷ more) is h = last_behind n more is (λ k d within. h (suc k) d (omega arith))

pub refused_stays : (n : ℕ) (xs : List Submission) (x last : Submission) → IsRanked xs → 1 ≤ n → length xs ≡ n
    → slice_get xs (length xs - 1) ≡ Some last → outranks x last ≡ false
    → take n (ranked (xs ++ x ∷ [])) ≡ xs
refused_stays zero xs x last h some full is worse = absurd (omega arith)
refused_stays (suc n) xs x last h some full is worse =
    let back : length xs - 1 ≡ n = omega arith in
    let none : OutranksNone x xs = behind_last n xs x last h full (ap (λ k. slice_get xs k) (sym back) ∙ is) worse in
    offered_placed (suc n) xs x h ∙ ap (λ zs. take (suc n) zs) (placed_last xs x none) ∙ take_at xs (x ∷ []) (suc n) full

-- a queue stays ordered
pub placed_ordered : (queue : Ranking) (x : Submission) → IsOrdered queue → length queue.items < queue.places → IsOrdered (record queue { items = placed queue.items x })
placed_ordered queue x h free =
    record { some = h.some; most = h.most; fits = omega (arith, length_placed queue.items x); by_rank = ranked_placed queue.items x h.by_rank }

pub replaced_ordered : (queue : Ranking) (x : Submission) → IsOrdered queue → length queue.items ≡ queue.places
    → IsOrdered (record queue { items = placed (take (length queue.items - 1) queue.items) x })
replaced_ordered queue x h full =
    let front : length (take (length queue.items - 1) queue.items) ≡ length queue.items - 1 = length-take-le (length queue.items - 1) queue.items (omega arith) in
    record {
      some = h.some;
      most = h.most;
      fits = omega (arith, h.some, front, length_placed (take (length queue.items - 1) queue.items) x);
      by_rank = ranked_placed (take (length queue.items - 1) queue.items) x (ranked_take (length queue.items - 1) queue.items h.by_rank);
    }
