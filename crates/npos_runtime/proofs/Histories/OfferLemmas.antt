-- An offer that is taken: the item and those that waited wait, but for the one that is put out.
use Rattle.std.proofs.Common.{◌≡◌, ℕ, zero, suc, ◌+◌, ◌-◌, ◌≤◌, ◌<◌, Bool, true, false, nat_lt, List, [], ◌∷◌, ◌++◌, length}
use Rattle.std.proofs.Common.{take, slice_get, Option, Some, None, refl, sym, ◌∙◌, ap, subst, arith, true≢false, IsPermutation}
use Rattle.std.specs.Result.{is_err}
use Rattle.std.proofs.lemmas.Bool.Decides.{nat_tests}
use Rattle.std.proofs.lemmas.List.{append-nil, take_all}
use Rattle.std.proofs.lemmas.List.Sorted.{IsPermutation-trans, IsPermutation-insert, IsPermutation-middle, IsPermutation-append_right}
use Rattle.npos_base.specs.Score.{is_better}
use Rattle.std.specs.List.{position_or_len}
use Rattle.submission_queue.specs.declared.submission.Submission.{Submission}
use Rattle.submission_queue.specs.Rank.{outranks, placed}
use Rattle.submission_queue.specs.Ranking.{Ranking, IsOrdered, offered, offer_answer}
use Rattle.submission_queue.proofs.RankLemmas.{inserted_is_placed}
use Rattle.submission_queue.proofs.QueueLemmas.{placed_fits, placed_over_last, placed_ordered, replaced_ordered}
use Rattle.npos_runtime.specs.Rules.Signed.{ejected}
use Rattle.npos_runtime.proofs.Rules.BallotLemmas.{take_next}

placed_permutation : (xs : List Submission) (x : Submission) → IsPermutation (x ∷ xs) (placed xs x)
placed_permutation xs x =
    subst (λ zs. IsPermutation (x ∷ xs) zs) (inserted_is_placed xs x)
    (IsPermutation-insert xs (position_or_len (λ queued. is_better x.score queued.score) xs) x)

-- the last of a list behind those before it
last_behind : (xs : List Submission) (last : Submission) → 1 ≤ length xs → slice_get xs (length xs - 1) ≡ Some last → take (length xs - 1) xs ++ last ∷ [] ≡ xs
last_behind xs last some is =
    let all : length xs - 1 + 1 ≡ length xs = omega (arith, some) in
    take_next xs (length xs - 1) last is ∙ (ap (λ n. take n xs) all ∙ take_all (length xs) xs (omega arith))

replaced_permutation : (xs : List Submission) (x last : Submission) → 1 ≤ length xs → slice_get xs (length xs - 1) ≡ Some last
    → IsPermutation (x ∷ xs) (last ∷ placed (take (length xs - 1) xs) x)
replaced_permutation xs x last some is =
    let ys : List Submission = take (length xs - 1) xs in
    subst (λ zs. IsPermutation (x ∷ zs) (last ∷ placed ys x)) (last_behind xs last some is)
    (IsPermutation-trans (x ∷ (ys ++ last ∷ [])) (last ∷ x ∷ ys) (last ∷ placed ys x)
    (subst (λ zs. IsPermutation (x ∷ (ys ++ last ∷ [])) (last ∷ zs)) (append-nil (x ∷ ys)) (IsPermutation-middle (x ∷ ys) last []))
    (IsPermutation-append_right (last ∷ []) (x ∷ ys) (placed ys x) (placed_permutation ys x)))

-- what an offer that is taken does
pub record IsTaken (queue : Ranking) (item : Submission) : Type 0 where
  pub moved : IsPermutation (item ∷ queue.items) (ejected queue item ++ (offered queue item).items)
  pub ordered : IsOrdered (offered queue item)

some_last : (xs : List Submission) (n : ℕ) → n < length xs → slice_get xs n ≡ None → ⊥
some_last [] n lt e = absurd (omega (arith, lt))
some_last (x ∷ xs) zero lt e = absurd (true≢false (ap Rattle.std.proofs.Common.is_some e))
some_last (x ∷ xs) (suc n) lt e = some_last xs n (omega (arith, lt)) e

with_room : (queue : Ranking) (item : Submission) → IsOrdered queue → nat_lt (length queue.items) queue.places ≡ true → IsTaken queue item
with_room queue item h free =
    let below : length queue.items < queue.places = grind (arith, nat_tests) in
    let fits : placed queue.items item ≡ (offered queue item).items = placed_fits queue.places queue.items item h.by_rank below in
    let out : ejected queue item ≡ [] = rw free refl in
    record {
      moved = subst (λ zs. IsPermutation (item ∷ queue.items) (zs ++ (offered queue item).items)) (sym out)
          (subst (IsPermutation (item ∷ queue.items)) fits (placed_permutation queue.items item));
      ordered = subst (λ zs. IsOrdered (record queue { items = zs })) fits (placed_ordered queue item h below);
    }

over_last : (queue : Ranking) (item last : Submission) → IsOrdered queue → nat_lt (length queue.items) queue.places ≡ false
    → slice_get queue.items (length queue.items - 1) ≡ Some last → outranks item last ≡ true → IsTaken queue item
over_last queue item last h full is better =
    let whole : length queue.items ≡ queue.places = let fits = h.fits in grind (arith, nat_tests) in
    let some : 1 ≤ length queue.items = omega (arith, whole, h.some) in
    let fits : placed (take (length queue.items - 1) queue.items) item ≡ (offered queue item).items
    = placed_over_last queue.places queue.items item last h.by_rank h.some whole is better in
    let out : ejected queue item ≡ last ∷ [] = rw (full, is, better) refl in
    record {
      moved = subst (λ zs. IsPermutation (item ∷ queue.items) (zs ++ (offered queue item).items)) (sym out)
          (subst (λ zs. IsPermutation (item ∷ queue.items) (last ∷ zs)) fits (replaced_permutation queue.items item last some is));
      ordered = subst (λ zs. IsOrdered (record queue { items = zs })) fits (replaced_ordered queue item h whole);
    }

refused_by : (queue : Ranking) (item last : Submission) → nat_lt (length queue.items) queue.places ≡ false
    → slice_get queue.items (length queue.items - 1) ≡ Some last → outranks item last ≡ false → is_err (offer_answer queue item) ≡ true
refused_by queue item last full is worse = rw (full, is, worse) refl

pub taken : (queue : Ranking) (item : Submission) → IsOrdered queue → is_err (offer_answer queue item) ≡ false → IsTaken queue item
taken queue item h accepted = at (nat_lt (length queue.items) queue.places) refl where
  against_at : nat_lt (length queue.items) queue.places ≡ false → (o : Option Submission) → slice_get queue.items (length queue.items - 1) ≡ o → IsTaken queue item
  against_at full None is =
      absurd (some_last queue.items (length queue.items - 1) (let fits = h.fits in let some = h.some in grind (arith, nat_tests)) is)
  against_at full (Some last) is = better_at (outranks item last) refl where
    better_at : (b : Bool) → outranks item last ≡ b → IsTaken queue item
    better_at true better = over_last queue item last h full is better
    better_at false worse = absurd (true≢false (sym (refused_by queue item last full is worse) ∙ accepted))

  at : (b : Bool) → nat_lt (length queue.items) queue.places ≡ b → IsTaken queue item
  at true free = with_room queue item h free
  at false full = against_at full (slice_get queue.items (length queue.items - 1)) refl
