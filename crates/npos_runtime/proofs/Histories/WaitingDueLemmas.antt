-- What is due by the slashes of some numbers, as slashes come and go.
use Rattle.std.proofs.Common.{◌≡◌, ℕ, ◌+◌, ◌≤◌, ◌<◌, Bool, true, false, not, cond, nat_le, nat_eq, ◌||◌, All, List, [], ◌∷◌, ◌++◌, find, Some, refl, ◌∙◌, ap, arith, if◌then◌else◌}
use Rattle.std.proofs.lemmas.List.Sums.{sum_by-append, sum_by-cons}
use Rattle.std.proofs.lemmas.List.Folds.{list_any_none}
use Rattle.std.proofs.lemmas.List.Elements.{All-head, All-tail}
use Rattle.npos_base.specs.declared.account.AccountId.{AccountId}
use Rattle.npos_base.proofs.NumberTests.{number_same, number_test}
use Rattle.election_snapshot.specs.Snapshot.{has}
use Rattle.era_book.specs.declared.deferred.DeferredSlash.{DeferredSlash}
use Rattle.era_book.specs.Exposures.{amount_for}
use Rattle.era_book.specs.Deferred.{has_number, without}
use Rattle.npos_runtime.specs.Histories.Deferred.{waiting_due}

module _ (numbers : List ℕ) (who : AccountId) where
  abbrev pub due_of : DeferredSlash → ℕ
  due_of slash = if has numbers slash.number then amount_for who slash.lines else 0

  due_most : (slash : DeferredSlash) → due_of slash ≤ amount_for who slash.lines
  due_most slash = at (has numbers slash.number) where
    at : (b : Bool) → (if b then amount_for who slash.lines else 0) ≤ amount_for who slash.lines
    at true = omega arith
    at false = omega arith

  due_more : (slash : DeferredSlash) (slashes : List DeferredSlash) → waiting_due numbers who (slash ∷ slashes) ≡ due_of slash + waiting_due numbers who slashes
  due_more slash slashes = sum_by-cons due_of slash slashes

  due_last : (slashes : List DeferredSlash) (slash : DeferredSlash) → waiting_due numbers who (slashes ++ slash ∷ []) ≡ waiting_due numbers who slashes + due_of slash
  due_last slashes slash = omega (arith, sum_by-append due_of slashes (slash ∷ []), due_more slash [])

  -- one more waits
  pub due_queued : (slashes : List DeferredSlash) (slash : DeferredSlash)
      → waiting_due numbers who (slashes ++ slash ∷ []) ≤ waiting_due numbers who slashes + amount_for who slash.lines
  due_queued slashes slash = omega (arith, due_last slashes slash, due_most slash)

  -- one more waits that is none of them
  pub due_unlisted : (slashes : List DeferredSlash) (slash : DeferredSlash) → All (λ n. n < slash.number) numbers
      → waiting_due numbers who (slashes ++ slash ∷ []) ≡ waiting_due numbers who slashes
  due_unlisted slashes slash below =
      omega (arith, due_last slashes slash, ap (λ b. if b then amount_for who slash.lines else 0) apart) where
        apart : has numbers slash.number ≡ false
        apart =
            list_any_none (λ other. nat_eq other slash.number) numbers
            (λ k d within. number_test _ slash.number (λ same. absurd (omega (arith, below k d within, same))))

  -- one waits no more
  pub due_without : (number : ℕ) (slashes : List DeferredSlash) → waiting_due numbers who (without number slashes) ≤ waiting_due numbers who slashes
  due_without number [] = omega arith
  due_without number (slash ∷ slashes) = at (not (has_number number slash)) (due_without number slashes) where
    at : (b : Bool) → waiting_due numbers who (without number slashes) ≤ waiting_due numbers who slashes
        → waiting_due numbers who (cond b (slash ∷ without number slashes) (without number slashes)) ≤ waiting_due numbers who (slash ∷ slashes)
    at true less = omega (arith, due_more slash (without number slashes), due_more slash slashes, less)
    at false less = omega (arith, due_more slash slashes, less)

  -- and what it is due is due no more
  pub due_found : (current : ℕ) (slash : DeferredSlash) (slashes : List DeferredSlash) → find (λ s. nat_le s.due current) slashes ≡ Some slash
      → due_of slash + waiting_due numbers who (without slash.number slashes) ≤ waiting_due numbers who slashes
  due_found current slash [] found = absurd (cc)
  due_found current slash (first ∷ slashes) found = at (nat_le first.due current) found (λ is. due_found current slash slashes is) where
    at : (b : Bool) → cond b (Some first) (find (λ s. nat_le s.due current) slashes) ≡ Some slash
        → (find (λ s. nat_le s.due current) slashes ≡ Some slash
        → due_of slash + waiting_due numbers who (without slash.number slashes) ≤ waiting_due numbers who slashes)
        → due_of slash + waiting_due numbers who (without slash.number (first ∷ slashes)) ≤ waiting_due numbers who (first ∷ slashes)
    at true is later =
        let same : first ≡ slash = cc in
        let here : has_number slash.number first ≡ true = ap (λ (s : DeferredSlash). has_number slash.number s) same ∙ number_same slash.number in
        let gone : waiting_due numbers who (without slash.number (first ∷ slashes)) ≡ waiting_due numbers who (without slash.number slashes) =
        ap (λ b. waiting_due numbers who (cond (not b) (first ∷ without slash.number slashes) (without slash.number slashes))) here in
        omega (arith, gone, due_without slash.number slashes, due_more first slashes, ap due_of same)
    at false is later = over (not (has_number slash.number first)) (later is) where
      over : (b : Bool) → due_of slash + waiting_due numbers who (without slash.number slashes) ≤ waiting_due numbers who slashes
          → due_of slash + waiting_due numbers who (cond b (first ∷ without slash.number slashes) (without slash.number slashes))
          ≤ waiting_due numbers who (first ∷ slashes)
      over true less = omega (arith, due_more first (without slash.number slashes), due_more first slashes, less)
      over false less = omega (arith, due_more first slashes, less)

-- a number that none of them has makes nothing due
pub due_same : (next : ℕ) (numbers : List ℕ) (who : AccountId) (slashes : List DeferredSlash) → All (λ slash. slash.number < next) slashes
    → waiting_due (next ∷ numbers) who slashes ≡ waiting_due numbers who slashes
due_same next numbers who [] below = refl
due_same next numbers who (slash ∷ slashes) below =
    let less : slash.number < next = All-head (λ (s : DeferredSlash). s.number < next) slash slashes below in
    let other : nat_eq next slash.number ≡ false = number_test next slash.number (λ same. absurd (omega (arith, less, same))) in
    let one : due_of (next ∷ numbers) who slash ≡ due_of numbers who slash =
    ap (λ b. if b || has numbers slash.number then amount_for who slash.lines else 0) other in
    omega (
      arith,
      one,
      due_more (next ∷ numbers) who slash slashes,
      due_more numbers who slash slashes,
      due_same next numbers who slashes (All-tail (λ (s : DeferredSlash). s.number < next) slash slashes below),
    )
