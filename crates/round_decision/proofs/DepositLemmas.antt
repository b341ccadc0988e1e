-- What is held, while deposits are held, returned and burned.
use Rattle.std.proofs.Common.{◌≡◌, ℕ, ◌+◌, ◌-◌, ◌≤◌, Bool, true, false, All, List, [], ◌∷◌, drop, slice_get, Some, None, is_some, refl, sym, ◌∙◌, ap, subst, arith, ◌||◌, if◌then◌else◌, true≢false}
use Rattle.std.proofs.lemmas.List.Elements.{All-cons, All-head, All-tail}
use Rattle.std.proofs.lemmas.List.Sums.{sum_by-cons}
use Rattle.npos_base.specs.declared.account.AccountId.{AccountId}
use Rattle.npos_base.specs.Account.{same_account}
use Rattle.npos_base.proofs.AccountOrder.{same_itself}
use Rattle.stake_ledger.specs.declared.row.Row.{Row}
use Rattle.stake_ledger.specs.Rows as rows
use Rattle.stake_ledger.specs.Ledger.{Ledger, row_at, row_of, changed}
use Rattle.stake_ledger.specs.Calls.{deposit_held, minted_free}
use Rattle.stake_ledger.proofs.AccountLemmas.{row_at-changed, row_at-returned, row_at-burned, known-changed, known-returned, known-burned}
use Rattle.submission_queue.specs.declared.submission.Submission.{Submission}
use Rattle.round_decision.specs.Deposits.{AreHeld, deposits_of, returned, burned}

-- the first of a list that has one
pub front : {A : Type 0} (items : List A) (item : A) → slice_get items 0 ≡ Some item → items ≡ item ∷ drop 1 items
front [] item e = absurd (true≢false (sym (ap is_some e)))
front (x ∷ xs) item e = cc

pub nothing_first : {A : Type 0} (items : List A) → slice_get items 0 ≡ None → items ≡ []
nothing_first [] e = refl
nothing_first (x ∷ xs) e = absurd (true≢false (ap is_some e))

-- the deposits of an account, where one more submission is counted
abbrev part : AccountId → Submission → ℕ
part who item = if same_account who item.who then item.deposit else 0

deposits_more : (who : AccountId) (item : Submission) (rest : List Submission) → deposits_of who (item ∷ rest) ≡ part who item + deposits_of who rest
deposits_more who item rest = sum_by-cons (part who) item rest

own_part : (item : Submission) → part item.who item ≡ item.deposit
own_part item = rw (same_itself item.who) refl

-- no more is returned or burned than is held
pub held_within : (book : Ledger) (items : List Submission) (item : Submission) (rest : List Submission) → AreHeld book items → items ≡ item ∷ rest
    → item.deposit ≤ (row_at book item.who).held
held_within book items item rest are is =
    omega (arith, are.held item.who, ap (deposits_of item.who) is, deposits_more item.who item rest, own_part item)

pub known_first : (book : Ledger) (item : Submission) (rest : List Submission) → AreHeld book (item ∷ rest) → is_some (row_of book item.who) ≡ true
known_first book item rest are = All-head (λ (i : Submission). is_some (row_of book i.who) ≡ true) item rest are.known

-- the deposit of the first is held no more
less_held : (item : Submission) (who : AccountId) (old new : Row) (rest : ℕ) (taken : Row)
    → new ≡ (if same_account who item.who then taken else old) → taken.held ≡ old.held - item.deposit → old.held ≡ part who item + rest → new.held ≡ rest
less_held item who old new rest taken is less before = at (same_account who item.who) is before where
  at : (b : Bool) → new ≡ (if b then taken else old) → old.held ≡ (if b then item.deposit else 0) + rest → new.held ≡ rest
  at true e sum = omega (arith, ap (λ (row : Row). row.held) e, less, sum)
  at false e sum = omega (arith, ap (λ (row : Row). row.held) e, sum)

known_all : (old new : Ledger) (items : List Submission) → ((who : AccountId) → is_some (row_of old who) ≡ true → is_some (row_of new who) ≡ true)
    → All (λ item. is_some (row_of old item.who) ≡ true) items → All (λ item. is_some (row_of new item.who) ≡ true) items
known_all old new items still all = λ k d within. still _ (all k d within)

pub held_returned : (book : Ledger) (items : List Submission) (item : Submission) (rest : List Submission) → AreHeld book items → items ≡ item ∷ rest → AreHeld (returned book item) rest
held_returned book items item rest are is = record {
  held = λ who. less_held item who (row_at book who) (row_at (returned book item) who) (deposits_of who rest) (rows.returned item.deposit (row_at book who))
      (row_at-returned item.who item.deposit book who) refl (are.held who ∙ (ap (deposits_of who) is ∙ deposits_more who item rest));
  known = known_all book (returned book item) rest
      (λ who known. known-returned item.who item.deposit book who (held_within book items item rest are is) ∙ known)
      (All-tail (λ (i : Submission). is_some (row_of book i.who) ≡ true) item rest (subst (All (λ (i : Submission). is_some (row_of book i.who) ≡ true)) is are.known));
}

pub held_burned : (book : Ledger) (items : List Submission) (item : Submission) (rest : List Submission) → AreHeld book items → items ≡ item ∷ rest → AreHeld (burned book item) rest
held_burned book items item rest are is = record {
  held = λ who. less_held item who (row_at book who) (row_at (burned book item) who) (deposits_of who rest) (rows.forfeited item.deposit (row_at book who))
      (row_at-burned item.who item.deposit book who) refl (are.held who ∙ (ap (deposits_of who) is ∙ deposits_more who item rest));
  known = known_all book (burned book item) rest
      (λ who known. known-burned item.who item.deposit book who (held_within book items item rest are is) ∙ known)
      (All-tail (λ (i : Submission). is_some (row_of book i.who) ≡ true) item rest (subst (All (λ (i : Submission). is_some (row_of book i.who) ≡ true)) is are.known));
}

-- a change of a row that leaves what is held
still_held : (old change : Row) (b : Bool) → change.held ≡ old.held → (if b then change else old).held ≡ old.held
still_held old change true e = e
still_held old change false e = refl

or_true : (a b : Bool) → b ≡ true → (a || b) ≡ true
or_true true b e = refl
or_true false b e = e

pub held_changed : (who : AccountId) (change : Row → Row) (book : Ledger) (items : List Submission) → ((row : Row) → (change row).held ≡ row.held)
    → AreHeld book items → AreHeld (changed who change book) items
held_changed who change book items quiet are = record {
  held = λ q. ap (λ (row : Row). row.held) (row_at-changed who change book q)
      ∙ (still_held (row_at book q) (change (row_at book q)) (same_account q who) (quiet (row_at book q)) ∙ are.held q);
  known = known_all book (changed who change book) items
      (λ q known. known-changed who change book q ∙ or_true (same_account q who) (is_some (row_of book q)) known) are.known;
}

-- minting makes free what was not there
pub held_minted : (who : AccountId) (value : ℕ) (book : Ledger) (items : List Submission) → AreHeld book items → AreHeld (minted_free who value book) items
held_minted who value book items are =
    let kept = held_changed who (rows.gained value) book items (λ row. refl) are in record { held = kept.held; known = kept.known }

-- one more is held
more_held : (item : Submission) (who : AccountId) (old new more : Row) (rest : ℕ) → new ≡ (if same_account who item.who then more else old)
    → more.held ≡ old.held + item.deposit → old.held ≡ rest → new.held ≡ part who item + rest
more_held item who old new more rest is grows before = at (same_account who item.who) is where
  at : (b : Bool) → new ≡ (if b then more else old) → new.held ≡ (if b then item.deposit else 0) + rest
  at true e = omega (arith, ap (λ (row : Row). row.held) e, grows, before)
  at false e = omega (arith, ap (λ (row : Row). row.held) e, before)

pub held_more : (book : Ledger) (item : Submission) (items : List Submission) → AreHeld book items → AreHeld (deposit_held item.who item.deposit book) (item ∷ items)
held_more book item items are = record {
  held = λ who. more_held item who (row_at book who) (row_at (deposit_held item.who item.deposit book) who) (rows.deposited item.deposit (row_at book who)) (deposits_of who items)
      (row_at-changed item.who (rows.deposited item.deposit) book who) refl (are.held who) ∙ sym (deposits_more who item items);
  known = All-cons (λ (i : Submission). is_some (row_of (deposit_held item.who item.deposit book) i.who) ≡ true) item items
      (known-changed item.who (rows.deposited item.deposit) book item.who ∙ ap (λ b. b || is_some (row_of book item.who)) (same_itself item.who))
      (known_all book (deposit_held item.who item.deposit book) items
      (λ q known. known-changed item.who (rows.deposited item.deposit) book q ∙ or_true (same_account q item.who) (is_some (row_of book q)) known) are.known);
}

-- the account of the first is known still, once its deposit is returned
pub known_returned : (book : Ledger) (item : Submission) (rest : List Submission) → AreHeld book (item ∷ rest) → is_some (row_of (returned book item) item.who) ≡ true
known_returned book item rest are =
    known-returned item.who item.deposit book item.who (held_within book (item ∷ rest) item rest are refl) ∙ known_first book item rest are

-- by these `decision` goes on
pub ruleset holding = (front, held_within)
