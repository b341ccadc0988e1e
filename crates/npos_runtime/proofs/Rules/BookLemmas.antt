-- The books of a chain, while deposits are held, returned and burned.
use Rattle.std.proofs.Common.{◌≡◌, ℕ, ◌+◌, ◌-◌, ◌≤◌, Bool, true, false, not, nat_lt, get_or, is_some, All, List, [], ◌∷◌, ◌++◌, refl, sym, ◌∙◌, ap, subst, arith, ◌==◌, if◌then◌else◌, IsPermutation}
use Rattle.std.proofs.lemmas.List.Sums.{sum_by-cons}
use Rattle.std.proofs.lemmas.List.Elements.{All-cons, All-head, All-tail}
use Rattle.std.proofs.lemmas.List.{append-nil, take-append-drop}
use Rattle.std.specs.List.{prefix_len}
use Rattle.std.proofs.lemmas.List.Sorted.{All-permutation, sum_by-IsPermutation}
use Rattle.npos_base.specs.declared.account.AccountId.{AccountId}
use Rattle.npos_base.specs.Account.{same_account}
use Rattle.stake_ledger.specs.declared.row.Row.{Row}
use Rattle.stake_ledger.specs.declared.chunks.Chunk.{Chunk}
use Rattle.stake_ledger.specs.Rows as rows
use Rattle.stake_ledger.specs.Rows.{worth, is_bonded}
use Rattle.stake_ledger.specs.Ledger.{Ledger, row_at, row_of, changed, IsBalanced}
use Rattle.stake_ledger.specs.Chunks.{without_first}
use Rattle.stake_ledger.specs.Calls.{deposit_held, deposit_returned, deposit_burned, minted_free, room_of, slashed, slash_amount}
use Rattle.stake_ledger.proofs.LedgerLemmas.{schedule_at, total-changed, ordered-changed, schedules-changed}
use Rattle.stake_ledger.proofs.KeepLemmas.{balanced_minted, balanced_slashed}
use Rattle.stake_ledger.proofs.AccountLemmas.{row_at-changed, row_at-returned, row_at-burned, row_at-minted, row_at-slashed, known-slashed}
use Rattle.submission_queue.specs.declared.submission.Submission.{Submission}
use Rattle.election_snapshot.specs.Snapshot.{Snapshot}
use Rattle.era_book.specs.declared.exposure.Backer.{Backer}
use Rattle.era_book.specs.Exposures.{amount_sum}
use Rattle.npos_runtime.specs.Rules.Offices.{all_minted}
use Rattle.round_decision.specs.Decision.{fails, losers, others, reward_in, rewarded, paid_out, books_decided}
use Rattle.round_decision.specs.Deposits.{AreHeld, returned, burned, all_returned, all_burned}
use Rattle.npos_runtime.specs.Live.{AreBooks}
use Rattle.round_decision.proofs.DepositLemmas.{held_within, held_returned, held_burned, held_minted, held_more}

-- a row whose chunks stay
chunks_stay : (release : ℕ) (old taken new : Row) (b : Bool) → new ≡ (if b then taken else old) → taken.chunks ≡ old.chunks
    → All (λ (chunk : Chunk). chunk.release ≤ release) old.chunks → All (λ (chunk : Chunk). chunk.release ≤ release) new.chunks
chunks_stay release old taken new true is same by = subst (All (λ (chunk : Chunk). chunk.release ≤ release)) (sym (ap (λ (row : Row). row.chunks) is ∙ same)) by
chunks_stay release old taken new false is same by = subst (All (λ (chunk : Chunk). chunk.release ≤ release)) (sym (ap (λ (row : Row). row.chunks) is)) by

-- a change that leaves the worth and the chunks of a row
balanced_moved : (who : AccountId) (change : Row → Row) (book : Ledger) → IsBalanced book → worth (change (row_at book who)) ≡ worth (row_at book who)
    → (change (row_at book who)).chunks ≡ (row_at book who).chunks → IsBalanced (changed who change book)
balanced_moved who change book balanced stays same = record {
  distinct = ordered-changed who change book balanced.distinct;
  schedules = schedules-changed who change book balanced.schedules (subst Rattle.stake_ledger.specs.Chunks.IsSchedule (sym same) (schedule_at who book balanced.schedules));
  equation = omega (arith, total-changed worth refl who change book balanced.distinct, stays, balanced.equation);
  capped = balanced.capped;
}

balanced_returned : (who : AccountId) (value : ℕ) (book : Ledger) → IsBalanced book → value ≤ (row_at book who).held → IsBalanced (deposit_returned who value book)
balanced_returned who value book balanced within = at (value == 0) where
  at : (b : Bool) → IsBalanced (if b then book else changed who (rows.returned value) book)
  at true = balanced
  at false = balanced_moved who (rows.returned value) book balanced (omega (arith, within)) refl

balanced_burned : (who : AccountId) (value : ℕ) (book : Ledger) → IsBalanced book → value ≤ (row_at book who).held → IsBalanced (deposit_burned who value book)
balanced_burned who value book balanced within = at (value == 0) where
  at : (b : Bool) → IsBalanced (if b then book else record (changed who (rows.forfeited value) book) { burned = book.burned + value })
  at true = balanced
  at false = record {
    distinct = ordered-changed who (rows.forfeited value) book balanced.distinct;
    schedules = schedules-changed who (rows.forfeited value) book balanced.schedules (schedule_at who book balanced.schedules);
    equation = omega (arith, total-changed worth refl who (rows.forfeited value) book balanced.distinct, balanced.equation, within);
    capped = balanced.capped;
  }

-- the order of the submissions is nothing to what is held
pub held_moved : (book : Ledger) (old new : List Submission) → IsPermutation old new → AreHeld book old → AreHeld book new
held_moved book old new moved are = record {
  held = λ who. are.held who ∙ sym (sum_by-IsPermutation (λ (item : Submission). if same_account who item.who then item.deposit else 0) old new moved);
  known = All-permutation (λ (item : Submission). is_some (row_of book item.who) ≡ true) old new moved are.known;
}

-- what is taken of the first chunks leaves no later release
without_first_by : (release amount : ℕ) (chunks : List Chunk) → All (λ (chunk : Chunk). chunk.release ≤ release) chunks
    → All (λ (chunk : Chunk). chunk.release ≤ release) (without_first amount chunks)
without_first_by release amount [] by = by
without_first_by release amount (chunk ∷ later) by =
    at (nat_lt amount chunk.value) (All-head IsBy chunk later by) (All-tail IsBy chunk later by) (without_first_by release (amount - chunk.value) later) where
      IsBy : Chunk → Type 0
      IsBy = λ (c : Chunk). c.release ≤ release

      at : (b : Bool) → chunk.release ≤ release → All (λ (c : Chunk). c.release ≤ release) later
          → (All (λ (c : Chunk). c.release ≤ release) later → All (λ (c : Chunk). c.release ≤ release) (without_first (amount - chunk.value) later))
          → All (λ (c : Chunk). c.release ≤ release) (if b then record chunk { value = chunk.value - amount } ∷ later else without_first (amount - chunk.value) later)
      at true here rest next = All-cons IsBy (record chunk { value = chunk.value - amount }) later here rest
      at false here rest next = next rest

module _ (release : ℕ) where
  pub books_returned : (book : Ledger) (item : Submission) (rest : List Submission) → AreBooks release (item ∷ rest) book → AreBooks release rest (returned book item)
  books_returned book item rest are = record {
    balanced = balanced_returned item.who item.deposit book are.balanced (held_within book (item ∷ rest) item rest are.deposits refl);
    releases = λ who. chunks_stay release (row_at book who) (rows.returned item.deposit (row_at book who)) (row_at (returned book item) who) (same_account who item.who)
        (row_at-returned item.who item.deposit book who) refl (are.releases who);
    deposits = held_returned book (item ∷ rest) item rest are.deposits refl;
  }

  pub books_burned : (book : Ledger) (item : Submission) (rest : List Submission) → AreBooks release (item ∷ rest) book → AreBooks release rest (burned book item)
  books_burned book item rest are = record {
    balanced = balanced_burned item.who item.deposit book are.balanced (held_within book (item ∷ rest) item rest are.deposits refl);
    releases = λ who. chunks_stay release (row_at book who) (rows.forfeited item.deposit (row_at book who)) (row_at (burned book item) who) (same_account who item.who)
        (row_at-burned item.who item.deposit book who) refl (are.releases who);
    deposits = held_burned book (item ∷ rest) item rest are.deposits refl;
  }

  pub books_minted : (book : Ledger) (who : AccountId) (value : ℕ) (items : List Submission) → value ≤ room_of book → AreBooks release items book
      → AreBooks release items (minted_free who value book)
  books_minted book who value items within are = record {
    balanced = balanced_minted who value book are.balanced within;
    releases = λ q. chunks_stay release (row_at book q) (rows.gained value (row_at book q)) (row_at (minted_free who value book) q) (same_account q who)
        (row_at-minted who value book q) refl (are.releases q);
    deposits = held_minted who value book items are.deposits;
  }

  pub books_held : (book : Ledger) (item : Submission) (items : List Submission) → item.deposit ≤ (row_at book item.who).free → AreBooks release items book
      → AreBooks release (item ∷ items) (deposit_held item.who item.deposit book)
  books_held book item items within are = record {
    balanced = balanced_moved item.who (rows.deposited item.deposit) book are.balanced (omega (arith, within)) refl;
    releases = λ who. chunks_stay release (row_at book who) (rows.deposited item.deposit (row_at book who)) (row_at (deposit_held item.who item.deposit book) who) (same_account who item.who)
        (row_at-changed item.who (rows.deposited item.deposit) book who) refl (are.releases who);
    deposits = held_more book item items are.deposits;
  }

  pub books_moved : (book : Ledger) (old new : List Submission) → IsPermutation old new → AreBooks release old book → AreBooks release new book
  books_moved book old new moved are = record {
    balanced = are.balanced;
    releases = are.releases;
    deposits = held_moved book old new moved are.deposits;
  }

  pub all_books_returned : (gone rest : List Submission) (book : Ledger) → AreBooks release (gone ++ rest) book → AreBooks release rest (all_returned gone book)
  all_books_returned [] rest book are = are
  all_books_returned (item ∷ gone) rest book are = all_books_returned gone rest (returned book item) (books_returned book item (gone ++ rest) are)

  pub all_books_burned : (gone rest : List Submission) (book : Ledger) → AreBooks release (gone ++ rest) book → AreBooks release rest (all_burned gone book)
  all_books_burned [] rest book are = are
  all_books_burned (item ∷ gone) rest book are = all_books_burned gone rest (burned book item) (books_burned book item (gone ++ rest) are)

  -- the winner gets its deposit and its reward, and those behind it their deposits
  books_paid : (reward : ℕ) (items : List Submission) (book : Ledger) → AreBooks release items book → AreBooks release [] (paid_out reward items book)
  books_paid reward [] book are = are
  books_paid reward (winner ∷ rest) book are =
      let back = books_returned book winner rest are in
      all_books_returned rest [] (rewarded reward (returned book winner) winner)
      (subst (λ items. AreBooks release items (rewarded reward (returned book winner) winner)) (sym (append-nil rest))
      (books_minted (returned book winner) winner.who (reward_in reward (returned book winner)) rest (omega arith) back))

  -- after a decision no submission waits
  pub books_settled : (reward : ℕ) (snapshot : Snapshot) (items : List Submission) (book : Ledger) → AreBooks release items book
      → AreBooks release [] (books_decided reward snapshot items book)
  books_settled reward snapshot items book are =
      books_paid reward (others snapshot items) (all_burned (losers snapshot items) book)
      (all_books_burned (losers snapshot items) (others snapshot items) book
      (subst (λ xs. AreBooks release xs book) (sym (take-append-drop (prefix_len (fails snapshot) items) items)) are))

  -- what is paid is minted line by line
  pub all_books_minted : (lines : List Backer) (items : List Submission) (book : Ledger) → amount_sum lines ≤ room_of book → AreBooks release items book
      → AreBooks release items (all_minted lines book)
  all_books_minted [] items book within are = are
  all_books_minted (line ∷ more) items book within are =
      let whole = sum_by-cons (λ (l : Backer). l.amount) line more in
      all_books_minted more items (minted_free line.who line.amount book) (omega (arith, whole, within))
      (books_minted book line.who line.amount items (omega (arith, whole, within)) are)

  pub books_slashed : (book : Ledger) (who : AccountId) (amount : ℕ) (items : List Submission) → AreBooks release items book
      → AreBooks release items (slashed who amount book)
  books_slashed book who amount items are = record {
    balanced = balanced (is_bonded (row_at book who)) refl;
    releases = λ q. first_by (row_at book q) (row_at (slashed who amount book) q) (same_account q who) (row_at-slashed who amount book q are.balanced) (are.releases q);
    deposits = record {
      held = λ q. still (row_at book q) (row_at (slashed who amount book) q) (same_account q who) (row_at-slashed who amount book q are.balanced) ∙ are.deposits.held q;
      known = λ k d few. known-slashed who amount book (get_or items k d).who ∙ are.deposits.known k d few;
    };
  } where
    balanced : (bonded : Bool) → is_bonded (row_at book who) ≡ bonded
        → IsBalanced (if not bonded then book else record (changed who (rows.slashed_row amount) book) { burned = book.burned + slash_amount (row_at book who) amount })
    balanced false e = are.balanced
    balanced true e = balanced_slashed who amount book are.balanced

    first_by : (old new : Row) (b : Bool) → new ≡ (if b then rows.slashed_row amount old else old)
        → All (λ (chunk : Chunk). chunk.release ≤ release) old.chunks → All (λ (chunk : Chunk). chunk.release ≤ release) new.chunks
    first_by old new true is by =
        subst (All (λ (chunk : Chunk). chunk.release ≤ release)) (sym (ap (λ (row : Row). row.chunks) is)) (without_first_by release (amount - old.active) old.chunks by)
    first_by old new false is by = subst (All (λ (chunk : Chunk). chunk.release ≤ release)) (sym (ap (λ (row : Row). row.chunks) is)) by

    still : (old new : Row) (b : Bool) → new ≡ (if b then rows.slashed_row amount old else old) → new.held ≡ old.held
    still old new true is = ap (λ (row : Row). row.held) is
    still old new false is = ap (λ (row : Row). row.held) is
