-- The books of a chain that goes on from a state.
use Rattle.std.proofs.Common.{◌≡◌, ℕ, ◌+◌, ◌-◌, ◌*◌, ◌≤◌, Bool, true, false, not, nat_lt, is_some, unwrap_or, if◌then◌else◌}
use Rattle.std.proofs.Common.{All, List, [], ◌∷◌, map, get_or, Option, Some, None, refl, ap, sym, ◌∙◌, arith, true≢false}
use Rattle.std.specs.List.{list_any}
use Rattle.std.proofs.lemmas.Bool.Decides.{nat_tests}
use Rattle.std.proofs.lemmas.List.Elements.{All-head, All-tail, All-map}
use Rattle.std.proofs.lemmas.List.Sums.{sum_by-cons}
use Rattle.npos_base.specs.declared.account.AccountId.{AccountId}
use Rattle.npos_base.specs.Account.{same_account}
use Rattle.npos_base.proofs.AccountOrder.{same_exact}
use Rattle.stake_ledger.specs.declared.chunks.Chunk.{Chunk}
use Rattle.stake_ledger.specs.declared.row.Row.{Row}
use Rattle.stake_ledger.specs.declared.book_row.BookRow.{BookRow}
use Rattle.stake_ledger.specs.Ledger.{Ledger, row_of, row_at}
use Rattle.stake_ledger.specs.Rows.{empty_row}
use Rattle.stake_ledger.specs.Rows as rows
use Rattle.stake_ledger.proofs.AnewLemmas.{restored_law}
use Rattle.submission_queue.specs.declared.submission.Submission.{Submission}
use Rattle.round_decision.specs.Deposits.{deposits_of, AreHeld}
use Rattle.chain_params.specs.Rules.{era_of, bonding_eras_of, deposit_of}
use Rattle.state_rules.specs.declared.state.State.{State}
use Rattle.state_rules.specs.declared.state.QueueRow.{QueueRow}
use Rattle.state_rules.specs.Known as known
use Rattle.state_rules.specs.Rows.{is_late}
use Rattle.state_rules.specs.Queue.{waiting_of}
use Rattle.state_rules.specs.Sound.{EachIs}
use Rattle.state_rules.specs.Sound as rule
use Rattle.state_rules.proofs.SoundLemmas.{holds}
use Rattle.npos_runtime.specs.Rules.BookCalls.{release_now}
use Rattle.npos_runtime.specs.Kept.State.{book_row, queue_row, IsTold}
use Rattle.state_rules.specs.Terms.{params_of, era_before}
use Rattle.npos_runtime.specs.Kept.Chain.{book_entry, submission_in, chain_of}
use Rattle.npos_runtime.specs.Live.{AreBooks}
use Rattle.npos_runtime.specs.Kept.Sound.{AreKnown, AreTimely}
use Rattle.npos_runtime.proofs.Kept.RowLemmas.{row_known, row_bonded}
use Rattle.npos_runtime.proofs.Kept.StateLemmas.{back}
use Rattle.npos_runtime.proofs.Kept.Sound.EntryLemmas.{each_found}
use Rattle.npos_runtime.proofs.Kept.Causes.RowLemmas.{deposits_counted}
use Rattle.npos_runtime.proofs.Rules.LiveLemmas.{later_release}
use Rattle.npos_runtime.proofs.Kept.Restored.ListLemmas.{none_passes}

module _ (state : State) where
  abbrev book : Ledger
  book = (chain_of state).book

  rows_again : map book_row (map book_entry state.rows) ≡ state.rows
  rows_again = back book_entry book_row (λ row. refl) state.rows

  -- ## Rows by account

  -- an account has a row in the books where the state has one of it
  state_known : (who : AccountId) → is_some (row_of book who) ≡ known.has_row state.rows who
  state_known who = sym (row_known book who) ∙ ap (λ (all : List BookRow). known.has_row all who) rows_again

  pub state_bonded : (who : AccountId) → rows.is_bonded (row_at book who) ≡ known.is_bonded (known.row_of state.rows who)
  state_bonded who = sym (row_bonded book who) ∙ ap (λ (all : List BookRow). known.is_bonded (known.row_of all who)) rows_again

  pub is_known : (who : AccountId) → known.has_row state.rows who ≡ true → is_some (row_of book who) ≡ true
  is_known who has = state_known who ∙ has

  pub are_known : {A : Type 0} (account : A → AccountId) (items : List A) → All (λ item. known.has_row state.rows (account item) ≡ true) items
      → AreKnown book (map account items)
  are_known account items all =
      All-map (λ (who : AccountId). is_some (row_of book who) ≡ true) account items (λ k d few. is_known (account (get_or items k d)) (all k d few))

  pub none_unknown : {A : Type 0} (account : A → AccountId) (items : List A) → list_any (λ item. not (known.has_row state.rows (account item))) items ≡ false
      → AreKnown book (map account items)
  none_unknown account items none =
      are_known account items
      (λ k d few.
      holds (known.has_row state.rows (account (get_or items k d))) (none_passes (λ item. not (known.has_row state.rows (account item))) items none k d few))

  -- ## Releases

  pub timely : (latest : ℕ) → list_any (is_late latest) state.rows ≡ false → AreTimely latest book
  timely latest none =
      All-map (λ (entry : AccountId × Row). All (λ (chunk : Chunk). chunk.release ≤ latest) entry.1.chunks) book_entry state.rows
      (λ k d few. on_time (get_or state.rows k d).chunks (none_passes (is_late latest) state.rows none k d few)) where
        on_time : (chunks : List Chunk) → list_any (λ (chunk : Chunk). nat_lt latest chunk.release) chunks ≡ false
            → All (λ (chunk : Chunk). chunk.release ≤ latest) chunks
        on_time chunks early = λ k d few. within (get_or chunks k d).release (none_passes (λ (chunk : Chunk). nat_lt latest chunk.release) chunks early k d few) where
          within : (release : ℕ) → nat_lt latest release ≡ false → release ≤ latest
          within release e = grind (arith, nat_tests, e)

  pub releases : (latest : ℕ) → AreTimely latest book → (who : AccountId) → All (λ (chunk : Chunk). chunk.release ≤ latest) (row_at book who).chunks
  releases latest early who = at (row_of book who) refl where
    at : (o : Option Row) → row_of book who ≡ o → All (λ (chunk : Chunk). chunk.release ≤ latest) (unwrap_or o empty_row).chunks
    at None none = λ k d few. absurd (omega (arith, few))
    at (Some row) found =
        each_found (λ (entry : AccountId × Row). All (λ (chunk : Chunk). chunk.release ≤ latest) entry.1.chunks) book.rows early who row found

  -- ## Deposits

  abbrev items : List Submission
  items = (chain_of state).queue.items

  -- nothing is held for who is not known
  nothing_held : (who : AccountId) (waits : List Submission) → row_of book who ≡ None → All (λ (item : Submission). is_some (row_of book item.who) ≡ true) waits
      → deposits_of who waits ≡ 0
  nothing_held who [] none all = refl
  nothing_held who (item ∷ waits) none all =
      sum_by-cons (λ (other : Submission). if same_account who other.who then other.deposit else 0) item waits
      ∙ at (same_account who item.who) refl
      (nothing_held who waits none (All-tail (λ (other : Submission). is_some (row_of book other.who) ≡ true) item waits all)) where
        at : (b : Bool) → same_account who item.who ≡ b → deposits_of who waits ≡ 0 → (if b then item.deposit else 0) + deposits_of who waits ≡ 0
        at true same rest =
            let unknown : row_of book item.who ≡ None = ap (row_of book) (sym (same_exact who item.who same)) ∙ none in
            absurd (true≢false (sym (All-head (λ (other : Submission). is_some (row_of book other.who) ≡ true) item waits all) ∙ ap is_some unknown))
        at false apart rest = omega (arith, rest)

  pub restored_deposits : IsTold (chain_of state)
      → EachIs (λ (before : List BookRow) (row : BookRow). row.held ≡ deposit_of (params_of state) * waiting_of state.queue row.who) state.rows
      → All (λ (item : QueueRow). known.has_row state.rows item.who ≡ true) state.queue → AreHeld book items
  restored_deposits told held all = record { held = each_held; known = items_known } where
    items_known : All (λ (item : Submission). is_some (row_of book item.who) ≡ true) items
    items_known =
        All-map (λ (item : Submission). is_some (row_of book item.who) ≡ true) (submission_in (params_of state)) state.queue
        (λ k d few. is_known (get_or state.queue k d).who (all k d few))

    counted : (who : AccountId) → deposits_of who items ≡ deposit_of (params_of state) * waiting_of state.queue who
    counted who =
        deposits_counted (deposit_of (params_of state)) who items told.params.deposits
        ∙ ap (λ (queue : List QueueRow). deposit_of (params_of state) * waiting_of queue who)
        (back (submission_in (params_of state)) queue_row (λ row. refl) state.queue)

    rows_held : All (λ (entry : AccountId × Row). entry.1.held ≡ deposits_of entry.0 items) book.rows
    rows_held =
        All-map (λ (entry : AccountId × Row). entry.1.held ≡ deposits_of entry.0 items) book_entry state.rows
        (λ k d few. held k d few ∙ sym (counted (get_or state.rows k d).who))

    each_held : (who : AccountId) → (row_at book who).held ≡ deposits_of who items
    each_held who = at (row_of book who) refl where
      at : (o : Option Row) → row_of book who ≡ o → (unwrap_or o empty_row).held ≡ deposits_of who items
      at None none = sym (nothing_held who items none items_known)
      at (Some row) found = each_found (λ (entry : AccountId × Row). entry.1.held ≡ deposits_of entry.0 items) book.rows rows_held who row found

  -- ## The books

  pub restored_timely : rule.IsSoundState state → AreTimely (era_before state + bonding_eras_of (params_of state)) book
  restored_timely sound = timely (era_before state + bonding_eras_of (params_of state)) sound.releases

  pub restored_books : 1 ≤ state.due → IsTold (chain_of state) → rule.IsSoundState state → AreBooks (release_now (chain_of state)) items book
  restored_books counted told sound = record {
    balanced = (restored_law state.rows state.genesis state.minted state.burned).1 sound.book;
    releases = λ who k d few.
        omega (
          arith,
          releases (era_before state + bonding_eras_of (params_of state)) (restored_timely sound) who k d few,
          later_release (params_of state) (state.due - 1),
          ap (era_of (params_of state)) again,
        );
    deposits = restored_deposits told sound.held (λ k d few. (sound.queue k d few).known);
  } where
    again : state.due - 1 + 1 ≡ state.due
    again = omega (arith, counted)
