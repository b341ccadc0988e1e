-- No cause stands against the rows of a sound chain: they make books, release nothing late, and hold the deposits.
use Rattle.std.proofs.Common.{◌≡◌, ℕ, suc, ◌+◌, ◌-◌, ◌*◌, ◌≤◌, Bool, true, false, cond, nat_lt, if◌then◌else◌, All, List}
use Rattle.std.proofs.Common.{[], ◌∷◌, length, map, filter, get_or, Option, None, unwrap_or, refl, ap, ap₂, sym, ◌∙◌, arith}
use Rattle.std.specs.List.{list_any}
use Rattle.std.proofs.Math.Nat.{mul-add, mul-one, mul-zero}
use Rattle.std.proofs.lemmas.Bool.Decides.{nat_tests}
use Rattle.std.proofs.lemmas.List.Elements.{All-head, All-tail, All-map}
use Rattle.std.proofs.lemmas.List.Folds.{list_any_none}
use Rattle.std.proofs.lemmas.List.Sums.{sum_by-cons}
use Rattle.npos_base.specs.declared.account.AccountId.{AccountId}
use Rattle.npos_base.specs.Account.{same_account}
use Rattle.npos_base.proofs.AccountOrder.{same_exact, same_itself, same_turned}
use Rattle.block_wire.specs.declared.genesis.Params.{Params}
use Rattle.stake_ledger.specs.declared.chunks.Chunk.{Chunk}
use Rattle.stake_ledger.specs.declared.row.Row.{Row}
use Rattle.stake_ledger.specs.declared.book_row.BookRow.{BookRow}
use Rattle.stake_ledger.specs.Rows.{empty_row}
use Rattle.stake_ledger.specs.BookRows.{rows_fault}
use Rattle.stake_ledger.proofs.AnewLemmas.{saved_law}
use Rattle.submission_queue.specs.declared.submission.Submission.{Submission}
use Rattle.round_decision.specs.Deposits.{deposits_of}
use Rattle.chain_params.specs.Rules.{era_of, bonding_eras_of, deposit_of}
use Rattle.state_rules.specs.declared.state.QueueRow.{QueueRow}
use Rattle.state_rules.specs.Terms.{params_of, era_before}
use Rattle.state_rules.specs.Rows.{is_late}
use Rattle.state_rules.specs.Queue.{waiting_of}
use Rattle.state_rules.specs.Sound.{EachIs}
use Rattle.npos_runtime.specs.declared.chain.Chain.{Chain}
use Rattle.npos_runtime.specs.Live.{IsReady}
use Rattle.npos_runtime.specs.Kept.State.{book_row, queue_row, kept, IsTold}
use Rattle.npos_runtime.specs.Kept.Sound.{IsSoundChain}
use Rattle.npos_runtime.proofs.Kept.StateLemmas.{params_back}
use Rattle.npos_runtime.proofs.Kept.Sound.EntryLemmas.{every_entry}

-- ## The params and the era

pub params_kept : (chain : Chain) → params_of (kept chain) ≡ chain.params
params_kept chain = params_back chain.params chain.defer

pub era_kept : (chain : Chain) → IsTold chain → era_before (kept chain) ≡ chain.eras.current
era_kept chain told = ap (λ (params : Option Params). era_of params (chain.due - 1)) (params_kept chain) ∙ sym told.eras.era

-- ## Books

pub sound_book : (chain : Chain) → IsReady chain → IsTold chain → IsSoundChain chain
    → rows_fault (kept chain).rows (kept chain).genesis (kept chain).minted (kept chain).burned ≡ None
sound_book chain ready told sound = (saved_law chain.book ready.between.live.books.balanced).0

-- ## Releases

not_over : (most number : ℕ) → number ≤ most → nat_lt most number ≡ false
not_over most number within = grind (arith, nat_tests, within)

on_time : (latest : ℕ) (chunks : List Chunk) → All (λ chunk. chunk.release ≤ latest) chunks
    → list_any (λ (chunk : Chunk). nat_lt latest chunk.release) chunks ≡ false
on_time latest chunks within =
    list_any_none (λ (chunk : Chunk). nat_lt latest chunk.release) chunks
    (λ k d few. not_over latest (get_or chunks k d).release (within k d few))

none_late : (latest : ℕ) (entries : List (AccountId × Row)) → All (λ entry. All (λ chunk. chunk.release ≤ latest) entry.1.chunks) entries
    → list_any (is_late latest) (map book_row entries) ≡ false
none_late latest entries timely =
    list_any_none (is_late latest) (map book_row entries)
    (All-map (λ (row : BookRow). is_late latest row ≡ false) book_row entries
    (λ k d few. on_time latest (get_or entries k d).1.chunks (timely k d few)))

pub sound_releases : (chain : Chain) → IsReady chain → IsTold chain → IsSoundChain chain
    → list_any (is_late (era_before (kept chain) + bonding_eras_of (params_of (kept chain)))) (kept chain).rows ≡ false
sound_releases chain ready told sound =
    ap (λ (latest : ℕ). list_any (is_late latest) (kept chain).rows)
    (ap₂ (λ (era : ℕ) (params : Option Params). era + bonding_eras_of params) (era_kept chain told) (params_kept chain))
    ∙ none_late (chain.eras.current + bonding_eras_of chain.params) chain.book.rows sound.books

-- ## What is held

pub turned : (x y : AccountId) → same_account x y ≡ same_account y x
turned x y = at (same_account x y) refl where
  at : (b : Bool) → same_account x y ≡ b → same_account x y ≡ same_account y x
  at true is =
      let same : x ≡ y = same_exact x y is in
      is ∙ sym (ap (λ (z : AccountId). same_account y z) same ∙ same_itself y)
  at false is = is ∙ sym (same_turned x y is)

-- one more deposit, or none
one_more : (b : Bool) (deposit given sum : ℕ) (item : QueueRow) (rest : List QueueRow) → given ≡ deposit → sum ≡ deposit * length rest
    → (if b then given else 0) + sum ≡ deposit * length (cond b (item ∷ rest) rest)
one_more true deposit given sum item rest is more =
    let count : 1 + length rest ≡ suc (length rest) = omega arith in
    ap₂ (λ (a b : ℕ). a + b) is more
    ∙ (ap (λ (n : ℕ). n + deposit * length rest) (sym (mul-one deposit))
    ∙ (sym (mul-add deposit 1 (length rest)) ∙ ap (λ (n : ℕ). deposit * n) count))
one_more false deposit given sum item rest is more = let none : 0 + sum ≡ sum = omega arith in none ∙ more

-- deposits that are all the same are as many times that as there are submissions
pub deposits_counted : (deposit : ℕ) (who : AccountId) (items : List Submission) → All (λ item. item.deposit ≡ deposit) items
    → deposits_of who items ≡ deposit * waiting_of (map queue_row items) who
deposits_counted deposit who [] all = sym (mul-zero deposit)
deposits_counted deposit who (item ∷ items) all =
    sum_by-cons (λ (other : Submission). if same_account who other.who then other.deposit else 0) item items
    ∙ (ap (λ (b : Bool). (if b then item.deposit else 0) + deposits_of who items) (turned who item.who)
    ∙ one_more (same_account item.who who) deposit item.deposit (deposits_of who items) (queue_row item)
    (filter (λ (other : QueueRow). same_account other.who who) (map queue_row items))
    (All-head (λ (other : Submission). other.deposit ≡ deposit) item items all)
    (deposits_counted deposit who items (All-tail (λ (other : Submission). other.deposit ≡ deposit) item items all)))

module _ (chain : Chain) where
  abbrev IsHeld : ℕ → BookRow → Type 0
  IsHeld deposit row = row.held ≡ deposit * waiting_of (kept chain).queue row.who

  rows_held : IsReady chain → IsTold chain → All (IsHeld (deposit_of chain.params)) (map book_row chain.book.rows)
  rows_held ready told =
      All-map (IsHeld (deposit_of chain.params)) book_row chain.book.rows
      (every_entry (λ (entry : AccountId × Row). IsHeld (deposit_of chain.params) (book_row entry)) chain.book.rows ready.between.live.books.balanced.distinct
      (λ who row found.
      sym (ap (λ (o : Option Row). (unwrap_or o empty_row).held) found)
      ∙ (ready.between.live.books.deposits.held who
      ∙ deposits_counted (deposit_of chain.params) who chain.queue.items told.params.deposits)))

  pub sound_held : IsReady chain → IsTold chain → IsSoundChain chain
      → EachIs (λ (before : List BookRow) (row : BookRow). row.held ≡ deposit_of (params_of (kept chain)) * waiting_of (kept chain).queue row.who) (kept chain).rows
  sound_held ready told sound place d few =
      rows_held ready told place d few
      ∙ ap (λ (params : Option Params). deposit_of params * waiting_of (kept chain).queue (get_or (kept chain).rows place d).who) (sym (params_kept chain))
