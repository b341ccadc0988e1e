-- The calls that move what an account owns keep the chain live.
use Rattle.std.proofs.Common.{◌≡◌, ℕ, ◌≤◌, ◌-◌, ◌+◌, ◌==◌, ◌&&◌, All, List, [], ◌∷◌, None, refl, arith, nat_lt}
use Rattle.std.proofs.lemmas.Bool.{cond_both}
use Rattle.std.proofs.lemmas.List.Elements.{All-filter, All-cons, All-head, All-tail}
use Rattle.std.proofs.lemmas.Grind.{common_steps}
use Rattle.npos_base.specs.declared.account.AccountId.{AccountId}
use Rattle.stake_ledger.specs.declared.chunks.Chunk.{Chunk}
use Rattle.stake_ledger.specs.declared.row.Row.{Row}
use Rattle.stake_ledger.specs.Chunks.{chunk_sum, with_chunk, without_latest, lessened, is_empty}
use Rattle.stake_ledger.specs.Rows.{activated, unbonded, rebonded, withdrawn, gained, paid}
use Rattle.stake_ledger.specs.Ledger.{Ledger, row_at, changed, IsBalanced}
use Rattle.stake_ledger.specs.Calls.{transfer_refusal as book_transfer_refusal, transferred, bond_refusal as book_bond_refusal}
use Rattle.stake_ledger.specs.Calls.{bond_extra_refusal as book_bond_extra_refusal, unbond_refusal as book_unbond_refusal, unbond_amount}
use Rattle.stake_ledger.specs.Calls.{rebond_refusal as book_rebond_refusal, rebond_amount, withdraw_refusal as book_withdraw_refusal}
use Rattle.stake_ledger.specs.declared.call.RowCall.TheVariants as row_calls
use Rattle.stake_ledger.proofs.KeepLemmas.{balanced_called, balanced_transferred}
use Rattle.chain_params.specs.Rules.{least_bond_of}
use Rattle.block_receipts.specs.declared.refusal.Refusal.TheVariants.{Ledger as ByLedger}
use Rattle.round_decision.proofs.DepositLemmas.{held_changed}
use Rattle.npos_runtime.specs.declared.chain.Chain.{Chain}
use Rattle.npos_runtime.specs.Rules.BookCalls.{era_now, release_now, least_active, transfer_rule, bond_rule, bond_extra_rule, unbond_rule, rebond_rule, withdraw_rule}
use Rattle.npos_runtime.specs.Live.{AreBooks}
use Rattle.npos_runtime.proofs.Rules.PartLemmas.{chunks_changed, none_inside, with_books, with_followed, retired_live}
use Rattle.npos_runtime.proofs.Rules.RuleLemmas.{KeepsLive}

module _ (release : ℕ) where
  abbrev IsBy : Chunk → Type 0
  IsBy chunk = chunk.release ≤ release

  nobody_late : All IsBy []
  nobody_late = λ k d few. absurd (omega arith)

  with_by : (amount : ℕ) (chunks : List Chunk) → All IsBy chunks → All IsBy (with_chunk amount release chunks)
  with_by amount [] by = All-cons IsBy (record { value = amount; release = release }) [] (omega arith) nobody_late
  with_by amount (chunk ∷ later) by =
      let here = All-head IsBy chunk later by in
      cond_both (is_empty later && (chunk.release == release)) (record chunk { value = chunk.value + amount } ∷ [])
      (chunk ∷ with_chunk amount release later) (All IsBy)
      (λ joins. All-cons IsBy (record chunk { value = chunk.value + amount }) [] here nobody_late)
      (λ apart. All-cons IsBy chunk (with_chunk amount release later) here (with_by amount later (All-tail IsBy chunk later by)))

  without_by : (amount : ℕ) (chunks : List Chunk) → All IsBy chunks → All IsBy (without_latest amount chunks)
  without_by amount [] by = by
  without_by amount (chunk ∷ later) by =
      let here = All-head IsBy chunk later by in
      cond_both (nat_lt amount (chunk_sum later)) (chunk ∷ without_latest amount later) (lessened (amount - chunk_sum later) chunk)
      (All IsBy)
      (λ within. All-cons IsBy chunk (without_latest amount later) here (without_by amount later (All-tail IsBy chunk later by)))
      (λ past. cond_both (nat_lt (amount - chunk_sum later) chunk.value)
      (record chunk { value = chunk.value - (amount - chunk_sum later) } ∷ []) [] (All IsBy)
      (λ some. All-cons IsBy (record chunk { value = chunk.value - (amount - chunk_sum later) }) [] here nobody_late)
      (λ none. nobody_late))

transfer_funds : (who to : AccountId) (value : ℕ) (ledger : Ledger) → book_transfer_refusal ledger who to value ≡ None
    → value ≤ (row_at ledger who).free
transfer_funds who to value ledger allowed = grind (arith, common_steps, allowed)

-- books with one row changed, in what is no deposit
books_changed : (chain : Chain) (who : AccountId) (change : Row → Row) (book : Ledger) → IsBalanced (changed who change book)
    → AreBooks (release_now chain) chain.queue.items book
    → All (λ chunk. chunk.release ≤ release_now chain) (change (row_at book who)).chunks
    → ((row : Row) → (change row).held ≡ row.held) → AreBooks (release_now chain) chain.queue.items (changed who change book)
books_changed chain who change book balanced are by same = record {
  balanced = balanced;
  releases = chunks_changed (All (λ chunk. chunk.release ≤ release_now chain)) who change book are.releases by;
  deposits = held_changed who change book chain.queue.items same are.deposits;
}

pub transfer_live : (chain : Chain) (who to : AccountId) (value : ℕ) → KeepsLive chain (transfer_rule chain who to value)
transfer_live chain who to value live free =
    let allowed = none_inside ByLedger (book_transfer_refusal chain.book who to value) free in
    with_books chain (transferred who to value chain.book) live (record {
      balanced = balanced_transferred who to value chain.book live.books.balanced (transfer_funds who to value chain.book allowed);
      releases = chunks_changed IsByNow to (gained value) (changed who (paid value) chain.book) paid_by (paid_by to);
      deposits = held_changed to (gained value) (changed who (paid value) chain.book) chain.queue.items (λ row. refl)
          (held_changed who (paid value) chain.book chain.queue.items (λ row. refl) live.books.deposits);
    }) where
      IsByNow : List Chunk → Type 0
      IsByNow = All (λ chunk. chunk.release ≤ release_now chain)

      paid_by : (other : AccountId)
          → All (λ chunk. chunk.release ≤ release_now chain) (row_at (changed who (paid value) chain.book) other).chunks
      paid_by =
          chunks_changed (All (λ chunk. chunk.release ≤ release_now chain)) who (paid value) chain.book live.books.releases
          (live.books.releases who)

pub bond_live : (chain : Chain) (who : AccountId) (value : ℕ) → KeepsLive chain (bond_rule chain who value)
bond_live chain who value live free =
    let allowed = none_inside ByLedger (book_bond_refusal (row_at chain.book who) value (least_bond_of chain.params)) free in
    with_books chain (changed who (activated value) chain.book) live
    (books_changed chain who (activated value) chain.book
    (balanced_called who (row_calls.Bond value (least_bond_of chain.params)) chain.book live.books.balanced tt allowed)
    live.books (live.books.releases who) (λ row. refl))

pub bond_extra_live : (chain : Chain) (who : AccountId) (value : ℕ) → KeepsLive chain (bond_extra_rule chain who value)
bond_extra_live chain who value live free =
    let allowed = none_inside ByLedger (book_bond_extra_refusal (row_at chain.book who) value) free in
    with_followed chain who (changed who (activated value) chain.book) live
    (books_changed chain who (activated value) chain.book
    (balanced_called who (row_calls.BondExtra value) chain.book live.books.balanced tt allowed)
    live.books (live.books.releases who) (λ row. refl))

pub unbond_live : (chain : Chain) (who : AccountId) (value : ℕ) → KeepsLive chain (unbond_rule chain who value)
unbond_live chain who value live free =
    let amount : ℕ = unbond_amount (row_at chain.book who) value in
    let allowed =
    none_inside ByLedger (book_unbond_refusal (row_at chain.book who) value (release_now chain) (least_active chain who)) free in
    with_followed chain who (changed who (unbonded amount (release_now chain)) chain.book) live
    (books_changed chain who (unbonded amount (release_now chain)) chain.book
    (balanced_called who (row_calls.Unbond value (release_now chain) (least_active chain who)) chain.book live.books.balanced
    (live.books.releases who) allowed)
    live.books (with_by (release_now chain) amount (row_at chain.book who).chunks (live.books.releases who)) (λ row. refl))

pub rebond_live : (chain : Chain) (who : AccountId) (value : ℕ) → KeepsLive chain (rebond_rule chain who value)
rebond_live chain who value live free =
    let amount : ℕ = rebond_amount (row_at chain.book who) value in
    let allowed = none_inside ByLedger (book_rebond_refusal (row_at chain.book who) value) free in
    with_followed chain who (changed who (rebonded amount) chain.book) live
    (books_changed chain who (rebonded amount) chain.book
    (balanced_called who (row_calls.Rebond value) chain.book live.books.balanced tt allowed)
    live.books (without_by (release_now chain) amount (row_at chain.book who).chunks (live.books.releases who)) (λ row. refl))

pub withdraw_live : (chain : Chain) (who : AccountId) → KeepsLive chain (withdraw_rule chain who)
withdraw_live chain who live free =
    let allowed = none_inside ByLedger (book_withdraw_refusal (row_at chain.book who)) free in
    retired_live (record chain { book = changed who (withdrawn (era_now chain)) chain.book }) who
    (with_books chain (changed who (withdrawn (era_now chain)) chain.book) live
    (books_changed chain who (withdrawn (era_now chain)) chain.book
    (balanced_called who (row_calls.Withdraw (era_now chain)) chain.book live.books.balanced tt allowed)
    live.books
    (All-filter (λ chunk. nat_lt (era_now chain) chunk.release) (λ chunk. chunk.release ≤ release_now chain) (row_at chain.book who).chunks
    (live.books.releases who))
    (λ row. refl)))
