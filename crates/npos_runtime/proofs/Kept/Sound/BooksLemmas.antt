-- The books of a chain stay sound: nothing is released later than what is unbonded in its last block.
use Rattle.std.proofs.Common.{◌≡◌, ℕ, ◌+◌, ◌-◌, ◌≤◌, All, Option, Some, None, refl, ◌∙◌, ap, subst, arith, unwrap_or}
use Rattle.std.proofs.Math.Nat.{zero-div}
use Rattle.std.proofs.lemmas.List.Elements.{All-weaker}
use Rattle.npos_base.specs.declared.account.AccountId.{AccountId}
use Rattle.block_wire.specs.declared.genesis.Genesis.{Genesis}
use Rattle.block_wire.specs.declared.genesis.Params.{Params}
use Rattle.stake_ledger.specs.declared.chunks.Chunk.{Chunk}
use Rattle.stake_ledger.specs.declared.row.Row.{Row}
use Rattle.stake_ledger.specs.Rows.{empty_row}
use Rattle.stake_ledger.specs.Ledger.{row_of}
use Rattle.chain_params.specs.Rules.{era_of, bonding_eras_of}
use Rattle.npos_runtime.specs.declared.chain.Chain.{Chain}
use Rattle.npos_runtime.specs.Rules.BookCalls.{release_now}
use Rattle.npos_runtime.specs.Genesis.{genesis_fault, genesis_chain, params_of}
use Rattle.npos_runtime.specs.Step.{before_calls, calls_outcome}
use Rattle.npos_runtime.specs.Live.{IsLive}
use Rattle.npos_runtime.specs.Kept.Sound.{AreTimely}
use Rattle.npos_runtime.specs.Kept.Soundness.{BooksStaySound}
use Rattle.npos_runtime.proofs.Rules.BeginLemmas.{ready_begun}
use Rattle.npos_runtime.proofs.Rules.LiveLemmas.{live_before, live_calls, era_step}
use Rattle.npos_runtime.proofs.Kept.Sound.EntryLemmas.{every_entry}

-- what holds of each account's chunks holds of each row
timely_live : (latest : ℕ) (chain : Chain) → IsLive chain → release_now chain ≤ latest → AreTimely latest chain.book
timely_live latest chain live within =
    every_entry (λ (entry : AccountId × Row). All (λ chunk. chunk.release ≤ latest) entry.1.chunks) chain.book.rows live.books.balanced.distinct each where
      each : (who : AccountId) (row : Row) → row_of chain.book who ≡ Some row → All (λ (chunk : Chunk). chunk.release ≤ latest) row.chunks
      each who row found =
          All-weaker (λ (chunk : Chunk). chunk.release ≤ release_now chain) (λ chunk. chunk.release ≤ latest) (λ chunk by. omega (arith, by, within)) row.chunks
          (subst (λ (o : Option Row). All (λ (chunk : Chunk). chunk.release ≤ release_now chain) (unwrap_or o empty_row).chunks) found (live.books.releases who))

pub books_stay : BooksStaySound
books_stay chain block can =
    let live : IsLive chain = can.ready.between.live in
    let called : Chain = (calls_outcome 0 block.calls (before_calls chain)).state in
    let still : IsLive called = live_calls 0 block.calls (before_calls chain) (live_before chain live) in
    let back : called.due + 1 - 1 ≡ called.due = omega arith in
    let same : called.eras.current ≡ era_of called.params called.due =
    era_step chain block live can.ready.between.era ∙ ap (era_of called.params) back in
    timely_live (called.eras.current + bonding_eras_of called.params) called still (omega (arith, same))

first_of : (params : Option Params) → era_of params 1 ≡ 0
first_of None = refl
first_of (Some params) = zero-div params.era_blocks

-- a genesis has no chunk
pub books_start : (genesis : Genesis) → genesis_fault genesis ≡ None
    → AreTimely ((genesis_chain genesis).eras.current + bonding_eras_of (genesis_chain genesis).params) (genesis_chain genesis).book
books_start genesis none =
    timely_live ((genesis_chain genesis).eras.current + bonding_eras_of (genesis_chain genesis).params) (genesis_chain genesis)
    (ready_begun genesis none).between.live (omega (arith, first_of (params_of genesis)))
