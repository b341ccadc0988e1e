-- The books count what calls, phases, blocks and whole histories tell.
use Rattle.std.proofs.Common.{ℕ, ◌+◌, List, [], ◌∷◌, ◌++◌, Option, Some, None, refl, arith}
use Rattle.block_wire.specs.declared.call.Call.{Call}
use Rattle.block_wire.specs.declared.block.Block.{Block}
use Rattle.stake_ledger.specs.Ledger.{empty_ledger}
use Rattle.block_receipts.specs.declared.line.Line.TheVariants as lines
use Rattle.block_receipts.specs.declared.refusal.Refusal.{Refusal}
use Rattle.block_receipts.specs.Refusals.{code_of}
use Rattle.npos_runtime.specs.declared.chain.Chain.{Chain}
use Rattle.npos_runtime.specs.Rules.Outcome.{Outcome}
use Rattle.npos_runtime.specs.Rules.CallRule.{CallRule}
use Rattle.npos_runtime.specs.Rules.Calls.{rule_for}
use Rattle.npos_runtime.specs.Genesis.{endowments_of, genesis_chain}
use Rattle.npos_runtime.specs.Step.{phases, in_turn, before_calls, call_after, call_outcome, calls_outcome, step, after_blocks, told_by}
use Rattle.npos_runtime.specs.Histories.Sums.{AddsUp, SumsOnLaw, SumsLaw}
use Rattle.npos_runtime.proofs.Histories.SumLemmas.{adds_none, adds_then, adds_behind, counts_endowments}
use Rattle.npos_runtime.proofs.Rules.CallTable.{lawful_call}
use Rattle.npos_runtime.proofs.Rules.PhaseTable.{phases_keep, adds_in_turn}
use Rattle.npos_runtime.proofs.Rules.LiveLemmas.{live_blocks}
use Rattle.npos_runtime.proofs.Rules.BeginLemmas.{live_begun}

adds_after : (due : Option Refusal) (index : ℕ) (rule : CallRule) (chain : Chain) → AddsUp chain.book rule.told rule.done.book
    → AddsUp chain.book (call_after due index rule chain).lines (call_after due index rule chain).state.book
adds_after None index rule chain adds = adds_behind (lines.CallOk index) chain.book rule.done.book rule.told refl refl adds
adds_after (Some refusal) index rule chain adds =
    adds_behind (lines.CallRefused index (code_of refusal)) chain.book chain.book [] refl refl (adds_none chain.book chain.book refl)

adds_calls : (index : ℕ) (calls : List Call) (chain : Chain)
    → AddsUp chain.book (calls_outcome index calls chain).lines (calls_outcome index calls chain).state.book
adds_calls index [] chain = adds_none chain.book chain.book refl
adds_calls index (call ∷ calls) chain =
    let once : Outcome = call_outcome index call chain in
    let rest : Outcome = calls_outcome (index + 1) calls once.state in
    adds_then chain.book once.state.book rest.state.book once.lines rest.lines
    (adds_after (rule_for chain call).refusal index (rule_for chain call) chain (lawful_call call chain).sums)
    (adds_calls (index + 1) calls once.state)

adds_step : (chain : Chain) (block : Block) → AddsUp chain.book (step chain block).lines (step chain block).state.book
adds_step chain block =
    let start : Chain = before_calls chain in
    let calls : Outcome = calls_outcome 0 block.calls start in
    adds_behind (lines.Block block.number) chain.book calls.state.book ((in_turn phases chain).lines ++ (calls.lines ++ [])) refl refl
    (adds_then chain.book start.book calls.state.book (in_turn phases chain).lines (calls.lines ++ []) (adds_in_turn phases phases_keep chain)
    (adds_then start.book calls.state.book calls.state.book calls.lines [] (adds_calls 0 block.calls start)
    (adds_none calls.state.book calls.state.book refl)))

pub sums_on : SumsOnLaw
sums_on chain [] = adds_none chain.book chain.book refl
sums_on chain (block ∷ more) =
    let next : Chain = (step chain block).state in
    adds_then chain.book next.book (after_blocks next more).book (step chain block).lines (told_by next more) (adds_step chain block) (sums_on next more)

pub sums_law : SumsLaw
sums_law genesis blocks history =
    let start : Chain = genesis_chain genesis in
    let balanced = (live_blocks start blocks (live_begun genesis history.faultless) history.fit).books.balanced in
    let given = counts_endowments (endowments_of genesis) empty_ledger in
    let adds = sums_on start blocks in
    record {
      balanced = balanced;
      endowed = omega (arith, adds.genesis, given.genesis);
      minted = omega (arith, adds.minted, given.minted);
      burned = omega (arith, adds.burned, given.burned);
      holdings = omega (arith, balanced.equation, adds.genesis, adds.minted, adds.burned, given.genesis, given.minted, given.burned);
    }
