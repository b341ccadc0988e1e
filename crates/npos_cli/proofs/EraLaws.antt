-- What the runtime says of eras over blocks holds of the blocks that a replay takes.
use Rattle.std.proofs.Common.{ℕ, ◌<◌, List, [], Option, Some, None, IfSome, arith}
use Rattle.std.proofs.lemmas.List.Elements.{All-nil}
use Rattle.npos_runtime.specs.Genesis.{genesis_chain}
use Rattle.npos_runtime.specs.declared.chain.Chain.{Chain}
use Rattle.npos_runtime.specs.Histories.Deferred.{QueuedLaw, AppliedLaw, TakenInAllLaw}
use Rattle.npos_runtime.specs.Histories.Eras.{chain_at, PaidWithinRewardLaw, PaidAsToldLaw, SlashLaw, TakenLaw, OnceLaw, DueWithinStakeLaw}
use Rattle.npos_runtime.proofs.Rules.BeginLemmas.{start_law}
use Rattle.npos_cli.specs.Eras.{ErasAreKept}
use Rattle.npos_cli.proofs.BookLaws.{history_of}

pub eras_kept : PaidWithinRewardLaw → PaidAsToldLaw → SlashLaw → TakenLaw → OnceLaw → DueWithinStakeLaw → QueuedLaw → AppliedLaw → TakenInAllLaw
    → (bytes : List ℕ)
    → ErasAreKept bytes
eras_kept reward payout slash taken once due queued applied in_all bytes start place text starts reaches =
    let history = history_of bytes start starts place text reaches in
    let can = start_law starts.genesis reaches.blocks history in
    let first : Chain = genesis_chain starts.genesis in (
      record {
        within = record {
          rewards = λ era. reward starts.genesis reaches.blocks era history;
          taken = λ era who. taken starts.genesis reaches.blocks era who history;
          dues = λ era who. due starts.genesis reaches.blocks era who history;
          once = once first reaches.blocks can;
        };
        payouts = λ calls. payout starts.genesis reaches.blocks calls history;
        slashes = λ calls. slash first reaches.blocks calls can;
      },
      record {
        queued = λ calls. (queued (chain_at first reaches.blocks calls)).0;
        cancelled = λ calls. (queued (chain_at first reaches.blocks calls)).1;
        applied = applied first reaches.blocks can;
        taken = λ era who. omega (arith, in_all first reaches.blocks era who [] can (All-nil (λ number. number < first.eras.next_slash)));
      },
    )
