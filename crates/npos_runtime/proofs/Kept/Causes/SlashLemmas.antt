-- The slashes that wait in a sound chain are sound in the state that the chain keeps.
use Rattle.std.proofs.Common.{◌≡◌, ℕ, ◌-◌, ◌≤◌, ◌<◌, nat_lt, nat_le, get_or, Option, Some, None, option_map, refl, sym, arith}
use Rattle.std.proofs.lemmas.Bool.{lt-ltb, le-leb}
use Rattle.block_wire.specs.declared.genesis.Params.{Params}
use Rattle.era_book.specs.declared.deferred.DeferredSlash.{DeferredSlash}
use Rattle.state_rules.specs.Terms.{defer_in, era_before, defer_of}
use Rattle.state_rules.specs.Sound.{EachIs, IsSoundSlash, IsNextNumber}
use Rattle.npos_runtime.specs.declared.chain.Chain.{Chain}
use Rattle.npos_runtime.specs.Kept.State.{kept, IsTold}
use Rattle.npos_runtime.specs.Live.{IsReady}
use Rattle.npos_runtime.specs.Kept.Sound.{IsSoundChain}
use Rattle.npos_runtime.proofs.Kept.RowLemmas.{pairs_follow}
use Rattle.npos_runtime.proofs.Kept.Causes.RowLemmas.{era_kept}
use Rattle.npos_runtime.proofs.Kept.Causes.EraLemmas.{lines_known, lines_good}

defer_kept : (params : Option Params) (defer : ℕ) → (params ≡ None → defer ≡ 0) → defer_in (option_map (λ (ps : Params). (ps, defer)) params) ≡ defer
defer_kept None defer none = sym (none refl)
defer_kept (Some params) defer none = refl

pub sound_next_slash : (chain : Chain) → IsReady chain → IsTold chain → IsSoundChain chain
    → IsNextNumber (kept chain).due (kept chain).next_slash
sound_next_slash chain ready told sound = record { some = sound.slashes.first; within = sound.slashes.few }

pub sound_slashes : (chain : Chain) → IsReady chain → IsTold chain → IsSoundChain chain
    → EachIs (IsSoundSlash (era_before (kept chain)) (defer_of (kept chain)) (kept chain).next_slash (kept chain).rows) (kept chain).slashes
sound_slashes chain ready told sound place d few = record {
  numbered = (sound.slashes.each place d few).numbered;
  given = ready.between.slashes.order.queued.given place d few;
  above = pairs_follow (λ (first later : DeferredSlash). first.number < later.number) (λ first later. nat_lt first.number later.number)
      (λ first later below. lt-ltb first.number later.number below) chain.eras.queue ready.between.slashes.order.queued.numbers place d few;
  ahead = omega (arith, era_kept chain told, (sound.slashes.each place d few).ahead);
  within = omega (arith, era_kept chain told, defer, ready.between.slashes.later place d few);
  dues = pairs_follow (λ (first later : DeferredSlash). first.due ≤ later.due) (λ first later. nat_le first.due later.due)
      (λ first later below. le-leb first.due later.due below) chain.eras.queue ready.between.slashes.order.queued.dues place d few;
  known = lines_known chain.book slash.lines (sound.slashes.each place d few).known;
  lines = lines_good slash.lines (sound.slashes.each place d few).given (ready.between.slashes.order.queued.distinct place d few);
} where
  slash : DeferredSlash
  slash = get_or chain.eras.queue place d

  defer : defer_of (kept chain) ≡ chain.defer
  defer = defer_kept chain.params chain.defer told.params.defer
