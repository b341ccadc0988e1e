-- The slashes that wait in a chain that goes on from a state.
use Rattle.std.proofs.Common.{◌≡◌, ℕ, ◌-◌, ◌^◌, ◌≤◌, ◌<◌, true, nat_lt, nat_le, length, get_or, arith}
use Rattle.std.proofs.lemmas.Bool.Decides.{nat_tests}
use Rattle.era_book.specs.declared.exposure.Backer.{Backer}
use Rattle.era_book.specs.declared.deferred.DeferredSlash.{DeferredSlash}
use Rattle.era_book.specs.Deferred.{AreQueued}
use Rattle.chain_params.specs.Faults.{AreSound, CanWait}
use Rattle.chain_params.proofs.FaultLemmas.{wait_within}
use Rattle.state_rules.specs.declared.state.State.{State}
use Rattle.state_rules.specs.Sound as rule
use Rattle.era_book.specs.declared.deferred.TheConstants.{MOST_SLASHES}
use Rattle.npos_runtime.specs.Kept.State.{IsTold}
use Rattle.state_rules.specs.Terms.{params_of, defer_of}
use Rattle.npos_runtime.specs.Kept.Chain.{chain_of}
use Rattle.npos_runtime.specs.Live.{CanDefer}
use Rattle.npos_runtime.specs.Kept.Sound.{AreSoundSlashes}
use Rattle.npos_runtime.proofs.Rules.LiveLemmas.{era_small}
use Rattle.npos_runtime.proofs.Kept.Restored.ListLemmas.{follow_pairs}
use Rattle.npos_runtime.proofs.Kept.Restored.BookLemmas.{none_unknown}
use Rattle.npos_runtime.proofs.Kept.Restored.EraLemmas.{lines_given, lines_apart, restored_kept, restored_fractions}

module _ (state : State) (sound : rule.HasSoundSlashes state) where
  in_line : length state.slashes ≤ MOST_SLASHES → AreQueued (chain_of state).eras
  in_line most = record {
    numbers = follow_pairs (λ (first later : DeferredSlash). first.number < later.number) (λ first next later one two. omega (arith, one, two))
        (λ first later. nat_lt first.number later.number) (λ first later is. lower first.number later.number is) state.slashes
        (λ place d few. (sound.slashes place d few).above);
    given = λ place d few. (sound.slashes place d few).given;
    dues = follow_pairs (λ (first later : DeferredSlash). first.due ≤ later.due) (λ first next later one two. omega (arith, one, two))
        (λ first later. nat_le first.due later.due) (λ first later is. under first.due later.due is) state.slashes
        (λ place d few. (sound.slashes place d few).dues);
    most = most;
    distinct = λ place d few. lines_apart (get_or state.slashes place d).lines (sound.slashes place d few).lines;
  } where
    lower : (a b : ℕ) → nat_lt a b ≡ true → a < b
    lower a b e = grind (arith, nat_tests, e)

    under : (a b : ℕ) → nat_le a b ≡ true → a ≤ b
    under a b e = grind (arith, nat_tests, e)

  pub restored_line : rule.IsSoundState state → IsTold (chain_of state) → AreSound (params_of state) → CanWait (params_of state) (defer_of state)
      → state.due ≤ 2 ^ 32 → length state.slashes ≤ MOST_SLASHES → CanDefer (chain_of state)
  restored_line whole told params wait late most = record {
    order = record { kept = restored_kept state whole told; fractions = restored_fractions state whole told; queued = in_line most };
    later = λ place d few. (sound.slashes place d few).within;
    fits = omega (arith, era_small (params_of state) (state.due - 1) params (omega (arith, late)), wait_within (params_of state) (defer_of state) params wait);
  }

  pub restored_slashes : AreSoundSlashes (chain_of state)
  restored_slashes = record {
    each = λ place d few. record {
      numbered = (sound.slashes place d few).numbered;
      ahead = (sound.slashes place d few).ahead;
      known = none_unknown state (λ (line : Backer). line.who) (get_or state.slashes place d).lines (sound.slashes place d few).known;
      given = lines_given (get_or state.slashes place d).lines (sound.slashes place d few).lines;
    };
    first = sound.next_slash.some;
    few = sound.next_slash.within;
  }
