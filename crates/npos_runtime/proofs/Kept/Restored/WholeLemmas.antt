-- A state without a fault is that of a chain that can be saved.
use Rattle.std.proofs.Common.{◌≡◌, ℕ, ◌^◌, ◌≤◌, Bool, true, false, ◌&&◌, nat_le, IfSome, length, Option, Some, None, option_map, if◌then◌else◌, refl, sym, subst, arith}
use Rattle.std.specs.Option.{option_or}
use Rattle.std.proofs.lemmas.Bool.Decides.{nat_tests}
use Rattle.block_wire.specs.declared.genesis.Params.{Params}
use Rattle.scale_wire.specs.Composite.{pair}
use Rattle.scale_wire.specs.Parts.{compact_u32}
use Rattle.block_wire.specs.Genesis.{params_form}
use Rattle.chain_params.specs.Faults.{terms_fault, AreSound, CanWait}
use Rattle.chain_params.proofs.FaultLemmas.{can_wait, terms_sound}
use Rattle.era_book.specs.declared.deferred.TheConstants.{MOST_SLASHES}
use Rattle.state_rules.specs.declared.state.State.{State}
use Rattle.state_rules.specs.Causes.{first_cause, slash_cause}
use Rattle.state_rules.specs.Sound as rule
use Rattle.state_rules.proofs.StateLemmas as state_rules
use Rattle.state_checkpoint.specs.Layout.{state_form}
use Rattle.npos_runtime.specs.declared.state_fault.StateFault.{StateFault}
use Rattle.npos_runtime.specs.declared.state_fault.StateFault.TheVariants.{Cause}
use Rattle.npos_runtime.specs.Kept.State.{kept, IsTold}
use Rattle.state_rules.specs.Terms.{params_of, defer_of, defer_in}
use Rattle.npos_runtime.specs.Kept.Chain.{chain_of, IsInForm}
use Rattle.npos_runtime.specs.Live.{CanBeDue, IsReady}
use Rattle.npos_runtime.specs.Kept.Restoring.{due_fault, params_fault, stated, election_fault, state_fault}
use Rattle.npos_runtime.specs.Kept.Savable.{RestoredStateLaw}
use Rattle.npos_runtime.specs.Kept.Sound.{IsSoundChain}
use Rattle.npos_runtime.proofs.Kept.ChainLemmas.{restore}
use Rattle.npos_runtime.proofs.Kept.Restored.BookLemmas.{restored_books, restored_timely}
use Rattle.npos_runtime.proofs.Kept.Restored.RoleLemmas.{roles_apart, restored_roles, restored_bags, restored_sound_roles}
use Rattle.npos_runtime.proofs.Kept.Restored.EraLemmas.{eras_in_form, restored_eras}
use Rattle.npos_runtime.proofs.Kept.Restored.SlashLemmas.{restored_line, restored_slashes}
use Rattle.npos_runtime.proofs.Kept.Restored.QueueLemmas.{restored_order, none_waits, restored_submissions}
use Rattle.npos_runtime.proofs.Kept.Restored.PollLemmas.{restored_round, restored_open, restored_time, restored_noted, restored_elected, restored_waiting, waiting_in_form}

-- ## What no fault says

both_none : {A : Type 0} (a b : Option A) → option_or a b ≡ None → (a ≡ None) × (b ≡ None)
both_none None b none = (refl, none)
both_none (Some x) b none = cc

unmapped : {A B : Type 0} (f : A → B) (found : Option A) → option_map f found ≡ None → found ≡ None
unmapped f None none = refl
unmapped f (Some x) none = cc

due_within : (due : ℕ) → due_fault due ≡ None → CanBeDue due
due_within due none = at (nat_le 1 due) (nat_le due (2 ^ 32)) refl refl none where
  at : (a b : Bool) → nat_le 1 due ≡ a → nat_le due (2 ^ 32) ≡ b → ◌≡◌ {A = Option StateFault} (if a && b then None else Some (Cause 1 due)) None → CanBeDue due
  at true true low high e = record { at_least = grind (arith, nat_tests, low); at_most = grind (arith, nat_tests, high) }
  at true false low high e = cc
  at false b low high e = cc

no_defer : (terms : Option (Params × ℕ)) → option_map (λ (both : Params × ℕ). both.0) terms ≡ None → defer_in terms ≡ 0
no_defer None none = refl
no_defer (Some terms) none = cc

-- what a state without a fault is
record IsFaultless (state : State) : Type 0 where
  due : CanBeDue state.due
  params : AreSound (params_of state)
  defer : CanWait (params_of state) (defer_of state)
  sound : rule.IsSoundState state
  elected : election_fault (params_of state) state.waiting ≡ None
  slashes : rule.HasSoundSlashes state

faultless : (state : State) → state_fault state ≡ None → IsFaultless state
faultless state fine =
    let terms : Option StateFault = option_map params_fault (terms_fault (params_of state) (defer_of state)) in
    let last : Option StateFault = option_map stated (slash_cause state) in
    let elect : Option StateFault = option_or (election_fault (params_of state) state.waiting) last in
    let causes : Option StateFault = option_or (option_map stated (first_cause state)) elect in
    let first = both_none (due_fault state.due) (option_or terms causes) fine in
    let second = both_none terms causes first.1 in
    let third = both_none (option_map stated (first_cause state)) elect second.1 in
    let fourth = both_none (election_fault (params_of state) state.waiting) last third.1 in
    let terms_none = unmapped params_fault (terms_fault (params_of state) (defer_of state)) second.0 in
    record {
      due = due_within state.due first.0;
      params = terms_sound (params_of state) (defer_of state) terms_none;
      defer = can_wait (params_of state) (defer_of state) (no_defer state.params) terms_none;
      sound = state_rules.state_sound state (unmapped stated (first_cause state) third.0);
      elected = fourth.0;
      slashes = state_rules.slashes_sound state (unmapped stated (slash_cause state) fourth.1);
    }

-- ## The chain

module _ (state : State) (fits : state_form.in_range state) (right : IsFaultless state) where
  form : IsInForm state
  form = record {
    roles = roles_apart state right.sound;
    eras = eras_in_form state right.sound;
    waiting = waiting_in_form state state.waiting right.sound.waiting;
  }

  told : IsTold (chain_of state)
  told = (restore state form).1

  terms_fit : IfSome state.params (pair params_form compact_u32).in_range
  terms_fit = fits.0.0

  slashes_fit : length state.slashes ≤ MOST_SLASHES
  slashes_fit = fits.2.2.1.1.0

  ready : IsReady (chain_of state)
  ready = record {
    between = record {
      live = record {
        params = right.params;
        defer = right.defer;
        due = right.due;
        books = restored_books state right.due.at_least told right.sound;
        roles = restored_roles state right.sound;
        bags = restored_bags state right.sound told;
        round = restored_round state state.round right.sound.round;
        queue = restored_order state right.sound right.params;
        waiting = restored_noted state state.waiting right.sound.waiting;
      };
      era = refl;
      places = refl;
      timely = restored_time state state.round (chain_of state).queue.items right.params right.sound.round (none_waits state right.sound);
      elected = restored_elected state state.waiting right.sound.waiting right.elected;
      slashes = restored_line state right.slashes right.sound told right.params right.defer right.due.at_most slashes_fit;
    };
    numbered = omega (arith, right.sound.next_submission.within);
    slash_numbered = omega (arith, right.slashes.next_slash.within);
  }

  sound_chain : IsSoundChain (chain_of state)
  sound_chain = record {
    books = restored_timely state right.sound;
    roles = restored_sound_roles state right.sound right.params terms_fit;
    eras = restored_eras state right.sound told;
    round = restored_open state state.round right.sound.round;
    queue = restored_submissions state right.sound;
    waiting = restored_waiting state state.waiting right.sound.waiting right.elected;
    slashes = restored_slashes state right.slashes;
  }

pub restored_ready : (state : State) → state_form.in_range state → state_fault state ≡ None → IsReady (chain_of state)
restored_ready state fits fine = ready state fits (faultless state fine)

pub restored : RestoredStateLaw
restored state fits fine =
    let right : IsFaultless state = faultless state fine in
    let again : kept (chain_of state) ≡ state = (restore state (form state fits right)).0 in (
      record {
        ready = ready state fits right;
        told = told state fits right;
        sound = sound_chain state fits right;
        fits = subst (λ (each : State). state_form.in_range each) (sym again) fits;
      },
      again,
    )
