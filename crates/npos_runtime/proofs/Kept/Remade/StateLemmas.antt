-- The faults of a state in their order, and what its params and its layout say.
use Rattle.std.proofs.Common.{◌≡◌, ℕ, ◌≤◌, length, Option, Some, None, IfSome, option_map, refl, ap, arith}
use Rattle.std.specs.Option.{option_or}
use Rattle.std.proofs.lemmas.Bool.Decides.{nat_tests}
use Rattle.npos_base.specs.declared.limits.TheConstants.{MOST_THRESHOLDS}
use Rattle.block_wire.specs.declared.genesis.Params.{Params}
use Rattle.era_book.specs.declared.deferred.TheConstants.{MOST_SLASHES}
use Rattle.block_wire.specs.Genesis.{params_form}
use Rattle.scale_wire.specs.Composite.{pair}
use Rattle.scale_wire.specs.Parts.{compact_u32}
use Rattle.chain_params.specs.declared.fault.GenesisFault.{GenesisFault}
use Rattle.chain_params.specs.Rules.{seats_of, thresholds_in}
use Rattle.chain_params.specs.Faults.{AreSound, params_fault, defer_fault, terms_fault}
use Rattle.state_rules.specs.declared.fault.CauseFault.{CauseFault}
use Rattle.state_rules.specs.declared.state.State.{State}
use Rattle.state_rules.specs.declared.state.RoundRow.{RoundRow}
use Rattle.state_rules.specs.Causes as rules
use Rattle.state_rules.specs.Terms.{HasSoundTerms, params_of, defer_of}
use Rattle.state_rules.specs.Sound.{IsSoundOpen}
use Rattle.state_checkpoint.specs.Layout.{state_form}
use Rattle.npos_runtime.specs.declared.state_fault.StateFault.{StateFault}
use Rattle.npos_runtime.specs.Kept.Remade.{IsBuiltRound}
use Rattle.npos_runtime.specs.Kept.Restoring.{stated, due_fault, election_fault, state_fault, IsDueFault}
use Rattle.npos_runtime.specs.Kept.Restoring as restoring

-- ## The first fault

first_due : (a b : Option StateFault) (fault : StateFault) → IsDueFault a fault → IsDueFault (option_or a b) fault
first_due None b fault is other = cc (is other)
first_due (Some x) b fault is other = is other

then_due : (a b : Option StateFault) (fault : StateFault) → a ≡ None → IsDueFault b fault → IsDueFault (option_or a b) fault
then_due None b fault none is other = is other
then_due (Some x) b fault none is other = cc

both_none : (a b : Option StateFault) → a ≡ None → b ≡ None → option_or a b ≡ None
both_none None b none e = e
both_none (Some x) b none e = none

none_mapped : {A B : Type 0} (f : A → B) (o : Option A) → o ≡ None → option_map f o ≡ None
none_mapped f o none = ap (option_map f) none

module _ (state : State) where
  abbrev terms : Option StateFault
  terms = option_map restoring.params_fault (terms_fault (params_of state) (defer_of state))

  abbrev cause : Option StateFault
  cause = option_map stated (rules.first_cause state)

  abbrev election : Option StateFault
  election = election_fault (params_of state) state.waiting

  abbrev slashes : Option StateFault
  slashes = option_map stated (rules.slash_cause state)

  pub due_first : (fault : StateFault) → IsDueFault (due_fault state.due) fault → IsDueFault (state_fault state) fault
  due_first fault is = first_due (due_fault state.due) (option_or terms (option_or cause (option_or election slashes))) fault is

  module _ (due : due_fault state.due ≡ None) where
    pub terms_first : (fault : StateFault) → IsDueFault terms fault → IsDueFault (state_fault state) fault
    terms_first fault is =
        then_due (due_fault state.due) (option_or terms (option_or cause (option_or election slashes))) fault due
        (first_due terms (option_or cause (option_or election slashes)) fault is)

    module _ (sound : terms_fault (params_of state) (defer_of state) ≡ None) where
      abbrev no_terms : terms ≡ None
      no_terms = none_mapped restoring.params_fault (terms_fault (params_of state) (defer_of state)) sound

      pub cause_first : (fault : StateFault) → IsDueFault cause fault → IsDueFault (state_fault state) fault
      cause_first fault is =
          then_due (due_fault state.due) (option_or terms (option_or cause (option_or election slashes))) fault due
          (then_due terms (option_or cause (option_or election slashes)) fault no_terms (first_due cause (option_or election slashes) fault is))

      module _ (causeless : rules.first_cause state ≡ None) where
        abbrev no_cause : cause ≡ None
        no_cause = none_mapped stated (rules.first_cause state) causeless

        pub election_first : (fault : StateFault) → IsDueFault election fault → IsDueFault (state_fault state) fault
        election_first fault is =
            then_due (due_fault state.due) (option_or terms (option_or cause (option_or election slashes))) fault due
            (then_due terms (option_or cause (option_or election slashes)) fault no_terms
            (then_due cause (option_or election slashes) fault no_cause (first_due election slashes fault is)))

        module _ (elected : election ≡ None) where
          pub slashes_first : (fault : StateFault) → IsDueFault slashes fault → IsDueFault (state_fault state) fault
          slashes_first fault is =
              then_due (due_fault state.due) (option_or terms (option_or cause (option_or election slashes))) fault due
              (then_due terms (option_or cause (option_or election slashes)) fault no_terms
              (then_due cause (option_or election slashes) fault no_cause (then_due election slashes fault elected is)))

          pub no_fault : rules.slash_cause state ≡ None → state_fault state ≡ None
          no_fault calm =
              both_none (due_fault state.due) (option_or terms (option_or cause (option_or election slashes))) due
              (both_none terms (option_or cause (option_or election slashes)) no_terms
              (both_none cause (option_or election slashes) no_cause
              (both_none election slashes elected (none_mapped stated (rules.slash_cause state) calm))))

  pub sound_terms : due_fault state.due ≡ None → terms_fault (params_of state) (defer_of state) ≡ None → HasSoundTerms state
  sound_terms due sound = record {
    counted = grind (arith, nat_tests, due);
    numbered = grind (arith, nat_tests, due);
    terms = sound;
  }

-- a cause stands for its fault
pub cause_stated : (due : Option CauseFault) (cause : CauseFault) → rules.IsDue due cause → IsDueFault (option_map stated due) (stated cause)
cause_stated due cause is other = ap (option_map stated) (is (λ same. other (ap stated same)))

-- ## Params and layout

pub sound_params : (params : Option Params) (defer : ℕ) → terms_fault params defer ≡ None → AreSound params
sound_params None defer none = tt
sound_params (Some params) defer none = at (params_fault params) none where
  at : (o : Option GenesisFault) → option_or o (defer_fault params defer) ≡ None → o ≡ None
  at None e = refl
  at (Some fault) e = cc

pub few_thresholds : (state : State) → state_form.in_range state → length (thresholds_in (params_of state)) ≤ MOST_THRESHOLDS
few_thresholds state fits = at state.params fits.0.0 where
  at : (terms : Option (Params × ℕ)) → IfSome terms (pair params_form compact_u32).in_range → length (thresholds_in (option_map (λ (t : Params × ℕ). t.0) terms)) ≤ MOST_THRESHOLDS
  at None fits = omega arith
  at (Some terms) fits = fits.0.1.0

pub few_slashes : (state : State) → state_form.in_range state → length state.slashes ≤ MOST_SLASHES
few_slashes state fits = fits.2.2.1.1.0

pub round_built : (state : State) (round : Option RoundRow) → IsSoundOpen state round → IsBuiltRound (seats_of (params_of state)) round
round_built state None sound = tt
round_built state (Some round) sound = (state.rows, sound.1)

-- by these `restoring` goes on
pub ruleset firsts = (cause_first, election_first, slashes_first, no_fault)
