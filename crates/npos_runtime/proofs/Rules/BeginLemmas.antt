-- The chain of a genesis without a fault is live.
use Rattle.std.proofs.Common.{◌≡◌, ℕ, ◌+◌, ◌≤◌, ◌<◌, Bool, true, false, All, List, [], ◌∷◌, ◌++◌, Option, Some, None, refl, sym, subst, arith, nat_lt, ap, ◌∙◌, if◌then◌else◌}
use Rattle.std.specs.Option.{option_or}
use Rattle.std.specs.List.Sorted.{IsStrictlySortedBy}
use Rattle.std.proofs.lemmas.Bool.{ltb-false}
use Rattle.npos_base.specs.declared.account.AccountId.{AccountId}
use Rattle.block_wire.specs.declared.genesis.Endowment.{Endowment}
use Rattle.block_wire.specs.declared.genesis.Genesis.{Genesis}
use Rattle.block_wire.specs.declared.genesis.Genesis.TheVariants.{Plain, Full, Deferred}
use Rattle.stake_ledger.specs.declared.chunks.Chunk.{Chunk}
use Rattle.stake_ledger.specs.Rows.{gained}
use Rattle.stake_ledger.specs.Ledger.{Ledger, row_at, empty_ledger, issuance_cap, IsBalanced}
use Rattle.stake_ledger.specs.Calls.{endowed}
use Rattle.stake_ledger.proofs.KeepLemmas.{balanced_endowed}
use Rattle.chain_params.specs.declared.fault.GenesisFault.{GenesisFault}
use Rattle.chain_params.specs.declared.fault.GenesisFault.TheVariants.{RepeatedAccount, TooMuch, BadThreshold}
use Rattle.era_book.specs.Eras.{first_era}
use Rattle.npos_runtime.proofs.Histories.CourseLemmas.{first_course}
use Rattle.npos_runtime.proofs.Rules.RoleLemmas.{none_kept}
use Rattle.chain_params.proofs.PhaseLemmas.{era_first}
use Rattle.npos_runtime.specs.Genesis.{params_of, defer_of, endowment_sum, endowed_all, endowment_fault, is_endowed, genesis_fault, genesis_chain}
use Rattle.chain_params.specs.Faults.{terms_fault, numbers_fault, threshold_fault, limits_fault, AreSound}
use Rattle.npos_base.specs.Account.{same_account, account_cmp}
use Rattle.stake_ledger.specs.declared.row.Row.{Row}
use Rattle.stake_ledger.proofs.AccountLemmas.{row_at-changed}
use Rattle.submission_queue.specs.Ranking.{IsOrdered, empty_queue}
use Rattle.voter_lists.specs.Bags.{IsRisingFrom}
use Rattle.std.proofs.lemmas.Bool.Decides.{nat_tests}
use Rattle.npos_runtime.specs.declared.chain.Chain.{Chain}
use Rattle.chain_params.specs.Rules.{thresholds_in, places_of}
use Rattle.npos_runtime.specs.Rules.BookCalls.{release_now}
use Rattle.block_wire.specs.declared.genesis.Params.{Params}
use Rattle.npos_runtime.specs.Live.{IsLive, IsBetweenBlocks, IsReady}
use Rattle.npos_runtime.specs.History.{StartLaw}
use Rattle.chain_params.proofs.FaultLemmas.{first_none, places_within, wait_within, can_wait, terms_sound}
use Rattle.npos_runtime.proofs.Rules.EndowLemmas.{sum_more}
use Rattle.npos_runtime.proofs.Rules.PartLemmas.{chunks_changed}

neither : (a b : Bool) (x y : GenesisFault) (r : Option GenesisFault)
    → (if a then Some x else if b then Some y else r) ≡ None → (b ≡ false) × (r ≡ None)
neither true b x y r none = cc
neither false true x y r none = cc
neither false false x y r none = (refl, none)

-- books that balance, with nothing unlocking and nothing minted
record IsFresh (ledger : Ledger) : Type 0 where
  pub balanced : IsBalanced ledger
  pub unminted : ledger.minted ≡ 0
  pub locked : (who : AccountId) → (row_at ledger who).chunks ≡ []
  pub unheld : (who : AccountId) → (row_at ledger who).held ≡ 0

unheld_by : (old new : Row) (b : Bool) → new.held ≡ old.held → old.held ≡ 0 → (if b then new else old).held ≡ 0
unheld_by old new true same none = same ∙ none
unheld_by old new false same none = none

fresh : (before more : List Endowment) (ledger : Ledger) → IsFresh ledger → ledger.genesis ≡ endowment_sum before
    → endowment_fault before more ≡ None → IsFresh (endowed_all more ledger)
fresh before [] ledger is total none = is
fresh before (e ∷ more) ledger is total none =
    let n = neither (is_endowed before e.who) (nat_lt issuance_cap (endowment_sum (before ++ e ∷ []))) (RepeatedAccount _) (TooMuch _)
    (endowment_fault (before ++ e ∷ []) more) none in
    let within : endowment_sum (before ++ e ∷ []) ≤ issuance_cap = ltb-false issuance_cap (endowment_sum (before ++ e ∷ [])) n.0 in
    fresh (before ++ e ∷ []) more (endowed e.who e.value ledger)
    (record {
      balanced = balanced_endowed e.who e.value ledger is.balanced is.unminted (omega (arith, within, sum_more before e, total));
      unminted = is.unminted;
      locked = chunks_changed (λ (chunks : List Chunk). chunks ≡ []) e.who (gained e.value) ledger is.locked (is.locked e.who);
      unheld = λ who. ap (λ (row : Row). row.held) (row_at-changed e.who (gained e.value) ledger who)
          ∙ unheld_by (row_at ledger who) (gained e.value (row_at ledger who)) (same_account who e.who) refl (is.unheld who);
    })
    (omega (arith, sum_more before e, total)) n.1

fresh_empty : IsFresh empty_ledger
unfolding IsStrictlySortedBy
fresh_empty = record {
  balanced = record { distinct = tt; schedules = λ k d few. absurd (omega arith); equation = refl; capped = omega arith };
  unminted = refl;
  locked = λ who. refl;
  unheld = λ who. refl;
}

-- the chain of a genesis, in which nobody has a role
abbrev begun_chain : Option Params → ℕ → List Endowment → Chain
begun_chain params defer endowments = record {
  params = params;
  defer = defer;
  book = endowed_all endowments empty_ledger;
  roles = [];
  bags = record { thresholds = thresholds_in params; order = [] };
  round = None;
  queue = empty_queue (places_of params);
  next = 1;
  waiting = None;
  eras = first_era;
  due = 1;
}

nobody_rises : IsStrictlySortedBy account_cmp []
unfolding IsStrictlySortedBy
nobody_rises = tt

places_ordered : (params : Option Params) → AreSound params → IsOrdered (empty_queue (places_of params))
places_ordered None sound = record { some = omega arith; most = omega arith; fits = omega arith; by_rank = tt }
places_ordered (Some params) sound =
    let within = places_within params sound in record { some = within.0; most = within.1; fits = omega arith; by_rank = tt }

made_live : (params : Option Params) (defer : ℕ) (endowments : List Endowment) → (params ≡ None → defer ≡ 0)
    → option_or (endowment_fault [] endowments) (terms_fault params defer) ≡ None → IsLive (begun_chain params defer endowments)
made_live params defer endowments unset faultless =
    let both = first_none (endowment_fault [] endowments) (terms_fault params defer) faultless in
    let none = both.0 in
    let sound = terms_sound params defer both.1 in
    let is = fresh [] endowments empty_ledger fresh_empty refl none in
    record {
      params = sound;
      defer = can_wait params defer unset both.1;
      due = record { at_least = omega arith; at_most = omega arith };
      books = record {
        balanced = is.balanced;
        releases = λ who. subst (All (λ (chunk : Chunk). chunk.release ≤ release_now (begun_chain params defer endowments)))
            (sym (is.locked who)) (λ k d few. absurd (omega arith));
        deposits = record { held = is.unheld; known = λ k d few. absurd (omega arith) };
      };
      roles = record {
        ranked = record { rising = nobody_rises; ranked = refl; few = omega arith };
        nominations = λ who. record { few = omega arith; distinct = refl };
        commissions = λ who. none_kept;
      };
      bags = record { listed = λ who. refl; once = λ who. omega arith; numbered = λ k d few. absurd (omega arith) };
      round = tt;
      queue = places_ordered params sound;
      waiting = tt;
    }

pub live_begun : (genesis : Genesis) → genesis_fault genesis ≡ None → IsLive (genesis_chain genesis)
live_begun (Plain endowments) none = made_live None 0 endowments (λ unset. refl) none
live_begun (Full endowments params) none = made_live (Some params) 0 endowments (λ unset. refl) none
live_begun (Deferred endowments params defer_eras) none = made_live (Some params) defer_eras endowments (λ unset. cc) none

-- era 0 is the current one, and nothing waits
pub between_begun : (genesis : Genesis) → genesis_fault genesis ≡ None → IsBetweenBlocks (genesis_chain genesis)
between_begun genesis none =
    let live = live_begun genesis none in
    record {
      live = live;
      era = sym (era_first (params_of genesis));
      places = refl;
      timely = refl;
      elected = tt;
      slashes = record {
        order = first_course;
        later = λ k d few. absurd (omega arith);
        fits = omega (arith, wait_within (params_of genesis) (defer_of genesis) live.params live.defer);
      };
    }

-- no number was given yet
pub ready_begun : (genesis : Genesis) → genesis_fault genesis ≡ None → IsReady (genesis_chain genesis)
ready_begun genesis none = record { between = between_begun genesis none; numbered = omega arith; slash_numbered = omega arith }

pub start_law : StartLaw
start_law genesis blocks history = record { between = between_begun genesis history.faultless; fit = history.fit }

rising_none : (place before : ℕ) (thresholds : List ℕ) → threshold_fault place before thresholds ≡ None → IsRisingFrom before thresholds
rising_none place before [] e = tt
rising_none place before (threshold ∷ thresholds) e = at (nat_lt before threshold) refl e (rising_none (place + 1) threshold thresholds) where
  at : (b : Bool) → nat_lt before threshold ≡ b → (if b then threshold_fault (place + 1) threshold thresholds else Some (BadThreshold place)) ≡ None
      → (threshold_fault (place + 1) threshold thresholds ≡ None → IsRisingFrom threshold thresholds) → (before < threshold) × IsRisingFrom threshold thresholds
  at true f e rest = (grind (arith, nat_tests), rest e)
  at false f e rest = cc

-- thresholds without a fault rise from 0
pub rising_params : (params : Option Params) (thresholds : List ℕ) → AreSound params → thresholds ≡ thresholds_in params → IsRisingFrom 0 thresholds
rising_params None thresholds sound is = subst (IsRisingFrom 0) (sym is) tt
rising_params (Some params) thresholds sound is =
    let later = first_none (numbers_fault params) (option_or (threshold_fault 0 0 params.thresholds) (limits_fault params)) sound in
    subst (IsRisingFrom 0) (sym is) (rising_none 0 0 params.thresholds (first_none (threshold_fault 0 0 params.thresholds) (limits_fault params) later.1).0)
