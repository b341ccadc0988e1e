-- The eras, the elections and the events of blocks together, from any chain on.
use Rattle.std.proofs.Common.{◌≡◌, ℕ, zero, suc, ◌+◌, ◌-◌, ◌≤◌, ◌^◌, ◌==◌, List, [], ◌∷◌, ◌++◌, length, slice_get, unwrap_or, Option, Some, None, refl, ap, sym, subst, ◌∙◌, arith, if◌then◌else◌}
use Rattle.std.specs.Option.{option_or}
use Rattle.std.proofs.lemmas.List.{append-nil, append_assoc, length-append}
use Rattle.std.proofs.lemmas.List.Folds.{find-append}
use Rattle.npos_base.specs.declared.account.AccountId.{AccountId}
use Rattle.block_wire.specs.declared.genesis.Params.{Params}
use Rattle.block_wire.specs.declared.block.Block.{Block}
use Rattle.election_check.specs.Laws.{PackedYesIsAccepting, PlainYesIsPassing}
use Rattle.quota_fill.specs.Laws.{EveryFillPasses}
use Rattle.era_book.specs.declared.exposure.Exposure.{Exposure}
use Rattle.era_book.specs.Exposures.{exposed_for}
use Rattle.era_book.specs.declared.deferred.DeferredSlash.{DeferredSlash}
use Rattle.era_book.specs.Eras.{Eras}
use Rattle.era_book.specs.Events.{Event, begun}
use Rattle.era_book.proofs.EventLemmas.{begun_append}
use Rattle.npos_runtime.specs.declared.chain.Chain.{Chain}
use Rattle.npos_runtime.specs.Rules.Committee.{Committee}
use Rattle.npos_runtime.specs.Rules.Exposed.{exposed}
use Rattle.chain_params.specs.Rules.{era_of, begun_era, is_decision}
use Rattle.npos_runtime.specs.Rules.Deciding.{decision_of}
use Rattle.npos_runtime.specs.Rules.Outcome.{Election, quiet}
use Rattle.npos_runtime.specs.Step.{before_calls, eras_after, step, after_blocks, seated_by}
use Rattle.chain_params.specs.Faults.{params_fault}
use Rattle.npos_runtime.specs.Live.{IsLive}
use Rattle.npos_runtime.specs.Histories.Eras.{takings, started_by, events_in, events_by, elected_for, stake_behind}
use Rattle.npos_runtime.proofs.Rules.LiveLemmas.{live_step, due_step, era_step, fixed_calls, eras_before, params_step}
use Rattle.npos_runtime.proofs.Histories.LawLemmas.{undecided, seats_step}
use Rattle.npos_runtime.proofs.Histories.HistoryLemmas.{begun_block}
use Rattle.npos_runtime.proofs.Histories.SeatedLemmas.{IsBetween, seated_step, waiting_within}

-- ## What is exposed in each era

-- what holds at each place of a list, and of one more item, holds with the item behind it
each_place : {X : Type 0} (P : ℕ → X → Type 0) (none : X) (xs : List X) (last : X) → ((k : ℕ) → P k (unwrap_or (slice_get xs k) none)) → P (length xs) last
    → (k : ℕ) → P k (unwrap_or (slice_get (xs ++ last ∷ []) k) none)
each_place P none [] last each here zero = here
each_place P none [] last each here (suc k) = each (suc k)
each_place P none (x ∷ xs) last each here zero = each zero
each_place P none (x ∷ xs) last each here (suc k) = each_place (λ i y. P (suc i) y) none xs last (λ i. each (suc i)) here k

-- more elections take no stake away
later_stake : (who : AccountId) (era : ℕ) (seated more : List Election) → stake_behind who (elected_for era seated) ≤ stake_behind who (elected_for era (seated ++ more))
later_stake who era seated more =
    subst (λ (found : Option Election). stake_behind who (elected_for era seated) ≤ stake_behind who found)
    (sym (find-append (λ (e : Election). e.round == era) seated more)) (at (elected_for era seated)) where
      at : (first : Option Election) → stake_behind who first ≤ stake_behind who (option_or first (elected_for era more))
      at None = omega arith
      at (Some election) = omega arith

-- nobody is exposed in an era that begins behind the first one beyond the stake with which it voted for it
abbrev pub IsCovered : ℕ → List (List Exposure) → List Election → Type 0
IsCovered first begun seated = (who : AccountId) (k : ℕ) → exposed_for who (unwrap_or (slice_get begun k) []) ≤ stake_behind who (elected_for (first + 1 + k) seated)

covered_later : (first : ℕ) (begun : List (List Exposure)) (seated more : List Election) → IsCovered first begun seated → IsCovered first begun (seated ++ more)
covered_later first begun seated more covered who k = omega (arith, covered who k, later_stake who (first + 1 + k) seated more)

covered_start : (first : ℕ) (begun : List (List Exposure)) (seated : List Election) (exposures : List Exposure) → IsCovered first begun seated
    → ((who : AccountId) → exposed_for who exposures ≤ stake_behind who (elected_for (first + 1 + length begun) seated)) → IsCovered first (begun ++ exposures ∷ []) seated
covered_start first begun seated exposures covered here who =
    each_place (λ k es. exposed_for who es ≤ stake_behind who (elected_for (first + 1 + k) seated)) [] begun exposures (covered who) (here who)

-- slashes that are taken begin no era
no_begin : (count : ℕ) → begun (takings count) ≡ []
no_begin zero = refl
no_begin (suc more) = no_begin more

-- ## One block after the other

module _ (params : Params) where
  -- a chain before a block, the elections since the first era, and the events that led there from it
  pub record IsStory (first : ℕ) (chain : Chain) (seated : List Election) (events : List Event) : Type 0 where
    pub between : IsBetween params chain seated
    pub current : chain.eras.current ≡ era_of chain.params (chain.due - 1)
    pub count : first + length (begun events) ≡ chain.eras.current
    pub covered : IsCovered first (begun events) seated

  module _ (packed : PackedYesIsAccepting) (plain : PlainYesIsPassing) (fill : EveryFillPasses) (sound : params_fault params ≡ None) (first : ℕ) where
    -- the eras that began up to the end of the block
    begun_after : (chain : Chain) (block : Block) (events : List Event)
        → begun (events ++ events_in chain block) ≡ begun events ++ begun (started_by chain.waiting chain.eras.queue (begun_era chain.params chain.due))
    begun_after chain block events = begun_append events (events_in chain block) ∙ ap (λ (es : List (List Exposure)). begun events ++ es) (begun_block chain block)

    started_count : (waiting : Option Committee) (eras : Eras) (slashes : List DeferredSlash) (era : Option ℕ) (begun_before : List (List Exposure)) → first + length begun_before ≡ eras.current
        → first + length (begun_before ++ begun (started_by waiting slashes era)) ≡ (eras_after eras waiting era).current
    started_count waiting eras slashes None begun_before is = omega (arith, ap length (append-nil begun_before), is)
    started_count waiting eras slashes (Some era) begun_before is =
        omega (arith, length-append begun_before (exposed waiting ∷ begun (takings (length slashes))), ap length (no_begin (length slashes)), is)

    started_covered : (waiting : Option Committee) (slashes : List DeferredSlash) (era : Option ℕ) (begun_before : List (List Exposure)) (seated : List Election) → IsCovered first begun_before seated
        → ((who : AccountId) → exposed_for who (exposed waiting) ≤ stake_behind who (elected_for (first + 1 + length begun_before) seated))
        → IsCovered first (begun_before ++ begun (started_by waiting slashes era)) seated
    started_covered waiting slashes None begun_before seated covered here = subst (λ (es : List (List Exposure)). IsCovered first es seated) (sym (append-nil begun_before)) covered
    started_covered waiting slashes (Some era) begun_before seated covered here =
        subst (λ (es : List (List Exposure)). IsCovered first (begun_before ++ exposed waiting ∷ es) seated) (sym (no_begin (length slashes)))
        (covered_start first begun_before seated (exposed waiting) covered here)

    story_step : (chain : Chain) (block : Block) (seated : List Election) (events : List Event) → IsLive chain → IsStory first chain seated events
        → IsStory first (step chain block).state (seated ++ (step chain block).seated) (events ++ events_in chain block)
    story_step chain block seated events live h =
        let starts : Option ℕ = begun_era chain.params chain.due in
        let next : chain.eras.current + 1 ≡ first + 1 + length (begun events) = omega (arith, h.count) in
        let wait : (who : AccountId) → exposed_for who (exposed chain.waiting) ≤ stake_behind who (elected_for (first + 1 + length (begun events)) seated) =
        λ who. subst (λ n. exposed_for who (exposed chain.waiting) ≤ stake_behind who (elected_for n seated)) next
        (waiting_within chain.waiting (elected_for (chain.eras.current + 1) seated) who h.between.waits live.waiting) in
        record {
          between = seated_step params packed plain fill chain block seated sound live h.current h.between;
          current = era_step chain block live h.current;
          count = ap (λ (es : List (List Exposure)). first + length es) (begun_after chain block events)
              ∙ started_count chain.waiting chain.eras chain.eras.queue starts (begun events) h.count
              ∙ sym ((fixed_calls 0 block.calls (before_calls chain)).era ∙ ap (λ (eras : Eras). eras.current) (eras_before chain));
          covered = subst (λ (es : List (List Exposure)). IsCovered first es (seated ++ (step chain block).seated)) (sym (begun_after chain block events))
              (covered_later first (begun events ++ begun (started_by chain.waiting chain.eras.queue starts)) seated (step chain block).seated
              (started_covered chain.waiting chain.eras.queue starts (begun events) seated h.covered wait));
        }

    pub story_blocks : (chain : Chain) (blocks : List Block) (seated : List Election) (events : List Event) → IsLive chain → chain.due + length blocks ≤ 2 ^ 32 → IsStory first chain seated events
        → IsStory first (after_blocks chain blocks) (seated ++ seated_by chain blocks) (events ++ events_by chain blocks)
    story_blocks chain [] seated events live fit h =
        subst (λ (elections : List Election). IsStory first chain elections (events ++ [])) (sym (append-nil seated))
        (subst (λ (es : List Event). IsStory first chain seated es) (sym (append-nil events)) h)
    story_blocks chain (block ∷ more) seated events live fit h =
        let next : Chain = (step chain block).state in
        subst (λ (elections : List Election). IsStory first (after_blocks next more) elections (events
        ++ (events_in chain block ++ events_by next more))) (append_assoc seated (step chain block).seated
        (seated_by next more))
        (subst (λ (es : List Event). IsStory first (after_blocks next more) ((seated ++ (step chain block).seated)
        ++ seated_by next more) es) (append_assoc events (events_in chain block) (events_by next more))
        (story_blocks next more (seated ++ (step chain block).seated) (events ++ events_in chain block) (live_step chain block live (omega (arith, fit))) (omega (arith, fit, due_step chain block))
        (story_step chain block seated events live h)))

-- ## Without params there is one era, and nobody is seated

none_seated : (chain : Chain) (block : Block) → chain.params ≡ None → (step chain block).seated ≡ []
none_seated chain block none =
    seats_step chain block
    ∙ ap (λ (params : Option Params). (if is_decision params chain.due then decision_of (undecided chain).round (undecided chain) else quiet (undecided chain)).seated) none

pub plain_seated : (chain : Chain) (blocks : List Block) → chain.params ≡ None → seated_by chain blocks ≡ []
plain_seated chain [] none = refl
plain_seated chain (block ∷ more) none =
    ap (λ (elections : List Election). elections ++ seated_by (step chain block).state more) (none_seated chain block none)
    ∙ plain_seated (step chain block).state more (params_step chain block ∙ none)

none_begun : (chain : Chain) → chain.params ≡ None → started_by chain.waiting chain.eras.queue (begun_era chain.params chain.due) ≡ []
none_begun chain none = ap (λ (params : Option Params). started_by chain.waiting chain.eras.queue (begun_era params chain.due)) none

pub plain_begun : (chain : Chain) (blocks : List Block) → chain.params ≡ None → begun (events_by chain blocks) ≡ []
plain_begun chain [] none = refl
plain_begun chain (block ∷ more) none =
    begun_append (events_in chain block) (events_by (step chain block).state more)
    ∙ ap (λ (es : List (List Exposure)). es ++ begun (events_by (step chain block).state more)) (begun_block chain block ∙ ap begun (none_begun chain none))
    ∙ plain_begun (step chain block).state more (params_step chain block ∙ none)
