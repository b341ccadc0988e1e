-- Rounds are open in their blocks alone, and then hold what was offered to them: from any chain between two blocks on.
use Rattle.std.proofs.Common.{◌≡◌, ◌⊎◌, inl, inr, ℕ, ◌+◌, ◌≤◌, ◌<◌, ◌^◌, Bool, true, false, ◌==◌, ◌&&◌, List, [], ◌∷◌, ◌++◌}
use Rattle.std.proofs.Common.{length, take, Option, Some, None, refl, sym, ◌∙◌, ap, subst, arith, if◌then◌else◌, true≢false}
use Rattle.std.proofs.lemmas.Bool.Decides.{nat_tests}
use Rattle.std.proofs.lemmas.List.{take_all}
use Rattle.std.proofs.lemmas.List.Elements.{Contains-append_right}
use Rattle.npos_base.specs.declared.account.AccountId.{AccountId}
use Rattle.npos_base.specs.declared.figures.Score.{Score}
use Rattle.block_wire.specs.declared.genesis.Params.{Params}
use Rattle.block_wire.specs.declared.call.Call.{Call}
use Rattle.block_wire.specs.declared.block.Block.{Block}
use Rattle.submission_queue.specs.declared.submission.Submission.{Submission}
use Rattle.submission_queue.specs.Ranking.{Ranking, IsOrdered, empty_queue, offered, after_offers}
use Rattle.submission_queue.proofs.RankLemmas.{ranked_same}
use Rattle.submission_queue.proofs.LawLemmas.{best_of_all}
use Rattle.election_check.specs.Laws.{PackedYesIsAccepting}
use Rattle.block_receipts.specs.declared.refusal.Refusal.{Refusal}
use Rattle.block_receipts.specs.declared.refusal.Refusal.TheVariants.{WrongPhase}
use Rattle.chain_params.specs.Rules.{era_of, place_of, places_of, begun_round, is_decision, is_signed}
use Rattle.chain_params.specs.Faults.{params_fault, AreSound}
use Rattle.npos_runtime.specs.declared.chain.Chain.{Chain}
use Rattle.npos_runtime.specs.declared.round.Round.{Round}
use Rattle.npos_runtime.specs.declared.round.Round.TheVariants as rounds
use Rattle.npos_runtime.specs.Rules.Rounds.{round_after}
use Rattle.npos_runtime.specs.Rules.Deciding.{decision_of}
use Rattle.npos_runtime.specs.Rules.Outcome.{quiet}
use Rattle.npos_runtime.specs.Rules.Signed.{is_open, takes_submissions, submit_refusal}
use Rattle.npos_runtime.specs.Rules.CallRule.{CallRule}
use Rattle.npos_runtime.specs.Rules.Calls.{rule_for}
use Rattle.npos_runtime.specs.Histories.Offers.{offers_in, offers_by}
use Rattle.npos_runtime.specs.Step.{before_calls, era_phase, call_after, call_outcome, calls_outcome, step, after_blocks}
use Rattle.npos_runtime.specs.Live.{IsInTime, IsBetweenBlocks}
use Rattle.npos_runtime.specs.Histories.Laws.{NoneCrowdedOutLaw}
use Rattle.npos_runtime.proofs.Rules.RuleLemmas.{LeavesQueue, Submits}
use Rattle.npos_runtime.proofs.Rules.CallTable.{lawful_call}
use Rattle.npos_runtime.proofs.Rules.LiveLemmas.{fixed_call, fixed_calls, live_step, can_step, era_step, due_step, live_blocks, params_step, params_blocks}
use Rattle.npos_runtime.proofs.Histories.WaitingLemmas.{elected_step, sound_waiting}
use Rattle.npos_runtime.proofs.Histories.CrowdingLemmas.{Holds, IsTimed, IsBetween, stepped, behind, round_holds, answered}

-- ## Where no round is open, no submission is taken

shut : (signed stands : Bool) → stands ≡ false → (signed && stands) ≡ false
shut true stands e = e
shut false stands e = refl

closed_form : (chain : Chain) (who : AccountId) (round : ℕ) (claim : Score) (bytes : List ℕ) → is_open chain.round ≡ false
    → submit_refusal chain who round claim bytes ≡ Some WrongPhase
closed_form chain who round claim bytes closed =
    let takes : takes_submissions chain ≡ false = shut (is_signed chain.params chain.due) (is_open chain.round) closed in rw takes refl

queue_after : (due : Option Refusal) (index : ℕ) (chain : Chain) (who : AccountId) (rule : CallRule) → is_open chain.round ≡ false
    → rule.refusal ≡ due
    → LeavesQueue chain rule ⊎ Submits chain who rule → (call_after due index rule chain).state.queue ≡ chain.queue
queue_after None index chain who rule closed free (inl leaves) = leaves.queue
queue_after None index chain who rule closed free (inr submits) =
    let refused : rule.refusal ≡ Some WrongPhase =
    ap (λ (r : CallRule). r.refusal) submits.is ∙ closed_form chain who submits.round submits.claim submits.bytes closed in
    let both : None ≡ Some WrongPhase = sym free ∙ refused in cc
queue_after (Some refusal) index chain who rule closed free queue = refl

pub queue_calls : (index : ℕ) (calls : List Call) (chain : Chain) → is_open chain.round ≡ false
    → (calls_outcome index calls chain).state.queue ≡ chain.queue
queue_calls index [] chain closed = refl
queue_calls index (call ∷ calls) chain closed =
    let next : Chain = (call_outcome index call chain).state in
    queue_calls (index + 1) calls next (ap is_open (fixed_call index call chain).round ∙ closed)
    ∙ queue_after (rule_for chain call).refusal index chain call.who (rule_for chain call) closed refl (lawful_call call chain).queue

-- ## Without params

-- no round is open
plain_closed : (round : Option Round) (due : ℕ) (items : List Submission) → IsInTime round None due items
    → (is_open round ≡ false) × (items ≡ [])
plain_closed None due items time = (refl, time)
plain_closed (Some (rounds.Void number)) due items time = (refl, time)
plain_closed (Some (rounds.Open number snapshot commissions)) due items time = absurd time

closed_in_time : (round : Option Round) (params : Option Params) (due : ℕ) (items : List Submission) → is_open round ≡ false → items ≡ []
    → IsInTime round params due items
closed_in_time None params due items closed none = none
closed_in_time (Some (rounds.Void number)) params due items closed none = none
closed_in_time (Some (rounds.Open number snapshot commissions)) params due items closed none = absurd (true≢false closed)

-- no phase touches round and queue
plain_before : (chain : Chain) → chain.params ≡ None
    → ((before_calls chain).round ≡ chain.round) × ((before_calls chain).queue ≡ chain.queue)
plain_before chain none = (
  ap (λ (ps : Option Params). (decided ps).round) none,
  ap (λ (ps : Option Params). (decided ps).queue) none,
) where
  decided : Option Params → Chain
  decided = λ (ps : Option Params).
      let start : Chain = record (era_phase chain).state { round = round_after (era_phase chain).state (begun_round ps chain.due) } in
      (if is_decision ps chain.due then decision_of start.round start else quiet start).state

plain_step : (chain : Chain) (block : Block) → chain.params ≡ None → IsInTime chain.round chain.params chain.due chain.queue.items
    → (params : Option Params) (due : ℕ) → IsInTime (step chain block).state.round params due (step chain block).state.queue.items
plain_step chain block none time params due =
    let start : Chain = before_calls chain in
    let before = plain_before chain none in
    let was =
    plain_closed chain.round chain.due chain.queue.items
    (subst (λ (ps : Option Params). IsInTime chain.round ps chain.due chain.queue.items) none time) in
    let closed : is_open start.round ≡ false = ap is_open before.0 ∙ was.0 in
    closed_in_time (step chain block).state.round params due (step chain block).state.queue.items
    (ap is_open (fixed_calls 0 block.calls start).round ∙ closed)
    (ap (λ (q : Ranking). q.items) (queue_calls 0 block.calls start closed ∙ before.1) ∙ was.1)

-- ## With params

module _ (params : Params) (sound : params_fault params ≡ None) (number : ℕ) where
  -- those that wait were offered to the round that is open
  abbrev waits_for : Option Round → List Submission → List Submission
  waits_for (Some (rounds.Open round snapshot commissions)) items = if round == number then items else []
  waits_for other items = []

  places_stay : (queue : Ranking) (offers : List Submission) → (after_offers queue offers).places ≡ queue.places
  places_stay queue [] = refl
  places_stay queue (item ∷ offers) = places_stay (offered queue item) offers

  -- offered to an empty queue, those that wait wait
  held_again : (queue : Ranking) → IsOrdered queue → queue.places ≡ params.queue → Holds params sound number queue queue.items
  held_again queue ordered places =
      let items : (after_offers (empty_queue params.queue) queue.items).items ≡ queue.items =
      best_of_all params.queue queue.items
      ∙ ap (take params.queue) (ranked_same queue.items ordered.by_rank)
      ∙ take_all params.queue queue.items (omega (arith, ordered.fits, places)) in
      λ i. record { items = sym items i; places = (places ∙ sym (places_stay (empty_queue params.queue) queue.items)) i }

  none_waits : (queue : Ranking) → queue.places ≡ params.queue → queue.items ≡ [] → queue ≡ empty_queue params.queue
  none_waits queue places none = λ i. record { items = none i; places = places i }

  timed_from : (due : ℕ) (round : Option Round) (queue : Ranking) → IsOrdered queue → queue.places ≡ params.queue
      → IsInTime round (Some params) due queue.items
      → IsTimed params sound number (params.offset + 1) (params.offset + params.signed + 1) due round queue (waits_for round queue.items)
  timed_from due None queue ordered places time = none_waits queue places time
  timed_from due (Some (rounds.Void round)) queue ordered places time = none_waits queue places time
  timed_from due (Some (rounds.Open round snapshot commissions)) queue ordered places time = (
    time.number_is,
    omega (arith, time.begun),
    omega (arith, time.undecided),
    λ is. subst (Holds params sound number queue) (sym (own is)) (held_again queue ordered places),
  ) where
    own : round ≡ number → (if round == number then queue.items else []) ≡ queue.items
    own is = let same : (round == number) ≡ true = grind (arith, nat_tests) in ap (λ b. if b then queue.items else []) same

  in_time_from : (due : ℕ) (round : Option Round) (queue : Ranking) (offers : List Submission)
      → IsTimed params sound number (params.offset + 1) (params.offset + params.signed + 1) due round queue offers
      → IsInTime round (Some params) due queue.items
  in_time_from due None queue offers timed = ap (λ (q : Ranking). q.items) timed
  in_time_from due (Some (rounds.Void round)) queue offers timed = ap (λ (q : Ranking). q.items) timed
  in_time_from due (Some (rounds.Open round snapshot commissions)) queue offers timed =
      record { number_is = timed.0; begun = omega (arith, timed.1); undecided = omega (arith, timed.2) }

  -- in the words of rounds and offers
  pub between : (chain : Chain) → chain.params ≡ Some params → IsBetweenBlocks chain
      → IsBetween params sound number chain (waits_for chain.round chain.queue.items)
  between chain is rests =
      let time : IsInTime chain.round (Some params) chain.due chain.queue.items =
      subst (λ (ps : Option Params). IsInTime chain.round ps chain.due chain.queue.items) is rests.timely in
      let places : chain.queue.places ≡ params.queue = rests.places ∙ ap places_of is in
      record {
        params_are = is;
        places = places;
        timed = timed_from chain.due chain.round chain.queue rests.live.queue places time;
        later = later chain.round time;
        same = same chain.round time;
      } where
        later : (round : Option Round) → IsInTime round (Some params) chain.due chain.queue.items
            → era_of (Some params) chain.due + 1 < number
            → waits_for round chain.queue.items ≡ []
        later None time below = refl
        later (Some (rounds.Void round)) time below = refl
        later (Some (rounds.Open round snapshot commissions)) time below =
            let apart : (round == number) ≡ false =
            (let is = time.number_is in grind (arith, nat_tests)) in ap (λ b. if b then chain.queue.items else []) apart

        same : (round : Option Round) → IsInTime round (Some params) chain.due chain.queue.items
            → number ≡ era_of (Some params) chain.due + 1
            → place_of params chain.due < params.offset + 1 → waits_for round chain.queue.items ≡ []
        same None time e below = refl
        same (Some (rounds.Void round)) time e below = refl
        same (Some (rounds.Open round snapshot commissions)) time e below = absurd (omega (arith, time.begun, below))

-- ## A block leaves a round open in its blocks alone

params_of_case : {P : Type 0} (params : Option Params) → (params ≡ None → P) → ((some : Params) → params ≡ Some some → P) → P
params_of_case None none some = none refl
params_of_case (Some params) none some = some params refl

sound_params : (params : Option Params) (some : Params) → AreSound params → params ≡ Some some → params_fault some ≡ None
sound_params params some sound is = subst AreSound is sound

pub places_step : (chain : Chain) (block : Block) → IsBetweenBlocks chain
    → (step chain block).state.queue.places ≡ places_of (step chain block).state.params
places_step chain block rests = params_of_case chain.params
    (λ none.
    let start : Chain = before_calls chain in
    let before = plain_before chain none in
    let was =
    plain_closed chain.round chain.due chain.queue.items
    (subst (λ (ps : Option Params). IsInTime chain.round ps chain.due chain.queue.items) none rests.timely) in
    ap (λ (q : Ranking). q.places) (queue_calls 0 block.calls start (ap is_open before.0 ∙ was.0) ∙ before.1) ∙
    (rests.places ∙ ap places_of (sym (params_step chain block))))
    (λ params is.
    let sound = sound_params chain.params params rests.live.params is in
    let after =
    stepped params sound 0 chain block (waits_for params sound 0 chain.round chain.queue.items)
    (between params sound 0 chain is rests) rests.live in
    after.places ∙ ap places_of (sym after.params_are))

pub timely_step : (chain : Chain) (block : Block) → IsBetweenBlocks chain
    → IsInTime (step chain block).state.round (step chain block).state.params (step chain block).state.due
    (step chain block).state.queue.items
timely_step chain block rests = params_of_case chain.params
    (λ none. plain_step chain block none rests.timely (step chain block).state.params (step chain block).state.due)
    (λ params is.
    let sound = sound_params chain.params params rests.live.params is in
    let waits : List Submission = waits_for params sound 0 chain.round chain.queue.items in
    let after = stepped params sound 0 chain block waits (between params sound 0 chain is rests) rests.live in
    subst (λ (ps : Option Params). IsInTime (step chain block).state.round ps (step chain block).state.due
    (step chain block).state.queue.items) (sym after.params_are)
    (in_time_from params sound 0 (step chain block).state.due (step chain block).state.round (step chain block).state.queue
    (waits ++ offers_in 0 0 block.calls (before_calls chain)) after.timed))

pub between_step : (chain : Chain) (block : Block) → IsBetweenBlocks chain → chain.due < 2 ^ 32 → IsBetweenBlocks (step chain block).state
between_step chain block rests more = record {
  live = live_step chain block rests.live more;
  era = era_step chain block rests.live rests.era;
  places = places_step chain block rests;
  timely = timely_step chain block rests;
  elected = elected_step chain block rests.live rests.elected;
  slashes = can_step chain block rests.live rests.era (sound_waiting chain.waiting rests.elected rests.live.waiting) rests.slashes;
}

pub between_blocks : (chain : Chain) (blocks : List Block) → IsBetweenBlocks chain → chain.due + length blocks ≤ 2 ^ 32
    → IsBetweenBlocks (after_blocks chain blocks)
between_blocks chain [] rests fit = rests
between_blocks chain (block ∷ more) rests fit =
    between_blocks (step chain block).state more (between_step chain block rests (omega (arith, fit)))
    (omega (arith, fit, due_step chain block))

-- ## Nothing valid is crowded out

pub none_crowded_out : PackedYesIsAccepting → NoneCrowdedOutLaw
none_crowded_out packed first blocks block can round snapshot commissions item is stands among holds_up = params_of_case first.params
    (λ none. absurd (true≢false
    (sym is ∙ ap (λ (ps : Option Params). is_decision ps (after_blocks first blocks).due) (params_blocks first blocks ∙ none))))
    (λ params are.
    let sound = sound_params first.params params can.between.live.params are in
    let waits : List Submission = waits_for params sound round first.round first.queue.items in
    let last : Chain = after_blocks first blocks in
    let behind_all =
    behind params sound round first blocks waits (between params sound round first are can.between) can.between.live can.fit in
    answered packed last block round snapshot commissions (live_blocks first blocks can.between.live can.fit) is stands
    item params.queue (waits ++ offers_by round first blocks) behind_all.places
    (round_holds params sound round last (waits ++ offers_by round first blocks) snapshot commissions behind_all stands)
    (Contains-append_right waits (offers_by round first blocks) item among) holds_up)
