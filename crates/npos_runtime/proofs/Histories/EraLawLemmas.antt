-- What eras come to over blocks: payouts within the reward, and slashes within the stake.
use Rattle.std.proofs.Common.{◌≡◌, ◌≢◌, ◌^◌, ℕ, zero, suc, ◌+◌, ◌-◌, ◌≤◌, Bool, true, false, cond, not, nat_eq, ◌==◌, List, [], ◌∷◌}
use Rattle.std.proofs.Common.{length, slice_get, unwrap_or, Option, Some, None, refl, ap, sym, subst, ◌∙◌, arith, if◌then◌else◌}
use Rattle.std.proofs.lemmas.Bool.Decides.{nat_tests}
use Rattle.std.proofs.lemmas.List.Sums.{sum_by-cons}
use Rattle.npos_base.specs.declared.account.AccountId.{AccountId}
use Rattle.npos_base.specs.Account.{same_account}
use Rattle.npos_base.proofs.AccountOrder.{same_exact, same_itself}
use Rattle.block_wire.specs.declared.genesis.Params.{Params}
use Rattle.block_wire.specs.declared.genesis.Genesis.{Genesis}
use Rattle.block_wire.specs.declared.call.Call.{Call}
use Rattle.block_wire.specs.declared.block.Block.{Block}
use Rattle.stake_ledger.specs.declared.row.Row.{Row}
use Rattle.stake_ledger.specs.Rows.{is_bonded, slashed_row}
use Rattle.stake_ledger.specs.Ledger.{Ledger, row_at, changed, IsBalanced}
use Rattle.stake_ledger.specs.Calls.{slash_amount, slashed, minted_free}
use Rattle.stake_ledger.proofs.AccountLemmas.{row_at-slashed}
use Rattle.stake_ledger.proofs.ScheduleLemmas.{sum_first}
use Rattle.election_check.specs.Laws.{PackedYesIsAccepting, PlainYesIsPassing}
use Rattle.quota_fill.specs.Laws.{EveryFillPasses}
use Rattle.era_book.specs.declared.exposure.Backer.{Backer}
use Rattle.era_book.specs.declared.exposure.Exposure.{Exposure}
use Rattle.era_book.specs.Exposures.{amount_sum, exposed_for}
use Rattle.era_book.specs.Calls.{payout_refusal, slash_in}
use Rattle.era_book.specs.Eras.{first_era}
use Rattle.era_book.specs.Events.{Event, Paid, AreAccepted, after_all, given_by, pays, makes_due, begun, exposures_in}
use Rattle.era_book.proofs.EventLemmas.{accepted_append, after_append}
use Rattle.era_book.proofs.LawLemmas.{due_law}
use Rattle.npos_runtime.specs.declared.chain.Chain.{Chain}
use Rattle.block_receipts.specs.declared.refusal.Refusal.{Refusal}
use Rattle.chain_params.specs.Faults.{AreSound as AreSoundParams}
use Rattle.chain_params.specs.Rules.{era_reward_of}
use Rattle.npos_runtime.specs.Rules.Offices.{payout_now, all_minted, slashed_once, slashes, slashing_rule, deferring_rule}
use Rattle.npos_runtime.specs.Rules.CallRule.{CallRule}
use Rattle.npos_runtime.specs.Rules.Calls.{rule_of, rule_for}
use Rattle.npos_runtime.specs.Step.{before_calls, call_after, call_outcome, step, after_blocks}
use Rattle.npos_runtime.specs.Genesis.{params_of, genesis_chain}
use Rattle.npos_runtime.specs.Live.{IsLive, IsBetweenBlocks, AreInCourse}
use Rattle.npos_runtime.specs.Kept.Sound.{IsSoundWaiting}
use Rattle.npos_runtime.specs.History.{CanTake, IsHistory}
use Rattle.npos_runtime.specs.Histories.Eras.{event_of, events_at, events_in, events_by, HistoryLaw, over_calls, over_blocks, paid_for, paid_by, PaidOnLaw}
use Rattle.npos_runtime.specs.Histories.Eras.{PaidWithinRewardLaw, chain_at, ToldOnLaw, PaidAsToldLaw, bonded, IsTaken, AreTaken, SlashLaw, taken_for, taken_by}
use Rattle.npos_runtime.specs.Histories.Eras.{due_by, due_in, TakenLaw, elected_for, stake_behind, awaited_for, elections_from, DuesOnLaw, DueWithinStakeLaw}
use Rattle.npos_runtime.proofs.Rules.RuleLemmas.{FollowsEvents}
use Rattle.npos_runtime.proofs.Rules.OfficeCallLemmas.{slashed_live, told_payout, payout_free}
use Rattle.npos_runtime.proofs.Rules.CallTable.{lawful_call}
use Rattle.npos_runtime.proofs.Histories.WaitingLemmas.{sound_waiting}
use Rattle.npos_runtime.proofs.Histories.CourseLemmas.{paid_on, due_on}
use Rattle.npos_runtime.proofs.Rules.LiveLemmas.{can_before, can_calls, live_before, live_calls, live_blocks, due_step}
use Rattle.npos_runtime.proofs.Rules.BeginLemmas.{start_law}
use Rattle.npos_runtime.proofs.Rules.OfficeLemmas.{payout_sums}
use Rattle.npos_runtime.proofs.Histories.HistoryLemmas.{accepted_block, eras_block, sum_blocks}
use Rattle.npos_runtime.proofs.Histories.AwaitedLemmas.{awaited_between}
use Rattle.npos_runtime.proofs.Histories.StoryLemmas.{IsStory, story_blocks, plain_begun}
use Rattle.npos_runtime.proofs.Histories.TimeLemmas.{between_step, between_blocks}

-- ## What calls tell

paid_rule : (era : ℕ) (params : Option Params) (due : Option Refusal) (index : ℕ) (rule : CallRule) (chain : Chain) → chain.params ≡ params
    → FollowsEvents chain rule
    → paid_for era (event_of due rule) (call_after due index rule chain).lines ≡ given_by (pays era (era_reward_of params))
    (event_of due rule) chain.eras
paid_rule era params None index rule chain is follows =
    follows.paid era index ∙ ap (λ (ps : Option Params). given_by (pays era (era_reward_of ps)) rule.events chain.eras) is
paid_rule era params (Some refusal) index rule chain is follows = refl

paid_call : (era : ℕ) (params : Option Params) (index : ℕ) (call : Call) (chain : Chain) → chain.params ≡ params
    → paid_by era index call chain ≡ given_by (pays era (era_reward_of params)) (events_at call chain) chain.eras
paid_call era params index call chain is =
    paid_rule era params (rule_for chain call).refusal index (rule_for chain call) chain is (lawful_call call chain).eras

taken_rule : (era : ℕ) (who : AccountId) (due : Option Refusal) (index : ℕ) (rule : CallRule) (chain : Chain) → FollowsEvents chain rule
    → taken_for era who (event_of due rule) (call_after due index rule chain).lines ≤ given_by (makes_due era who)
    (event_of due rule) chain.eras
taken_rule era who None index rule chain follows = follows.taken era who index
taken_rule era who (Some refusal) index rule chain follows = omega arith

taken_call : (era : ℕ) (who : AccountId) (index : ℕ) (call : Call) (chain : Chain)
    → taken_by era who index call chain ≤ due_by era who index call chain
taken_call era who index call chain =
    taken_rule era who (rule_for chain call).refusal index (rule_for chain call) chain (lawful_call call chain).eras

module _ (less more : ℕ → Call → Chain → ℕ) (each : (index : ℕ) (call : Call) (chain : Chain) → less index call chain ≤ more index call chain) where
  fewer_calls : (index : ℕ) (calls : List Call) (chain : Chain) → over_calls less index calls chain ≤ over_calls more index calls chain
  fewer_calls index [] chain = omega arith
  fewer_calls index (call ∷ calls) chain = omega (arith, each index call chain, fewer_calls (index + 1) calls (call_outcome index call chain).state)

  fewer_blocks : (chain : Chain) (blocks : List Block) → over_blocks less chain blocks ≤ over_blocks more chain blocks
  fewer_blocks chain [] = omega arith
  fewer_blocks chain (block ∷ rest) = omega (arith, fewer_calls 0 block.calls (before_calls chain), fewer_blocks (step chain block).state rest)

pub taken_law : TakenLaw
taken_law genesis blocks era who history =
    fewer_blocks (taken_by era who) (due_by era who) (taken_call era who) (genesis_chain genesis) blocks

-- ## One slash

row_left : (n : ℕ) (row : Row) → bonded (slashed_row n row) + slash_amount row n ≡ bonded row
row_left n row = omega (arith, sum_first (n - row.active) row.chunks)

slash_burns : (due : Backer) (book : Ledger) → (slashed due.who due.amount book).burned ≡ book.burned + slash_amount (row_at book due.who) due.amount
slash_burns due book = at (is_bonded (row_at book due.who)) refl where
  at : (b : Bool) → is_bonded (row_at book due.who) ≡ b
      → (if not b then book else record (changed due.who (slashed_row due.amount) book) { burned = book.burned + slash_amount (row_at book due.who) due.amount }).burned
      ≡ book.burned + slash_amount (row_at book due.who) due.amount
  at true is = refl
  at false is =
      let none : bonded (row_at book due.who) ≡ 0 = grind (arith, nat_tests) in
      omega (arith, none)

taken_once : (due : Backer) (book : Ledger) → IsBalanced book → IsTaken due (slash_amount (row_at book due.who) due.amount) book (slashed due.who due.amount book)
taken_once due book balanced = record {
  lesser = refl;
  left = ap (λ (row : Row). bonded row + slash_amount (row_at book due.who) due.amount) own ∙ row_left due.amount (row_at book due.who);
  free = ap (λ (row : Row). row.free) own;
  held = ap (λ (row : Row). row.held) own;
  others = λ other apart. row_at-slashed due.who due.amount book other balanced
      ∙ ap (λ b. if b then slashed_row due.amount (row_at book other) else row_at book other) (no_other other apart);
  burned = slash_burns due book;
} where
  own : row_at (slashed due.who due.amount book) due.who ≡ slashed_row due.amount (row_at book due.who)
  own = row_at-slashed due.who due.amount book due.who balanced
      ∙ ap (λ b. if b then slashed_row due.amount (row_at book due.who) else row_at book due.who) (same_itself due.who)

  no_other : (other : AccountId) → other ≢ due.who → same_account other due.who ≡ false
  no_other other apart = at (same_account other due.who) refl where
    at : (b : Bool) → same_account other due.who ≡ b → b ≡ false
    at true is = absurd (apart (same_exact other due.who is))
    at false is = refl

pub taken_each : (dues : List Backer) (chain : Chain) → IsLive chain → AreTaken dues chain.book (slashes dues chain).lines (slashes dues chain).state.book
taken_each [] chain live = (refl, refl)
taken_each (due ∷ more) chain live =
    let next : Chain = slashed_once due chain in (
      slash_amount (row_at chain.book due.who) due.amount,
      slashed due.who due.amount chain.book,
      (slashes more next).lines,
      taken_once due chain.book live.books.balanced,
      refl,
      taken_each more next (slashed_live due chain live),
    )

-- the chain in the midst of a block is live
live_at : (chain : Chain) (blocks : List Block) (calls : List Call) → CanTake chain blocks → IsLive (chain_at chain blocks calls)
live_at chain blocks calls can =
    let last : Chain = after_blocks chain blocks in
    live_calls 0 calls (before_calls last) (live_before last (live_blocks chain blocks can.between.live can.fit))

pub slash_law : SlashLaw
unfolding rule_of
slash_law chain blocks calls can who era validator fraction none free =
    let now : Chain = chain_at chain blocks calls in
    let at_once : (now.defer == 0) ≡ true = grind (arith, nat_tests) in
    subst (λ b. AreTaken (slash_in now.eras era validator fraction) now.book
    (if b then slashing_rule now era validator fraction else deferring_rule now era validator fraction).told
    (if b then slashing_rule now era validator fraction else deferring_rule now era validator fraction).done.book) (sym at_once)
    (taken_each (slash_in now.eras era validator fraction) now (live_at chain blocks calls can))

-- ## From any chain on

eras_blocks : (chain : Chain) (blocks : List Block) → after_all (events_by chain blocks) chain.eras ≡ (after_blocks chain blocks).eras
eras_blocks chain [] = refl
eras_blocks chain (block ∷ more) =
    after_append (events_in chain block) (events_by (step chain block).state more) chain.eras
    ∙ ap (after_all (events_by (step chain block).state more)) (eras_block chain block)
    ∙ eras_blocks (step chain block).state more

accepted_next : (chain : Chain) (block : Block) → IsBetweenBlocks chain → AreAccepted (events_in chain block) chain.eras
accepted_next chain block rests =
    let sound = sound_waiting chain.waiting rests.elected rests.live.waiting in
    accepted_block chain block sound (can_before chain rests.live rests.era sound rests.slashes)

accepted_blocks : (chain : Chain) (blocks : List Block) → IsBetweenBlocks chain → chain.due + length blocks ≤ 2 ^ 32
    → AreAccepted (events_by chain blocks) chain.eras
accepted_blocks chain [] rests fit = tt
accepted_blocks chain (block ∷ more) rests fit =
    let next : Chain = (step chain block).state in
    accepted_append (events_in chain block) (events_by next more) chain.eras (accepted_next chain block rests)
    (subst (AreAccepted (events_by next more)) (sym (eras_block chain block))
    (accepted_blocks next more (between_step chain block rests (omega (arith, fit))) (omega (arith, fit, due_step chain block))))

pub history_law : HistoryLaw
history_law chain blocks can = (accepted_blocks chain blocks can.between can.fit, eras_blocks chain blocks)

-- the eras are in course in the midst of a block
course_at : (chain : Chain) (blocks : List Block) (calls : List Call) → CanTake chain blocks → AreInCourse (chain_at chain blocks calls).eras
course_at chain blocks calls can =
    let last : Chain = after_blocks chain blocks in
    let rests : IsBetweenBlocks last = between_blocks chain blocks can.between can.fit in
    let sound = sound_waiting last.waiting rests.elected rests.live.waiting in
    (can_calls 0 calls (before_calls last) (can_before last rests.live rests.era sound rests.slashes)).order

-- ## Payouts

pub paid_on_law : PaidOnLaw
paid_on_law chain blocks era can =
    let reward : ℕ = era_reward_of chain.params in
    let events : List Event = events_by chain blocks in
    let sum : over_blocks (paid_by era) chain blocks ≡ given_by (pays era reward) events chain.eras =
    sum_blocks chain.params (paid_by era) (pays era reward) (paid_call era chain.params) (λ exposures eras. refl) (λ eras. refl) chain blocks refl in
    omega (arith, sum, paid_on era reward events chain.eras (accepted_blocks chain blocks can.between can.fit) can.between.slashes.order)

pub rewards_law : PaidWithinRewardLaw
rewards_law genesis blocks era history = paid_on_law (genesis_chain genesis) blocks era (start_law genesis blocks history)

minted_all : (lines_of : List Backer) (book : Ledger) → (all_minted lines_of book).minted ≡ book.minted + amount_sum lines_of
minted_all [] book = omega arith
minted_all (line ∷ more) book = omega (arith, minted_all more (minted_free line.who line.amount book), sum_by-cons (λ (l : Backer). l.amount) line more)

-- one payout alone
payout_within : (chain : Chain) (era : ℕ) (validator : AccountId) → AreInCourse chain.eras → payout_refusal chain.eras era validator ≡ None
    → (payout_now chain era validator).total ≤ era_reward_of chain.params
payout_within chain era validator course free =
    let reward : ℕ = era_reward_of chain.params in
    let total : ℕ = (payout_now chain era validator).total in
    let itself : nat_eq era era ≡ true = grind (arith, nat_tests) in
    let own : cond (nat_eq era era) total 0 ≡ total = ap (λ b. cond b total 0) itself in
    omega (arith, own, paid_on era reward (Paid era validator ∷ []) chain.eras (free, tt) course)

pub told_on_law : ToldOnLaw
unfolding rule_of
told_on_law first blocks calls can who era validator free =
    let chain : Chain = chain_at first blocks calls in
    record {
      told = told_payout chain era validator;
      minted = minted_all (payout_now chain era validator).lines chain.book
          ∙ ap (λ n. chain.book.minted + n) (sym (payout_sums chain.eras era validator (era_reward_of chain.params)));
      within = payout_within chain era validator (course_at first blocks calls can) (payout_free chain era validator free);
    }

pub payout_law : PaidAsToldLaw
payout_law genesis blocks calls history = told_on_law (genesis_chain genesis) blocks calls (start_law genesis blocks history)

-- ## Dues

module _ (packed : PackedYesIsAccepting) (plain : PlainYesIsPassing) (fill : EveryFillPasses) where
  -- what is exposed in an era that begins behind a chain is within the stakes of its election
  covered_on : (chain : Chain) (blocks : List Block) (who : AccountId) (k : ℕ) → CanTake chain blocks → IsSoundWaiting chain chain.waiting
      → exposed_for who (unwrap_or (slice_get (begun (events_by chain blocks)) k) []) ≤ stake_behind who (elected_for (chain.eras.current + 1 + k) (elections_from chain blocks))
  covered_on chain blocks who k can waits = at chain.params refl where
    at : (params : Option Params) → chain.params ≡ params
        → exposed_for who (unwrap_or (slice_get (begun (events_by chain blocks)) k) []) ≤ stake_behind who (elected_for (chain.eras.current + 1 + k) (elections_from chain blocks))
    at None none =
        let nobody : exposed_for who (unwrap_or (slice_get (begun (events_by chain blocks)) k) []) ≡ 0 =
        ap (λ (es : List (List Exposure)). exposed_for who (unwrap_or (slice_get es k) [])) (plain_begun chain blocks none) in
        omega (arith, nobody)
    at (Some params) are =
        let sound = subst AreSoundParams are can.between.live.params in
        let start : IsStory params chain.eras.current chain (awaited_for (chain.eras.current + 1) chain.waiting) [] = record {
          between = awaited_between params sound chain are can.between waits;
          current = can.between.era;
          count = omega arith;
          covered = λ other later. omega arith;
        } in
        (story_blocks params packed plain fill sound chain.eras.current chain blocks (awaited_for (chain.eras.current + 1) chain.waiting) []
        can.between.live can.fit start).covered who k

  pub dues_on_law : DuesOnLaw
  dues_on_law chain blocks era who can waits ahead =
      let events : List Event = events_by chain blocks in
      let sum : over_blocks (due_by era who) chain blocks ≡ given_by (makes_due era who) events chain.eras =
      sum_blocks chain.params (due_by era who) (makes_due era who) (λ index call other is. refl) (λ exposures eras. refl) (λ eras. refl) chain blocks refl in
      let place : chain.eras.current + 1 + (era - (chain.eras.current + 1)) ≡ era = omega (arith, ahead) in
      omega (
        arith,
        sum,
        due_on era who events chain.eras (accepted_blocks chain blocks can.between can.fit) can.between.slashes.order ahead,
        covered_on chain blocks who (era - (chain.eras.current + 1)) can waits,
        ap (λ n. stake_behind who (elected_for n (elections_from chain blocks))) place,
      )

  -- nobody is exposed in the first era
  none_first : (genesis : Genesis) (blocks : List Block) (who : AccountId) → IsHistory genesis blocks → due_in 0 who genesis blocks ≡ 0
  none_first genesis blocks who history =
      let first : Chain = genesis_chain genesis in
      let can : CanTake first blocks = start_law genesis blocks history in
      let events : List Event = events_by first blocks in
      let sum : due_in 0 who genesis blocks ≡ given_by (makes_due 0 who) events first_era =
      sum_blocks (params_of genesis) (due_by 0 who) (makes_due 0 who) (λ index call chain is. refl) (λ exposures eras. refl) (λ eras. refl) first blocks refl in
      let none : exposed_for who (exposures_in 0 events) ≡ 0 = refl in
      omega (arith, sum, none, due_law 0 who events (accepted_blocks first blocks can.between can.fit))

  pub dues_law : DueWithinStakeLaw
  dues_law genesis blocks zero who history = omega (arith, none_first genesis blocks who history)
  dues_law genesis blocks (suc era) who history =
      dues_on_law (genesis_chain genesis) blocks (suc era) who (start_law genesis blocks history) tt (omega arith)
