-- What a kept state leaves out of a chain follows from it, from the genesis on.
use Rattle.std.proofs.Common.{◌≡◌, ℕ, zero, suc, ◌+◌, ◌⊎◌, inl, inr, Bool, true, false, ◌||◌, ◌==◌, All, List, [], ◌∷◌, ◌++◌}
use Rattle.std.proofs.Common.{length, Option, Some, None, option_map, refl, ap, sym, subst, ◌∙◌, if◌then◌else◌, append_assoc}
use Rattle.std.specs.Map.{values_of}
use Rattle.std.proofs.lemmas.List.Elements.{All-nil, All-cons, All-head, All-tail, All-take, All-append}
use Rattle.std.proofs.lemmas.List.Sorted.{All-permutation}
use Rattle.npos_base.specs.declared.account.AccountId.{AccountId}
use Rattle.block_wire.specs.declared.block.Block.{Block}
use Rattle.block_wire.specs.declared.call.Call.{Call}
use Rattle.block_wire.specs.declared.call.CallKind.{CallKind}
use Rattle.block_wire.specs.declared.call.CallKind.TheVariants as kinds
use Rattle.block_wire.specs.declared.genesis.Genesis.{Genesis}
use Rattle.block_wire.specs.declared.genesis.Params.{Params}
use Rattle.voter_lists.specs.Bags.{Listing, is_listed, is_at_home, inserted, removed, moved, updated, arranged, put_in_front, left, placed_before, number_of, number_at}
use Rattle.voter_lists.specs.Roles.{role_of}
use Rattle.submission_queue.specs.declared.submission.Submission.{Submission}
use Rattle.submission_queue.specs.Rank.{ranked}
use Rattle.submission_queue.specs.Ranking.{Ranking}
use Rattle.submission_queue.proofs.LawLemmas.{rank_permutation}
use Rattle.npos_base.specs.Account.{same_account}
use Rattle.stake_ledger.specs.Ledger.{row_at, changed}
use Rattle.stake_ledger.specs.Rows.{activated, unbonded, rebonded, withdrawn}
use Rattle.stake_ledger.specs.Calls.{slashed, unbond_amount, rebond_amount}
use Rattle.era_book.specs.declared.exposure.Backer.{Backer}
use Rattle.era_book.specs.declared.deferred.DeferredSlash.{DeferredSlash}
use Rattle.era_book.specs.Calls.{slash_in}
use Rattle.era_book.specs.Deferred.{next_due, without_next_due}
use Rattle.era_book.specs.Exposures.{IsSoundExposure}
use Rattle.era_book.specs.Members.{Member, Members}
use Rattle.era_book.specs.Eras.{Eras, AreMembers}
use Rattle.chain_params.specs.Rules.{begun_era, begun_round, is_decision, seats_of, thresholds_in, deposit_of}
use Rattle.chain_params.specs.Faults.{CanWait}
use Rattle.block_receipts.specs.declared.refusal.Refusal.{Refusal}
use Rattle.npos_runtime.specs.declared.chain.Chain.{Chain}
use Rattle.npos_runtime.specs.declared.round.Round.{Round}
use Rattle.npos_runtime.specs.declared.round.Round.TheVariants as rounds
use Rattle.npos_runtime.specs.Rules.Committee.{Committee}
use Rattle.npos_runtime.specs.Rules.Ballots.{active_of, snapshot_of, commissions_of}
use Rattle.npos_runtime.specs.Rules.Rounds.{is_few, is_poor, round_after, round_phase}
use Rattle.npos_runtime.specs.Rules.Deciding.{decision_of, decision_phase}
use Rattle.npos_runtime.specs.Rules.Outcome.{quiet}
use Rattle.npos_runtime.specs.Rules.Lists.{followed, unlisted, placed, is_over, is_nominator_role, is_validator_role}
use Rattle.npos_runtime.specs.Rules.BookCalls.{era_now, release_now}
use Rattle.npos_runtime.specs.Rules.Signed.{submission_of}
use Rattle.npos_runtime.specs.Rules.CallRule.{CallRule}
use Rattle.npos_runtime.specs.Rules.Calls.{rule_of, rule_for}
use Rattle.npos_runtime.specs.Rules.Offices.{slashed_once, slashes, slashing_rule, deferring_rule, apply_slash, applied}
use Rattle.npos_runtime.specs.Step.{waiting_after, eras_after, applied_in, era_phase, before_calls, call_after, call_outcome, calls_outcome, step, after_blocks, told_by, seated_by}
use Rattle.npos_runtime.specs.Genesis.{genesis_chain}
use Rattle.npos_runtime.specs.History.{IsHistory}
use Rattle.npos_runtime.specs.Live.{IsSoundRound, IsNotedCommittee, IsInTime, IsBetweenBlocks}
use Rattle.npos_runtime.specs.Histories.Eras.{events_in}
use Rattle.npos_runtime.specs.Kept.Parts.{open_of, kept_committee, AreAlike}
use Rattle.npos_runtime.specs.Kept.State.{IsTrueMember, AreTrueMembers, IsTrueRound, IsTrueCommittee, IsTold}
use Rattle.npos_runtime.specs.Kept.Laws.{ToldLaw, ResumeLaw}
use Rattle.npos_runtime.proofs.Rules.RuleLemmas.{LeavesQueue, Submits, IsLawful}
use Rattle.npos_runtime.proofs.Rules.CallTable.{lawful_call}
use Rattle.npos_runtime.proofs.Histories.HistoryLemmas.{eras_block}
use Rattle.npos_runtime.proofs.Rules.BeginLemmas.{start_law}
use Rattle.npos_runtime.proofs.Histories.TimeLemmas.{between_blocks}
use Rattle.npos_runtime.proofs.Histories.DepositsLemmas.{told_append}
use Rattle.npos_runtime.proofs.Histories.OwnMemberLemmas.{IsOwn, AreOwn, own_after_all}
use Rattle.npos_runtime.proofs.Kept.AlikeLemmas.{alike_is, blocks_alike}
use Rattle.npos_runtime.proofs.Kept.StateLemmas.{kept_alike}

-- ## The thresholds stay

either_listing : (b : Bool) (one other old : Listing) → one.thresholds ≡ old.thresholds → other.thresholds ≡ old.thresholds
    → (if b then one else other).thresholds ≡ old.thresholds
either_listing true one other old first second = first
either_listing false one other old first second = second

followed_same : (listing : Listing) (who : AccountId) (score : ℕ) → (followed listing who score).thresholds ≡ listing.thresholds
followed_same listing who score =
    either_listing (is_listed listing.order who) (updated listing who score) listing listing
    (either_listing (is_at_home listing who score) listing (moved listing who score) listing refl refl) refl

placed_same : (stays : Bool) (listing : Listing) (who : AccountId) (score : ℕ) → (placed stays listing who score).thresholds ≡ listing.thresholds
placed_same stays listing who score =
    either_listing stays listing (inserted (unlisted listing who) who score) listing refl
    (either_listing (is_listed listing.order who) (removed listing who) listing listing refl refl)

front_same : (listing : Listing) (who lighter : AccountId) → (put_in_front listing who lighter).thresholds ≡ listing.thresholds
front_same listing who lighter =
    either_listing (same_account who lighter) listing
    (arranged listing (placed_before (left listing.order who) (who, number_at (number_of listing.order who)) lighter)) listing refl refl

retired_same : (chain : Chain) (who : AccountId) → (if is_over chain who then removed chain.bags who else chain.bags).thresholds ≡ chain.bags.thresholds
retired_same chain who = either_listing (is_over chain who) (removed chain.bags who) chain.bags chain.bags refl refl

slashes_same : (dues : List Backer) (chain : Chain) → (slashes dues chain).state.bags.thresholds ≡ chain.bags.thresholds
slashes_same [] chain = refl
slashes_same (due ∷ more) chain =
    slashes_same more (slashed_once due chain) ∙ retired_same (record chain { book = slashed due.who due.amount chain.book }) due.who

apply_same : (found : Option DeferredSlash) (chain : Chain) → (apply_slash found chain).state.bags.thresholds ≡ chain.bags.thresholds
apply_same None chain = refl
apply_same (Some slash) chain = slashes_same slash.lines (record chain { eras = without_next_due chain.eras })

applied_same : (count : ℕ) (chain : Chain) → (applied count chain).state.bags.thresholds ≡ chain.bags.thresholds
applied_same zero chain = refl
applied_same (suc more) chain =
    applied_same more (apply_slash (next_due chain.eras) chain).state ∙ apply_same (next_due chain.eras) chain

report_same : (now : Bool) (chain : Chain) (era : ℕ) (validator : AccountId) (fraction : ℕ)
    → (if now then slashing_rule chain era validator fraction else deferring_rule chain era validator fraction).done.bags.thresholds ≡ chain.bags.thresholds
report_same true chain era validator fraction = slashes_same (slash_in chain.eras era validator fraction) chain
report_same false chain era validator fraction = refl

rule_same : (chain : Chain) (who : AccountId) (kind : CallKind) → (rule_of chain who kind).done.bags.thresholds ≡ chain.bags.thresholds
unfolding rule_of
rule_same chain who (kinds.Transfer to value) = refl
rule_same chain who (kinds.Bond value) = refl
rule_same chain who (kinds.BondExtra value) =
    followed_same chain.bags who (row_at (changed who (activated value) chain.book) who).active
rule_same chain who (kinds.Unbond value) =
    followed_same chain.bags who (row_at (changed who (unbonded (unbond_amount (row_at chain.book who) value) (release_now chain)) chain.book) who).active
rule_same chain who (kinds.Rebond value) =
    followed_same chain.bags who (row_at (changed who (rebonded (rebond_amount (row_at chain.book who) value)) chain.book) who).active
rule_same chain who kinds.Withdraw = retired_same (record chain { book = changed who (withdrawn (era_now chain)) chain.book }) who
rule_same chain who (kinds.Nominate targets) =
    placed_same (is_nominator_role (role_of chain.roles who)) chain.bags who (active_of chain who)
rule_same chain who (kinds.Validate commission) =
    placed_same (is_validator_role (role_of chain.roles who)) chain.bags who (active_of chain who)
rule_same chain who kinds.Chill = refl
rule_same chain who (kinds.Rebag whom) = refl
rule_same chain who (kinds.PutInFront lighter) = front_same chain.bags who lighter
rule_same chain who (kinds.Submit round claim bytes) = refl
rule_same chain who (kinds.Points items) = refl
rule_same chain who (kinds.Payout era validator) = refl
rule_same chain who (kinds.Offence era validator fraction) = report_same (chain.defer == 0) chain era validator fraction
rule_same chain who (kinds.CancelSlash number) = refl

-- ## What goes by the params

abbrev HasSeats : Option Params → Option Round → Type 0
HasSeats params (Some (rounds.Open number snapshot commissions)) = snapshot.seats ≡ seats_of params
HasSeats params other = Unit {0}

abbrev WaitWithSeats : Option Params → Option Committee → Type 0
WaitWithSeats params None = Unit {0}
WaitWithSeats params (Some committee) = committee.snapshot.seats ≡ seats_of params

abbrev IsHeldBy : Option Params → Submission → Type 0
IsHeldBy params item = item.deposit ≡ deposit_of params

module _ (params : Option Params) where
  -- thresholds, deposits and seats are those that the params ask for
  pub record IsBy (chain : Chain) : Type 0 where
    pub params_are : chain.params ≡ params
    pub thresholds : chain.bags.thresholds ≡ thresholds_in params
    pub deposits : All (IsHeldBy params) chain.queue.items
    pub round : HasSeats params chain.round
    pub waiting : WaitWithSeats params chain.waiting

  era_by : (chain : Chain) → IsBy chain → IsBy (era_phase chain).state
  era_by chain is = record {
    params_are = is.params_are;
    thresholds = same (begun_era chain.params chain.due) ∙ is.thresholds;
    deposits = is.deposits;
    round = is.round;
    waiting = waits (begun_era chain.params chain.due);
  } where
    same : (begun : Option ℕ)
        → (applied_in begun (record chain { waiting = waiting_after chain.waiting begun; eras = eras_after chain.eras chain.waiting begun })).state.bags.thresholds
        ≡ chain.bags.thresholds
    same None = refl
    same (Some era) =
        applied_same (length chain.eras.queue) (record chain { waiting = None; eras = eras_after chain.eras chain.waiting (Some era) })

    waits : (begun : Option ℕ) → WaitWithSeats params (waiting_after chain.waiting begun)
    waits None = is.waiting
    waits (Some era) = tt

  round_by : (chain : Chain) → IsBy chain → IsBy (round_phase chain).state
  round_by chain is = record {
    params_are = is.params_are;
    thresholds = is.thresholds;
    deposits = is.deposits;
    round = at (begun_round chain.params chain.due);
    waiting = is.waiting;
  } where
    begins : (void : Bool) (number : ℕ)
        → HasSeats params (Some (if void then rounds.Void number else rounds.Open number (snapshot_of chain) (commissions_of chain.roles)))
    begins true number = tt
    begins false number = ap seats_of is.params_are

    at : (begun : Option ℕ) → HasSeats params (round_after chain begun)
    at None = is.round
    at (Some number) = begins (is_few (snapshot_of chain) || is_poor (snapshot_of chain)) number

  decided_by : (round : Option Round) (chain : Chain) → HasSeats params round → IsBy chain → IsBy (decision_of round chain).state
  decided_by None chain seats is = is
  decided_by (Some (rounds.Void number)) chain seats is = is
  decided_by (Some (rounds.Open number snapshot commissions)) chain seats is = record {
    params_are = is.params_are;
    thresholds = is.thresholds;
    deposits = All-nil (IsHeldBy params);
    round = tt;
    waiting = seats;
  }

  decision_by : (chain : Chain) → IsBy chain → IsBy (decision_phase chain).state
  decision_by chain is = at (is_decision chain.params chain.due) where
    at : (b : Bool) → IsBy (if b then decision_of chain.round chain else quiet chain).state
    at true = decided_by chain.round chain is.round is
    at false = is

  items_by : (chain : Chain) (who : AccountId) (rule : CallRule) → LeavesQueue chain rule ⊎ Submits chain who rule → IsBy chain
      → All (IsHeldBy params) rule.done.queue.items
  items_by chain who rule (inl leaves) is = subst (λ (queue : Ranking). All (IsHeldBy params) queue.items) (sym leaves.queue) is.deposits
  items_by chain who rule (inr submits) is =
      subst (λ (r : CallRule). All (IsHeldBy params) r.done.queue.items) (sym submits.is)
      (All-take (IsHeldBy params) chain.queue.places (ranked (chain.queue.items ++ item ∷ []))
      (All-permutation (IsHeldBy params) (chain.queue.items ++ item ∷ []) (ranked (chain.queue.items ++ item ∷ [])) (rank_permutation (chain.queue.items ++ item ∷ []))
      (All-append (IsHeldBy params) chain.queue.items (item ∷ []) is.deposits
      (All-cons (IsHeldBy params) item [] (ap deposit_of is.params_are) (All-nil (IsHeldBy params)))))) where
        item : Submission
        item = submission_of chain who submits.claim submits.bytes

  after_by : (due : Option Refusal) (index : ℕ) (chain : Chain) (who : AccountId) (rule : CallRule) → IsLawful chain who rule
      → rule.done.bags.thresholds ≡ chain.bags.thresholds → IsBy chain → IsBy (call_after due index rule chain).state
  after_by None index chain who rule lawful same is = record {
    params_are = lawful.fixed.params ∙ is.params_are;
    thresholds = same ∙ is.thresholds;
    deposits = items_by chain who rule lawful.queue is;
    round = subst (HasSeats params) (sym lawful.fixed.round) is.round;
    waiting = subst (WaitWithSeats params) (sym lawful.fixed.waiting) is.waiting;
  }
  after_by (Some refusal) index chain who rule lawful same is = is

  calls_by : (index : ℕ) (calls : List Call) (chain : Chain) → IsBy chain → IsBy (calls_outcome index calls chain).state
  calls_by index [] chain is = is
  calls_by index (call ∷ calls) chain is =
      calls_by (index + 1) calls (call_outcome index call chain).state
      (after_by (rule_for chain call).refusal index chain call.who (rule_for chain call) (lawful_call call chain) (rule_same chain call.who call.kind) is)

  closed_by : (chain : Chain) → IsBy chain → IsBy (record chain { due = chain.due + 1 })
  closed_by chain is = record {
    params_are = is.params_are;
    thresholds = is.thresholds;
    deposits = is.deposits;
    round = is.round;
    waiting = is.waiting;
  }

  pub step_by : (chain : Chain) (block : Block) → IsBy chain → IsBy (step chain block).state
  step_by chain block is =
      closed_by (calls_outcome 0 block.calls (before_calls chain)).state
      (calls_by 0 block.calls (before_calls chain)
      (decision_by (round_phase (era_phase chain).state).state (round_by (era_phase chain).state (era_by chain is))))

-- ## What is told of a chain between two blocks

-- what has to be known besides
pub record IsFaithful (chain : Chain) : Type 0 where
  pub by_params : IsBy chain.params chain
  pub own : All AreOwn chain.eras.kept

pub faithful_step : (chain : Chain) (block : Block) → IsFaithful chain → IsFaithful (step chain block).state
faithful_step chain block is =
    let next = step_by chain.params chain block is.by_params in
    record {
      by_params = subst (λ (params : Option Params). IsBy params (step chain block).state) (sym next.params_are) next;
      own = subst (λ (eras : Eras). All AreOwn eras.kept) (eras_block chain block) (own_after_all (events_in chain block) chain.eras is.own);
    }

true_members : (members : Members) → AreMembers members → AreOwn members → AreTrueMembers members
true_members [] sound own = All-nil IsTrueMember
true_members (entry ∷ members) sound own =
    let here : IsSoundExposure entry.1.exposure = All-head (λ (member : Member). IsSoundExposure member.exposure) entry.1 (values_of members) sound in
    All-cons IsTrueMember entry members (record { own = All-head IsOwn entry members own; support = here.support })
    (true_members members (All-tail (λ (member : Member). IsSoundExposure member.exposure) entry.1 (values_of members) sound) (All-tail IsOwn entry members own))

true_eras : (kept_members : List Members) → All AreMembers kept_members → All AreOwn kept_members → All AreTrueMembers kept_members
true_eras [] sound own = All-nil AreTrueMembers
true_eras (members ∷ before) sound own =
    All-cons AreTrueMembers members before (true_members members (All-head AreMembers members before sound) (All-head AreOwn members before own))
    (true_eras before (All-tail AreMembers members before sound) (All-tail AreOwn members before own))

true_round : (round : Option Round) (params : Option Params) (due : ℕ) (items : List Submission) → HasSeats params round → IsSoundRound round
    → IsInTime round params due items → IsTrueRound params due round
true_round None params due items seats sound time = tt
true_round (Some (rounds.Void number)) params due items seats sound time = tt
true_round (Some (rounds.Open number snapshot commissions)) None due items seats sound time = absurd time
true_round (Some (rounds.Open number snapshot commissions)) (Some params) due items seats sound time =
    (time.number_is, record { seats = seats; count = sound.1.count })

true_committee : (waiting : Option Committee) (params : Option Params) → WaitWithSeats params waiting → IsNotedCommittee waiting → IsTrueCommittee params waiting
true_committee None params seats noted = tt
true_committee (Some committee) params seats noted = record { seats = seats; count = noted.count }

no_defer : (params : Option Params) (defer : ℕ) → CanWait params defer → params ≡ None → defer ≡ 0
no_defer params defer can none = subst (λ (ps : Option Params). CanWait ps defer) none can

pub told_between : (chain : Chain) → IsBetweenBlocks chain → IsFaithful chain → IsTold chain
told_between chain rests is = record {
  params = record {
    defer = no_defer chain.params chain.defer rests.live.defer;
    thresholds = is.by_params.thresholds;
    places = rests.places;
    deposits = is.by_params.deposits;
  };
  rising = rests.live.roles.ranked.rising;
  listed = rests.live.bags.listed;
  eras = record {
    era = rests.era;
    count = rests.slashes.order.kept.count;
    members = true_eras chain.eras.kept rests.slashes.order.kept.sound is.own;
  };
  round = true_round chain.round chain.params chain.due chain.queue.items is.by_params.round rests.live.round rests.timely;
  waiting = true_committee chain.waiting chain.params is.by_params.waiting rests.live.waiting;
}

seats_round : (params : Option Params) (due : ℕ) (round : Option Round) → IsTrueRound params due round → HasSeats params round
seats_round params due None is = tt
seats_round params due (Some (rounds.Void number)) is = tt
seats_round params due (Some (rounds.Open number snapshot commissions)) is = is.1.seats

seats_waiting : (params : Option Params) (waiting : Option Committee) → IsTrueCommittee params waiting → WaitWithSeats params waiting
seats_waiting params None is = tt
seats_waiting params (Some committee) is = is.seats

pub faithful : (chain : Chain) → IsTold chain → IsFaithful chain
faithful chain told = record {
  by_params = record {
    params_are = refl;
    thresholds = told.params.thresholds;
    deposits = told.params.deposits;
    round = seats_round chain.params chain.due chain.round told.round;
    waiting = seats_waiting chain.params chain.waiting told.waiting;
  };
  own = own chain.eras.kept told.eras.members;
} where
  own_in : (members : Members) → AreTrueMembers members → AreOwn members
  own_in members all = λ k d few. (all k d few).own

  own : (kept_members : List Members) → All AreTrueMembers kept_members → All AreOwn kept_members
  own kept_members all = λ k d few. own_in _ (all k d few)

-- ## Chains that are alike

open_told : (params : Option Params) (due : ℕ) (round : Option Round) → IsTrueRound params due (open_of round) → IsTrueRound params due round
open_told params due None is = tt
open_told params due (Some (rounds.Void number)) is = tt
open_told params due (Some (rounds.Open number snapshot commissions)) is = is

told_open : (params : Option Params) (due : ℕ) (round : Option Round) → IsTrueRound params due round → IsTrueRound params due (open_of round)
told_open params due None is = tt
told_open params due (Some (rounds.Void number)) is = tt
told_open params due (Some (rounds.Open number snapshot commissions)) is = is

kept_told : (params : Option Params) (waiting : Option Committee) → IsTrueCommittee params (option_map kept_committee waiting) → IsTrueCommittee params waiting
kept_told params None is = tt
kept_told params (Some committee) is = is

told_kept : (params : Option Params) (waiting : Option Committee) → IsTrueCommittee params waiting → IsTrueCommittee params (option_map kept_committee waiting)
told_kept params None is = tt
told_kept params (Some committee) is = is

-- what holds of the one holds of the other
told_alike : (one other : Chain) → AreAlike one other → IsTold one → IsTold other
told_alike one other alike told = subst IsTold (alike_is one other alike) (record {
  params = record {
    defer = told.params.defer;
    thresholds = told.params.thresholds;
    places = told.params.places;
    deposits = told.params.deposits;
  };
  rising = told.rising;
  listed = told.listed;
  eras = record { era = told.eras.era; count = told.eras.count; members = told.eras.members };
  round = open_told one.params one.due other.round
      (subst (IsTrueRound one.params one.due) (ap (λ (c : Chain). c.round) alike) (told_open one.params one.due one.round told.round));
  waiting = kept_told one.params other.waiting
      (subst (IsTrueCommittee one.params) (ap (λ (c : Chain). c.waiting) alike) (told_kept one.params one.waiting told.waiting));
})

-- ## From the genesis on

faithful_blocks : (chain : Chain) (blocks : List Block) → IsFaithful chain → IsFaithful (after_blocks chain blocks)
faithful_blocks chain [] is = is
faithful_blocks chain (block ∷ more) is = faithful_blocks (step chain block).state more (faithful_step chain block is)

faithful_start : (genesis : Genesis) → IsFaithful (genesis_chain genesis)
faithful_start genesis = record {
  by_params = record {
    params_are = refl;
    thresholds = refl;
    deposits = All-nil (IsHeldBy (genesis_chain genesis).params);
    round = tt;
    waiting = tt;
  };
  own = All-cons AreOwn [] [] (All-nil IsOwn) (All-nil AreOwn);
}

pub told_after : (genesis : Genesis) (blocks : List Block) → IsHistory genesis blocks → IsTold (after_blocks (genesis_chain genesis) blocks)
told_after genesis blocks history =
    told_between (after_blocks (genesis_chain genesis) blocks)
    (between_blocks (genesis_chain genesis) blocks (start_law genesis blocks history).between history.fit)
    (faithful_blocks (genesis_chain genesis) blocks (faithful_start genesis))

pub told_law : ToldLaw
told_law one other blocks can first second same =
    let told : IsTold (after_blocks one blocks) =
    told_between (after_blocks one blocks) (between_blocks one blocks can.between can.fit) (faithful_blocks one blocks (faithful one first)) in
    let alike = (blocks_alike one other blocks (kept_alike one other first second same)).1 in
    (told, told_alike (after_blocks one blocks) (after_blocks other blocks) alike told)

seated_append : (chain : Chain) (first next : List Block)
    → seated_by chain (first ++ next) ≡ seated_by chain first ++ seated_by (after_blocks chain first) next
seated_append chain [] next = refl
seated_append chain (block ∷ first) next =
    ap (λ seated. (step chain block).seated ++ seated) (seated_append (step chain block).state first next)
    ∙ sym (append_assoc (step chain block).seated (seated_by (step chain block).state first)
    (seated_by (after_blocks (step chain block).state first) next))

pub resume : ResumeLaw
resume genesis first more other history told same =
    let start : Chain = genesis_chain genesis in
    let last : Chain = after_blocks start first in
    let goes = (blocks_alike last other more (kept_alike last other (told_after genesis first history) told (sym same))).0 in
    record {
      told = told_append start first more ∙ ap (λ told. told_by start first ++ told) goes.told;
      seated = seated_append start first more ∙ ap (λ seated. seated_by start first ++ seated) goes.seated;
    }
