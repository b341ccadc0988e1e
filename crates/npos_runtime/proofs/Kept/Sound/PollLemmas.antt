-- Polls and the committee that waits stay sound: whoever is polled has a row, and who waits was elected.
use Rattle.std.proofs.Common.{◌≡◌, ◌⊎◌, inl, inr, ℕ, zero, suc, ◌+◌, ◌-◌, ◌<◌, ◌≤◌, Bool, true, false, nat_lt, nat_eq}
use Rattle.std.proofs.Common.{◌&&◌, ◌||◌, cond, All, List, [], ◌∷◌, length, map, filter, get_or, unwrap_or, Option}
use Rattle.std.proofs.Common.{Some, None, is_some, refl, ap, sym, subst, ◌∙◌, true≢false, arith, if◌then◌else◌}
use Rattle.std.specs.List.{range_with_len}
use Rattle.std.specs.List.Sorted.{IsStrictlyIncreasing}
use Rattle.std.specs.BTreeMap.{is_at}
use Rattle.std.proofs.lemmas.Bool.Decides.{nat_tests}
use Rattle.std.proofs.lemmas.List.Kept.{IsStrictlyIncreasing-filter}
use Rattle.std.proofs.lemmas.Bool.{eq-eqb}
use Rattle.std.proofs.lemmas.List.Folds.{list_any_at}
use Rattle.std.proofs.lemmas.List.FromFn.{get_or-range_with_len, length-range_with_len}
use Rattle.std.proofs.lemmas.List.Elements.{All-nil, All-cons, All-head, All-tail, All-weaker, All-take, filter_passes}
use Rattle.npos_base.specs.declared.account.AccountId.{AccountId}
use Rattle.npos_base.specs.Account.{account_cmp}
use Rattle.block_wire.specs.declared.genesis.Params.{Params}
use Rattle.block_wire.specs.declared.block.Block.{Block}
use Rattle.block_wire.specs.declared.genesis.Genesis.{Genesis}
use Rattle.stake_ledger.specs.declared.row.Row.{Row}
use Rattle.stake_ledger.specs.Ledger.{Ledger, row_of, row_at}
use Rattle.stake_ledger.specs.Rows.{empty_row, is_bonded}
use Rattle.voter_lists.specs.declared.standing.Standing.{Standing}
use Rattle.voter_lists.specs.Roles.{RoleList, is_validator_standing, validators_of, without_role}
use Rattle.voter_lists.specs.Bags.{walk}
use Rattle.voter_lists.proofs.ValidatorLemmas.{validators_rise}
use Rattle.election_snapshot.specs.Snapshot.{Snapshot, Voter, has}
use Rattle.weight_book.specs.Weights.{Weights, Follows}
use Rattle.weight_book.specs.Passing.{Passes}
use Rattle.weight_book.proofs.SumLemmas.{sum_covered, sum_of_ones, has_range}
use Rattle.election_check.specs.Laws.{PackedYesIsAccepting, PlainYesIsPassing}
use Rattle.quota_fill.specs.Laws.{EveryFillPasses}
use Rattle.era_book.specs.declared.exposure.Backer.{Backer}
use Rattle.era_book.specs.declared.deferred.DeferredSlash.{DeferredSlash}
use Rattle.era_book.specs.Deferred.{next_due, without_next_due}
use Rattle.chain_params.specs.Rules.{era_of, place_of, begun_era, begun_round, is_decision}
use Rattle.chain_params.specs.Faults.{AreSound}
use Rattle.chain_params.proofs.PhaseLemmas.{next_place, phases_sound}
use Rattle.round_decision.specs.Decision.{rising, others, decided_weights}
use Rattle.round_decision.proofs.VerdictLemmas.{decided_passes}
use Rattle.npos_runtime.specs.declared.chain.Chain.{Chain}
use Rattle.npos_runtime.specs.declared.round.Round.{Round}
use Rattle.npos_runtime.specs.declared.round.Round.TheVariants as rounds
use Rattle.voter_lists.specs.Votes.{votes_of}
use Rattle.npos_runtime.specs.Rules.Ballots.{active_of, is_eligible, electorate, voter_of, snapshot_of, commissions_of}
use Rattle.npos_runtime.specs.Rules.Committee.{Committee}
use Rattle.npos_runtime.specs.Rules.Rounds.{is_few, is_poor, round_after}
use Rattle.npos_runtime.specs.Rules.Deciding.{decision_of, decision_phase}
use Rattle.npos_runtime.specs.Rules.Outcome.{quiet}
use Rattle.npos_runtime.specs.Genesis.{genesis_chain}
use Rattle.npos_runtime.specs.Rules.Offices.{slashed_once, slashes, apply_slash, applied}
use Rattle.npos_runtime.specs.Rules.Lists.{is_over}
use Rattle.npos_runtime.specs.Step.{waiting_after, eras_after, applied_in, era_phase, before_calls}
use Rattle.npos_runtime.specs.Live.{IsLive, IsSoundRound}
use Rattle.npos_runtime.specs.Kept.Sound.{IsDecided, AreKnown, IsSoundPoll, IsSoundOpen, AreSoundRoles, IsSoundWaiting}
use Rattle.npos_runtime.specs.Kept.Soundness.{CanStep, after_block, RoundStaysSound, WaitingStaysSound}
use Rattle.npos_runtime.proofs.Rules.ElectedLemmas.{follows_rising}
use Rattle.npos_runtime.proofs.Rules.EraLemmas.{era_begun}
use Rattle.npos_runtime.proofs.Histories.LawLemmas.{undecided}
use Rattle.npos_runtime.proofs.Rules.LiveLemmas.{fixed_calls, due_before}
use Rattle.npos_runtime.proofs.Rules.PhaseTable.{live_era, live_round}
use Rattle.npos_runtime.proofs.Kept.KnownRowLemmas.{StayKnown, all_known, known_slashes, known_era, known_decision, known_calls}

-- ## Polls

poll_stays : (old new : Ledger) (snapshot : Snapshot) → StayKnown old new → IsSoundPoll old snapshot → IsSoundPoll new snapshot
poll_stays old new snapshot stay poll = record {
  rising = poll.rising;
  targets = all_known old new snapshot.targets stay poll.targets;
  voters = all_known old new (map (λ (voter : Voter). voter.account) snapshot.voters) stay poll.voters;
}

open_stays : (old new : Ledger) (round : Option Round) → StayKnown old new → IsSoundOpen old round → IsSoundOpen new round
open_stays old new None stay sound = tt
open_stays old new (Some (rounds.Void number)) stay sound = tt
open_stays old new (Some (rounds.Open number snapshot commissions)) stay sound = poll_stays old new snapshot stay sound

-- ## Whoever has a role has a row

abbrev HaveRows : Ledger → RoleList → Type 0
HaveRows book roles = All (λ entry. is_some (row_of book entry.0) ≡ true) roles

-- who has something bonded, or active, has a row
bonded_row : (found : Option Row) → is_bonded (unwrap_or found empty_row) ≡ true → is_some found ≡ true
bonded_row None bonded = bonded
bonded_row (Some row) bonded = refl

active_row : (found : Option Row) → nat_lt 0 (unwrap_or found empty_row).active ≡ true → is_some found ≡ true
active_row None active = active
active_row (Some row) active = refl

roles_known : (chain : Chain) → AreSoundRoles chain → HaveRows chain.book chain.roles
roles_known chain sound =
    All-weaker (λ (entry : AccountId × Standing). is_bonded (row_at chain.book entry.0) ≡ true)
    (λ entry. is_some (row_of chain.book entry.0) ≡ true) (λ entry bonded. bonded_row (row_of chain.book entry.0) bonded)
    chain.roles sound.bonded

roles_stay : (old new : Ledger) (roles : RoleList) → StayKnown old new → HaveRows old roles → HaveRows new roles
roles_stay old new roles stay have =
    All-weaker (λ (entry : AccountId × Standing). is_some (row_of old entry.0) ≡ true) (λ entry. is_some (row_of new entry.0) ≡ true)
    (λ entry known. stay entry.0 known) roles have

-- one role less
fewer_roles : (book : Ledger) (who : AccountId) (roles : RoleList) → HaveRows book roles → HaveRows book (without_role roles who)
fewer_roles book who [] have = have
fewer_roles book who (entry ∷ roles) have =
    at (is_at (account_cmp who) entry.0)
    (fewer_roles book who roles (All-tail (λ (e : AccountId × Standing). is_some (row_of book e.0) ≡ true) entry roles have)) where
      at : (b : Bool) → HaveRows book (without_role roles who)
          → HaveRows book (cond b roles (entry ∷ without_role roles who))
      at true rest = All-tail (λ (e : AccountId × Standing). is_some (row_of book e.0) ≡ true) entry roles have
      at false rest =
          All-cons (λ (e : AccountId × Standing). is_some (row_of book e.0) ≡ true) entry (without_role roles who)
          (All-head (λ (e : AccountId × Standing). is_some (row_of book e.0) ≡ true) entry roles have) rest

rows_slashed : (due : Backer) (chain : Chain) → HaveRows chain.book chain.roles
    → HaveRows (slashed_once due chain).book (slashed_once due chain).roles
rows_slashed due chain have = at (is_over left due.who) where
  left : Chain
  left = record chain { book = (slashed_once due chain).book }

  there : HaveRows (slashed_once due chain).book chain.roles
  there = roles_stay chain.book (slashed_once due chain).book chain.roles (known_slashes (due ∷ []) chain) have

  at : (b : Bool) → HaveRows (slashed_once due chain).book (if b then without_role chain.roles due.who else chain.roles)
  at true = fewer_roles (slashed_once due chain).book due.who chain.roles there
  at false = there

rows_slashes : (dues : List Backer) (chain : Chain) → HaveRows chain.book chain.roles
    → HaveRows (slashes dues chain).state.book (slashes dues chain).state.roles
rows_slashes [] chain have = have
rows_slashes (due ∷ more) chain have = rows_slashes more (slashed_once due chain) (rows_slashed due chain have)

rows_apply : (found : Option DeferredSlash) (chain : Chain) → HaveRows chain.book chain.roles
    → HaveRows (apply_slash found chain).state.book (apply_slash found chain).state.roles
rows_apply None chain have = have
rows_apply (Some slash) chain have = rows_slashes slash.lines (record chain { eras = without_next_due chain.eras }) have

rows_applied : (count : ℕ) (chain : Chain) → HaveRows chain.book chain.roles
    → HaveRows (applied count chain).state.book (applied count chain).state.roles
rows_applied zero chain have = have
rows_applied (suc more) chain have =
    rows_applied more (apply_slash (next_due chain.eras) chain).state (rows_apply (next_due chain.eras) chain have)

rows_begun : (begun : Option ℕ) (chain : Chain) → HaveRows chain.book chain.roles
    → HaveRows (applied_in begun chain).state.book (applied_in begun chain).state.roles
rows_begun None chain have = have
rows_begun (Some era) chain have = rows_applied (length chain.eras.queue) chain have

rows_era : (chain : Chain) → HaveRows chain.book chain.roles → HaveRows (era_phase chain).state.book (era_phase chain).state.roles
rows_era chain have =
    rows_begun (begun_era chain.params chain.due) (record chain {
      waiting = waiting_after chain.waiting (begun_era chain.params chain.due);
      eras = eras_after chain.eras chain.waiting (begun_era chain.params chain.due);
    }) have

-- ## The poll of a round that begins

validators_known : (book : Ledger) (roles : RoleList) → HaveRows book roles → AreKnown book (validators_of roles)
validators_known book [] have = All-nil (λ who. is_some (row_of book who) ≡ true)
validators_known book (entry ∷ roles) have =
    at (is_validator_standing entry.1) (validators_known book roles (All-tail (λ (e : AccountId × Standing). is_some (row_of book e.0) ≡ true) entry roles have)) where
      at : (b : Bool) → AreKnown book (validators_of roles) → AreKnown book (if b then entry.0 ∷ validators_of roles else validators_of roles)
      at true rest =
          All-cons (λ who. is_some (row_of book who) ≡ true) entry.0 (validators_of roles)
          (All-head (λ (e : AccountId × Standing). is_some (row_of book e.0) ≡ true) entry roles have) rest
      at false rest = rest

first_true : (a b : Bool) → (a && b) ≡ true → a ≡ true
first_true true b e = refl
first_true false b e = e

-- whoever votes has active stake
voters_known : (chain : Chain) → AreKnown chain.book (electorate chain)
voters_known chain =
    let voting : List AccountId = filter (is_eligible chain) (walk chain.bags.order) in
    All-take (λ who. is_some (row_of chain.book who) ≡ true) 16384 voting
    (All-weaker (λ who. is_eligible chain who ≡ true) (λ who. is_some (row_of chain.book who) ≡ true)
    (λ who is. active_row (row_of chain.book who) (first_true (nat_lt 0 (active_of chain who)) (nat_lt 0 (length (votes_of chain.roles who))) is))
    voting (filter_passes (is_eligible chain) (walk chain.bags.order)))

accounts_back : (chain : Chain) (accounts : List AccountId) → map (λ (voter : Voter). voter.account) (map (voter_of chain) accounts) ≡ accounts
accounts_back chain [] = refl
accounts_back chain (who ∷ more) = ap (λ rest. who ∷ rest) (accounts_back chain more)

poll_now : (chain : Chain) → IsLive chain → HaveRows chain.book chain.roles → IsSoundPoll chain.book (snapshot_of chain)
poll_now chain live have = record {
  rising = validators_rise chain.roles live.roles.ranked.rising;
  targets = validators_known chain.book chain.roles have;
  voters = subst (AreKnown chain.book) (sym (accounts_back chain (electorate chain))) (voters_known chain);
}

open_begun : (chain : Chain) (begun : Option ℕ) → IsLive chain → HaveRows chain.book chain.roles → IsSoundOpen chain.book chain.round
    → IsSoundOpen chain.book (round_after chain begun)
open_begun chain None live have sound = sound
open_begun chain (Some number) live have sound = at (is_few (snapshot_of chain) || is_poor (snapshot_of chain)) where
  at : (void : Bool)
      → IsSoundOpen chain.book
      (Some (if void then rounds.Void number else rounds.Open number (snapshot_of chain) (commissions_of chain.roles)))
  at true = tt
  at false = poll_now chain live have

-- when the round may have begun
open_undecided : (chain : Chain) → IsLive chain → AreSoundRoles chain → IsSoundOpen chain.book chain.round
    → IsSoundOpen (undecided chain).book (undecided chain).round
open_undecided chain live roles sound =
    let begun : Chain = (era_phase chain).state in
    open_begun begun (begun_round begun.params begun.due) (live_era chain live) (rows_era chain (roles_known chain roles))
    (open_stays chain.book begun.book chain.round (known_era chain) sound)

-- and when it may have been decided
open_of : (round : Option Round) (chain : Chain) → chain.round ≡ round → IsSoundOpen chain.book chain.round
    → IsSoundOpen (decision_of round chain).state.book (decision_of round chain).state.round
open_of None chain is sound = sound
open_of (Some (rounds.Void number)) chain is sound = sound
open_of (Some (rounds.Open number snapshot commissions)) chain is sound = tt

open_decided : (chain : Chain) → IsSoundOpen chain.book chain.round → IsSoundOpen (decision_phase chain).state.book (decision_phase chain).state.round
open_decided chain sound = at (is_decision chain.params chain.due) where
  at : (b : Bool) → IsSoundOpen (if b then decision_of chain.round chain else quiet chain).state.book
      (if b then decision_of chain.round chain else quiet chain).state.round
  at true = open_of chain.round chain refl sound
  at false = sound

pub round_stays : RoundStaysSound
round_stays chain block can =
    let start : Chain = before_calls chain in
    let new : Chain = after_block chain block in
    let sound : IsSoundOpen start.book start.round =
    open_decided (undecided chain) (open_undecided chain can.ready.between.live can.sound.roles can.sound.round) in
    subst (λ (round : Option Round). IsSoundOpen new.book round) (sym (fixed_calls 0 block.calls start).round)
    (open_stays start.book new.book start.round (known_calls 0 block.calls start) sound)

-- no round has begun at the start
pub round_starts : (genesis : Genesis) → IsSoundOpen (genesis_chain genesis).book (genesis_chain genesis).round
round_starts genesis = tt

-- ## Weights with their members in rising order

range_rises : (low n : ℕ) → IsStrictlyIncreasing (range_with_len low n)
range_rises low n k within =
    let count : length (range_with_len low n) ≡ n = length-range_with_len low n in
    less (get_or-range_with_len low n k 0 (omega (arith, within, count))) (get_or-range_with_len low n (k + 1) 0 (omega (arith, within, count))) where
      less : {a b : ℕ} → a ≡ low + k → b ≡ low + (k + 1) → a < b
      less here next = omega (arith, here, next)

has_kept : (test : ℕ → Bool) (xs : List ℕ) (x : ℕ) → test x ≡ true → has xs x ≡ true → has (filter test xs) x ≡ true
has_kept test [] x passes is = is
has_kept test (y ∷ ys) x passes is = at (test y) refl (nat_eq y x) refl is (has_kept test ys x passes) where
  at : (kept : Bool) → test y ≡ kept → (same : Bool) → nat_eq y x ≡ same → (same || has ys x) ≡ true
      → (has ys x ≡ true → has (filter test ys) x ≡ true)
      → has (cond kept (y ∷ filter test ys) (filter test ys)) x ≡ true
  at true t true e i rest = ap (λ b. b || has (filter test ys) x) e
  at true t false e i rest = ap (λ b. b || has (filter test ys) x) e ∙ rest i
  at false t true e i rest =
      absurd (let one : y ≡ x = grind (arith, nat_tests) in true≢false (sym passes ∙ (sym (ap test one) ∙ t)))
  at false t false e i rest = rest i

-- the members in rising order are as many
rising_count : (snapshot : Snapshot) (weights : Weights) → Follows snapshot weights
    → length (rising snapshot weights).committee ≡ length weights.committee
rising_count snapshot weights follows =
    let new : List ℕ = (rising snapshot weights).committee in
    let ordered = follows_rising snapshot weights follows in
    let all : List ℕ = range_with_len 0 (length snapshot.targets) in
    let fewer = sum_covered (λ _. 1) new weights.committee ordered.members_distinct
    (filter_passes (has weights.committee) all) in
    let more = sum_covered (λ _. 1) weights.committee new follows.members_distinct
    (λ k d within.
    has_kept (has weights.committee) all (get_or weights.committee k d) (has_itself weights.committee k d within)
    (has_range 0 (length snapshot.targets) (get_or weights.committee k d) (omega arith) (omega (arith, follows.members_in_range k d within)))) in
    omega (arith, fewer, more, sum_of_ones new, sum_of_ones weights.committee) where
      has_itself : (xs : List ℕ) (k d : ℕ) → k < length xs → has xs (get_or xs k d) ≡ true
      has_itself xs k d within = list_any_at (λ other. nat_eq other (get_or xs k d)) xs k d within (eq-eqb (get_or xs k d) (get_or xs k d) refl)

passes_rising : (snapshot : Snapshot) (weights : Weights) → Passes snapshot weights → Passes snapshot (rising snapshot weights)
passes_rising snapshot weights passes = record {
  feasible = record {
    follows = follows_rising snapshot weights passes.feasible.follows;
    seats_filled = rising_count snapshot weights passes.feasible.follows ∙ passes.feasible.seats_filled;
    within_stakes = passes.feasible.within_stakes;
  };
  none_outweighs = λ target within outside. passes.none_outweighs target within (outside_too target within outside);
} where
  outside_too : (target : ℕ) → target < length snapshot.targets → has (rising snapshot weights).committee target ≡ false
      → has weights.committee target ≡ false
  outside_too target within outside = at (has weights.committee target) refl where
    at : (b : Bool) → has weights.committee target ≡ b → b ≡ false
    at false e = refl
    at true e =
        absurd (true≢false (sym (has_kept (has weights.committee) (range_with_len 0 (length snapshot.targets)) target e
        (has_range 0 (length snapshot.targets) target (omega arith) (omega (arith, within)))) ∙ outside))

-- ## Who waits

-- this block is that of the decision, or a later one of its era
abbrev IsPast : Option Params → ℕ → Type 0
IsPast None due = ⊥
IsPast (Some params) due = params.offset + params.signed ≤ place_of params due

-- while a block is taken
record Waits (book : Ledger) (params : Option Params) (due : ℕ) (committee : Committee) : Type 0 where
  pub past : IsPast params due
  pub poll : IsSoundPoll book committee.snapshot
  pub rising : IsStrictlyIncreasing committee.weights.committee
  pub passes : Passes committee.snapshot committee.weights

abbrev WhoWaits : Ledger → Option Params → ℕ → Option Committee → Type 0
WhoWaits book params due None = Unit {0}
WhoWaits book params due (Some committee) = Waits book params due committee

-- a block of the same era is past the decision where the one before is
past_on : (params : Option Params) (due : ℕ) → AreSound params → IsDecided params due → era_of params due ≡ era_of params (due - 1)
    → IsPast params due
past_on None due sound decided same = decided
past_on (Some params) due sound decided same =
    by (next_place params (due - 1) (let within = (phases_sound params sound).1 in omega (arith, within)) (omega (arith, decided.0))) where
      back : due - 1 + 1 ≡ due
      back = omega (arith, decided.0)

      by : ((place_of params (due - 1 + 1) ≡ place_of params (due - 1) + 1) × (era_of (Some params) (due - 1 + 1) ≡ era_of (Some params) (due - 1)))
          ⊎ ((place_of params (due - 1) + 1 ≡ params.era_blocks) × (era_of (Some params) (due - 1 + 1) ≡ era_of (Some params) (due - 1) + 1))
          → params.offset + params.signed ≤ place_of params due
      by (inl (on, in_era)) = omega (arith, decided.1, on, ap (place_of params) back)
      by (inr (over, past)) = absurd (omega (arith, past, same, ap (era_of (Some params)) back))

-- an era may begin
waits_begun : (chain : Chain) → IsLive chain → chain.eras.current ≡ era_of chain.params (chain.due - 1) → IsSoundWaiting chain chain.waiting
    → WhoWaits chain.book chain.params chain.due (waiting_after chain.waiting (begun_era chain.params chain.due))
waits_begun chain live is sound =
    at (begun_era chain.params chain.due)
    (era_begun chain.eras chain.waiting chain.params chain.due live.params live.due.at_least is) where
      stays : (waiting : Option Committee) → IsSoundWaiting chain waiting → era_of chain.params chain.due ≡ era_of chain.params (chain.due - 1)
          → WhoWaits chain.book chain.params chain.due waiting
      stays None sound same = tt
      stays (Some committee) sound same = record {
        past = past_on chain.params chain.due live.params sound.decided same;
        poll = sound.poll;
        rising = sound.rising;
        passes = sound.passes;
      }

      at : (begun : Option ℕ) → (eras_after chain.eras chain.waiting begun).current ≡ era_of chain.params chain.due
          → WhoWaits chain.book chain.params chain.due (waiting_after chain.waiting begun)
      at None now = stays chain.waiting sound (sym now ∙ is)
      at (Some era) now = tt

waits_stay : (old new : Ledger) (params : Option Params) (due : ℕ) (waiting : Option Committee) → StayKnown old new → WhoWaits old params due waiting
    → WhoWaits new params due waiting
waits_stay old new params due None stay waits = tt
waits_stay old new params due (Some committee) stay waits = record {
  past = waits.past;
  poll = poll_stays old new committee.snapshot stay waits.poll;
  rising = waits.rising;
  passes = waits.passes;
}

abbrev WaitsNow : Chain → Type 0
WaitsNow chain = WhoWaits chain.book chain.params chain.due chain.waiting

waits_undecided : (chain : Chain) → IsLive chain → chain.eras.current ≡ era_of chain.params (chain.due - 1) → IsSoundWaiting chain chain.waiting
    → WaitsNow (undecided chain)
waits_undecided chain live is sound =
    waits_stay chain.book (era_phase chain).state.book chain.params chain.due
    (waiting_after chain.waiting (begun_era chain.params chain.due)) (known_era chain) (waits_begun chain live is sound)

past_decision : (params : Option Params) (due : ℕ) → is_decision params due ≡ true → IsPast params due
past_decision None due is = absurd (true≢false (sym is))
past_decision (Some params) due is = let place : place_of params due ≡ params.offset + params.signed = grind (arith, nat_tests) in omega (arith, place)

-- the round may be decided
module _ (packed : PackedYesIsAccepting) (plain : PlainYesIsPassing) (fill : EveryFillPasses) where
  waits_of : (round : Option Round) (chain : Chain) → is_decision chain.params chain.due ≡ true → IsSoundRound round → IsSoundOpen chain.book round
      → StayKnown chain.book (decision_of round chain).state.book → WaitsNow chain → WaitsNow (decision_of round chain).state
  waits_of None chain is round sound stay waits = waits
  waits_of (Some (rounds.Void number)) chain is round sound stay waits = waits
  waits_of (Some (rounds.Open number snapshot commissions)) chain is round sound stay waits = record {
    past = past_decision chain.params chain.due is;
    poll = poll_stays chain.book (decision_of (Some (rounds.Open number snapshot commissions)) chain).state.book snapshot stay sound;
    rising = IsStrictlyIncreasing-filter (has (decided_weights snapshot (others snapshot chain.queue.items)).committee)
        (range_with_len 0 (length snapshot.targets)) (range_rises 0 (length snapshot.targets));
    passes = passes_rising snapshot (decided_weights snapshot (others snapshot chain.queue.items))
        (decided_passes packed fill plain snapshot chain.queue.items round.0);
  }

  waits_decided : (chain : Chain) → IsSoundRound chain.round → IsSoundOpen chain.book chain.round → WaitsNow chain → WaitsNow (decision_phase chain).state
  waits_decided chain round sound waits = at (is_decision chain.params chain.due) refl (known_decision chain) where
    at : (b : Bool) → is_decision chain.params chain.due ≡ b
        → StayKnown chain.book (if b then decision_of chain.round chain else quiet chain).state.book
        → WaitsNow (if b then decision_of chain.round chain else quiet chain).state
    at true is stay = waits_of chain.round chain is round sound stay waits
    at false is stay = waits

  waits_before : (chain : Chain) (block : Block) → CanStep chain block → WaitsNow (before_calls chain)
  waits_before chain block can =
      let live : IsLive chain = can.ready.between.live in
      waits_decided (undecided chain) (live_round (era_phase chain).state (live_era chain live)).round
      (open_undecided chain live can.sound.roles can.sound.round)
      (waits_undecided chain live can.ready.between.era can.sound.waiting)

  -- and then the next block is due
  waits_closed : (chain : Chain) (book : Ledger) (params : Option Params) (due : ℕ) (waiting : Option Committee) → 1 ≤ due
      → chain.book ≡ book → chain.params ≡ params → chain.due ≡ due + 1 → WhoWaits book params due waiting → IsSoundWaiting chain waiting
  waits_closed chain book params due None some same_book same_params next waits = tt
  waits_closed chain book params due (Some committee) some same_book same_params next waits = record {
    decided = subst (λ (ps : Option Params). IsDecided ps chain.due) (sym same_params)
        (subst (IsDecided params) (sym next) (later params waits.past));
    poll = subst (λ (b : Ledger). IsSoundPoll b committee.snapshot) (sym same_book) waits.poll;
    rising = waits.rising;
    passes = waits.passes;
  } where
    later : (ps : Option Params) → IsPast ps due → IsDecided ps (due + 1)
    later None past = past
    later (Some ps) past =
        let back : due + 1 - 1 ≡ due = omega arith in
        (omega (arith, some), omega (arith, past, ap (place_of ps) back))

  pub waiting_stays : WaitingStaysSound
  waiting_stays chain block can =
      let start : Chain = before_calls chain in
      let new : Chain = after_block chain block in
      let fixed = fixed_calls 0 block.calls start in
      subst (λ (waiting : Option Committee). IsSoundWaiting new waiting) (sym fixed.waiting)
      (waits_closed new new.book start.params start.due start.waiting
      (omega (arith, due_before chain, can.ready.between.live.due.at_least)) refl fixed.params (ap (λ due. due + 1) fixed.due)
      (waits_stay start.book new.book start.params start.due start.waiting (known_calls 0 block.calls start) (waits_before chain block can)))

-- nobody waits at the start
pub waiting_starts : (genesis : Genesis) → IsSoundWaiting (genesis_chain genesis) (genesis_chain genesis).waiting
waiting_starts genesis = tt
