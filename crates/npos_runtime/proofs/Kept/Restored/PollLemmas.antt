-- The round that is open in a chain that goes on from a state, and the committee that waits.
use Rattle.std.proofs.Common.{◌≡◌, ◌⊎◌, inl, inr, ℕ, ◌+◌, ◌-◌, ◌*◌, ◌^◌, ◌≤◌, ◌<◌, Bool, true, false, ◌&&◌, ◌||◌, nat_eq, nat_lt, nat_le}
use Rattle.std.proofs.Common.{List, [], ◌∷◌, length, map, take, get_or, Option, Some, None, option_map, refl, ap, sym, subst, ◌∙◌, arith}
use Rattle.std.specs.List.{AllByRecursion, IsDistinct}
use Rattle.std.proofs.lemmas.Bool.Decides.{nat_tests}
use Rattle.std.proofs.lemmas.List.{length-map, length-take-le}
use Rattle.std.proofs.lemmas.List.Elements.{All-map}
use Rattle.std.proofs.lemmas.Bool.{and_parts, or_parts}
use Rattle.npos_base.specs.declared.account.AccountId.{AccountId}
use Rattle.npos_base.specs.declared.figures.Edge.{Edge}
use Rattle.npos_base.specs.declared.limits.TheConstants.{MOST_TARGETS, MOST_VOTERS, MOST_SEATS, WHOLE_FRACTION}
use Rattle.npos_base.specs.Account.{same_account}
use Rattle.npos_base.proofs.NumberTests.{number_test, other_number}
use Rattle.block_wire.specs.declared.genesis.Params.{Params}
use Rattle.block_wire.specs.declared.bundle.BundleVoter.{BundleVoter}
use Rattle.submission_queue.specs.declared.submission.Submission.{Submission}
use Rattle.election_snapshot.specs.Snapshot.{Snapshot, Voter, has, total_of, IsVoterOf, AreVotersOf, IsWellFormed}
use Rattle.election_snapshot.specs.Draft.{Draft, accounts_of, has_repeat, target_fault, voter_fault, first_seats_fault}
use Rattle.election_snapshot.specs.Draft as draft
use Rattle.election_snapshot.proofs.KeptLemmas as builder
use Rattle.weight_book.specs.Passing.{Passes}
use Rattle.election_check.specs.declared.verdict.Verdict.{Verdict}
use Rattle.election_check.specs.declared.verdict.Verdict.TheVariants as verdicts
use Rattle.election_check.proofs.FaultLemmas.{plain_yes}
use Rattle.election_check.proofs.PassingLemmas.{passes}
use Rattle.chain_params.specs.Faults.{AreSound}
use Rattle.chain_params.specs.Rules.{era_of, place_of, is_signed, seats_of}
use Rattle.chain_params.proofs.PhaseLemmas.{phases_sound, next_place}
use Rattle.state_rules.specs.declared.state.State.{State}
use Rattle.state_rules.specs.declared.state.RoundRow.{RoundRow}
use Rattle.state_rules.specs.declared.state.WaitingRow.{WaitingRow}
use Rattle.state_rules.specs.Accounts.{stands_in}
use Rattle.state_rules.specs.Terms.{is_past, params_of}
use Rattle.state_rules.specs.Rounds.{Target, voter_of, draft_of}
use Rattle.state_rules.specs.Waiting.{edge_below}
use Rattle.state_rules.specs.Sound as rule
use Rattle.npos_runtime.specs.Rules.Committee.{Committee}
use Rattle.npos_runtime.specs.Kept.Chain.{voter_in, snapshot_in, commissions_in, round_in, committee_in, chain_of, IsWaitingInOrder}
use Rattle.npos_runtime.specs.Live.{AreNoted, IsSoundRound, IsUnderway, CanBeOpen, IsInTime, WasElected, IsNotedCommittee}
use Rattle.npos_runtime.specs.Kept.Restoring.{unless_yes, verdict_on, election_fault}
use Rattle.npos_runtime.specs.Kept.Sound.{AreKnown, IsSoundPoll, IsSoundOpen, IsDecided, IsSoundWaiting}
use Rattle.npos_runtime.proofs.Kept.ChainLemmas.{pairs_count}
use Rattle.npos_runtime.proofs.Kept.Causes.RowLemmas.{turned}
use Rattle.npos_runtime.proofs.Kept.Causes.PollLemmas.{sum_mapped}
use Rattle.npos_runtime.proofs.Kept.Restored.ListLemmas.{none_passes, new_distinct, rows_sorted, rising_pairs, rising_numbers, sum_last, within_most}
use Rattle.npos_runtime.proofs.Kept.Restored.BookLemmas.{are_known, none_unknown}

-- ## Votes

apart : (number : ℕ) (votes : List ℕ) → has votes number ≡ false → AllByRecursion (λ other. nat_eq number other ≡ false) votes
apart number [] none = tt
apart number (vote ∷ votes) none =
    let both = or_parts (nat_eq vote number) (has votes number) none in
    (number_test number vote (λ same. other_number vote number both.0 (sym same)), apart number votes both.1)

votes_apart : (votes : List ℕ) → has_repeat votes ≡ false → IsDistinct nat_eq votes
unfolding IsDistinct
votes_apart [] none = tt
votes_apart (vote ∷ votes) none =
    let both = or_parts (has votes vote) (has_repeat votes) none in (apart vote votes both.0, votes_apart votes both.1)

-- a voter that the builder takes
is_voter : (so_far : Draft) (voter : Voter) → voter_fault so_far voter.account voter.stake voter.votes ≡ None → IsVoterOf (length so_far.targets) voter
is_voter so_far voter none =
    let taken = builder.sound so_far voter.account voter.stake voter.votes none in
    record {
      stake_above = taken.stake_above;
      some_votes = taken.some_votes;
      few_votes = taken.few_votes;
      votes_in_range = λ k d few.
          below (length so_far.targets) (get_or voter.votes k d) (none_passes (λ target. nat_le (length so_far.targets) target) voter.votes taken.in_range k d few);
      votes_distinct = votes_apart voter.votes taken.no_repeat;
    } where
      below : (targets target : ℕ) → nat_le targets target ≡ false → target < targets
      below targets target e = grind (arith, nat_tests, e)

-- ## Accounts

stands_turned : (accounts : List AccountId) (who : AccountId) → draft.stands_in accounts who ≡ stands_in accounts who
stands_turned [] who = refl
stands_turned (account ∷ accounts) who =
    ap (λ b. b || draft.stands_in accounts who) (turned who account) ∙ ap (λ b. same_account account who || b) (stands_turned accounts who)

-- a target that the builder takes
target_free : (so_far : Draft) (who : AccountId) → target_fault so_far who ≡ None
    → (length so_far.targets < MOST_TARGETS) × (draft.stands_in so_far.targets who ≡ false)
target_free so_far who none = at (nat_le MOST_TARGETS (length so_far.targets)) (draft.stands_in so_far.targets who) refl refl where
  at : (a b : Bool) → nat_le MOST_TARGETS (length so_far.targets) ≡ a → draft.stands_in so_far.targets who ≡ b
      → (length so_far.targets < MOST_TARGETS) × (draft.stands_in so_far.targets who ≡ false)
  at true b full old = absurd (let e = rw full at none in cc)
  at false true full old = absurd (let e = rw (full, old) at none in cc)
  at false false full old = (grind (arith, nat_tests, full), old)

-- ## Seats

seats_free : (targets total seats : ℕ) → first_seats_fault targets total seats ≡ None
    → (1 ≤ seats) × (seats ≤ MOST_SEATS) × (seats ≤ targets) × (seats * seats ≤ total)
seats_free targets total seats none =
    at (nat_eq seats 0 || nat_lt MOST_SEATS seats) (nat_lt targets seats) (nat_lt total (seats * seats)) refl refl refl where
      within : (a b : ℕ) → nat_lt a b ≡ false → b ≤ a
      within a b e = grind (arith, nat_tests, e)

      some : (a : ℕ) → nat_eq a 0 ≡ false → 1 ≤ a
      some a e = grind (arith, nat_tests, e)

      at : (a b c : Bool) → (nat_eq seats 0 || nat_lt MOST_SEATS seats) ≡ a → nat_lt targets seats ≡ b → nat_lt total (seats * seats) ≡ c
          → (1 ≤ seats) × (seats ≤ MOST_SEATS) × (seats ≤ targets) × (seats * seats ≤ total)
      at true b c bad few poor = absurd (let e = rw bad at none in cc)
      at false true c bad few poor = absurd (let e = rw (bad, few) at none in cc)
      at false false true bad few poor = absurd (let e = rw (bad, few, poor) at none in cc)
      at false false false bad few poor =
          let both = or_parts (nat_eq seats 0) (nat_lt MOST_SEATS seats) bad in
          (some seats both.0, within MOST_SEATS seats both.1, within targets seats few, within total (seats * seats) poor)

-- ## Snapshots

abbrev stake : BundleVoter → ℕ
stake voter = voter.stake

total_small : (voters : List BundleVoter) → ((place : ℕ) (d : BundleVoter) → place < length voters → total_of (map voter_of (take place voters)) + (get_or voters place d).stake < 2 ^ 64)
    → total_of (map voter_in voters) < 2 ^ 64
total_small [] each = omega arith
total_small (voter ∷ voters) each =
    omega (
      arith,
      each (length voters) voter (omega arith),
      sum_mapped (λ (one : Voter). one.stake) voter_of (take (length voters) (voter ∷ voters)),
      sum_mapped (λ (one : Voter). one.stake) voter_in (voter ∷ voters),
      sum_last stake (voter ∷ voters) (length voters) voter refl,
    )

accounts_mapped : (voters : List BundleVoter) → map (λ (voter : BundleVoter). voter.account) voters ≡ accounts_of (map voter_of voters)
accounts_mapped [] = refl
accounts_mapped (voter ∷ voters) = ap (λ (more : List AccountId). voter.account ∷ more) (accounts_mapped voters)

abbrev first : Target → AccountId
first target = target.0

abbrev account : BundleVoter → AccountId
account voter = voter.account

module _ (state : State) (row : RoundRow) (sound : rule.IsSoundRound state.rows (seats_of (params_of state)) row) where
  abbrev snapshot : Snapshot
  snapshot = snapshot_in (params_of state) row

  are_voters : AreVotersOf snapshot.targets snapshot.voters
  are_voters = record {
    targets_few = omega (arith, few_targets, length-map row.targets first);
    targets_distinct = new_distinct first row.targets
        (λ place d few.
        sym (stands_turned (map first (take place row.targets)) (get_or row.targets place d).0)
        ∙ (target_free (draft_of (take place row.targets) []) (get_or row.targets place d).0 (sound.targets_taken place d few)).1);
    voters_few = omega (arith, few_voters, length-map row.voters voter_in);
    accounts_distinct = subst (IsDistinct same_account) (accounts_mapped row.voters)
        (new_distinct account row.voters
        (λ place d few.
        ap (λ (accounts : List AccountId). stands_in accounts (get_or row.voters place d).account) (accounts_mapped (take place row.voters))
        ∙ (sym (stands_turned (accounts_of (map voter_of (take place row.voters))) (get_or row.voters place d).account) ∙ (taken place d few).is_new)));
    each_voter = All-map (IsVoterOf (length (map first row.targets))) voter_in row.voters
        (λ place d few. is_voter (draft_of row.targets (take place row.voters)) (voter_in (get_or row.voters place d)) (sound.voters_taken place d few));
    total_fits = total_small row.voters (λ place d few. (taken place d few).fits);
  } where
    taken : (place : ℕ) (d : BundleVoter) → place < length row.voters
        → builder.IsSound (draft_of row.targets (take place row.voters)) (get_or row.voters place d).account (get_or row.voters place d).stake (get_or row.voters place d).votes
    taken place d few =
        builder.sound (draft_of row.targets (take place row.voters)) (get_or row.voters place d).account (get_or row.voters place d).stake (get_or row.voters place d).votes
        (sound.voters_taken place d few)

    few_targets : length row.targets ≤ MOST_TARGETS
    few_targets =
        within_most row.targets MOST_TARGETS
        (λ place d few.
        omega (
          arith,
          (target_free (draft_of (take place row.targets) []) (get_or row.targets place d).0 (sound.targets_taken place d few)).0,
          length-map (take place row.targets) first,
          length-take-le place row.targets (omega (arith, few)),
        ))

    few_voters : length row.voters ≤ MOST_VOTERS
    few_voters =
        within_most row.voters MOST_VOTERS
        (λ place d few.
        omega (arith, (taken place d few).room, length-map (take place row.voters) voter_of, length-take-le place row.voters (omega (arith, few))))

  well_formed : IsWellFormed snapshot
  well_formed =
      let seats = seats_free (length (map first row.targets)) (total_of (map voter_of row.voters)) (seats_of (params_of state)) sound.seated in
      record {
        voters = are_voters;
        seats_some = seats.0;
        seats_few = seats.1;
        targets_enough = seats.2;
        total_enough = seats.3;
      }

  noted : AreNoted snapshot.targets (commissions_in row)
  noted = record {
    count = pairs_count row.targets;
    within = All-map (λ (commission : ℕ). commission ≤ WHOLE_FRACTION) (λ (target : Target). target.1) row.targets
        (λ place d few. (sound.targets place d few).commission);
  }

  poll : IsSoundPoll (chain_of state).book snapshot
  poll = record {
    rising = rows_sorted first row.targets (λ place d few. (sound.targets place d few).above);
    targets = are_known state first row.targets (λ place d few. (sound.targets place d few).known);
    voters = subst (AreKnown (chain_of state).book) (accounts_mapped row.voters) (none_unknown state account row.voters sound.voters);
  }

-- ## The round that is open

-- where submissions are taken in the block before, a round is open before this one
underway : (params : Option Params) (due : ℕ) → AreSound params → (nat_lt 1 due && is_signed params (due - 1)) ≡ true
    → CanBeOpen params due (era_of params due + 1)
underway None due sound open_now = absurd (let e = (and_parts (nat_lt 1 due) false open_now).1 in cc)
underway (Some params) due sound open_now = at (next_place params (due - 1) some (omega (arith, later))) where
  parts : (nat_lt 1 due ≡ true) × (is_signed (Some params) (due - 1) ≡ true)
  parts = and_parts (nat_lt 1 due) (is_signed (Some params) (due - 1)) open_now

  signed : (nat_le params.offset (place_of params (due - 1)) ≡ true) × (nat_lt (place_of params (due - 1)) (params.offset + params.signed) ≡ true)
  signed = and_parts (nat_le params.offset (place_of params (due - 1))) (nat_lt (place_of params (due - 1)) (params.offset + params.signed)) parts.1

  under : (a b : ℕ) → nat_le a b ≡ true → a ≤ b
  under a b e = grind (arith, nat_tests, e)

  lower : (a b : ℕ) → nat_lt a b ≡ true → a < b
  lower a b e = grind (arith, nat_tests, e)

  later : 1 < due
  later = lower 1 due parts.0

  some : 1 ≤ params.era_blocks
  some = omega (arith, (phases_sound params sound).1)

  again : due - 1 + 1 ≡ due
  again = omega (arith, later)

  begun : params.offset ≤ place_of params (due - 1)
  begun = under params.offset (place_of params (due - 1)) signed.0

  undecided : place_of params (due - 1) < params.offset + params.signed
  undecided = lower (place_of params (due - 1)) (params.offset + params.signed) signed.1

  at : ((place_of params (due - 1 + 1) ≡ place_of params (due - 1) + 1) × (era_of (Some params) (due - 1 + 1) ≡ era_of (Some params) (due - 1)))
      ⊎ ((place_of params (due - 1) + 1 ≡ params.era_blocks) × (era_of (Some params) (due - 1 + 1) ≡ era_of (Some params) (due - 1) + 1))
      → IsUnderway params due (era_of (Some params) due + 1)
  at (inl behind) =
      let here : place_of params due ≡ place_of params (due - 1) + 1 = ap (place_of params) (sym again) ∙ behind.0 in
      record { number_is = refl; begun = omega (arith, here, begun); undecided = omega (arith, here, undecided) }
  at (inr last) = absurd (omega (arith, last.0, undecided, (phases_sound params sound).1))

module _ (state : State) where
  pub restored_round : (round : Option RoundRow) → rule.IsSoundOpen state round → IsSoundRound (option_map (round_in (params_of state) state.due) round)
  restored_round None sound = tt
  restored_round (Some row) sound = (well_formed state row sound.1, noted state row sound.1)

  pub restored_open : (round : Option RoundRow) → rule.IsSoundOpen state round
      → IsSoundOpen (chain_of state).book (option_map (round_in (params_of state) state.due) round)
  restored_open None sound = tt
  restored_open (Some row) sound = poll state row sound.1

  pub restored_time : (round : Option RoundRow) (items : List Submission) → AreSound (params_of state) → rule.IsSoundOpen state round → (round ≡ None → items ≡ [])
      → IsInTime (option_map (round_in (params_of state) state.due) round) (params_of state) state.due items
  restored_time None items params sound none = none refl
  restored_time (Some row) items params sound none = underway (params_of state) state.due params sound.0

-- ## Who waits

yes_is : (verdict : Verdict) → unless_yes verdict ≡ None → verdict ≡ verdicts.Yes
yes_is verdicts.Yes none = refl
yes_is (verdicts.Undecodable place why) none = cc
yes_is (verdicts.NoVoter voter) none = cc
yes_is (verdicts.NoTarget target) none = cc
yes_is (verdicts.VoterTwice voter) none = cc
yes_is (verdicts.TargetTwice target) none = cc
yes_is (verdicts.NotNominated voter target) none = cc
yes_is (verdicts.BadShare voter) none = cc
yes_is (verdicts.WrongSize size) none = cc
yes_is (verdicts.WrongScore score) none = cc
yes_is (verdicts.Outweighed target amount) none = cc
yes_is (verdicts.Overspent voter) none = cc

committee_passes : (committee : Committee) → unless_yes (verdict_on committee) ≡ None → Passes committee.snapshot committee.weights
committee_passes committee none =
    passes committee.snapshot committee.weights (plain_yes committee.snapshot committee.weights (yes_is (verdict_on committee) none))

decided : (params : Option Params) (due : ℕ) → (nat_lt 1 due && is_past params (due - 1)) ≡ true → IsDecided params due
decided None due past = absurd (let e = (and_parts (nat_lt 1 due) false past).1 in cc)
decided (Some params) due past =
    let parts = and_parts (nat_lt 1 due) (is_past (Some params) (due - 1)) past in (lower 1 due parts.0, under _ _ parts.1) where
      lower : (a b : ℕ) → nat_lt a b ≡ true → a < b
      lower a b e = grind (arith, nat_tests, e)

      under : (a b : ℕ) → nat_le a b ≡ true → a ≤ b
      under a b e = grind (arith, nat_tests, e)

module _ (state : State) where
  pub restored_noted : (waiting : Option WaitingRow) → rule.IsSoundWaiting state waiting → IsNotedCommittee (option_map (committee_in (params_of state)) waiting)
  restored_noted None sound = tt
  restored_noted (Some row) sound = noted state row.round sound.1.round

  pub restored_elected : (waiting : Option WaitingRow) → rule.IsSoundWaiting state waiting → election_fault (params_of state) waiting ≡ None
      → WasElected (option_map (committee_in (params_of state)) waiting)
  restored_elected None sound none = tt
  restored_elected (Some row) sound none =
      let passing = committee_passes (committee_in (params_of state) row) none in
      record {
        sound = well_formed state row.round sound.1.round;
        follows = passing.feasible.follows;
        stakes = passing.feasible.within_stakes;
      }

  pub restored_waiting : (waiting : Option WaitingRow) → rule.IsSoundWaiting state waiting → election_fault (params_of state) waiting ≡ None
      → IsSoundWaiting (chain_of state) (option_map (committee_in (params_of state)) waiting)
  restored_waiting None sound none = tt
  restored_waiting (Some row) sound none = record {
    decided = decided (params_of state) state.due sound.0;
    poll = poll state row.round sound.1.round;
    rising = rising_numbers row.committee sound.1.committee;
    passes = committee_passes (committee_in (params_of state) row) none;
  }

-- the edges of who waits are in order
edges_on : (first next later : Edge) → edge_below first next ≡ true → edge_below next later ≡ true → edge_below first later ≡ true
edges_on first next later one two = grind (arith, nat_tests, one, two)

pub waiting_in_form : (state : State) (waiting : Option WaitingRow) → rule.IsSoundWaiting state waiting → IsWaitingInOrder waiting
waiting_in_form state None sound = tt
waiting_in_form state (Some row) sound = record {
  rising = rising_pairs edge_below edges_on row.edges sound.1.edges;
  given = λ place d few. gives_some (get_or row.edges place d).amount (none_passes (λ (edge : Edge). nat_eq edge.amount 0) row.edges sound.1.amounts place d few);
} where
  gives_some : (amount : ℕ) → nat_eq amount 0 ≡ false → nat_lt 0 amount ≡ true
  gives_some amount e = grind (arith, nat_tests, e)
