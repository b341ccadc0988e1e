-- The round that is open in a sound chain, and the committee that waits, are sound in the state that the chain keeps.
use Rattle.std.proofs.Common.{◌≡◌, ◌⊎◌, inl, inr, ℕ, zero, suc, ◌+◌, ◌-◌, ◌*◌, ◌^◌, ◌≤◌, ◌<◌, Bool, true, false, not}
use Rattle.std.proofs.Common.{◌&&◌, nat_eq, nat_lt, nat_le, All, is_some, List, [], ◌∷◌, length, map, take, zip}
use Rattle.std.proofs.Common.{sum_by, get_or, Option, Some, None, option_map, refl, ap, ap₂, sym, subst, ◌∙◌, arith}
use Rattle.std.specs.List.{list_any, AllByRecursion, AllPairs, IsDistinct}
use Rattle.std.specs.List.Sorted.{IsStrictlySortedBy}
use Rattle.std.specs.Ordering.{is_lt}
use Rattle.std.specs.declared.cmp.Ordering.TheVariants.{Less}
use Rattle.std.proofs.Math.Nat.{mod-eq_of_lt}
use Rattle.std.proofs.lemmas.Bool.{lt-ltb, lt-leb, le-ltb, le-leb, ltb-true, ltb-false, or_from, and_from}
use Rattle.std.proofs.lemmas.Bool.Decides.{nat_tests}
use Rattle.std.proofs.lemmas.List.{length-map, length-take-le}
use Rattle.std.proofs.lemmas.List.Elements.{All-map, All-weaker}
use Rattle.std.proofs.lemmas.List.Folds.{list_any_none}
use Rattle.std.proofs.lemmas.List.Kept.{AllPairs-from_increasing}
use Rattle.std.proofs.lemmas.List.Sums.{sum_by-cons, sum_by_more_le}
use Rattle.std.proofs.lemmas.Slice.Zip.{firsts-zip, seconds-zip}
use Rattle.npos_base.specs.declared.account.AccountId.{AccountId}
use Rattle.npos_base.specs.declared.figures.Edge.{Edge}
use Rattle.npos_base.specs.declared.limits.TheConstants.{MOST_NOMINATIONS, MOST_TARGETS, MOST_VOTERS, MOST_SEATS, WHOLE_FRACTION}
use Rattle.npos_base.specs.Account.{account_cmp, same_account}
use Rattle.npos_base.proofs.AccountOrder.{same_turned}
use Rattle.npos_base.proofs.NumberTests.{number_test, other_number}
use Rattle.block_wire.specs.declared.genesis.Params.{Params}
use Rattle.block_wire.specs.declared.bundle.BundleVoter.{BundleVoter}
use Rattle.stake_ledger.specs.Ledger.{Ledger, row_of}
use Rattle.election_snapshot.specs.Snapshot.{Snapshot, Voter, has, total_of, IsVoterOf, IsWellFormed}
use Rattle.election_snapshot.specs.Draft.{Draft, accounts_of, has_repeat, stands_in, target_fault, voter_fault, voter_fault_by, first_seats_fault}
use Rattle.weight_book.specs.GivenEdges.{gives, kept_edges}
use Rattle.election_check.proofs.ListFacts.{All-of_map}
use Rattle.chain_params.specs.Faults.{AreSound, params_fault}
use Rattle.chain_params.specs.Rules.{era_of, place_of, is_signed, seats_of}
use Rattle.chain_params.proofs.PhaseLemmas.{phases_sound, next_place, first_next}
use Rattle.state_rules.specs.Lists.{bad_place, follows, is_rising}
use Rattle.state_rules.specs.Accounts.{is_below}
use Rattle.state_rules.specs.Known.{has_row}
use Rattle.state_rules.specs.Terms.{params_of, is_past}
use Rattle.state_rules.specs.Rounds.{Target, voter_of, draft_of}
use Rattle.state_rules.specs.Waiting.{edge_below}
use Rattle.state_rules.specs.Sound as state
use Rattle.state_rules.proofs.SoundLemmas.{none_is, no_some}
use Rattle.npos_runtime.specs.declared.chain.Chain.{Chain}
use Rattle.npos_runtime.specs.declared.round.Round.{Round}
use Rattle.npos_runtime.specs.declared.round.Round.TheVariants as rounds
use Rattle.npos_runtime.specs.Rules.Committee.{Committee}
use Rattle.npos_runtime.specs.Kept.Parts.{open_of, kept_committee}
use Rattle.npos_runtime.specs.Kept.State.{book_row, voter_row, round_row, open_row, waiting_row, kept, IsTrueRound, IsTrueCommittee, IsTold}
use Rattle.npos_runtime.specs.Kept.Chain.{IsWaitingInOrder}
use Rattle.npos_runtime.specs.Live.{AreNoted, IsSoundRound, IsUnderway, IsInTime, WasElected, IsNotedCommittee, IsReady}
use Rattle.npos_runtime.specs.Kept.Sound.{IsSoundPoll, IsSoundOpen, IsSoundWaiting, IsDecided, IsSoundChain}
use Rattle.npos_runtime.proofs.Kept.RowLemmas.{pairs_follow, distinct_pairs, sorted_pairs}
use Rattle.npos_runtime.proofs.Kept.StateLemmas.{back}
use Rattle.npos_runtime.proofs.Kept.FormLemmas.{kept_form}
use Rattle.npos_runtime.proofs.Kept.Causes.RowLemmas.{params_kept}
use Rattle.npos_runtime.proofs.Kept.Causes.QueueLemmas.{known_in_rows}

not_none : (a : ℕ) → 0 < a → nat_eq a 0 ≡ false
not_none a above = number_test a 0 (λ none. omega (arith, above, none))

-- ## Accounts that are new

-- an item's account does not stand before it
each_stands_not : {A : Type 0} (who : A → AccountId) (items : List A) → IsDistinct same_account (map who items)
    → state.EachIs (λ before item. stands_in (map who before) (who item) ≡ false) items
unfolding IsDistinct
each_stands_not who [] distinct place d few = absurd (omega (arith, few))
each_stands_not who (item ∷ items) distinct zero d few = refl
each_stands_not who (item ∷ items) distinct (suc place) d few =
    or_from (same_account (who (get_or items place d)) (who item)) (stands_in (map who (take place items)) (who (get_or items place d)))
    (same_turned (who item) (who (get_or items place d)) (distinct_pairs who (item ∷ items) distinct 0 (suc place) d (omega arith) few))
    (each_stands_not who items distinct.1 place d (omega (arith, few)))

-- ## Targets

-- the builder takes a target that is new, while there is room
target_taken : (draft : Draft) (who : AccountId) → length draft.targets < MOST_TARGETS → stands_in draft.targets who ≡ false → target_fault draft who ≡ None
target_taken draft who room new = rw (lt-leb MOST_TARGETS (length draft.targets) room, new) refl

-- ## Voters

apart_from : (number : ℕ) (votes : List ℕ) → AllByRecursion (λ other. nat_eq number other ≡ false) votes → has votes number ≡ false
apart_from number [] apart = refl
apart_from number (vote ∷ votes) apart =
    or_from (nat_eq vote number) (has votes number)
    (number_test vote number (λ same. other_number number vote apart.0 (sym same))) (apart_from number votes apart.1)

votes_apart : (votes : List ℕ) → IsDistinct nat_eq votes → has_repeat votes ≡ false
unfolding IsDistinct
votes_apart [] distinct = refl
votes_apart (vote ∷ votes) distinct =
    or_from (has votes vote) (has_repeat votes) (apart_from vote votes distinct.0) (votes_apart votes distinct.1)

-- the builder takes a voter of the targets that is new, while there is room for it and its stake
voter_taken : (targets voters total : ℕ) (stands : Bool) (voter : Voter) → IsVoterOf targets voter → voters < MOST_VOTERS → stands ≡ false
    → total + voter.stake < 2 ^ 64 → voter_fault_by targets voters stands total voter.stake voter.votes ≡ None
voter_taken targets voters total stands voter is room new fits =
    rw (
      lt-leb MOST_VOTERS voters room,
      new,
      not_none voter.stake is.stake_above,
      not_none (length voter.votes) is.some_votes,
      le-ltb MOST_NOMINATIONS (length voter.votes) is.few_votes,
      list_any_none (λ target. nat_le targets target) voter.votes
          (All-weaker (λ target. target < targets) (λ target. nat_le targets target ≡ false) (λ target below. lt-leb targets target below) voter.votes is.votes_in_range),
      votes_apart voter.votes is.votes_distinct,
      lt-leb (2 ^ 64) (total + voter.stake) fits,
    )
    refl

-- ## Snapshots

-- enough targets and stake for the seats
seats_taken : (targets total seats : ℕ) → 1 ≤ seats → seats ≤ MOST_SEATS → seats ≤ targets → seats * seats ≤ total
    → first_seats_fault targets total seats ≡ None
seats_taken targets total seats some few enough rich =
    rw (or_from (nat_eq seats 0) (nat_lt MOST_SEATS seats) (not_none seats some) (le-ltb MOST_SEATS seats few), le-ltb targets seats enough, le-ltb total (seats * seats) rich) refl

pub sum_mapped : {A B : Type 0} (f : B → ℕ) (g : A → B) (items : List A) → sum_by f (map g items) ≡ sum_by (λ item. f (g item)) items
sum_mapped f g [] = refl
sum_mapped f g (item ∷ items) =
    sum_by-cons f (g item) (map g items) ∙ (ap (λ n. f (g item) + n) (sum_mapped f g items) ∙ sym (sum_by-cons (λ x. f (g x)) item items))

module _ (book : Ledger) (snapshot : Snapshot) (commissions : List ℕ) (formed : IsWellFormed snapshot) (noted : AreNoted snapshot.targets commissions)
    (poll : IsSoundPoll book snapshot) where
  abbrev targets : List Target
  targets = zip snapshot.targets commissions

  abbrev voters : List BundleVoter
  voters = map voter_row snapshot.voters

  abbrev first : Target → AccountId
  first target = target.0

  firsts : map (λ (target : Target). target.0) targets ≡ snapshot.targets
  firsts = firsts-zip snapshot.targets commissions noted.count

  seconds : map (λ (target : Target). target.1) targets ≡ commissions
  seconds = seconds-zip snapshot.targets commissions noted.count

  voters_again : map voter_of voters ≡ snapshot.voters
  voters_again = back voter_row voter_of (λ voter. refl) snapshot.voters

  accounts_again : map (λ (voter : BundleVoter). voter.account) voters ≡ accounts_of snapshot.voters
  accounts_again = mapped snapshot.voters where
    mapped : (vs : List Voter) → map (λ (voter : BundleVoter). voter.account) (map voter_row vs) ≡ accounts_of vs
    mapped [] = refl
    mapped (v ∷ vs) = ap (λ (accounts : List AccountId). v.account ∷ accounts) (mapped vs)

  target_sound : state.EachIs (state.IsSoundTarget (map book_row book.rows)) targets
  target_sound place d few = record {
    above = pairs_follow (λ (first later : Target). account_cmp first.0 later.0 ≡ Less) (λ first later. is_below first.0 later.0)
        (λ first later below. ap is_lt below) targets
        (sorted_pairs (λ (target : Target). target.0) targets (subst (IsStrictlySortedBy account_cmp) (sym firsts) poll.rising)) place d few;
    known = known_in_rows book (λ (target : Target). target.0) targets
        (subst (All (λ who. is_some (row_of book who) ≡ true)) (sym firsts) poll.targets) place d few;
    commission = All-of_map (λ (commission : ℕ). commission ≤ WHOLE_FRACTION) (λ (target : Target). target.1) targets
        (subst (All (λ commission. commission ≤ WHOLE_FRACTION)) (sym seconds) noted.within) place d few;
  }

  targets_taken : state.EachIs (λ before target. target_fault (draft_of before []) target.0 ≡ None) targets
  targets_taken place d few =
      target_taken (draft_of (take place targets) []) (get_or targets place d).0
      (omega (
        arith,
        few,
        length-map (take place targets) first,
        length-take-le place targets (omega (arith, few)),
        length-map targets first,
        ap length firsts,
        formed.voters.targets_few,
      ))
      (each_stands_not (λ (target : Target). target.0) targets (subst (IsDistinct same_account) (sym firsts) formed.voters.targets_distinct) place d few)

  voters_known : list_any (λ (voter : BundleVoter). not (has_row (map book_row book.rows) voter.account)) voters ≡ false
  voters_known =
      list_any_none (λ (voter : BundleVoter). not (has_row (map book_row book.rows) voter.account)) voters
      (All-map (λ (voter : BundleVoter). not (has_row (map book_row book.rows) voter.account) ≡ false) voter_row snapshot.voters
      (All-weaker (λ (voter : Voter). has_row (map book_row book.rows) voter.account ≡ true)
      (λ (voter : Voter). not (has_row (map book_row book.rows) voter.account) ≡ false) (λ voter known. ap not known) snapshot.voters
      (known_in_rows book (λ (voter : Voter). voter.account) snapshot.voters poll.voters)))

  abbrev stake : BundleVoter → ℕ
  stake voter = voter.stake

  -- the stakes before a voter, and its own, are a part of the total
  stakes_fit : (place : ℕ) (d : BundleVoter) → place < length voters → total_of (map voter_of (take place voters)) + (get_or voters place d).stake < 2 ^ 64
  stakes_fit place d few =
      omega (
        arith,
        sum_mapped (λ (voter : Voter). voter.stake) voter_of (take place voters),
        sum_by_more_le stake voters place d few,
        sum_mapped (λ (voter : Voter). voter.stake) voter_of voters,
        ap total_of voters_again,
        formed.voters.total_fits,
      )

  abbrev account : BundleVoter → AccountId
  account voter = voter.account

  voter_new : state.EachIs (λ before (voter : BundleVoter). stands_in (accounts_of (map voter_of before)) voter.account ≡ false) voters
  voter_new place d few =
      ap (λ (accounts : List AccountId). stands_in accounts (get_or voters place d).account) (mapped (take place voters))
      ∙ each_stands_not account voters (subst (IsDistinct same_account) (sym accounts_again) formed.voters.accounts_distinct) place d few where
        mapped : (rows : List BundleVoter) → accounts_of (map voter_of rows) ≡ map account rows
        mapped [] = refl
        mapped (row ∷ rows) = ap (λ (accounts : List AccountId). row.account ∷ accounts) (mapped rows)

  voters_taken : state.EachIs (λ before voter. voter_fault (draft_of targets before) voter.account voter.stake voter.votes ≡ None) voters
  voters_taken place d few =
      voter_taken (length (map (λ (target : Target). target.0) targets)) (length (map voter_of (take place voters))) (total_of (map voter_of (take place voters)))
      (stands_in (accounts_of (map voter_of (take place voters))) (get_or voters place d).account) (voter_of (get_or voters place d))
      (subst (λ (ts : List AccountId). IsVoterOf (length ts) (voter_of (get_or voters place d))) (sym firsts)
      (All-map (λ (voter : BundleVoter). IsVoterOf (length snapshot.targets) (voter_of voter)) voter_row snapshot.voters formed.voters.each_voter place d few))
      (omega (
        arith,
        few,
        length-map (take place voters) voter_of,
        length-take-le place voters (omega (arith, few)),
        length-map snapshot.voters voter_row,
        formed.voters.voters_few,
      ))
      (voter_new place d few) (stakes_fit place d few)

  round_good : (seats : ℕ) → snapshot.seats ≡ seats → state.IsSoundRound (map book_row book.rows) seats (round_row snapshot commissions)
  round_good seats seated = record {
    targets = target_sound;
    voters = voters_known;
    targets_taken = targets_taken;
    voters_taken = voters_taken;
    seated = ap₂ (λ (ts : List AccountId) (vs : List Voter). first_seats_fault (length ts) (total_of vs) seats) firsts voters_again
        ∙ seats_taken (length snapshot.targets) (total_of snapshot.voters) seats (omega (arith, seated, formed.seats_some))
        (omega (arith, seated, formed.seats_few)) (omega (arith, seated, formed.targets_enough))
        (subst (λ (n : ℕ). n * n ≤ total_of snapshot.voters) seated formed.total_enough);
  }

-- ## The round that is open

-- a round that is open before a block was so in the block before it
opened : (params : Params) (due number : ℕ) → params_fault params ≡ None → IsUnderway params due number
    → (nat_lt 1 due && is_signed (Some params) (due - 1)) ≡ true
opened params due number sound under =
    and_from (nat_lt 1 due) (is_signed (Some params) (due - 1)) (lt-ltb 1 due later) (at (next_place params (due - 1) some (omega (arith, later)))) where
      some : 1 ≤ params.era_blocks
      some = omega (arith, (phases_sound params sound).1)

      later : 1 < due
      later = by (nat_lt 1 due) refl where
        by : (b : Bool) → nat_lt 1 due ≡ b → 1 < due
        by true is = ltb-true 1 due is
        by false is =
            let first : due - 1 ≡ 0 = omega (arith, ltb-false 1 due is) in
            let lies : due - 1 < params.era_blocks = omega (arith, first, some) in
            let place : place_of params due ≡ due - 1 = mod-eq_of_lt lies in
            absurd (omega (arith, first, place, under.begun))

      again : due - 1 + 1 ≡ due
      again = omega (arith, later)

      at : ((place_of params (due - 1 + 1) ≡ place_of params (due - 1) + 1) × (era_of (Some params) (due - 1 + 1) ≡ era_of (Some params) (due - 1)))
          ⊎ ((place_of params (due - 1) + 1 ≡ params.era_blocks) × (era_of (Some params) (due - 1 + 1) ≡ era_of (Some params) (due - 1) + 1))
          → is_signed (Some params) (due - 1) ≡ true
      at (inl behind) =
          let here : place_of params due ≡ place_of params (due - 1) + 1 = ap (place_of params) (sym again) ∙ behind.0 in
          and_from (nat_le params.offset (place_of params (due - 1))) (nat_lt (place_of params (due - 1)) (params.offset + params.signed))
          (le-leb params.offset (place_of params (due - 1)) (omega (arith, here, under.begun)))
          (lt-ltb (place_of params (due - 1)) (params.offset + params.signed) (omega (arith, here, under.undecided)))
      at (inr first) =
          let here : place_of params due ≡ 0 =
          ap (place_of params) (sym again) ∙ first_next params (due - 1) (omega (arith, later)) first.0 first.1 in
          absurd (omega (arith, here, under.begun))

kept_open : (chain : Chain) (round : Option Round) → AreSound chain.params → IsInTime round chain.params chain.due chain.queue.items
    → IsSoundRound round → IsTrueRound chain.params chain.due round → IsSoundOpen chain.book round
    → state.IsSoundOpen (kept chain) (open_row (open_of round))
kept_open chain None params timely formed true_round sound = tt
kept_open chain (Some (rounds.Void number)) params timely formed true_round sound = tt
kept_open chain (Some (rounds.Open number snapshot commissions)) params timely formed true_round sound = (
  ap (λ (ps : Option Params). nat_lt 1 chain.due && is_signed ps (chain.due - 1)) (params_kept chain) ∙ at chain.params params timely,
  round_good chain.book snapshot commissions formed.0 formed.1 sound (seats_of (params_of (kept chain)))
      (true_round.1.seats ∙ ap seats_of (sym (params_kept chain))),
) where
  at : (ps : Option Params) → AreSound ps → IsInTime (Some (rounds.Open number snapshot commissions)) ps chain.due chain.queue.items
      → (nat_lt 1 chain.due && is_signed ps (chain.due - 1)) ≡ true
  at None faultless under = absurd under
  at (Some ps) faultless under = opened ps chain.due number faultless under

pub sound_round : (chain : Chain) → IsReady chain → IsTold chain → IsSoundChain chain → state.IsSoundOpen (kept chain) (kept chain).round
sound_round chain ready told sound =
    kept_open chain chain.round ready.between.live.params ready.between.timely ready.between.live.round told.round sound.round

-- ## Who waits

pairs_rising : {A : Type 0} (precedes : A → A → Bool) (items : List A) → AllPairs (λ first later. precedes first later ≡ true) items
    → is_rising precedes items ≡ true
pairs_rising precedes items pairs =
    ap not (no_some (bad_place (λ before item. not (follows precedes before item)) items)
    (none_is (λ before item. not (follows precedes before item)) (λ before item. follows precedes before item ≡ true) items
    (λ before item follow. ap not follow) (pairs_follow (λ first later. precedes first later ≡ true) precedes (λ first later is. is) items pairs)))

gives_some : (amount : ℕ) → nat_lt 0 amount ≡ true → nat_eq amount 0 ≡ false
gives_some amount is = grind (arith, nat_tests)

decided : (params : Option Params) (due : ℕ) → IsDecided params due → (nat_lt 1 due && is_past params (due - 1)) ≡ true
decided None due is = absurd is
decided (Some params) due is =
    and_from (nat_lt 1 due) (is_past (Some params) (due - 1)) (lt-ltb 1 due is.0)
    (le-leb (params.offset + params.signed) (place_of params (due - 1)) is.1)

kept_waiting : (chain : Chain) (waiting : Option Committee) → WasElected waiting → IsNotedCommittee waiting → IsTrueCommittee chain.params waiting
    → IsWaitingInOrder (option_map waiting_row (option_map kept_committee waiting)) → IsSoundWaiting chain waiting
    → state.IsSoundWaiting (kept chain) (option_map waiting_row (option_map kept_committee waiting))
kept_waiting chain None elected noted true_seats order sound = tt
kept_waiting chain (Some committee) elected noted true_seats order sound = (
  ap (λ (ps : Option Params). nat_lt 1 chain.due && is_past ps (chain.due - 1)) (params_kept chain) ∙ decided chain.params chain.due sound.decided,
  record {
    committee = pairs_rising nat_lt committee.weights.committee
        (λ i j d lt within. lt-ltb _ _ (AllPairs-from_increasing committee.weights.committee sound.rising i j d lt within));
    edges = pairs_rising edge_below (kept_edges committee.weights.edges) order.rising;
    amounts = list_any_none (λ (edge : Edge). nat_eq edge.amount 0) (kept_edges committee.weights.edges)
        (All-weaker (λ (edge : Edge). gives edge ≡ true) (λ (edge : Edge). nat_eq edge.amount 0 ≡ false)
        (λ edge is. gives_some edge.amount is) (kept_edges committee.weights.edges) order.given);
    round = round_good chain.book committee.snapshot committee.commissions elected.sound noted sound.poll (seats_of (params_of (kept chain)))
        (true_seats.seats ∙ ap seats_of (sym (params_kept chain)));
  },
)

pub sound_waiting : (chain : Chain) → IsReady chain → IsTold chain → IsSoundChain chain → state.IsSoundWaiting (kept chain) (kept chain).waiting
sound_waiting chain ready told sound =
    kept_waiting chain chain.waiting ready.between.elected ready.between.live.waiting told.waiting (kept_form chain ready.between told).waiting sound.waiting
