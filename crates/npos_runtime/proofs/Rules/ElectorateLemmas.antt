-- The snapshot of a round that is not void is well formed.
use Rattle.std.proofs.Common.{◌≡◌, ℕ, suc, ◌*◌, ◌≤◌, ◌<◌, Bool, true, false, nat_lt, nat_le, ◌||◌, not, All, List, [], ◌∷◌, ◌++◌}
use Rattle.std.proofs.Common.{length, map, sum, Option, Some, None, refl, sym, ◌∙◌, ap, subst, arith, if◌then◌else◌, true≢false}
use Rattle.std.specs.List.{IsDistinct}
use Rattle.std.specs.Option.{option_or}
use Rattle.std.specs.Ordering.{is_eq}
use Rattle.std.proofs.lemmas.Bool.{ltb-false, and_parts}
use Rattle.std.proofs.lemmas.Bool.Decides.{nat_tests}
use Rattle.std.proofs.lemmas.Cmp.{tied_itself}
use Rattle.std.proofs.lemmas.Map.Keys.{IsDistinct-from_sorted}
use Rattle.npos_base.specs.declared.account.AccountId.{AccountId}
use Rattle.npos_base.specs.Account.{account_cmp, same_account}
use Rattle.npos_base.proofs.AccountOrder.{account_total, account_apart, same_exact, same_itself}
use Rattle.block_wire.specs.declared.genesis.Params.{Params}
use Rattle.voter_lists.specs.Roles.{RoleList, role_of, validators_of}
use Rattle.voter_lists.specs.Bags.{walk}
use Rattle.voter_lists.proofs.ValidatorLemmas.{validators_rise}
use Rattle.election_snapshot.specs.Snapshot.{Voter, AreVotersOf, total_of, stakes_of}
use Rattle.election_snapshot.specs.Kept.{AreKept, voters_of}
use Rattle.election_snapshot.specs.Draft.{Draft, accounts_of, voter_fault, with_voter}
use Rattle.election_snapshot.proofs.KeptLemmas.{kept_with}
use Rattle.npos_runtime.specs.declared.chain.Chain.{Chain}
use Rattle.npos_runtime.specs.declared.round.Round.TheVariants as rounds
use Rattle.chain_params.specs.Faults.{numbers_fault, limits_fault, threshold_fault, is_within, AreSound}
use Rattle.std.proofs.lemmas.List.Elements.{All-nil, All-cons}
use Rattle.voter_lists.specs.Votes.{votes_of}
use Rattle.npos_runtime.specs.Rules.Ballots.{active_of, is_eligible, ballot_of, snapshot_of, commission_in, commissions_of}
use Rattle.chain_params.specs.Rules.{seats_of}
use Rattle.npos_runtime.specs.Rules.Rounds.{is_few, is_poor, round_now}
use Rattle.npos_base.specs.declared.limits.TheConstants.{WHOLE_FRACTION}
use Rattle.npos_runtime.specs.Live.{IsLive, IsSoundRound, AreNoted}
use Rattle.npos_runtime.specs.Rules.Polling.{IsPolled, polled}
use Rattle.npos_runtime.proofs.Rules.StepLemmas.{polled_next, polled_first, polled_full, polled_through}
use Rattle.npos_runtime.proofs.Rules.VoterLemmas.{no_fault}

-- ## Targets

same_by_order : (a b : AccountId) → is_eq (account_cmp a b) ≡ same_account a b
same_by_order a b = at (same_account a b) refl where
  at : (t : Bool) → same_account a b ≡ t → is_eq (account_cmp a b) ≡ t
  at true e = ap (λ (x : AccountId). is_eq (account_cmp a x)) (sym (same_exact a b e)) ∙ ap is_eq (tied_itself account_total a)
  at false e = account_apart a b (λ same. true≢false (sym (same_itself a) ∙ (ap (λ (x : AccountId). same_account a x) same ∙ e)))

targets_distinct : (chain : Chain) → IsLive chain → IsDistinct same_account (validators_of chain.roles)
targets_distinct chain live =
    subst (λ (same : AccountId → AccountId → Bool). IsDistinct same (validators_of chain.roles)) (λ i a b. same_by_order a b i)
    (IsDistinct-from_sorted account_cmp (validators_of chain.roles) (validators_rise chain.roles live.roles.ranked.rising))

-- ## Voters

-- a list of voters is that of its accounts, stakes and votes
recomposed : (voters : List Voter) → voters_of (accounts_of voters) (stakes_of voters) (map (λ (voter : Voter). voter.votes) voters) ≡ voters
recomposed [] = refl
recomposed (voter ∷ voters) = ap (λ vs. voter ∷ vs) (recomposed voters)

mapped_more : {A B : Type 0} (f : A → B) (xs : List A) (y : A) → map f (xs ++ y ∷ []) ≡ map f xs ++ f y ∷ []
mapped_more f [] y = refl
mapped_more f (x ∷ xs) y = ap (λ zs. f x ∷ zs) (mapped_more f xs y)

abbrev AreSoundVoters : Draft → Type 0
AreSoundVoters draft = AreKept draft.targets (accounts_of draft.voters) (stakes_of draft.voters) (map (λ (voter : Voter). voter.votes) draft.voters) (sum (stakes_of draft.voters))

one_voter : (draft : Draft) (who : AccountId) (stake : ℕ) (votes : List ℕ) → AreSoundVoters draft → voter_fault draft who stake votes ≡ None
    → AreVotersOf draft.targets (with_voter draft who stake votes).voters
one_voter draft who stake votes sound free =
    let voter : Voter = record { account = who; stake = stake; votes = votes } in
    let accounts : accounts_of (draft.voters ++ voter ∷ []) ≡ accounts_of draft.voters ++ who ∷ [] = mapped_more (λ (v : Voter). v.account) draft.voters voter in
    let stakes : stakes_of (draft.voters ++ voter ∷ []) ≡ stakes_of draft.voters ++ stake ∷ [] = mapped_more (λ (v : Voter). v.stake) draft.voters voter in
    let voted : map (λ (v : Voter). v.votes) (draft.voters ++ voter ∷ []) ≡ map (λ (v : Voter). v.votes) draft.voters ++ votes ∷ [] = mapped_more (λ (v : Voter). v.votes) draft.voters voter in
    let kept = kept_with draft.targets (accounts_of draft.voters) (stakes_of draft.voters) (map (λ (v : Voter). v.votes) draft.voters) (sum (stakes_of draft.voters)) who stake votes
    (accounts_of (draft.voters ++ voter ∷ [])) (stakes_of (draft.voters ++ voter ∷ [])) (map (λ (v : Voter). v.votes) (draft.voters ++ voter ∷ [])) accounts stakes voted sound
    (ap (λ (vs : List Voter). voter_fault (record { targets = draft.targets; voters = vs }) who stake votes) (recomposed draft.voters) ∙ free) in
    subst (AreVotersOf draft.targets) (recomposed (draft.voters ++ voter ∷ [])) kept.voters

same_length : {A B : Type 0} (f : A → B) (xs : List A) → length (map f xs) ≡ length xs
same_length f [] = refl
same_length f (x ∷ xs) = ap suc (same_length f xs)

kept_by : (draft : Draft) → AreVotersOf draft.targets draft.voters → AreSoundVoters draft
kept_by draft are = record {
  stakes_count = same_length (λ (v : Voter). v.stake) draft.voters ∙ sym (same_length (λ (v : Voter). v.account) draft.voters);
  votes_count = same_length (λ (v : Voter). v.votes) draft.voters ∙ sym (same_length (λ (v : Voter). v.account) draft.voters);
  total_is = refl;
  voters = subst (AreVotersOf draft.targets) (sym (recomposed draft.voters)) are;
}

above : (n : ℕ) → nat_lt 0 n ≡ true → 0 < n
above n e = grind (arith, nat_tests)

-- one account of the walk more
one_polled : (chain : Chain) (draft : Draft) (who : AccountId) (rest : List AccountId) → IsLive chain → IsPolled chain draft (who ∷ rest) → length draft.voters < 16384
    → AreVotersOf draft.targets draft.voters → AreVotersOf (polled chain draft who).targets (polled chain draft who).voters
one_polled chain draft who rest live before room are = at (is_eligible chain who) refl where
  at : (b : Bool) → is_eligible chain who ≡ b
      → AreVotersOf (if b then with_voter draft who (active_of chain who) (votes_of chain.roles who) else draft).targets
      (if b then with_voter draft who (active_of chain who) (votes_of chain.roles who) else draft).voters
  at true e =
      let both = and_parts (nat_lt 0 (active_of chain who)) (nat_lt 0 (length (votes_of chain.roles who))) e in
      one_voter draft who (active_of chain who) (votes_of chain.roles who) (kept_by draft are)
      (no_fault chain draft who rest live room before (above (active_of chain who) both.0) (above (length (votes_of chain.roles who)) both.1))
  at false e = are

all_polled : (chain : Chain) (draft : Draft) (ahead : List AccountId) → IsLive chain → IsPolled chain draft ahead → AreVotersOf draft.targets draft.voters
    → AreVotersOf (ballot_of chain).targets (ballot_of chain).voters
all_polled chain draft [] live is are =
    subst (λ (d : Draft). AreVotersOf d.targets d.voters) (polled_through chain draft is) are
all_polled chain draft (who ∷ rest) live is are = at (nat_lt (length draft.voters) 16384) refl (all_polled chain (polled chain draft who) rest live) where
  at : (b : Bool) → nat_lt (length draft.voters) 16384 ≡ b
      → (IsPolled chain (polled chain draft who) rest → AreVotersOf (polled chain draft who).targets (polled chain draft who).voters
      → AreVotersOf (ballot_of chain).targets (ballot_of chain).voters)
      → AreVotersOf (ballot_of chain).targets (ballot_of chain).voters
  at true e later =
      let room : length draft.voters < 16384 = grind (arith, nat_tests) in
      later (polled_next chain draft who rest is room (polled chain draft who) refl)
      (one_polled chain draft who rest live is room are)
  at false e later =
      subst (λ (d : Draft). AreVotersOf d.targets d.voters)
      (polled_full chain draft (who ∷ rest) is (ltb-false (length draft.voters) 16384 e)) are

nobody_twice : IsDistinct same_account []
unfolding IsDistinct
nobody_twice = tt

-- targets and voters of a live chain's ballot are those of an election
pub ballot_sound : (chain : Chain) → IsLive chain → AreVotersOf (ballot_of chain).targets (ballot_of chain).voters
ballot_sound chain live =
    let empty : Draft = record { targets = validators_of chain.roles; voters = [] } in
    all_polled chain empty (walk chain.bags.order) live (polled_first chain empty (walk chain.bags.order) live refl refl)
    (record {
      targets_few = live.roles.ranked.few;
      targets_distinct = targets_distinct chain live;
      voters_few = omega arith;
      accounts_distinct = nobody_twice;
      each_voter = λ k d few. absurd (omega arith);
      total_fits = omega arith;
    })

-- ## Seats

first_of_two : {A : Type 0} (a b : Option A) → option_or a b ≡ None → a ≡ None
first_of_two None b none = refl
first_of_two (Some x) b none = none

passed : {A : Type 0} (b : Bool) (x : A) (rest : Option A) → (if b then Some x else rest) ≡ None → b ≡ false
passed true x rest e = absurd (cc)
passed false x rest e = refl

seats_within : (params : Option Params) → AreSound params → (1 ≤ seats_of params) × (seats_of params ≤ 512)
seats_within None sound = (omega arith, omega arith)
seats_within (Some params) sound =
    let inside : not (is_within 1 512 params.seats) ≡ false
    = passed (not (is_within 1 512 params.seats)) _ _ (first_of_two (numbers_fault params) (option_or (threshold_fault 0 0 params.thresholds) (limits_fault params)) sound) in
    let both = and_parts (nat_le 1 params.seats) (nat_le params.seats 512) (not_false (is_within 1 512 params.seats) inside) in
    (let a = both.0 in grind (arith, nat_tests), let a = both.1 in grind (arith, nat_tests)) where
      not_false : (t : Bool) → not t ≡ false → t ≡ true
      not_false true f = refl
      not_false false f = absurd (true≢false f)

-- ## Commissions

commissions_within : (roles : RoleList) (accounts : List AccountId)
    → ((who : AccountId) → commission_in (role_of roles who) ≤ WHOLE_FRACTION)
    → All (λ commission. commission ≤ WHOLE_FRACTION) (map (λ who. commission_in (role_of roles who)) accounts)
commissions_within roles [] each = All-nil (λ (commission : ℕ). commission ≤ WHOLE_FRACTION)
commissions_within roles (account ∷ accounts) each =
    All-cons (λ (commission : ℕ). commission ≤ WHOLE_FRACTION) (commission_in (role_of roles account))
    (map (λ who. commission_in (role_of roles who)) accounts)
    (each account) (commissions_within roles accounts each)

noted : (chain : Chain) → IsLive chain → AreNoted (validators_of chain.roles) (commissions_of chain.roles)
noted chain live = record {
  count = same_length (λ who. commission_in (role_of chain.roles who)) (validators_of chain.roles);
  within = commissions_within chain.roles (validators_of chain.roles) live.roles.commissions;
}

-- a round that begins is void, or has a well-formed snapshot and notes a commission for each target
pub sound_round : (chain : Chain) (number : ℕ) → IsLive chain → IsSoundRound (Some (round_now chain number))
sound_round chain number live = at (is_few (snapshot_of chain)) (is_poor (snapshot_of chain)) refl refl where
  at : (few poor : Bool) → is_few (snapshot_of chain) ≡ few → is_poor (snapshot_of chain) ≡ poor
      → IsSoundRound
      (Some (if few || poor then rounds.Void number else rounds.Open number (snapshot_of chain) (commissions_of chain.roles)))
  at true poor f p = tt
  at false true f p = tt
  at false false f p =
      let seats = seats_within chain.params live.params in (
        record {
          voters = ballot_sound chain live;
          seats_some = seats.0;
          seats_few = seats.1;
          targets_enough = ltb-false (length (snapshot_of chain).targets) (snapshot_of chain).seats f;
          total_enough = ltb-false (total_of (snapshot_of chain).voters) ((snapshot_of chain).seats * (snapshot_of chain).seats) p;
        },
        noted chain live,
      )
