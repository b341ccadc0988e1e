-- The members of an era that begins with the exposures of a sound committee are sound.
use Rattle.std.proofs.Common.{◌≡◌, ◌≢◌, ℕ, ◌+◌, ◌^◌, ◌<◌, ◌≤◌, Bool, true, false, cond, not, ◌&&◌, nat_eq, nat_lt, is_some, All, List, []}
use Rattle.std.proofs.Common.{◌∷◌, ◌++◌, length, map, drop, fold, filter, sum_by, get_or, refl, ap, sym, subst, ◌∙◌, true≢false, arith}
use Rattle.std.specs.List.{IsDistinct}
use Rattle.std.specs.List.Sorted.{IsStrictlySortedBy}
use Rattle.std.specs.Map.{keys_of}
use Rattle.std.specs.Ordering.{match_ordering}
use Rattle.std.specs.declared.cmp.Ordering.{Ordering}
use Rattle.std.specs.declared.cmp.Ordering.TheVariants.{Less, Equal, Greater}
use Rattle.std.proofs.lemmas.Bool.Decides.{nat_tests}
use Rattle.std.proofs.lemmas.List.Elements.{All-nil, All-cons, All-head, All-tail, All-map, All-append, All-drop}
use Rattle.std.proofs.lemmas.List.Sums.{sum_by-cons}
use Rattle.std.proofs.lemmas.Bool.{and_parts}
use Rattle.npos_base.specs.declared.account.AccountId.{AccountId}
use Rattle.npos_base.specs.declared.figures.Edge.{Edge}
use Rattle.npos_base.specs.Account.{account_cmp, same_account, account_at}
use Rattle.npos_base.proofs.AccountOrder.{account_total, account_exact, same_exact, same_itself}
use Rattle.npos_base.proofs.EntryLemmas.{sorted_put}
use Rattle.npos_base.proofs.NumberTests.{number_tie}
use Rattle.npos_base.specs.Edge.{support}
use Rattle.stake_ledger.specs.Ledger.{Ledger, row_of}
use Rattle.election_snapshot.specs.Snapshot.{IsWellFormed}
use Rattle.weight_book.specs.Weights.{IsFeasible, amount_sum as all_given}
use Rattle.weight_book.proofs.StakeLemmas.{amounts_within}
use Rattle.era_book.specs.declared.exposure.Backer.{Backer}
use Rattle.era_book.specs.declared.exposure.Exposure.{Exposure}
use Rattle.era_book.specs.Exposures.{amount_sum}
use Rattle.era_book.specs.Members.{Member, Members, newcomer, with_exposure, members_with}
use Rattle.era_book.specs.Committee.{gives_to, backer_of, is_of, backers_among, backers_of, exposure_of, IsElected}
use Rattle.era_book.proofs.BackerLemmas.{backers_law}
use Rattle.era_book.proofs.CommitteeLemmas.{support_law, filter_sum}
use Rattle.era_book.proofs.OrderLemmas.{given_by_voter}
use Rattle.era_book.proofs.SoundLemmas.{voters_within, order_law}
use Rattle.npos_runtime.specs.Rules.Committee.{Committee}
use Rattle.npos_runtime.specs.Rules.Exposed.{voters_in, supports_in, edges_in, exposures_of}
use Rattle.npos_runtime.specs.Live.{AreNoted}
use Rattle.npos_runtime.specs.Kept.Sound.{IsSoundMember, AreSoundMembers, IsSoundPoll}
use Rattle.npos_runtime.proofs.Rules.ExposureLemmas.{same_length, elected}

-- ## Newcomers among the members

-- the entry of a newcomer
abbrev pub entry_of : Exposure → AccountId × Member
entry_of exposure = (exposure.validator, newcomer exposure)

module _ (P : AccountId × Member → Type 0) where
  entered : (members : Members) (exposure : Exposure) → P (entry_of exposure) → All P members → All P (with_exposure members exposure)
  entered [] exposure here all = All-cons P (entry_of exposure) [] here all
  entered (row ∷ rows) exposure here all =
      at (account_cmp exposure.validator row.0) refl (entered rows exposure here (All-tail P row rows all)) where
        at : (r : Ordering) → account_cmp exposure.validator row.0 ≡ r → All P (with_exposure rows exposure)
            → All P (match_ordering r (entry_of exposure ∷ row ∷ rows) ((row.0, newcomer exposure) ∷ rows) (row ∷ with_exposure rows exposure))
        at Less is rest = All-cons P (entry_of exposure) (row ∷ rows) here all
        at Equal is rest =
            All-cons P (row.0, newcomer exposure) rows
            (subst (λ (who : AccountId). P (who, newcomer exposure)) (account_exact exposure.validator row.0 is) here)
            (All-tail P row rows all)
        at Greater is rest = All-cons P row (with_exposure rows exposure) (All-head P row rows all) rest

  pub all_entered : (members : Members) (exposures : List Exposure) → All (λ exposure. P (entry_of exposure)) exposures → All P members
      → All P (fold with_exposure members exposures)
  all_entered members [] fine all = all
  all_entered members (exposure ∷ more) fine all =
      all_entered (with_exposure members exposure) more (All-tail (λ (e : Exposure). P (entry_of e)) exposure more fine)
      (entered members exposure (All-head (λ (e : Exposure). P (entry_of e)) exposure more fine) all)

rising_entered : (members : Members) (exposures : List Exposure) → IsStrictlySortedBy account_cmp (keys_of members)
    → IsStrictlySortedBy account_cmp (keys_of (fold with_exposure members exposures))
rising_entered members [] rising = rising
rising_entered members (exposure ∷ more) rising =
    rising_entered (with_exposure members exposure) more
    (sorted_put account_total exposure.validator (newcomer exposure) members rising)

pub nobody_sound : (book : Ledger) → AreSoundMembers book []
unfolding IsStrictlySortedBy
nobody_sound book = record { rising = tt; each = All-nil (IsSoundMember book) }

-- members that enter together, each of them sound
pub newcomers_sound : (book : Ledger) (exposures : List Exposure) → All (λ exposure. IsSoundMember book (entry_of exposure)) exposures
    → AreSoundMembers book (members_with exposures)
newcomers_sound book exposures fine = record {
  rising = rising_entered [] exposures (nobody_sound book).rising;
  each = all_entered (IsSoundMember book) [] exposures fine (All-nil (IsSoundMember book));
}

-- ## The backers of a target

module _ (targets voters : List AccountId) (target : ℕ) where
  -- what holds of each edge that passes holds of its backer
  among : (Q : Backer → Type 0) (own : Bool) (edges : List Edge)
      → ((edge : Edge) → edge.voter < length voters → (gives_to target edge && is_of own targets voters edge) ≡ true → Q (backer_of voters edge))
      → All (λ edge. edge.voter < length voters) edges → All Q (backers_among own targets voters edges target)
  among Q own [] holds within = All-nil Q
  among Q own (edge ∷ more) holds within =
      at (gives_to target edge && is_of own targets voters edge) refl
      (among Q own more holds (All-tail (λ (e : Edge). e.voter < length voters) edge more within)) where
        rest : List Edge
        rest = filter (λ e. gives_to target e && is_of own targets voters e) more

        at : (b : Bool) → (gives_to target edge && is_of own targets voters edge) ≡ b
            → All Q (map (backer_of voters) rest) → All Q (map (backer_of voters) (cond b (edge ∷ rest) rest))
        at true is all =
            All-cons Q (backer_of voters edge) (map (backer_of voters) rest)
            (holds edge (All-head (λ (e : Edge). e.voter < length voters) edge more within) is) all
        at false is all = all

  pub all_backers : (Q : Backer → Type 0) (edges : List Edge)
      → ((edge : Edge) → edge.voter < length voters → gives_to target edge ≡ true → Q (backer_of voters edge))
      → All (λ edge. edge.voter < length voters) edges → All Q (backers_of targets voters edges target)
  all_backers Q edges holds within =
      All-append Q (backers_among true targets voters edges target) (backers_among false targets voters edges target)
      (part true) (part false) where
        part : (own : Bool) → All Q (backers_among own targets voters edges target)
        part own =
            among Q own edges
            (λ edge inside is. holds edge inside (and_parts (gives_to target edge) (is_of own targets voters edge) is).0) within

  -- the target of an edge that gives to it
  its_target : (edge : Edge) → gives_to target edge ≡ true → edge.target ≡ target
  its_target edge is = number_tie edge.target target (and_parts (nat_eq edge.target target) (nat_lt 0 edge.amount) is).0

  others_apart : (edge : Edge) → (gives_to target edge && is_of false targets voters edge) ≡ true
      → account_at voters edge.voter ≢ account_at targets target
  others_apart edge is same =
      let parts = and_parts (gives_to target edge) (is_of false targets voters edge) is in
      let at : same_account (account_at voters edge.voter) (account_at targets edge.target) ≡ true =
      ap (λ n. same_account (account_at voters edge.voter) (account_at targets n)) (its_target edge parts.0)
      ∙ (ap (λ (who : AccountId). same_account who (account_at targets target)) same
      ∙ same_itself (account_at targets target)) in
      true≢false (sym parts.1 ∙ ap not at)

  own_is : (edge : Edge) → (gives_to target edge && is_of true targets voters edge) ≡ true
      → same_account (account_at voters edge.voter) (account_at targets target) ≡ true
  own_is edge is =
      let parts = and_parts (gives_to target edge) (is_of true targets voters edge) is in
      ap (λ n. same_account (account_at voters edge.voter) (account_at targets n)) (sym (its_target edge parts.0)) ∙ parts.1

-- the validator is at most the first of different backers, where its own parts stand first
own_first : (who : AccountId) (own others : List Backer) → IsDistinct same_account (map (λ backer. backer.who) (own ++ others))
    → All (λ backer. backer.who ≡ who) own → All (λ backer. backer.who ≢ who) others → All (λ backer. backer.who ≢ who) (drop 1 (own ++ others))
unfolding IsDistinct
own_first who [] others distinct same apart = All-drop (λ (backer : Backer). backer.who ≢ who) 1 others apart
own_first who (first ∷ []) others distinct same apart = apart
own_first who (first ∷ second ∷ more) others distinct same apart =
    let one : first.who ≡ who = All-head (λ (backer : Backer). backer.who ≡ who) first (second ∷ more) same in
    let two : second.who ≡ who =
    All-head (λ (backer : Backer). backer.who ≡ who) second more (All-tail (λ (backer : Backer). backer.who ≡ who) first (second ∷ more) same) in
    let tied : same_account first.who second.who ≡ true =
    ap (λ (other : AccountId). same_account first.who other) (two ∙ sym one) ∙ same_itself first.who in
    absurd (true≢false (sym tied ∙ distinct.0.0))

-- ## The exposures of a committee

given_most : (target : ℕ) (edges : List Edge) → support edges target ≤ all_given edges
given_most target edges = omega (arith, filter_sum (λ (edge : Edge). edge.amount) (λ edge. nat_eq edge.target target) edges, part edges) where
  part : (es : List Edge) → sum_by (λ (edge : Edge). cond (nat_eq edge.target target) edge.amount 0) es ≤ all_given es
  part [] = omega arith
  part (e ∷ es) =
      omega (
        arith,
        part es,
        most (nat_eq e.target target),
        sum_by-cons (λ (edge : Edge). cond (nat_eq edge.target target) edge.amount 0) e es,
        sum_by-cons (λ (edge : Edge). edge.amount) e es,
      ) where
        most : (b : Bool) → cond b e.amount 0 ≤ e.amount
        most true = omega arith
        most false = omega arith

module _ (book : Ledger) (committee : Committee) (sound : IsWellFormed committee.snapshot) (feasible : IsFeasible committee.snapshot committee.weights)
    (noted : AreNoted committee.snapshot.targets committee.commissions) (poll : IsSoundPoll book committee.snapshot) where
  pub ordered : IsElected committee.snapshot.targets (voters_in committee) committee.commissions (supports_in committee) (edges_in committee) committee.weights.committee
  ordered =
      (order_law committee.snapshot.targets (voters_in committee) committee.commissions (supports_in committee) committee.weights.edges committee.weights.committee
      (elected committee sound feasible noted)).0

  pub within : All (λ edge. edge.voter < length (voters_in committee)) (edges_in committee)
  within = voters_within committee.snapshot.targets (voters_in committee) (edges_in committee) ordered.edges_within

  all_fit : (target : ℕ) → amount_sum (backers_of committee.snapshot.targets (voters_in committee) (edges_in committee) target) < 2 ^ 64
  all_fit target =
      let inside : All (λ edge. edge.voter < length (voters_in committee)) committee.weights.edges =
      λ k d few. omega (arith, same_length committee.snapshot.voters, feasible.follows.voters_in_range k d few) in
      omega (
        arith,
        support_law committee.snapshot.targets (voters_in committee) (edges_in committee) target,
        given_by_voter target (length (voters_in committee)) committee.weights.edges inside,
        given_most target committee.weights.edges,
        amounts_within committee.snapshot committee.weights feasible,
        sound.voters.total_fits,
      )

  member_sound : (target : ℕ) → target < length committee.snapshot.targets
      → IsSoundMember book (entry_of (exposure_of committee.snapshot.targets committee.commissions (supports_in committee) (voters_in committee) (edges_in committee) target))
  member_sound target inside = record {
    known = poll.targets target (record { hi = 0; lo = 0 }) inside;
    backers = All-map (λ (who : AccountId). is_some (row_of book who) ≡ true) (λ (backer : Backer). backer.who)
        (backers_of committee.snapshot.targets (voters_in committee) (edges_in committee) target)
        (all_backers committee.snapshot.targets (voters_in committee) target (λ backer. is_some (row_of book backer.who) ≡ true) (edges_in committee)
        (λ edge here is. poll.voters edge.voter (record { hi = 0; lo = 0 }) here) within);
    given = all_backers committee.snapshot.targets (voters_in committee) target (λ backer. 0 < backer.amount) (edges_in committee)
        (λ edge here is. gives_some edge is) within;
    own_first = own_first (account_at committee.snapshot.targets target)
        (backers_among true committee.snapshot.targets (voters_in committee) (edges_in committee) target)
        (backers_among false committee.snapshot.targets (voters_in committee) (edges_in committee) target)
        (backers_law committee.snapshot.targets (voters_in committee) (edges_in committee) target ordered.voters_distinct within ordered.pairs_distinct)
        (among committee.snapshot.targets (voters_in committee) target (λ backer. backer.who ≡ account_at committee.snapshot.targets target) true (edges_in committee)
        (λ edge here is. same_exact (account_at (voters_in committee) edge.voter) (account_at committee.snapshot.targets target)
        (own_is committee.snapshot.targets (voters_in committee) target edge is)) within)
        (among committee.snapshot.targets (voters_in committee) target (λ backer. backer.who ≢ account_at committee.snapshot.targets target) false (edges_in committee)
        (λ edge here is. others_apart committee.snapshot.targets (voters_in committee) target edge is) within);
    fits = all_fit target;
  } where
    gives_some : (edge : Edge) → gives_to target edge ≡ true → 0 < edge.amount
    gives_some edge is = let some : nat_lt 0 edge.amount ≡ true = (and_parts (nat_eq edge.target target) (nat_lt 0 edge.amount) is).1 in grind (arith, nat_tests)

  pub exposures_are_sound : All (λ exposure. IsSoundMember book (entry_of exposure)) (exposures_of committee)
  exposures_are_sound =
      All-map (λ (exposure : Exposure). IsSoundMember book (entry_of exposure))
      (exposure_of committee.snapshot.targets committee.commissions (supports_in committee) (voters_in committee) (edges_in committee))
      committee.weights.committee
      (λ k d few. member_sound (get_or committee.weights.committee k d) (ordered.members_within k d few))
