-- A committee in rising order follows its snapshot as its weights do, and exposes no account beyond
-- the stake with which it voted.
use Rattle.std.proofs.Common.{◌≡◌, ◌⊎◌, inl, inr, ℕ, zero, suc, ◌+◌, ◌<◌, ◌≤◌, Bool, true, false, cond, ◌||◌, nat_eq, All}
use Rattle.std.proofs.Common.{List, [], ◌∷◌, length, filter, sum_by, get_or, refl, ap, sym, subst, ◌∙◌, true≢false, arith}
use Rattle.std.specs.List.{range_with_len, IsDistinct, AllByRecursion}
use Rattle.std.proofs.lemmas.Bool.Decides.{nat_tests}
use Rattle.std.proofs.lemmas.List.Elements.{All-nil, All-cons, All-head, All-tail, All-weaker}
use Rattle.std.proofs.lemmas.List.Sums.{sum_by-cons}
use Rattle.npos_base.specs.declared.account.AccountId.{AccountId}
use Rattle.npos_base.specs.declared.figures.Edge.{Edge}
use Rattle.npos_base.specs.Account.{same_account, account_at}
use Rattle.npos_base.proofs.AccountOrder.{same_exact}
use Rattle.election_snapshot.specs.Snapshot.{Voter, Snapshot, has, nobody, stake_of}
use Rattle.election_snapshot.specs.Draft.{accounts_of}
use Rattle.weight_book.specs.Weights.{Weights, Follows, spent}
use Rattle.era_book.specs.Exposures.{IsSoundExposure, AreSound, exposed_for}
use Rattle.era_book.specs.Committee.{spent_by}
use Rattle.era_book.proofs.CommitteeLemmas.{filter_sum, spent_law}
use Rattle.era_book.proofs.BackerLemmas.{apart_at}
use Rattle.era_book.proofs.SoundLemmas.{sound_law, order_law}
use Rattle.npos_runtime.specs.Rules.Committee.{Committee}
use Rattle.round_decision.specs.Decision.{rising}
use Rattle.npos_runtime.specs.Rules.Exposed.{voters_in, supports_in, edges_in, exposures_of}
use Rattle.npos_runtime.specs.Live.{IsElected, AreNoted}
use Rattle.npos_runtime.specs.Histories.Eras.{stake_in}
use Rattle.npos_runtime.proofs.Rules.ExposureLemmas.{has_below, same_length, elected_by}

-- ## Members in rising order

kept_within : (p : ℕ → Bool) (low n : ℕ) → All (λ m. m < low + n) (filter p (range_with_len low n))
kept_within p low zero = All-nil (λ m. m < low + 0)
kept_within p low (suc n) =
    at (p low) (All-weaker (λ m. m < low + 1 + n) (λ m. m < low + suc n) (λ m below. omega arith) (filter p (range_with_len (low + 1) n)) (kept_within p (low + 1) n)) where
      at : (b : Bool) → All (λ m. m < low + suc n) (filter p (range_with_len (low + 1) n))
          → All (λ m. m < low + suc n) (cond b (low ∷ filter p (range_with_len (low + 1) n))
          (filter p (range_with_len (low + 1) n)))
      at true rest = All-cons (λ m. m < low + suc n) low (filter p (range_with_len (low + 1) n)) (omega arith) rest
      at false rest = rest

kept_apart : (p : ℕ → Bool) (k low n : ℕ) → k < low → AllByRecursion (λ m. nat_eq k m ≡ false) (filter p (range_with_len low n))
kept_apart p k low zero less = tt
kept_apart p k low (suc n) less = at (p low) (kept_apart p k (low + 1) n (omega arith)) where
  at : (b : Bool) → AllByRecursion (λ m. nat_eq k m ≡ false) (filter p (range_with_len (low + 1) n))
      → AllByRecursion (λ m. nat_eq k m ≡ false) (cond b (low ∷ filter p (range_with_len (low + 1) n)) (filter p (range_with_len (low + 1) n)))
  at true rest = (grind (arith, nat_tests), rest)
  at false rest = rest

kept_distinct : (p : ℕ → Bool) (low n : ℕ) → IsDistinct nat_eq (filter p (range_with_len low n))
unfolding IsDistinct
kept_distinct p low zero = tt
kept_distinct p low (suc n) = at (p low) (kept_distinct p (low + 1) n) where
  at : (b : Bool) → IsDistinct nat_eq (filter p (range_with_len (low + 1) n))
      → IsDistinct nat_eq (cond b (low ∷ filter p (range_with_len (low + 1) n)) (filter p (range_with_len (low + 1) n)))
  at true rest = (kept_apart p low (low + 1) n (omega arith), rest)
  at false rest = rest

kept_has : (p : ℕ → Bool) (low n t : ℕ) → low ≤ t → t < low + n → p t ≡ true → has (filter p (range_with_len low n)) t ≡ true
kept_has p low zero t from to is = absurd (omega arith)
kept_has p low (suc n) t from to is = at (nat_eq low t) refl (p low) refl (kept_has p (low + 1) n t) where
  at : (e : Bool) → nat_eq low t ≡ e → (b : Bool) → p low ≡ b
      → (low + 1 ≤ t → t < low + 1 + n → p t ≡ true → has (filter p (range_with_len (low + 1) n)) t ≡ true)
      → has (cond b (low ∷ filter p (range_with_len (low + 1) n)) (filter p (range_with_len (low + 1) n))) t ≡ true
  at true same true here rest = ap (λ b. b || has (filter p (range_with_len (low + 1) n)) t) same
  at true same false here rest = absurd (let one : low ≡ t = grind (arith, nat_tests) in true≢false (sym is ∙ (sym (ap p one) ∙ here)))
  at false apart true here rest =
      let more : low + 1 ≤ t = grind (arith, nat_tests) in
      ap (λ b. b || has (filter p (range_with_len (low + 1) n)) t) apart ∙ rest more (omega arith) is
  at false apart false here rest = let more : low + 1 ≤ t = grind (arith, nat_tests) in rest more (omega arith) is

pub follows_rising : (snapshot : Snapshot) (weights : Weights) → Follows snapshot weights → Follows snapshot (rising snapshot weights)
follows_rising snapshot weights follows = record {
  members_in_range = within 0 (omega arith) (kept_within (has weights.committee) 0 (length snapshot.targets));
  members_distinct = kept_distinct (has weights.committee) 0 (length snapshot.targets);
  pairs_distinct = follows.pairs_distinct;
  voters_in_range = follows.voters_in_range;
  to_members = λ k d few.
      let is : has weights.committee (get_or weights.edges k d).target ≡ true = follows.to_members k d few in
      kept_has (has weights.committee) 0 (length snapshot.targets) (get_or weights.edges k d).target (omega arith)
      (omega (arith, has_below weights.committee (length snapshot.targets) (get_or weights.edges k d).target follows.members_in_range is)) is;
  nominated = follows.nominated;
} where
  within : (low : ℕ) → low ≡ 0 → All (λ m. m < low + length snapshot.targets) (filter (has weights.committee) (range_with_len 0 (length snapshot.targets)))
      → All (λ m. m < length snapshot.targets) (filter (has weights.committee) (range_with_len 0 (length snapshot.targets)))
  within low zero_low all k d few = omega (arith, all k d few)

-- ## No account gives more than its stake

place_or_none : (xs : List AccountId) (who : AccountId)
    → ((i : ℕ) × (i < length xs) × (same_account (account_at xs i) who ≡ true)) ⊎ ((i : ℕ) → i < length xs → same_account (account_at xs i) who ≡ false)
place_or_none [] who = inr (λ i within. absurd (omega arith))
place_or_none (x ∷ xs) who = at (same_account x who) refl (place_or_none xs who) where
  at : (b : Bool) → same_account x who ≡ b
      → ((i : ℕ) × (i < length xs) × (same_account (account_at xs i) who ≡ true)) ⊎ ((i : ℕ) → i < length xs → same_account (account_at xs i) who ≡ false)
      → ((i : ℕ) × (i < length (x ∷ xs)) × (same_account (account_at (x ∷ xs) i) who ≡ true)) ⊎ ((i : ℕ) → i < length (x ∷ xs) → same_account (account_at (x ∷ xs) i) who ≡ false)
  at true is rest = inl (0, omega arith, is)
  at false is (inl (i, within, same)) = inl (suc i, omega arith, same)
  at false is (inr none) = inr each where
    each : (i : ℕ) → i < length (x ∷ xs) → same_account (account_at (x ∷ xs) i) who ≡ false
    each zero within = is
    each (suc i) within = none i (omega arith)

abbrev gives : List AccountId → AccountId → Edge → ℕ
gives voters who edge = cond (same_account (account_at voters edge.voter) who) edge.amount 0

nothing_given : (voters : List AccountId) (who : AccountId) (edges : List Edge) → ((i : ℕ) → i < length voters → same_account (account_at voters i) who ≡ false)
    → All (λ edge. edge.voter < length voters) edges → sum_by (gives voters who) edges ≡ 0
nothing_given voters who [] none within = refl
nothing_given voters who (e ∷ es) none within =
    let here : gives voters who e ≡ 0 = ap (λ b. cond b e.amount 0) (none e.voter (All-head (λ (edge : Edge). edge.voter < length voters) e es within)) in
    omega (arith, here, nothing_given voters who es none (All-tail (λ (edge : Edge). edge.voter < length voters) e es within), sum_by-cons (gives voters who) e es)

module _ (voters : List AccountId) (who : AccountId) (i : ℕ) (distinct : IsDistinct same_account voters) (place : i < length voters) (same : same_account (account_at voters i) who ≡ true) where
  one_place : (edge : Edge) → edge.voter < length voters → gives voters who edge ≤ cond (nat_eq edge.voter i) edge.amount 0
  one_place edge within = at (nat_eq edge.voter i) refl where
    at : (b : Bool) → nat_eq edge.voter i ≡ b → gives voters who edge ≤ cond b edge.amount 0
    at true is = most (same_account (account_at voters edge.voter) who) where
      most : (b : Bool) → cond b edge.amount 0 ≤ edge.amount
      most true = omega arith
      most false = omega arith
    at false apart =
        let other : same_account (account_at voters edge.voter) who ≡ false =
        subst (λ (a : AccountId). same_account (account_at voters edge.voter) a ≡ false) (same_exact (account_at voters i) who same) (apart_at voters edge.voter i distinct within place apart) in
        let here : gives voters who edge ≡ 0 = ap (λ b. cond b edge.amount 0) other in
        omega (arith, here)

  one_sum : (edges : List Edge) → All (λ edge. edge.voter < length voters) edges → sum_by (gives voters who) edges ≤ sum_by (λ edge. cond (nat_eq edge.voter i) edge.amount 0) edges
  one_sum [] within = omega arith
  one_sum (e ∷ es) within =
      omega (
        arith,
        one_place e (All-head (λ (edge : Edge). edge.voter < length voters) e es within),
        one_sum es (All-tail (λ (edge : Edge). edge.voter < length voters) e es within),
        sum_by-cons (gives voters who) e es,
        sum_by-cons (λ (edge : Edge). cond (nat_eq edge.voter i) edge.amount 0) e es,
      )

stake_at : (voters : List Voter) (who : AccountId) (i : ℕ) → i < length voters → same_account (account_at (accounts_of voters) i) who ≡ true
    → (get_or voters i nobody).stake ≤ sum_by (λ (voter : Voter). cond (same_account voter.account who) voter.stake 0) voters
stake_at [] who i within same = absurd (omega arith)
stake_at (v ∷ vs) who zero within same =
    let here : cond (same_account v.account who) v.stake 0 ≡ v.stake = ap (λ b. cond b v.stake 0) same in
    omega (arith, here, sum_by-cons (λ (voter : Voter). cond (same_account voter.account who) voter.stake 0) v vs)
stake_at (v ∷ vs) who (suc i) within same =
    omega (arith, stake_at vs who i (omega arith) same, sum_by-cons (λ (voter : Voter). cond (same_account voter.account who) voter.stake 0) v vs)

spent_within : (snapshot : Snapshot) (edges : List Edge) (who : AccountId) → IsDistinct same_account (accounts_of snapshot.voters) → All (λ edge. edge.voter < length snapshot.voters) edges
    → ((voter : ℕ) → voter < length snapshot.voters → spent edges voter ≤ stake_of snapshot voter) → spent_by (accounts_of snapshot.voters) who edges ≤ stake_in snapshot who
spent_within snapshot edges who distinct within stakes = at (place_or_none accounts who) where
  accounts : List AccountId
  accounts = accounts_of snapshot.voters

  inside : All (λ edge. edge.voter < length (accounts_of snapshot.voters)) edges
  inside k d few = omega (arith, within k d few, same_length snapshot.voters)

  given : spent_by (accounts_of snapshot.voters) who edges ≡ sum_by (gives (accounts_of snapshot.voters) who) edges
  given = filter_sum (λ (edge : Edge). edge.amount) (λ edge. same_account (account_at (accounts_of snapshot.voters) edge.voter) who) edges

  at : ((i : ℕ) × (i < length (accounts_of snapshot.voters)) × (same_account (account_at (accounts_of snapshot.voters) i) who ≡ true))
      ⊎ ((i : ℕ) → i < length (accounts_of snapshot.voters) → same_account (account_at (accounts_of snapshot.voters) i) who ≡ false)
      → spent_by (accounts_of snapshot.voters) who edges ≤ stake_in snapshot who
  at (inl (i, place, same)) =
      let there : i < length snapshot.voters = omega (arith, place, same_length snapshot.voters) in
      omega (
        arith,
        given,
        one_sum (accounts_of snapshot.voters) who i distinct place same edges inside,
        filter_sum (λ (edge : Edge). edge.amount) (λ edge. nat_eq edge.voter i) edges,
        stakes i there,
        stake_at snapshot.voters who i there same,
        filter_sum (λ (voter : Voter). voter.stake) (λ voter. same_account voter.account who) snapshot.voters,
      )
  at (inr none) = omega (arith, given, nothing_given (accounts_of snapshot.voters) who edges none inside)

-- ## What is exposed

pub exposures_sound : (committee : Committee) → IsElected committee → AreNoted committee.snapshot.targets committee.commissions
    → AreSound (exposures_of committee)
exposures_sound committee given noted =
    let ordered = order_law committee.snapshot.targets (voters_in committee) committee.commissions (supports_in committee) committee.weights.edges committee.weights.committee
    (elected_by committee given.sound given.follows noted) in
    sound_law committee.snapshot.targets (voters_in committee) committee.commissions (supports_in committee) (edges_in committee) committee.weights.committee ordered.0

pub exposures_within : (committee : Committee) (who : AccountId) → IsElected committee
    → AreNoted committee.snapshot.targets committee.commissions
    → exposed_for who (exposures_of committee) ≤ stake_in committee.snapshot who
exposures_within committee who given noted =
    let ordered = order_law committee.snapshot.targets (voters_in committee) committee.commissions (supports_in committee) committee.weights.edges committee.weights.committee
    (elected_by committee given.sound given.follows noted) in
    omega (
      arith,
      spent_law committee.snapshot.targets (voters_in committee) committee.commissions (supports_in committee) (edges_in committee) committee.weights.committee who ordered.0.members_distinct,
      ordered.1 who,
      spent_within committee.snapshot committee.weights.edges who given.sound.voters.accounts_distinct given.follows.voters_in_range given.stakes,
    )

pub nobody_sound : AreSound []
unfolding IsDistinct
nobody_sound = record { each = All-nil IsSoundExposure; distinct = tt }
