-- The voters, as they are kept in three lists of one length.
use Rattle.std.proofs.Common.{◌≡◌, ℕ, zero, suc, ◌+◌, ◌<◌, ◌≤◌, ◌^◌, Bool, true, false, nat_eq, nat_le, nat_lt, List, [], ◌∷◌, ◌++◌, length, get_or}
use Rattle.std.proofs.Common.{sum, refl, ap, ap₂, sym, ◌∙◌, subst, arith, Option, Some, None, if◌then◌else◌, ◌||◌, true≢false, length-append}
use Rattle.std.specs.List.{IsDistinct, list_any, AllByRecursion}
use Rattle.std.proofs.lemmas.List.Sums.{sum_by-cons, sum_by-append}
use Rattle.std.proofs.lemmas.List.Elements.{All-push}
use Rattle.std.proofs.lemmas.Bool.Decides.{nat_tests}
use Rattle.election_snapshot.specs.declared.fault.SnapshotFault.{SnapshotFault}
use Rattle.npos_base.specs.declared.limits.TheConstants.{MOST_NOMINATIONS, MOST_TARGETS, MOST_VOTERS}
use Rattle.npos_base.specs.declared.account.AccountId.{AccountId}
use Rattle.npos_base.specs.Account.{same_account}
use Rattle.npos_base.proofs.AccountOrder.{same_turned}
use Rattle.election_snapshot.specs.Snapshot.{Voter, no_account, nobody, stakes_of, total_of, IsVoterOf, AreVotersOf, has}
use Rattle.election_snapshot.specs.Draft.{Draft, accounts_of, has_repeat, stands_in, target_fault, voter_fault, with_voter, first_seats_fault, finish_fault}
use Rattle.election_snapshot.specs.declared.voters.KeptVoters.{KeptVoters}
use Rattle.election_snapshot.specs.Kept.{voters_of, AreKept, AreSame, HaveOneMore}

pub kept_count : (accounts : List AccountId) (stakes : List ℕ) (votes : List (List ℕ))
    → length stakes ≡ length accounts → length votes ≡ length accounts → length (voters_of accounts stakes votes)
    ≡ length accounts
kept_count [] stakes votes p q = refl
kept_count (a ∷ accounts) [] votes p q = absurd (omega (arith, p))
kept_count (a ∷ accounts) (s ∷ stakes) [] p q = absurd (omega (arith, q))
kept_count (a ∷ accounts) (s ∷ stakes) (v ∷ votes) p q = ap suc (kept_count accounts stakes votes (omega (arith, p)) (omega (arith, q)))

pub kept_accounts : (accounts : List AccountId) (stakes : List ℕ) (votes : List (List ℕ))
    → length stakes ≡ length accounts → length votes ≡ length accounts → accounts_of (voters_of accounts stakes votes)
    ≡ accounts
kept_accounts [] stakes votes p q = refl
kept_accounts (a ∷ accounts) [] votes p q = absurd (omega (arith, p))
kept_accounts (a ∷ accounts) (s ∷ stakes) [] p q = absurd (omega (arith, q))
kept_accounts (a ∷ accounts) (s ∷ stakes) (v ∷ votes) p q = ap (λ xs. a ∷ xs) (kept_accounts accounts stakes votes (omega (arith, p)) (omega (arith, q)))

pub kept_stakes : (accounts : List AccountId) (stakes : List ℕ) (votes : List (List ℕ))
    → length stakes ≡ length accounts → length votes ≡ length accounts → stakes_of (voters_of accounts stakes votes)
    ≡ stakes
kept_stakes [] [] votes p q = refl
kept_stakes [] (s ∷ stakes) votes p q = absurd (omega (arith, p))
kept_stakes (a ∷ accounts) [] votes p q = absurd (omega (arith, p))
kept_stakes (a ∷ accounts) (s ∷ stakes) [] p q = absurd (omega (arith, q))
kept_stakes (a ∷ accounts) (s ∷ stakes) (v ∷ votes) p q = ap (λ xs. s ∷ xs) (kept_stakes accounts stakes votes (omega (arith, p)) (omega (arith, q)))

pub kept_voter : (accounts : List AccountId) (stakes : List ℕ) (votes : List (List ℕ)) (i : ℕ) → length stakes ≡ length accounts → length votes ≡ length accounts → i < length accounts
    → get_or (voters_of accounts stakes votes) i nobody ≡ record { account = get_or accounts i no_account; stake = get_or stakes i 0; votes = get_or votes i [] }
kept_voter [] stakes votes i p q h = absurd (omega (arith, h))
kept_voter (a ∷ accounts) [] votes i p q h = absurd (omega (arith, p))
kept_voter (a ∷ accounts) (s ∷ stakes) [] i p q h = absurd (omega (arith, q))
kept_voter (a ∷ accounts) (s ∷ stakes) (v ∷ votes) zero p q h = refl
kept_voter (a ∷ accounts) (s ∷ stakes) (v ∷ votes) (suc i) p q h = kept_voter accounts stakes votes i (omega (arith, p)) (omega (arith, q)) (omega (arith, h))

pub kept_more : (accounts : List AccountId) (stakes : List ℕ) (votes : List (List ℕ)) (who : AccountId) (stake : ℕ) (voted : List ℕ) → length stakes ≡ length accounts → length votes ≡ length accounts
    → voters_of (accounts ++ who ∷ []) (stakes ++ stake ∷ []) (votes ++ voted ∷ []) ≡ voters_of accounts stakes votes ++ record { account = who; stake = stake; votes = voted } ∷ []
kept_more [] [] [] who stake voted p q = refl
kept_more [] [] (v ∷ votes) who stake voted p q = absurd (omega (arith, q))
kept_more [] (s ∷ stakes) votes who stake voted p q = absurd (omega (arith, p))
kept_more (a ∷ accounts) [] votes who stake voted p q = absurd (omega (arith, p))
kept_more (a ∷ accounts) (s ∷ stakes) [] who stake voted p q = absurd (omega (arith, q))
kept_more (a ∷ accounts) (s ∷ stakes) (v ∷ votes) who stake voted p q =
    ap (λ xs. record { account = a; stake = s; votes = v } ∷ xs) (kept_more accounts stakes votes who stake voted
    (omega (arith, p)) (omega (arith, q)))

total_stakes : (voters : List Voter) → total_of voters ≡ sum (stakes_of voters)
total_stakes [] = refl
total_stakes (voter ∷ voters) = sum_by-cons (λ (v : Voter). v.stake) voter voters ∙ ap (λ n. voter.stake + n) (total_stakes voters) ∙ sym (sum_by-cons (λ (n : ℕ). n) voter.stake (stakes_of voters))

pub kept_total : (targets accounts : List AccountId) (stakes : List ℕ) (votes : List (List ℕ)) (total : ℕ)
    → AreKept targets accounts stakes votes total → total_of (voters_of accounts stakes votes) ≡ total
kept_total targets accounts stakes votes total h = total_stakes (voters_of accounts stakes votes) ∙ ap sum (kept_stakes accounts stakes votes h.stakes_count h.votes_count) ∙ sym h.total_is

pub account_read : (accounts : List AccountId) (i : ℕ) (d e : AccountId) → i < length accounts → get_or accounts i d ≡ get_or accounts i e
account_read [] i d e h = absurd (omega (arith, h))
account_read (a ∷ accounts) zero d e h = refl
account_read (a ∷ accounts) (suc i) d e h = account_read accounts i d e (omega (arith, h))

-- a stake is at most the total
pub stake_within : (voters : List Voter) (i : ℕ) → (get_or voters i nobody).stake ≤ total_of voters
stake_within [] i = omega arith
stake_within (voter ∷ voters) zero = rw sum_by-cons (omega arith)
stake_within (voter ∷ voters) (suc i) = let rest = stake_within voters i in rw sum_by-cons (omega (arith, rest))

-- a voter with no fault
pub record IsSound (draft : Draft) (who : AccountId) (stake : ℕ) (votes : List ℕ) : Type 0 where
  pub room : length draft.voters < MOST_VOTERS
  pub is_new : stands_in (accounts_of draft.voters) who ≡ false
  pub stake_above : 0 < stake
  pub some_votes : 1 ≤ length votes
  pub few_votes : length votes ≤ MOST_NOMINATIONS
  pub in_range : list_any (λ target. nat_le (length draft.targets) target) votes ≡ false
  pub no_repeat : has_repeat votes ≡ false
  pub fits : total_of draft.voters + stake < 2 ^ 64

passed : (b : Bool) (fault : SnapshotFault) (rest : Option SnapshotFault) → (if b then Some fault else rest) ≡ None → (b ≡ false) × (rest ≡ None)
passed true fault rest e = absurd (cc)
passed false fault rest e = (refl, e)

-- the account of a target without a fault stands nowhere
pub target_new : (draft : Draft) (who : AccountId) → target_fault draft who ≡ None → stands_in draft.targets who ≡ false
target_new draft who e = let (full, rest) = passed (nat_le MOST_TARGETS (length draft.targets)) _ _ e in (passed (stands_in draft.targets who) _ _ rest).0

pub sound : (draft : Draft) (who : AccountId) (stake : ℕ) (votes : List ℕ) → voter_fault draft who stake votes ≡ None → IsSound draft who stake votes
sound draft who stake votes e =
    let (full, e1) = passed (nat_le MOST_VOTERS (length draft.voters)) _ _ e in
    let (old, e2) = passed (stands_in (accounts_of draft.voters) who) _ _ e1 in
    let (poor, e3) = passed (nat_eq stake 0) _ _ e2 in
    let (empty, e4) = passed (nat_eq (length votes) 0) _ _ e3 in
    let (many, e5) = passed (nat_lt MOST_NOMINATIONS (length votes)) _ _ e4 in
    let (past, e6) = passed (list_any (λ target. nat_le (length draft.targets) target) votes) _ _ e5 in
    let (twice, e7) = passed (has_repeat votes) _ _ e6 in
    let (large, e8) = passed (nat_le (2 ^ 64) (total_of draft.voters + stake)) _ _ e7 in
    record {
      room = over MOST_VOTERS (length draft.voters) full;
      is_new = old;
      stake_above = above stake poor;
      some_votes = above (length votes) empty;
      few_votes = under MOST_NOMINATIONS (length votes) many;
      in_range = past;
      no_repeat = twice;
      fits = over (2 ^ 64) (total_of draft.voters + stake) large;
    } where
      over : (a b : ℕ) → nat_le a b ≡ false → b < a
      over a b e = grind (arith, nat_tests)

      under : (a b : ℕ) → nat_lt a b ≡ false → b ≤ a
      under a b e = grind (arith, nat_tests)

      above : (a : ℕ) → nat_eq a 0 ≡ false → 0 < a
      above a e = grind (arith, nat_tests)

-- its votes are different positions of targets
all_below : (targets : ℕ) (votes : List ℕ) → list_any (λ target. nat_le targets target) votes ≡ false → (k d : ℕ) → k < length votes → get_or votes k d < targets
all_below targets [] e k d h = absurd (omega (arith, h))
all_below targets (v ∷ votes) e zero d h = at (nat_le targets v) refl e where
  at : (b : Bool) → nat_le targets v ≡ b → (b || list_any (λ target. nat_le targets target) votes) ≡ false → v < targets
  at true f e = absurd (true≢false e)
  at false f e = grind (arith, nat_tests)
all_below targets (v ∷ votes) e (suc k) d h = all_below targets votes (rest (nat_le targets v) e) k d (omega (arith, h)) where
  rest : (b : Bool) → (b || list_any (λ target. nat_le targets target) votes) ≡ false → list_any (λ target. nat_le targets target) votes ≡ false
  rest true e = absurd (true≢false e)
  rest false e = e

apart_from : (number : ℕ) (votes : List ℕ) → has votes number ≡ false → AllByRecursion (λ other. nat_eq number other ≡ false) votes
apart_from number [] e = tt
apart_from number (v ∷ votes) e = (turned (nat_eq v number) refl e, apart_from number votes (rest (nat_eq v number) e)) where
  turned : (b : Bool) → nat_eq v number ≡ b → (b || has votes number) ≡ false → nat_eq number v ≡ false
  turned true f e = absurd (true≢false e)
  turned false f e = grind (arith, nat_tests)

  rest : (b : Bool) → (b || has votes number) ≡ false → has votes number ≡ false
  rest true e = absurd (true≢false e)
  rest false e = e

all_different : (votes : List ℕ) → has_repeat votes ≡ false → IsDistinct nat_eq votes
unfolding IsDistinct
all_different [] e = tt
all_different (v ∷ votes) e = (apart_from v votes (first (has votes v) e), all_different votes (rest (has votes v) e)) where
  first : (b : Bool) → (b || has_repeat votes) ≡ false → b ≡ false
  first true e = absurd (true≢false e)
  first false e = refl

  rest : (b : Bool) → (b || has_repeat votes) ≡ false → has_repeat votes ≡ false
  rest true e = absurd (true≢false e)
  rest false e = e

total_more : (voters : List Voter) (voter : Voter) → total_of (voters ++ voter ∷ []) ≡ total_of voters + voter.stake
total_more voters voter = sum_by-append (λ (v : Voter). v.stake) voters (voter ∷ []) ∙ ap (λ n. total_of voters + n) (sum_by-cons (λ (v : Voter). v.stake) voter [] ∙ omega arith)

sum_more : (stakes : List ℕ) (stake : ℕ) → sum (stakes ++ stake ∷ []) ≡ sum stakes + stake
sum_more stakes stake = sum_by-append (λ (n : ℕ). n) stakes (stake ∷ []) ∙ ap (λ n. sum stakes + n) (sum_by-cons (λ (n : ℕ). n) stake [] ∙ omega arith)

-- ## One voter more

all_with : (P : AccountId → Type 0) (accounts : List AccountId) (who : AccountId) → AllByRecursion P accounts → P who → AllByRecursion P (accounts ++ who ∷ [])
all_with P [] who all here = (here, tt)
all_with P (account ∷ accounts) who all here = (all.0, all_with P accounts who all.1 here)

-- an account that does not stand there goes behind accounts that are distinct
distinct_with : (accounts : List AccountId) (who : AccountId) → IsDistinct same_account accounts → stands_in accounts who ≡ false
    → IsDistinct same_account (accounts ++ who ∷ [])
unfolding IsDistinct
distinct_with [] who distinct absent = (tt, tt)
distinct_with (account ∷ accounts) who distinct absent = (
  all_with (λ y. same_account account y ≡ false) accounts who distinct.0 (same_turned who account (first (same_account who account) absent)),
  distinct_with accounts who distinct.1 (rest (same_account who account) absent),
) where
  first : (b : Bool) → (b || stands_in accounts who) ≡ false → b ≡ false
  first true e = absurd (true≢false e)
  first false e = refl

  rest : (b : Bool) → (b || stands_in accounts who) ≡ false → stands_in accounts who ≡ false
  rest true e = absurd (true≢false e)
  rest false e = e

pub accounts_with : (voters : List Voter) (voter : Voter) → accounts_of (voters ++ voter ∷ []) ≡ accounts_of voters ++ voter.account ∷ []
accounts_with [] voter = refl
accounts_with (v ∷ voters) voter = ap (λ accounts. v.account ∷ accounts) (accounts_with voters voter)

voters_with : (draft : Draft) (who : AccountId) (stake : ℕ) (votes : List ℕ) → AreVotersOf draft.targets draft.voters → IsSound draft who stake votes
    → AreVotersOf draft.targets (with_voter draft who stake votes).voters
voters_with draft who stake votes are ok =
    let voter : Voter = record { account = who; stake = stake; votes = votes } in
    record {
      targets_few = are.targets_few;
      targets_distinct = are.targets_distinct;
      voters_few = omega (arith, length-append draft.voters (voter ∷ []), ok.room);
      accounts_distinct = subst (IsDistinct same_account) (sym (accounts_with draft.voters voter)) (distinct_with (accounts_of draft.voters) who are.accounts_distinct ok.is_new);
      each_voter = All-push (IsVoterOf (length draft.targets)) draft.voters voter are.each_voter (record {
        stake_above = ok.stake_above;
        some_votes = ok.some_votes;
        few_votes = ok.few_votes;
        votes_in_range = all_below (length draft.targets) votes ok.in_range;
        votes_distinct = all_different votes ok.no_repeat;
      });
      total_fits = subst (λ n. n < 2 ^ 64) (sym (total_more draft.voters voter)) ok.fits;
    }

abbrev pub kept_draft : List AccountId → List AccountId → List ℕ → List (List ℕ) → Draft
kept_draft targets accounts stakes votes = record { targets = targets; voters = voters_of accounts stakes votes }

-- the three lists with one voter more
pub kept_with : (targets accounts : List AccountId) (stakes : List ℕ) (votes : List (List ℕ)) (total : ℕ) (who : AccountId) (stake : ℕ) (voted : List ℕ)
    (now_accounts : List AccountId) (now_stakes : List ℕ) (now_votes : List (List ℕ))
    → now_accounts ≡ accounts ++ who ∷ [] → now_stakes ≡ stakes ++ stake ∷ [] → now_votes ≡ votes ++ voted ∷ []
    → AreKept targets accounts stakes votes total → voter_fault (kept_draft targets accounts stakes votes) who stake voted ≡ None
    → AreKept targets now_accounts now_stakes now_votes (total + stake)
kept_with targets accounts stakes votes total who stake voted now_accounts now_stakes now_votes a s v h free =
    let ok = sound (kept_draft targets accounts stakes votes) who stake voted free in
    rw (a, s, v) (record {
      stakes_count = length-append stakes (stake ∷ []) ∙ ap (λ n. n + 1) h.stakes_count ∙ sym (length-append accounts (who ∷ []));
      votes_count = length-append votes (voted ∷ []) ∙ ap (λ n. n + 1) h.votes_count ∙ sym (length-append accounts (who ∷ []));
      total_is = ap (λ n. n + stake) h.total_is ∙ sym (sum_more stakes stake);
      voters = subst (AreVotersOf targets) (sym (kept_more accounts stakes votes who stake voted h.stakes_count h.votes_count))
          (voters_with (kept_draft targets accounts stakes votes) who stake voted h.voters ok);
    })

-- fewer voters stand than there can be
kept_few : (targets accounts : List AccountId) (stakes : List ℕ) (votes : List (List ℕ)) (total : ℕ) (who : AccountId) (stake : ℕ) (voted : List ℕ)
    → AreKept targets accounts stakes votes total → voter_fault (kept_draft targets accounts stakes votes) who stake voted ≡ None → length votes < MOST_VOTERS
kept_few targets accounts stakes votes total who stake voted h free =
    subst (λ n. n < MOST_VOTERS) (kept_count accounts stakes votes h.stakes_count h.votes_count ∙ sym h.votes_count)
    (sound (kept_draft targets accounts stakes votes) who stake voted free).room

-- the stakes with one more have their sum within range
kept_fits : (targets accounts : List AccountId) (stakes : List ℕ) (votes : List (List ℕ)) (total : ℕ) (who : AccountId) (stake : ℕ) (voted : List ℕ)
    → AreKept targets accounts stakes votes total → voter_fault (kept_draft targets accounts stakes votes) who stake voted ≡ None → total + stake < 2 ^ 64
kept_fits targets accounts stakes votes total who stake voted h free =
    subst (λ n. n + stake < 2 ^ 64) (kept_total targets accounts stakes votes total h) (sound (kept_draft targets accounts stakes votes) who stake voted free).fits

pub kept_seats_fault : (targets accounts : List AccountId) (stakes : List ℕ) (votes : List (List ℕ)) (total : ℕ) (count seats : ℕ)
    → AreKept targets accounts stakes votes total → count ≡ length targets
    → first_seats_fault count total seats ≡ finish_fault (record { targets = targets; voters = voters_of accounts stakes votes }) seats
kept_seats_fault targets accounts stakes votes total count seats h e =
    ap₂ (λ n t. first_seats_fault n t seats) e (sym (kept_total targets accounts stakes votes total h))

voters_new : (targets accounts : List AccountId) (stakes : List ℕ) (votes : List (List ℕ)) (total : ℕ) (who : AccountId) (stake : ℕ) (voted : List ℕ)
    (now_accounts : List AccountId) (now_stakes : List ℕ) (now_votes : List (List ℕ))
    → now_accounts ≡ accounts ++ who ∷ [] → now_stakes ≡ stakes ++ stake ∷ [] → now_votes ≡ votes ++ voted ∷ []
    → AreKept targets accounts stakes votes total
    → voters_of now_accounts now_stakes now_votes ≡ voters_of accounts stakes votes ++ record { account = who; stake = stake; votes = voted } ∷ []
voters_new targets accounts stakes votes total who stake voted now_accounts now_stakes now_votes a s v h =
    rw (a, s, v) (kept_more accounts stakes votes who stake voted h.stakes_count h.votes_count)

-- ## One voter more, in lists that were given room

abbrev pub drafted : List AccountId → KeptVoters → Draft
drafted targets voters = kept_draft targets voters.accounts.items voters.stakes.items voters.ballots.items

module _ (targets : List AccountId) (old room : KeptVoters) (same : AreSame old room) (kept : AreKept targets old.accounts.items old.stakes.items old.ballots.items old.total)
    (who : AccountId) (stake : ℕ) (voted : List ℕ) (free : voter_fault (drafted targets old) who stake voted ≡ None) where
  pub room_fits : room.total + stake < 2 ^ 64
  room_fits = rw same.total (kept_fits targets old.accounts.items old.stakes.items old.ballots.items old.total who stake voted kept free)

  pub room_few : length room.ballots.items < MOST_VOTERS
  room_few = rw same.votes (kept_few targets old.accounts.items old.stakes.items old.ballots.items old.total who stake voted kept free)

  module _ (new : KeptVoters) (more : HaveOneMore room new who stake voted) where
    accounts : new.accounts.items ≡ old.accounts.items ++ who ∷ []
    accounts = more.accounts ∙ ap (λ xs. xs ++ who ∷ []) same.accounts

    stakes : new.stakes.items ≡ old.stakes.items ++ stake ∷ []
    stakes = more.stakes ∙ ap (λ xs. xs ++ stake ∷ []) same.stakes

    votes : new.ballots.items ≡ old.ballots.items ++ voted ∷ []
    votes = more.votes ∙ ap (λ xs. xs ++ voted ∷ []) same.votes

    pub more_kept : AreKept targets new.accounts.items new.stakes.items new.ballots.items new.total
    more_kept = rw (more.total, same.total) (kept_with targets old.accounts.items old.stakes.items old.ballots.items old.total who stake voted _ _ _ accounts stakes votes kept free)

    pub more_drafted : drafted targets new ≡ with_voter (drafted targets old) who stake voted
    more_drafted = ap (λ voters. record { targets = targets; voters = voters })
        (voters_new targets old.accounts.items old.stakes.items old.ballots.items old.total who stake voted _ _ _
        accounts stakes votes kept)

pub stake_read : (voters : List Voter) (i : ℕ) → get_or (stakes_of voters) i 0 ≡ (get_or voters i nobody).stake
stake_read [] i = refl
stake_read (voter ∷ voters) zero = refl
stake_read (voter ∷ voters) (suc i) = stake_read voters i
