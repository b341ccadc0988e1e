-- The accounts of a generated election are told apart, and no part of it has a fault.
use Rattle.std.proofs.Common.{◌≡◌, refl, ap, ap₂, sym, ◌∙◌, subst, arith, mul-le-mul, ℕ, zero, suc, ◌+◌, ◌*◌, ◌%◌, ◌<◌, ◌≤◌, ◌^◌, min}
use Rattle.std.proofs.Common.{Bool, true, false, nat_eq, nat_le, nat_lt, ◌||◌, List, [], ◌∷◌, ◌++◌, map, length, None, if◌then◌else◌}
use Rattle.std.specs.List.{list_any, range_with_len}
use Rattle.std.proofs.lemmas.Nat.{mod_below}
use Rattle.std.proofs.lemmas.List.Sums.{sum_by-cons}
use Rattle.std.proofs.lemmas.Bool.Decides.{nat_tests}
use Rattle.std.proofs.lemmas.List.FromFn.{map-range_with_len_more, length-map-range_with_len}
use Rattle.npos_base.specs.declared.account.AccountId.{AccountId}
use Rattle.npos_base.specs.declared.limits.TheConstants.{MOST_NOMINATIONS}
use Rattle.election_snapshot.specs.Snapshot.{total_of}
use Rattle.election_snapshot.specs.Draft.{Draft, accounts_of, has_repeat, stands_in, target_fault, voter_fault, finish_fault}
use Rattle.demo_election.specs.Generated.{next_state, state_after, drawn, voter_from, stake_from, count_from, target_account, voter_account, targets_of, voters_of, voter_of, votes_round, most_drawn}
use Rattle.demo_election.specs.Begun.{IsBegun}
use Rattle.demo_election.proofs.VoteLemmas.{votes_distinct, votes_within}

-- the account of so high a group at a place
account_at : ℕ → ℕ → AccountId
account_at hi place = record { hi = hi; lo = place + 1 }

-- one target more
pub targets_more : (place : ℕ) → targets_of (place + 1) ≡ targets_of place ++ target_account place ∷ []
targets_more place = map-range_with_len_more target_account 0 place place (omega arith)

pub targets_count : (count : ℕ) → length (targets_of count) ≡ count
targets_count count = length-map-range_with_len target_account 0 count

-- no account of a lower place is that of a higher
new_target : (start count place : ℕ) → start + count ≤ place → stands_in (map target_account (range_with_len start count)) (target_account place) ≡ false
new_target start zero place h = refl
new_target start (suc count) place h =
    let apart : nat_eq (place + 1) (start + 1) ≡ false = grind (arith, nat_tests, h) in
    ap₂ (λ a b. a || b) apart (new_target (start + 1) count place (omega (arith, h)))

new_voter : (start count place : ℕ) → start + count ≤ place → stands_in (map voter_account (range_with_len start count)) (voter_account place) ≡ false
new_voter start zero place h = refl
new_voter start (suc count) place h =
    let apart : nat_eq (place + 1) (start + 1) ≡ false = grind (arith, nat_tests, h) in
    ap₂ (λ a b. a || b) apart (new_voter (start + 1) count place (omega (arith, h)))

-- a condition that fails leads on
on : {A : Type 0} (b : Bool) (x y : A) → b ≡ false → (if b then x else y) ≡ y
on false x y e = refl
on true x y e = absurd (cc)

pub target_is_free : (place : ℕ) (draft : Draft) → draft.targets ≡ targets_of place → place < 2048 → target_fault draft (target_account place) ≡ None
target_is_free place draft e h =
    on (nat_le 2048 (length draft.targets)) _ _ (let n = ap length e ∙ targets_count place in grind (arith, nat_tests, h, n))
    ∙ on (stands_in draft.targets (target_account place)) _ _ (ap (λ accounts. stands_in accounts (target_account place)) e ∙ new_target 0 place place (omega arith))

pub voter_is_free : (targets place first count stake : ℕ) (draft : Draft) → IsBegun targets place draft → place < 16384
    → first < targets → 1 ≤ count → count ≤ most_drawn → count ≤ targets → 1000000 ≤ stake → stake < 2000000
    → voter_fault draft (voter_account place) stake (votes_round targets first count) ≡ None
voter_is_free targets place first count stake draft begun h p q r s t u =
    on (nat_le 16384 (length draft.voters)) _ _ (let e = begun.count in grind (arith, nat_tests, h, e))
    ∙ on (stands_in (accounts_of draft.voters) (voter_account place)) _ _ (ap (λ accounts. stands_in accounts (voter_account place)) begun.accounts ∙ new_voter 0 place place (omega arith))
    ∙ on (nat_eq stake 0) _ _ (grind (arith, nat_tests, t))
    ∙ on (nat_eq (length votes) 0) _ _ (grind (arith, nat_tests, counted, q))
    ∙ on (nat_lt MOST_NOMINATIONS (length votes)) _ _ (grind (arith, nat_tests, counted, r))
    ∙ on (list_any (λ target. nat_le (length draft.targets) target) votes) _ _
    (ap (λ n. list_any (λ target. nat_le n target) votes) begun.targets_are
    ∙ votes_within targets first count (omega (arith, p)))
    ∙ on (has_repeat votes) _ _ (votes_distinct targets first count p s)
    ∙ on (nat_le (2 ^ 64) (total_of draft.voters + stake)) _ _ (let e = begun.at_most in let d : total_of draft.voters + stake < 2 ^ 64 = omega (arith, e, h, u) in grind (arith, nat_tests, d))
  where
    votes : List ℕ
    votes = votes_round targets first count

    counted : length votes ≡ count
    counted = length-map-range_with_len (λ (n : ℕ). (first + n) % targets) 0 count

stake_between : (draw : ℕ) → (1000000 ≤ stake_from draw) × (stake_from draw < 2000000)
stake_between draw = let below = mod_below draw 1000000 (omega arith) in (omega arith, omega (arith, below))

-- what three draws make of a voter has no fault
pub drawn_is_free : (targets place draw1 draw2 draw3 : ℕ) (draft : Draft) → IsBegun targets place draft → place < 16384
    → voter_fault draft (voter_account place) (stake_from draw1) (votes_round targets (draw3 % targets) (count_from targets draw2)) ≡ None
drawn_is_free targets place draw1 draw2 draw3 draft begun h =
    let some = begun.some_targets in
    let most : 1 ≤ min targets most_drawn = omega (arith, some) in
    let below = mod_below draw2 (min targets most_drawn) most in
    voter_is_free targets place (draw3 % targets) (count_from targets draw2) (stake_from draw1) draft begun h
    (mod_below draw3 targets some) (omega arith) (omega (arith, below)) (omega (arith, below)) (stake_between draw1).0 (stake_between draw1).1

-- ## All voters

pub voters_more : (seed targets place : ℕ) → voters_of seed targets (place + 1) ≡ voters_of seed targets place ++ voter_of seed targets place ∷ []
voters_more seed targets place = map-range_with_len_more (voter_of seed targets) 0 place place (omega arith)

accounts_from : (seed targets start count : ℕ) → accounts_of (map (voter_of seed targets) (range_with_len start count)) ≡ map voter_account (range_with_len start count)
accounts_from seed targets start zero = refl
accounts_from seed targets start (suc count) = ap (λ accounts. voter_account start ∷ accounts) (accounts_from seed targets (start + 1) count)

total_between : (seed targets start count : ℕ) → let voters = map (voter_of seed targets) (range_with_len start count) in (1000000 * count ≤ total_of voters) × (total_of voters ≤ 2000000 * count)
total_between seed targets start zero = (omega arith, omega arith)
total_between seed targets start (suc count) =
    let (least, most) = total_between seed targets (start + 1) count in
    let (l, m) = stake_between (drawn (state_after (state_after seed (3 * start)) 1)) in
    (rw sum_by-cons (omega (arith, least, l)), rw sum_by-cons (omega (arith, most, m)))

begun_itself : (seed targets place : ℕ) → 1 ≤ targets → targets ≤ 2048 → IsBegun targets place (record { targets = targets_of targets; voters = voters_of seed targets place })
begun_itself seed targets place some few = record {
  targets_are = targets_count targets;
  some_targets = some;
  few_targets = few;
  count = length-map-range_with_len (voter_of seed targets) 0 place;
  accounts = accounts_from seed targets 0 place;
  at_least = (total_between seed targets 0 place).0;
  at_most = (total_between seed targets 0 place).1;
}

pub voters_begun : (seed targets place : ℕ) (draft : Draft) → 1 ≤ targets → targets ≤ 2048
    → draft ≡ record { targets = targets_of targets; voters = voters_of seed targets place }
    → IsBegun targets place draft
voters_begun seed targets place draft some few e = subst (λ (d : Draft). IsBegun targets place d) (sym e) (begun_itself seed targets place some few)

pub seats_stand : (seed voters seats : ℕ) → 1 ≤ voters → 1 ≤ seats → seats ≤ 512
    → finish_fault (record { targets = targets_of (4 * seats); voters = voters_of seed (4 * seats) voters }) seats ≡ None
seats_stand seed voters seats p q r =
    on (nat_eq seats 0 || nat_lt 512 seats) _ _ (grind (arith, nat_tests, q, r))
    ∙ on (nat_lt (length (targets_of (4 * seats))) seats) _ _ (let n = targets_count (4 * seats) in grind (arith, nat_tests, n))
    ∙ on (nat_lt (total_of (voters_of seed (4 * seats) voters)) (seats * seats)) _ _
    (let t = (total_between seed (4 * seats) 0 voters).0 in let s : seats * seats ≤ 512 * 512 = mul-le-mul r r in
    let d : seats * seats ≤ total_of (voters_of seed (4 * seats) voters) = omega (arith, t, s, p) in grind (arith, nat_tests, d))

states_more : (seed n k : ℕ) → state_after (state_after seed n) k ≡ state_after seed (n + k)
states_more seed n zero = ap (state_after seed) (let e : n ≡ n + 0 = omega arith in e)
states_more seed n (suc k) = ap next_state (states_more seed n k) ∙ ap (state_after seed) (let e : suc (n + k) ≡ n + suc k = omega arith in e)

-- one voter more, from the next three draws
pub voters_step : (seed targets place state : ℕ) (old new : Draft) → old ≡ record { targets = targets_of targets; voters = voters_of seed targets place } → state ≡ state_after seed (3 * place)
    → new ≡ record { targets = old.targets; voters = old.voters ++ voter_from targets state place ∷ [] } → new ≡ record { targets = targets_of targets; voters = voters_of seed targets (place + 1) }
voters_step seed targets place state old new e at is =
    is ∙ ap₂ (λ (d : Draft) (s : ℕ). record { targets = d.targets; voters = d.voters ++ voter_from targets s place ∷ [] }) e at
    ∙ ap (λ voters. record { targets = targets_of targets; voters = voters }) (sym (voters_more seed targets place))

pub states_step : (seed place state new : ℕ) → state ≡ state_after seed (3 * place) → new ≡ state_after state 3 → new ≡ state_after seed (3 * (place + 1))
states_step seed place state new at is = is ∙ ap (λ s. state_after s 3) at ∙ states_more seed (3 * place) 3 ∙ ap (state_after seed) (omega arith)
