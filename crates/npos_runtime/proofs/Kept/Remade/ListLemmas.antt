-- Roles, bags and submissions that are made anew, one behind the other.
use Rattle.std.proofs.Common.{◌≡◌, ℕ, zero, suc, ◌+◌, ◌-◌, ◌^◌, ◌≤◌, ◌<◌, Bool, true, false, cond, not, ◌||◌, ◌&&◌, nat_eq}
use Rattle.std.proofs.Common.{nat_lt, nat_le, is_some, if◌then◌else◌, All, List, [], ◌∷◌, ◌++◌, length, map, filter, fold}
use Rattle.std.proofs.Common.{slice_get, take, drop, get_or, Option, Some, None, refl, ap, sym, subst, ◌∙◌, true≢false, arith}
use Rattle.std.specs.BTreeMap.{insert_entry}
use Rattle.std.specs.List.{AllByRecursion}
use Rattle.std.specs.Ordering.{match_ordering}
use Rattle.std.specs.declared.cmp.Ordering.{Ordering}
use Rattle.std.specs.declared.cmp.Ordering.TheVariants.{Less, Equal, Greater}
use Rattle.std.proofs.lemmas.Bool.Decides.{nat_tests}
use Rattle.std.proofs.lemmas.List.{take_more}
use Rattle.std.proofs.lemmas.List.Elements.{All-cons, All-nil, All-append, All-map}
use Rattle.std.proofs.lemmas.List.Sums.{fold-append, sum_by-cons}
use Rattle.npos_base.specs.declared.account.AccountId.{AccountId}
use Rattle.npos_base.specs.declared.limits.TheConstants.{MOST_VALIDATORS, WHOLE_FRACTION}
use Rattle.npos_base.specs.Account.{account_cmp, same_account}
use Rattle.npos_base.specs.Score.{is_better}
use Rattle.block_wire.specs.declared.genesis.Params.{Params}
use Rattle.stake_ledger.specs.declared.book_row.BookRow.{BookRow}
use Rattle.voter_lists.specs.declared.standing.Standing.{Standing}
use Rattle.voter_lists.specs.declared.refusal.ListRefusal.TheVariants.{TooManyValidators}
use Rattle.voter_lists.specs.Roles.{RoleList, is_validator, is_validator_standing, validators_of, validate_refusal}
use Rattle.voter_lists.specs.Bags.{Order, Listing, IsRisingFrom, bag_of, is_listed, number_of, joined, inserted}
use Rattle.voter_lists.specs.Taken.{NeverRises}
use Rattle.voter_lists.proofs.RepeatLemmas.{distinct_to}
use Rattle.voter_lists.proofs.TakenLemmas.{joined_last}
use Rattle.submission_queue.specs.declared.submission.Submission.{Submission}
use Rattle.submission_queue.specs.Rank.{outranks, IsRanked}
use Rattle.submission_queue.proofs.RankLemmas.{no_better_than_itself, behind_better, no_better_through}
use Rattle.state_rules.specs.declared.state.RoleRow.{RoleRow}
use Rattle.state_rules.specs.declared.state.RoleKind.{RoleKind}
use Rattle.state_rules.specs.declared.state.RoleKind.TheVariants as kinds
use Rattle.state_rules.specs.declared.state.QueueRow.{QueueRow}
use Rattle.state_rules.specs.Accounts.{stands_in}
use Rattle.state_rules.specs.Lists.{last_of}
use Rattle.state_rules.specs.Queue as queue
use Rattle.state_rules.specs.Roles.{is_greatest, is_scoreless, validators_in}
use Rattle.state_rules.specs.Roles as roles
use Rattle.state_rules.specs.Sound.{EachIs, IsKind, IsSoundRole, IsSoundItem}
use Rattle.npos_runtime.specs.Kept.Chain.{standing_in, with_role, roles_in, bag_entry, submission_in}
use Rattle.npos_runtime.specs.Kept.Remade.{CanStand}
use Rattle.npos_runtime.proofs.Kept.Remade.ItemLemmas.{each_next, each_before, built, all_mapped, map_put, all_behind, targets_distinct}

-- ## Roles

pub roles_more : (before : List RoleRow) (row : RoleRow) → roles_in (before ++ row ∷ []) ≡ with_role (roles_in before) row
roles_more before row = fold-append with_role [] before (row ∷ [])

abbrev one : Bool → ℕ
one b = cond b 1 0

-- an account that takes a standing is at most one validator more
count_put : (who : AccountId) (standing : Standing) (rows : RoleList)
    → length (validators_of (insert_entry account_cmp rows who standing)) ≤ length (validators_of rows) + one (is_validator_standing standing)
count_put who standing [] = at (is_validator_standing standing) where
  at : (b : Bool) → length (if b then who ∷ [] else []) ≤ 0 + one b
  at true = omega arith
  at false = omega arith
count_put who standing (row ∷ rows) = by (account_cmp who row.0) (count_put who standing rows) where
  front : (b : Bool) (more : List AccountId) → length (if b then who ∷ more else more) ≤ length more + one b
  front true more = omega arith
  front false more = omega arith

  place : (b c : Bool) (more : List AccountId) → length (if b then row.0 ∷ more else more) ≤ length (if c then row.0 ∷ more else more) + one b
  place true true more = omega arith
  place true false more = omega arith
  place false true more = omega arith
  place false false more = omega arith

  later : (c : Bool) (old new : List AccountId) (n : ℕ) → length new ≤ length old + n
      → length (if c then row.0 ∷ new else new) ≤ length (if c then row.0 ∷ old else old) + n
  later true old new n few = omega (arith, few)
  later false old new n few = few

  by : (r : Ordering) → length (validators_of (insert_entry account_cmp rows who standing)) ≤ length (validators_of rows) + one (is_validator_standing standing)
      → length (validators_of (match_ordering r ((who, standing) ∷ row ∷ rows) ((row.0, standing) ∷ rows) (row ∷ insert_entry account_cmp rows who standing)))
      ≤ length (validators_of (row ∷ rows)) + one (is_validator_standing standing)
  by Less rest = front (is_validator_standing standing) (validators_of (row ∷ rows))
  by Equal rest = place (is_validator_standing standing) (is_validator_standing row.1) (validators_of rows)
  by Greater rest =
      later (is_validator_standing row.1) (validators_of rows) (validators_of (insert_entry account_cmp rows who standing)) (one (is_validator_standing standing)) rest

kind_stands : (role : RoleKind) → is_validator_standing (standing_in role) ≡ roles.is_validator role
kind_stands (kinds.Nominator targets) = refl
kind_stands (kinds.Validator commission) = refl

counted_from : (old : RoleList) (rows : List RoleRow) → length (validators_of (fold with_role old rows)) ≤ length (validators_of old) + validators_in rows
counted_from old [] = omega arith
counted_from old (row ∷ rows) =
    let first = count_put row.who (standing_in row.role) old in
    let same : one (is_validator_standing (standing_in row.role)) ≡ one (roles.is_validator row.role) = ap one (kind_stands row.role) in
    omega (arith, counted_from (with_role old row) rows, first, same, here (roles.is_validator row.role)) where
      here : (b : Bool) → length (cond b (row ∷ filter (λ (role : RoleRow). roles.is_validator role.role) rows) (filter (λ (role : RoleRow). roles.is_validator role.role) rows))
          ≡ one b + validators_in rows
      here true = omega arith
      here false = omega arith

refused_by : (roles : RoleList) (who : AccountId) (commission : ℕ)
    → nat_lt WHOLE_FRACTION commission ≡ false → nat_le MOST_VALIDATORS (length (validators_of roles)) ≡ false → validate_refusal roles who commission ≡ None
refused_by roles who commission small few = rw (small, few) (at (is_validator roles who)) where
  at : (b : Bool) → (if not b && false then Some TooManyValidators else None) ≡ None
  at true = refl
  at false = refl

-- the account of the next role can take it
pub can_stand : (thresholds : List ℕ) (known : List BookRow) (before : List RoleRow) (row : RoleRow) → IsSoundRole thresholds known before row
    → CanStand (roles_in before) row.who row.role
can_stand thresholds known before row sound = at row.role sound.kind where
  at : (kind : RoleKind) → IsKind row.who (validators_in before) kind → CanStand (roles_in before) row.who kind
  at (kinds.Nominator targets) is = record {
    some = is.some;
    few = is.few;
    distinct = distinct_to targets (targets_distinct targets is.distinct);
    others = is.others;
  }
  at (kinds.Validator commission) is =
      let counted = counted_from [] before in
      let room : length (validators_of (roles_in before)) < MOST_VALIDATORS = omega (arith, counted, is.1) in
      let small : nat_lt WHOLE_FRACTION commission ≡ false = grind (arith, nat_tests, is.0) in
      let few : nat_le MOST_VALIDATORS (length (validators_of (roles_in before))) ≡ false = grind (arith, nat_tests, room) in
      refused_by (roles_in before) row.who commission small few

-- ## Bags

pub listed_as : (rows : List RoleRow) (who : AccountId) → is_listed (map bag_entry rows) who ≡ stands_in (map (λ (row : RoleRow). row.who) rows) who
listed_as [] who = refl
listed_as (row ∷ rows) who = at (same_account row.who who) (listed_as rows who) where
  at : (b : Bool) → is_listed (map bag_entry rows) who ≡ stands_in (map (λ (row : RoleRow). row.who) rows) who
      → is_some (cond b (Some row.bag) (number_of (map bag_entry rows) who)) ≡ (b || stands_in (map (λ (row : RoleRow). row.who) rows) who)
  at true rest = refl
  at false rest = rest

falls_more : (order : Order) (entry : AccountId × ℕ) → NeverRises order → AllByRecursion (λ (e : AccountId × ℕ). entry.1 ≤ e.1) order → NeverRises (order ++ entry ∷ [])
falls_more [] entry falls under = (All-nil (λ (later : AccountId × ℕ). later.1 ≤ entry.1), tt)
falls_more (e ∷ order) entry falls under = (
  All-append (λ (later : AccountId × ℕ). later.1 ≤ e.1) order (entry ∷ []) falls.0
      (All-cons (λ (later : AccountId × ℕ). later.1 ≤ e.1) entry [] under.0 (All-nil (λ (later : AccountId × ℕ). later.1 ≤ e.1))),
  falls_more order entry falls.1 under.1,
)

-- the next account is in no higher bag than those before it
lower : (thresholds : List ℕ) (known : List BookRow) (before : List RoleRow) (row : RoleRow) → EachIs (IsSoundRole thresholds known) before
    → IsSoundRole thresholds known before row → AllByRecursion (λ (e : AccountId × ℕ). row.bag ≤ e.1) (map bag_entry before)
lower thresholds known before row each sound =
    all_mapped (λ (e : AccountId × ℕ). row.bag ≤ e.1) bag_entry before
    (all_behind (λ (earlier later : RoleRow). nat_le later.bag earlier.bag) (λ (earlier later : RoleRow). later.bag ≤ earlier.bag)
    (λ a b e. within b.bag a.bag e) (λ a b c x y. omega (arith, x, y)) before (λ place d few. (each place d few).walk) row sound.walk) where
      within : (a b : ℕ) → nat_le a b ≡ true → a ≤ b
      within a b e = grind (arith, nat_tests, e)

pub rows_fall : (thresholds : List ℕ) (known : List BookRow) (rows : List RoleRow) → EachIs (IsSoundRole thresholds known) rows → NeverRises (map bag_entry rows)
rows_fall thresholds known rows each =
    built (IsSoundRole thresholds known) (λ (before : List RoleRow). NeverRises (map bag_entry before))
    (λ before row each_earlier falls sound.
    subst NeverRises (sym (map_put bag_entry before row))
    (falls_more (map bag_entry before) (bag_entry row) falls (lower thresholds known before row each_earlier sound)))
    rows tt each

-- the score of a threshold is in the bag below it
above : (low : ℕ) (thresholds : List ℕ) (i t : ℕ) → IsRisingFrom low thresholds → slice_get thresholds i ≡ Some t → low < t
above low [] i t rising at = absurd (true≢false (sym (ap is_some at)))
above low (x ∷ xs) zero t rising at = let same : x ≡ t = cc in omega (arith, rising.0, same)
above low (x ∷ xs) (suc i) t rising at = let rest = above x xs i t rising.1 at in omega (arith, rising.0, rest)

none_below : (low : ℕ) (thresholds : List ℕ) (n : ℕ) → IsRisingFrom low thresholds → n ≤ low → bag_of thresholds n ≡ 0
none_below low [] n rising under = refl
none_below low (x ∷ xs) n rising under =
    let test : nat_lt x n ≡ false = let over = rising.0 in grind (arith, nat_tests, over, under) in
    let here : one (nat_lt x n) ≡ 0 = ap one test in
    let more : bag_of (x ∷ xs) n ≡ one (nat_lt x n) + bag_of xs n = sum_by-cons (λ (m : ℕ). one (nat_lt m n)) x xs in
    omega (arith, more, here, none_below x xs n rising.1 (omega (arith, rising.0, under)))

pub at_threshold : (low : ℕ) (thresholds : List ℕ) (i t : ℕ) → IsRisingFrom low thresholds → slice_get thresholds i ≡ Some t → bag_of thresholds t ≡ i
at_threshold low [] i t rising at = absurd (true≢false (sym (ap is_some at)))
at_threshold low (x ∷ xs) zero t rising at =
    let same : x ≡ t = cc in
    let test : nat_lt x t ≡ false = grind (arith, nat_tests, same) in
    let here : one (nat_lt x t) ≡ 0 = ap one test in
    let more : bag_of (x ∷ xs) t ≡ one (nat_lt x t) + bag_of xs t = sum_by-cons (λ (m : ℕ). one (nat_lt m t)) x xs in
    omega (arith, more, here, none_below x xs t rising.1 (omega (arith, same)))
at_threshold low (x ∷ xs) (suc i) t rising at =
    let over = above x xs i t rising.1 at in
    let test : nat_lt x t ≡ true = grind (arith, nat_tests, over) in
    let rest = at_threshold x xs i t rising.1 at in
    let here : one (nat_lt x t) ≡ 1 = ap one test in
    let more : bag_of (x ∷ xs) t ≡ one (nat_lt x t) + bag_of xs t = sum_by-cons (λ (m : ℕ). one (nat_lt m t)) x xs in
    omega (arith, more, here, rest)

-- a score above the last threshold is in the last bag
all_below : (low : ℕ) (thresholds : List ℕ) (n : ℕ) → IsRisingFrom low thresholds → ((t : ℕ) → last_of thresholds ≡ Some t → t < n)
    → (bag_of thresholds n ≡ length thresholds) × (1 ≤ length thresholds → low < n)
all_below low [] n rising under = (refl, λ some. absurd (omega (arith, some)))
all_below low (x ∷ []) n rising under =
    let over : x < n = under x refl in
    let here : one (nat_lt x n) ≡ 1 = ap one (lower n over) in
    let more : bag_of (x ∷ []) n ≡ one (nat_lt x n) + bag_of [] n = sum_by-cons (λ (m : ℕ). one (nat_lt m n)) x [] in (
      omega (arith, more, here),
      λ some. omega (arith, over, rising.0),
    ) where
      lower : (n : ℕ) → x < n → nat_lt x n ≡ true
      lower n over = grind (arith, nat_tests, over)
all_below low (x ∷ y ∷ ys) n rising under =
    let step : length (x ∷ y ∷ ys) - 1 ≡ suc (length (y ∷ ys) - 1) = omega arith in
    let rest = all_below x (y ∷ ys) n rising.1 (λ t is. under t (ap (slice_get (x ∷ y ∷ ys)) step ∙ is)) in
    let over : x < n = rest.1 (omega arith) in
    let test : nat_lt x n ≡ true = grind (arith, nat_tests, over) in
    let here : one (nat_lt x n) ≡ 1 = ap one test in
    let more : bag_of (x ∷ y ∷ ys) n ≡ one (nat_lt x n) + bag_of (y ∷ ys) n = sum_by-cons (λ (m : ℕ). one (nat_lt m n)) x (y ∷ ys) in (
      omega (arith, more, here, rest.0),
      λ some. omega (arith, over, rising.0),
    )

pub at_top : (thresholds : List ℕ) (bag : ℕ) → IsRisingFrom 0 thresholds → bag ≤ length thresholds → length thresholds ≤ bag → is_scoreless thresholds bag ≡ false
    → ((t : ℕ) → last_of thresholds ≡ Some t → t < 2 ^ 64) → bag_of thresholds (2 ^ 64 - 1) ≡ bag
at_top thresholds bag rising most least scores fit =
    let last : bag ≡ length thresholds = omega (arith, most, least) in
    let test : nat_eq bag (length thresholds) ≡ true = grind (arith, nat_tests, last) in
    let open_top : is_greatest (last_of thresholds) ≡ false = sym (ap (λ b. b && is_greatest (last_of thresholds)) test) ∙ scores in
    (all_below 0 thresholds (2 ^ 64 - 1) rising
    (λ t is. below t (fit t is) (sym (ap is_greatest is) ∙ open_top))).0 ∙ sym last where
      below : (t : ℕ) → t < 2 ^ 64 → nat_eq t (2 ^ 64 - 1) ≡ false → t < 2 ^ 64 - 1
      below t small other = grind (arith, nat_tests, small, other)

pub past_all : (numbers : List ℕ) (place : ℕ) → slice_get numbers place ≡ None → length numbers ≤ place
past_all [] place at = omega arith
past_all (x ∷ xs) zero at = cc
past_all (x ∷ xs) (suc place) at = let rest = past_all xs place at in omega (arith, rest)

pub last_found : (numbers : List ℕ) (place t : ℕ) → slice_get numbers place ≡ Some t → get_or numbers place 0 ≡ t
last_found [] place t at = absurd (true≢false (sym (ap is_some at)))
last_found (x ∷ xs) zero t at = cc
last_found (x ∷ xs) (suc place) t at = last_found xs place t at

-- ## Submissions

ranked_more : (xs : List Submission) (y : Submission) → IsRanked xs → AllByRecursion (λ x. outranks y x ≡ false) xs → IsRanked (xs ++ y ∷ [])
ranked_more [] y ranks none = (All-nil (λ later. outranks later y ≡ false), tt)
ranked_more (x ∷ xs) y ranks none = (
  All-append (λ later. outranks later x ≡ false) xs (y ∷ []) ranks.0
      (All-cons (λ later. outranks later x ≡ false) y [] none.0 (All-nil (λ later. outranks later x ≡ false))),
  ranked_more xs y ranks.1 none.1,
)

-- what outranks another claims no less
no_better : (a b : QueueRow) → queue.outranks a b ≡ true → is_better b.score a.score ≡ false
no_better a b e = at (is_better a.score b.score) (is_better b.score a.score) refl refl e where
  at : (x y : Bool) → is_better a.score b.score ≡ x → is_better b.score a.score ≡ y → (x || (not y && nat_lt a.number b.number)) ≡ true
      → is_better b.score a.score ≡ false
  at true y is_x is_y e = behind_better a.score b.score b.score is_x (no_better_than_itself b.score)
  at false false is_x is_y e = is_y
  at false true is_x is_y e = absurd (true≢false (sym e))

module _ (params : Option Params) (has_round : Bool) (places most next : ℕ) (known : List BookRow) where
  unranked : (before : List QueueRow) (row : QueueRow) → EachIs (IsSoundItem has_round places most known next) before
      → IsSoundItem has_round places most known next before row
      → AllByRecursion (λ x. outranks (submission_in params row) x ≡ false) (map (submission_in params) before)
  unranked before row each sound =
      all_mapped (λ x. outranks (submission_in params row) x ≡ false) (submission_in params) before
      (all_behind queue.outranks (λ (earlier later : QueueRow). is_better later.score earlier.score ≡ false) no_better
      (λ a b c x y. no_better_through a.score b.score c.score x y) before (λ place d few. (each place d few).rank) row sound.rank)

  rows_ranked : (rows : List QueueRow) → EachIs (IsSoundItem has_round places most known next) rows → IsRanked (map (submission_in params) rows)
  rows_ranked rows each =
      built (IsSoundItem has_round places most known next) (λ (before : List QueueRow). IsRanked (map (submission_in params) before))
      (λ before row each_earlier ranks sound.
      subst IsRanked (sym (map_put (submission_in params) before row))
      (ranked_more (map (submission_in params) before) (submission_in params row) ranks (unranked before row each_earlier sound)))
      rows tt each

  -- the next submission stands behind those before it
  pub next_ranked : (rows before rest left : List QueueRow) (row : QueueRow) → EachIs (IsSoundItem has_round places most known next) rows
      → before ++ left ≡ rows → left ≡ row ∷ rest → IsRanked (map (submission_in params) before ++ submission_in params row ∷ [])
  next_ranked rows before rest left row each is more =
      let whole : EachIs (IsSoundItem has_round places most known next) (before ++ left) = subst (EachIs (IsSoundItem has_round places most known next)) (sym is) each in
      let front = each_before (IsSoundItem has_round places most known next) before left whole in
      ranked_more (map (submission_in params) before) (submission_in params row) (rows_ranked before front)
      (unranked before row front (each_next (IsSoundItem has_round places most known next) rows before rest left row each is more))

  -- where there is a free place for it
  pub next_room : (rows before rest left : List QueueRow) (row : QueueRow) → EachIs (IsSoundItem has_round places most known next) rows
      → before ++ left ≡ rows → left ≡ row ∷ rest → length (map (submission_in params) before) < places
  next_room rows before rest left row each is more =
      let sound = each_next (IsSoundItem has_round places most known next) rows before rest left row each is more in
      omega (arith, sound.place, same before) where
        same : (before : List QueueRow) → length (map (submission_in params) before) ≡ length before
        same [] = refl
        same (x ∷ before) = ap suc (same before)

-- ## The bags, one account after the other

split_at : {A : Type 0} (n : ℕ) (xs : List A) → take n xs ++ drop n xs ≡ xs
split_at zero [] = refl
split_at zero (x ∷ xs) = refl
split_at (suc n) [] = refl
split_at (suc n) (x ∷ xs) = ap (λ l. x ∷ l) (split_at n xs)

each_taken : {A : Type 0} (Stands : List A → A → Type 0) (n : ℕ) (xs : List A) → EachIs Stands xs → EachIs Stands (take n xs)
each_taken Stands n xs each = each_before Stands (take n xs) (drop n xs) (subst (EachIs Stands) (sym (split_at n xs)) each)

module _ (thresholds : List ℕ) (known : List BookRow) (rows : List RoleRow) (each : EachIs (IsSoundRole thresholds known) rows) where
  abbrev bags_at : ℕ → Listing
  bags_at place = record { thresholds = thresholds; order = map bag_entry (take place rows) }

  -- the next account is not listed yet
  pub not_listed : (bags : Listing) (place : ℕ) (d row : RoleRow) → bags ≡ bags_at place → place < length rows → row ≡ get_or rows place d
      → is_listed bags.order row.who ≡ false
  not_listed bags place d row made few is =
      ap (λ (b : Listing). is_listed b.order row.who) made
      ∙ (listed_as (take place rows) row.who
      ∙ (ap (λ (r : RoleRow). stands_in (map (λ (e : RoleRow). e.who) (take place rows)) r.who) is ∙ (each place d few).first))

  joined_order : (place score : ℕ) (d row : RoleRow) → place < length rows → row ≡ get_or rows place d → bag_of thresholds score ≡ row.bag
      → joined (map bag_entry (take place rows)) row.who (bag_of thresholds score) ≡ map bag_entry (take (place + 1) rows)
  joined_order place score d row few is scored =
      ap (λ (n : ℕ). map bag_entry (take place rows) ++ (row.who, n) ∷ []) scored
      ∙ (sym (map_put bag_entry (take place rows) row)
      ∙ ap (map bag_entry) (ap (λ (r : RoleRow). take place rows ++ r ∷ []) is ∙ sym (take_more rows place d few)))

  -- it joins behind the others
  pub joins_more : (bags new : Listing) (place score : ℕ) (d row : RoleRow) → bags ≡ bags_at place → place < length rows → row ≡ get_or rows place d
      → bag_of thresholds score ≡ row.bag → new ≡ inserted bags row.who score → new ≡ bags_at (place + 1)
  joins_more bags new place score d row made few is scored done =
      let order = joined_order place score d row few is scored in
      let falls : NeverRises (joined (map bag_entry (take place rows)) row.who (bag_of thresholds score)) =
      subst NeverRises (sym order) (rows_fall thresholds known (take (place + 1) rows) (each_taken (IsSoundRole thresholds known) (place + 1) rows each)) in
      let numbered : All (λ (entry : AccountId × ℕ). entry.1 ≤ length thresholds) (map bag_entry (take place rows)) =
      All-map (λ (entry : AccountId × ℕ). entry.1 ≤ length thresholds) bag_entry (take place rows)
      (λ k e within. (each_taken (IsSoundRole thresholds known) place rows each k e within).bag) in
      done ∙ (ap (λ (b : Listing). inserted b row.who score) made
      ∙ (joined_last (bags_at place) row.who score falls numbered
      ∙ ap (λ (o : Order). record { thresholds = thresholds; order = o }) order))
