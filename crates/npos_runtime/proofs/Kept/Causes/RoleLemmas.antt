-- No cause stands against the roles of a sound chain.
use Rattle.std.proofs.Common.{◌≡◌, ℕ, zero, suc, ◌+◌, ◌-◌, ◌^◌, ◌≤◌, ◌<◌, Bool, true, false, cond, ◌||◌, ◌&&◌, nat_eq}
use Rattle.std.proofs.Common.{nat_lt, nat_le, is_some, if◌then◌else◌, All, List, [], ◌∷◌, length, map, filter, take}
use Rattle.std.proofs.Common.{count_by, get_or, Option, Some, None, refl, ap, sym, subst, ◌∙◌, true≢false, arith}
use Rattle.std.specs.BTreeMap.{is_at}
use Rattle.std.specs.Cmp.{IsEquivalence}
use Rattle.std.specs.List.{list_any, AllByRecursion, IsDistinct}
use Rattle.std.proofs.lemmas.Bool.Decides.{nat_tests}
use Rattle.std.proofs.lemmas.List.Elements.{All-from_recursion, All-map}
use Rattle.std.proofs.lemmas.List.Sums.{sum_by-cons, count_by-le-length}
use Rattle.std.proofs.lemmas.Map.Made.{length-le_from_is_member}
use Rattle.std.proofs.lemmas.Option.{slice_get-get_or}
use Rattle.npos_base.specs.declared.account.AccountId.{AccountId}
use Rattle.npos_base.specs.declared.limits.TheConstants.{MOST_VALIDATORS, WHOLE_FRACTION}
use Rattle.npos_base.specs.Account.{account_cmp, same_account}
use Rattle.npos_base.proofs.AccountOrder.{same_exact, same_itself}
use Rattle.stake_ledger.specs.Ledger.{row_at}
use Rattle.stake_ledger.specs.Rows as rows
use Rattle.voter_lists.specs.declared.standing.Standing.{Standing}
use Rattle.voter_lists.specs.declared.standing.Standing.TheVariants as standing
use Rattle.voter_lists.specs.Roles.{RoleList, standing_of, validators_of, is_validator_standing}
use Rattle.voter_lists.specs.Bags.{Order, number_of, is_listed, walk, bag_of}
use Rattle.chain_params.specs.Rules.{thresholds_in}
use Rattle.state_rules.specs.declared.state.RoleRow.{RoleRow}
use Rattle.state_rules.specs.declared.state.RoleKind.{RoleKind}
use Rattle.state_rules.specs.declared.state.RoleKind.TheVariants as kinds
use Rattle.state_rules.specs.Lists.{has_bad, bad_place, follows, last_of}
use Rattle.state_rules.specs.Accounts.{stands_in}
use Rattle.state_rules.specs.Known.{row_of, is_bonded}
use Rattle.state_rules.specs.Terms.{params_of}
use Rattle.state_rules.specs.Roles.{is_greatest, is_scoreless, is_validator, validators_in}
use Rattle.state_rules.specs.Sound.{EachIs, IsNomination, IsKind, IsSoundRole}
use Rattle.state_rules.proofs.SoundLemmas.{none_is, no_some}
use Rattle.npos_runtime.specs.declared.chain.Chain.{Chain}
use Rattle.npos_runtime.specs.Rules.Lists.{has_role}
use Rattle.npos_runtime.specs.Live.{IsReady}
use Rattle.npos_runtime.specs.Kept.State.{kind_in, role_row, kept, IsTold}
use Rattle.npos_runtime.specs.Kept.Chain.{IsInForm}
use Rattle.npos_runtime.specs.Kept.Sound.{IsSoundStanding, HasScore, IsSoundChain}
use Rattle.npos_runtime.proofs.Kept.FormLemmas.{distinct_once, kept_form}
use Rattle.npos_runtime.proofs.Kept.Sound.EntryLemmas.{tied, each_found}
use Rattle.npos_runtime.proofs.Kept.RowLemmas.{row_bonded, pairs_follow, pairs_apart, pairs_map, distinct_pairs}
use Rattle.npos_runtime.proofs.Kept.Causes.RowLemmas.{params_kept, turned}

-- ## Accounts that stand in a list

-- whether an account stands among those of the items
pub stands_mapped : {A : Type 0} (account : A → AccountId) (items : List A) (who : AccountId)
    → stands_in (map account items) who ≡ list_any (λ item. same_account (account item) who) items
stands_mapped account [] who = refl
stands_mapped account (item ∷ items) who = ap (λ b. same_account (account item) who || b) (stands_mapped account items who)

-- of different accounts none stands among those before it
pub none_again : {A : Type 0} (account : A → AccountId) (items : List A) → IsDistinct same_account (map account items)
    → EachIs (λ before item. stands_in (map account before) (account item) ≡ false) items
none_again account items apart place d few =
    stands_mapped account (take place items) (account (get_or items place d))
    ∙ pairs_apart (λ first later. same_account (account first) (account later) ≡ false) (λ first later. same_account (account first) (account later))
    (λ first later differ. differ) items (distinct_pairs account items apart) place d few

same_list : (accounts : List AccountId) → map (λ (who : AccountId). who) accounts ≡ accounts
same_list [] = refl
same_list (account ∷ accounts) = ap (λ l. account ∷ l) (same_list accounts)

none_twice : (accounts : List AccountId) → IsDistinct same_account accounts → has_bad stands_in accounts ≡ false
none_twice accounts apart =
    no_some (bad_place stands_in accounts)
    (none_is stands_in (λ before who. stands_in before who ≡ false) accounts (λ before who e. e)
    (λ place d few.
    ap (λ (before : List AccountId). stands_in before (get_or accounts place d)) (sym (same_list (take place accounts)))
    ∙ none_again (λ (who : AccountId). who) accounts (subst (IsDistinct same_account) (sym (same_list accounts)) apart) place d few))

none_own : (who : AccountId) (targets : List AccountId) → All (λ target. same_account target who ≡ false) targets → stands_in targets who ≡ false
none_own who [] all = refl
none_own who (target ∷ targets) all =
    ap (λ b. b || stands_in targets who) (all 0 target (omega arith)) ∙ none_own who targets (λ k d few. all (suc k) d (omega (arith, few)))

-- ## What a role says

abbrev IsFitKind : AccountId → RoleKind → Type 0
IsFitKind who (kinds.Nominator targets) = IsNomination who targets
IsFitKind who (kinds.Validator commission) = commission ≤ WHOLE_FRACTION

kind_fit : (who : AccountId) (standing : Standing) → IsSoundStanding who standing → IsFitKind who (kind_in (Some standing))
kind_fit who (standing.Nominator targets) sound = record {
  some = sound.some;
  few = sound.few;
  distinct = none_twice targets sound.distinct;
  others = none_own who targets sound.others;
}
kind_fit who (standing.Validator commission) sound = sound

kind_whole : (who : AccountId) (validators : ℕ) (role : RoleKind) → IsFitKind who role → (is_validator role ≡ true → validators < MOST_VALIDATORS)
    → IsKind who validators role
kind_whole who validators (kinds.Nominator targets) fit few = fit
kind_whole who validators (kinds.Validator commission) fit few = (fit, few refl)

-- ## Scores

full : (test : ℕ → Bool) (numbers : List ℕ) → count_by test numbers ≡ length numbers → AllByRecursion (λ n. test n ≡ true) numbers
full test [] all = tt
full test (n ∷ numbers) all = at (test n) refl (sum_by-cons (λ (m : ℕ). cond (test m) 1 0) n numbers) (λ rest. full test numbers rest) where
  at : (b : Bool) → test n ≡ b → count_by test (n ∷ numbers) ≡ cond b 1 0 + count_by test numbers
      → (count_by test numbers ≡ length numbers → AllByRecursion (λ m. test m ≡ true) numbers) → (test n ≡ true) × AllByRecursion (λ m. test m ≡ true) numbers
  at true is more rest = (is, rest (omega (arith, all, more)))
  at false is more rest = absurd (omega (arith, all, more, count_by-le-length test numbers))

below : (a b : ℕ) → nat_lt a b ≡ true → a < b
below a b e = grind (arith, nat_tests, e)

-- where a score stands behind all thresholds, the last of them is not the greatest number
last_below : (thresholds : List ℕ) (score : ℕ) → score < 2 ^ 64 → bag_of thresholds score ≡ length thresholds → is_greatest (last_of thresholds) ≡ false
last_below [] score small all = refl
last_below (first ∷ more) score small all =
    ap is_greatest (slice_get-get_or (first ∷ more) (length (first ∷ more) - 1) first (omega arith))
    ∙ not_greatest (get_or (first ∷ more) (length (first ∷ more) - 1) first) (below _ score
    (All-from_recursion (λ threshold. nat_lt threshold score ≡ true) (first ∷ more) (full (λ threshold. nat_lt threshold score) (first ∷ more) all)
    (length (first ∷ more) - 1) first (omega arith))) where
      not_greatest : (threshold : ℕ) → threshold < score → nat_eq threshold (2 ^ 64 - 1) ≡ false
      not_greatest threshold lower = grind (arith, nat_tests, lower, small)

has_score : (thresholds : List ℕ) (bag : ℕ) → HasScore thresholds bag → is_scoreless thresholds bag ≡ false
has_score thresholds bag score = at (nat_eq bag (length thresholds)) refl where
  at : (b : Bool) → nat_eq bag (length thresholds) ≡ b → (b && is_greatest (last_of thresholds)) ≡ false
  at false is = refl
  at true is =
      let behind : bag ≡ length thresholds = grind (arith, nat_tests, is) in
      last_below thresholds score.0 score.1 (score.2 ∙ behind)

-- ## How many validators stand before one

-- an item that passes a test is one more than those before it
more_before : {A : Type 0} (test : A → Bool) (items : List A) (place : ℕ) (d : A) → place < length items → test (get_or items place d) ≡ true
    → length (filter test (take place items)) < length (filter test items)
more_before test [] place d few is = absurd (omega (arith, few))
more_before test (item ∷ items) zero d few is = at (test item) is where
  at : (b : Bool) → b ≡ true → 0 < length (cond b (item ∷ filter test items) (filter test items))
  at true e = omega arith
  at false e = absurd (true≢false (sym e))
more_before test (item ∷ items) (suc place) d few is = at (test item) (more_before test items place d (omega (arith, few)) is) where
  at : (b : Bool) → length (filter test (take place items)) < length (filter test items)
      → length (cond b (item ∷ filter test (take place items)) (filter test (take place items))) < length (cond b (item ∷ filter test items) (filter test items))
  at true rest = omega (arith, rest)
  at false rest = rest

pub account_same : IsEquivalence same_account
account_same = record {
  refl = same_itself;
  symm = turned;
  congr = λ x y z is. ap (λ (a : AccountId). same_account a z) (same_exact x y is);
}

module _ (roles : RoleList) where
  abbrev validates : AccountId → Bool
  validates who = is_validator (kind_in (standing_of roles who))

  -- the rows of validators are as many as their accounts
  rows_counted : (order : Order) → length (filter (λ (role : RoleRow). is_validator role.role) (map (role_row roles) order)) ≡ length (filter validates (walk order))
  rows_counted [] = refl
  rows_counted (entry ∷ order) = at (validates entry.0) (rows_counted order) where
    at : (b : Bool) → length (filter (λ (role : RoleRow). is_validator role.role) (map (role_row roles) order)) ≡ length (filter validates (walk order))
        → length (cond b (role_row roles entry ∷ filter (λ (role : RoleRow). is_validator role.role)
        (map (role_row roles) order)) (filter (λ (role : RoleRow). is_validator role.role)
        (map (role_row roles) order)))
        ≡ length (cond b (entry.0 ∷ filter validates (walk order)) (filter validates (walk order)))
    at true rest = ap suc rest
    at false rest = rest

filter_all : (P : AccountId → Type 0) (test : AccountId → Bool) (accounts : List AccountId) → AllByRecursion P accounts → AllByRecursion P (filter test accounts)
filter_all P test [] all = tt
filter_all P test (account ∷ accounts) all = at (test account) (filter_all P test accounts all.1) where
  at : (b : Bool) → AllByRecursion P (filter test accounts) → AllByRecursion P (cond b (account ∷ filter test accounts) (filter test accounts))
  at true rest = (all.0, rest)
  at false rest = rest

filter_distinct : (test : AccountId → Bool) (accounts : List AccountId) → IsDistinct same_account accounts → IsDistinct same_account (filter test accounts)
unfolding IsDistinct
filter_distinct test [] apart = tt
filter_distinct test (account ∷ accounts) apart = at (test account) (filter_distinct test accounts apart.1) where
  at : (b : Bool) → IsDistinct same_account (filter test accounts) → IsDistinct same_account (cond b (account ∷ filter test accounts) (filter test accounts))
  at true rest = (filter_all (λ other. same_account account other ≡ false) test accounts apart.0, rest)
  at false rest = rest

-- who stands among those that pass a test passes it
passes : (test : AccountId → Bool) (accounts : List AccountId) (who : AccountId) → list_any (same_account who) (filter test accounts) ≡ true → test who ≡ true
passes test [] who e = absurd (true≢false (sym e))
passes test (account ∷ accounts) who e = at (test account) refl e (λ rest. passes test accounts who rest) where
  first : (b : Bool) → same_account who account ≡ b → test account ≡ true → (b || list_any (same_account who) (filter test accounts)) ≡ true
      → (list_any (same_account who) (filter test accounts) ≡ true → test who ≡ true) → test who ≡ true
  first true same is e rest = ap test (same_exact who account same) ∙ is
  first false same is e rest = rest e

  at : (b : Bool) → test account ≡ b → list_any (same_account who) (cond b (account ∷ filter test accounts) (filter test accounts)) ≡ true
      → (list_any (same_account who) (filter test accounts) ≡ true → test who ≡ true) → test who ≡ true
  at true is e rest = first (same_account who account) refl is e rest
  at false is e rest = rest e

either_true : (b : Bool) → (b || true) ≡ true
either_true true = refl
either_true false = refl

-- a validator stands among the validators
stands_there : (roles : RoleList) (who : AccountId) → validates roles who ≡ true → list_any (same_account who) (validators_of roles) ≡ true
stands_there [] who e = absurd (true≢false (sym e))
stands_there (entry ∷ roles) who e = at (is_at (account_cmp who) entry.0) refl e (stands_there roles who) where
  kind_is : (standing : Standing) → is_validator (kind_in (Some standing)) ≡ is_validator_standing standing
  kind_is (standing.Nominator targets) = refl
  kind_is (standing.Validator commission) = refl

  here : (b : Bool) → b ≡ true → who ≡ entry.0 → list_any (same_account who) (if b then entry.0 ∷ validators_of roles else validators_of roles) ≡ true
  here true is same = ap (λ b. b || list_any (same_account who) (validators_of roles)) (ap (same_account who) (sym same) ∙ same_itself who)
  here false is same = absurd (true≢false (sym is))

  later : (b : Bool) → list_any (same_account who) (validators_of roles) ≡ true
      → list_any (same_account who) (if b then entry.0 ∷ validators_of roles else validators_of roles) ≡ true
  later true rest = ap (λ b. same_account who entry.0 || b) rest ∙ either_true (same_account who entry.0)
  later false rest = rest

  at : (b : Bool) → is_at (account_cmp who) entry.0 ≡ b → is_validator (kind_in (cond b (Some entry.1) (standing_of roles who))) ≡ true
      → (validates roles who ≡ true → list_any (same_account who) (validators_of roles) ≡ true)
      → list_any (same_account who) (if is_validator_standing entry.1 then entry.0 ∷ validators_of roles else validators_of roles) ≡ true
  at true is e rest = here (is_validator_standing entry.1) (sym (kind_is entry.1) ∙ e) (tied who entry.0 is)
  at false is e rest = later (is_validator_standing entry.1) (rest e)

validators_few : (roles : RoleList) (order : Order) → IsDistinct same_account (walk order)
    → validators_in (map (role_row roles) order) ≤ length (validators_of roles)
validators_few roles order apart =
    let few = length-le_from_is_member account_same (filter (validates roles) (walk order)) (validators_of roles)
    (filter_distinct (validates roles) (walk order) apart)
    (λ who there. stands_there roles who (passes (validates roles) (walk order) who there)) in
    omega (arith, few, rows_counted roles order)

-- ## The roles of a chain

-- who stands in the walk is listed
pub listed_at : (order : Order) (place : ℕ) (d : AccountId × ℕ) → place < length order → is_listed order (get_or order place d).0 ≡ true
listed_at [] place d few = absurd (omega (arith, few))
listed_at (entry ∷ order) zero d few = rw (same_itself entry.0) refl
listed_at (entry ∷ order) (suc place) d few = at (same_account entry.0 (get_or order place d).0) (listed_at order place d (omega (arith, few))) where
  at : (b : Bool) → is_listed order (get_or order place d).0 ≡ true → is_some (cond b (Some entry.1) (number_of order (get_or order place d).0)) ≡ true
  at true rest = refl
  at false rest = rest

module _ (chain : Chain) (ready : IsReady chain) (told : IsTold chain) (sound : IsSoundChain chain) where
  abbrev role_rows : List RoleRow
  role_rows = map (role_row chain.roles) chain.bags.order

  abbrev IsRight : RoleRow → Type 0
  IsRight role = (is_bonded (row_of (kept chain).rows role.who) ≡ true) × IsFitKind role.who role.role

  right : (entry : AccountId × ℕ) → has_role chain.roles entry.0 ≡ true → IsRight (role_row chain.roles entry)
  right entry has = at (standing_of chain.roles entry.0) refl has where
    at : (o : Option Standing) → standing_of chain.roles entry.0 ≡ o → is_some o ≡ true → IsRight (role_row chain.roles entry)
    at None found has = absurd (true≢false (sym has))
    at (Some standing) found has = (
      row_bonded chain.book entry.0
          ∙ each_found (λ (each : AccountId × Standing). rows.is_bonded (row_at chain.book each.0) ≡ true) chain.roles sound.roles.bonded entry.0 standing found,
      subst (λ (o : Option Standing). IsFitKind entry.0 (kind_in o)) (sym found)
          (kind_fit entry.0 standing
          (each_found (λ (each : AccountId × Standing). IsSoundStanding each.0 each.1) chain.roles sound.roles.standings entry.0 standing found)),
    )

  all_right : All IsRight role_rows
  all_right =
      All-map IsRight (role_row chain.roles) chain.bags.order
      (λ k d few. right (get_or chain.bags.order k d) (sym (told.listed (get_or chain.bags.order k d).0) ∙ listed_at chain.bags.order k d few))

  apart : IsDistinct same_account (walk chain.bags.order)
  apart = distinct_once (walk chain.bags.order) ready.between.live.bags.once

  rows_apart : IsDistinct same_account (map (λ (role : RoleRow). role.who) role_rows)
  rows_apart = let form : IsInForm (kept chain) = kept_form chain ready.between told in form.roles

  numbered : All (λ (role : RoleRow). role.bag ≤ length chain.bags.thresholds) role_rows
  numbered =
      All-map (λ (role : RoleRow). role.bag ≤ length chain.bags.thresholds) (role_row chain.roles) chain.bags.order
      (λ k d few. ready.between.live.bags.numbered k d few)

  scored : All (λ (role : RoleRow). is_scoreless chain.bags.thresholds role.bag ≡ false) role_rows
  scored =
      All-map (λ (role : RoleRow). is_scoreless chain.bags.thresholds role.bag ≡ false) (role_row chain.roles) chain.bags.order
      (λ k d few. has_score chain.bags.thresholds (get_or chain.bags.order k d).1 (sound.roles.scores k d few))

  walked : EachIs (λ (before : List RoleRow) (role : RoleRow). follows (λ earlier later. nat_le later.bag earlier.bag) before role ≡ true) role_rows
  walked =
      pairs_follow (λ (first later : RoleRow). later.bag ≤ first.bag) (λ (earlier later : RoleRow). nat_le later.bag earlier.bag)
      (λ first later lower. within later.bag first.bag lower) role_rows
      (pairs_map (role_row chain.roles) (λ (first later : RoleRow). later.bag ≤ first.bag) chain.bags.order sound.roles.falling) where
        within : (a b : ℕ) → a ≤ b → nat_le a b ≡ true
        within a b h = grind (arith, nat_tests, h)

  room : (place : ℕ) (d : RoleRow) → place < length role_rows → is_validator (get_or role_rows place d).role ≡ true
      → validators_in (take place role_rows) < MOST_VALIDATORS
  room place d few is =
      let before = more_before (λ (role : RoleRow). is_validator role.role) role_rows place d few is in
      omega (arith, before, validators_few chain.roles chain.bags.order apart, most) where
        most : length (validators_of chain.roles) ≤ MOST_VALIDATORS
        most = ready.between.live.roles.ranked.few

  each_role : EachIs (IsSoundRole chain.bags.thresholds (kept chain).rows) role_rows
  each_role place d few = record {
    bonded = (all_right place d few).0;
    first = none_again (λ (role : RoleRow). role.who) role_rows rows_apart place d few;
    bag = numbered place d few;
    scores = scored place d few;
    walk = walked place d few;
    kind = kind_whole (get_or role_rows place d).who (validators_in (take place role_rows)) (get_or role_rows place d).role (all_right place d few).1
        (room place d few);
  }

  pub sound_roles : EachIs (IsSoundRole (thresholds_in (params_of (kept chain))) (kept chain).rows) (kept chain).roles
  sound_roles =
      subst (λ (thresholds : List ℕ). EachIs (IsSoundRole thresholds (kept chain).rows) role_rows)
      (told.params.thresholds ∙ ap thresholds_in (sym (params_kept chain))) each_role
