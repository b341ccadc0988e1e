-- The roles and the bags of a chain that goes on from a state.
use Rattle.std.proofs.Common.{◌≡◌, ℕ, zero, suc, ◌+◌, ◌-◌, ◌^◌, ◌≤◌, ◌<◌, Bool, true, false, not, cond, ◌&&◌, nat_eq}
use Rattle.std.proofs.Common.{nat_lt, nat_le, if◌then◌else◌, IfSome, All, List, [], ◌∷◌, length, map, filter, fold}
use Rattle.std.proofs.Common.{take, get_or, Option, Some, None, option_map, refl, ap, sym, subst, ◌∙◌, arith}
use Rattle.std.specs.BTreeMap.{insert_entry, is_at}
use Rattle.std.specs.BTreeSet.{insert_key}
use Rattle.std.specs.Set.{remove_key}
use Rattle.std.specs.List.{AllByRecursion, IsDistinct}
use Rattle.std.specs.Ordering.{match_ordering}
use Rattle.std.specs.declared.cmp.Ordering.{Ordering}
use Rattle.std.specs.declared.cmp.Ordering.TheVariants.{Less, Equal, Greater}
use Rattle.std.proofs.lemmas.Bool.{le-ltb, lt-leb, lt-ltb}
use Rattle.std.proofs.lemmas.Bool.Decides.{nat_tests}
use Rattle.std.proofs.lemmas.List.Elements.{All-nil, All-cons, All-head, All-tail, All-map, All-from_recursion}
use Rattle.std.proofs.lemmas.Option.{slice_get-get_or}
use Rattle.npos_base.specs.declared.account.AccountId.{AccountId}
use Rattle.npos_base.specs.declared.limits.TheConstants.{MOST_VALIDATORS, WHOLE_FRACTION}
use Rattle.npos_base.specs.Account.{account_cmp, same_account}
use Rattle.npos_base.proofs.AccountOrder.{account_total, account_exact, same_exact}
use Rattle.npos_base.proofs.EntryLemmas.{sorted_put}
use Rattle.block_wire.specs.declared.genesis.Params.{Params}
use Rattle.scale_wire.specs.Composite.{pair}
use Rattle.scale_wire.specs.Parts.{compact_u32}
use Rattle.block_wire.specs.Genesis.{params_form}
use Rattle.stake_ledger.specs.Ledger.{row_at}
use Rattle.stake_ledger.specs.Rows as rows
use Rattle.voter_lists.specs.declared.refusal.ListRefusal.TheVariants.{TooManyValidators}
use Rattle.voter_lists.specs.declared.standing.Standing.{Standing}
use Rattle.voter_lists.specs.declared.standing.Standing.TheVariants as standing
use Rattle.voter_lists.specs.declared.standing.Role.TheVariants as role
use Rattle.voter_lists.specs.Roles.{RoleList, role_in, role_of, targets_in, standing_of, with_standing, validators_of, is_validator, nominated_by, validate_refusal}
use Rattle.voter_lists.specs.Ranked.{AreRanked}
use Rattle.voter_lists.specs.Taken as taken
use Rattle.voter_lists.specs.Bags.{bag_of, walk, IsRisingFrom}
use Rattle.voter_lists.proofs.ValidatorLemmas.{length_removed, length_inserted, ranked_nominating, ranked_validating}
use Rattle.voter_lists.proofs.RoleLemmas.{sound_none, sound_put}
use Rattle.voter_lists.proofs.RepeatLemmas.{distinct_to}
use Rattle.voter_lists.proofs.ScoreLemmas.{count_first}
use Rattle.chain_params.specs.Rules.{thresholds_in}
use Rattle.chain_params.specs.Faults.{AreSound}
use Rattle.state_rules.specs.declared.state.State.{State}
use Rattle.state_rules.specs.declared.state.RoleRow.{RoleRow}
use Rattle.state_rules.specs.declared.state.RoleKind.{RoleKind}
use Rattle.state_rules.specs.declared.state.RoleKind.TheVariants as kinds
use Rattle.state_rules.specs.Lists.{last_of}
use Rattle.state_rules.specs.Roles.{is_greatest, is_scoreless, validators_in}
use Rattle.state_rules.specs.Roles as rule_roles
use Rattle.state_rules.specs.Sound as rule
use Rattle.npos_runtime.specs.Rules.Ballots.{commission_in}
use Rattle.npos_runtime.specs.Kept.State.{IsTold}
use Rattle.state_rules.specs.Terms.{params_of}
use Rattle.npos_runtime.specs.Kept.Chain.{standing_in, with_role, roles_in, bag_entry, chain_of}
use Rattle.npos_runtime.specs.Live.{times, IsOnce, IsListing, IsNomination, AreRoles}
use Rattle.npos_runtime.specs.Kept.Sound.{IsSoundStanding, HasScore, AreSoundRoles}
use Rattle.npos_runtime.proofs.Rules.BeginLemmas.{rising_params}
use Rattle.npos_runtime.proofs.Kept.RowLemmas.{pairs_map}
use Rattle.npos_runtime.proofs.Rules.ListLemmas.{times_cons}
use Rattle.npos_runtime.proofs.Kept.Sound.EntryLemmas.{each_found}
use Rattle.npos_runtime.proofs.Kept.Causes.RowLemmas.{turned}
use Rattle.npos_runtime.proofs.Kept.Restored.ListLemmas.{none_passes, follow_pairs, new_distinct, each_new}
use Rattle.npos_runtime.proofs.Kept.Restored.BookLemmas.{state_bonded}

-- ## What each role says

-- what holds of a standing that is taken, and of all before, holds of all
put_all : (P : AccountId × Standing → Type 0) (who : AccountId) (given : Standing) (roles : RoleList) → P (who, given) → All P roles
    → All P (with_standing roles who given)
put_all P who one [] here all = All-cons P (who, one) [] here (All-nil P)
put_all P who one (entry ∷ roles) here all = at (account_cmp who entry.0) refl (put_all P who one roles here (All-tail P entry roles all)) where
  at : (r : Ordering) → account_cmp who entry.0 ≡ r → All P (with_standing roles who one)
      → All P (match_ordering r ((who, one) ∷ entry ∷ roles) ((entry.0, one) ∷ roles) (entry ∷ insert_entry account_cmp roles who one))
  at Less is rest = All-cons P (who, one) (entry ∷ roles) here all
  at Equal is rest = All-cons P (entry.0, one) roles (subst (λ (a : AccountId). P (a, one)) (account_exact who entry.0 is) here) (All-tail P entry roles all)
  at Greater is rest = All-cons P entry (insert_entry account_cmp roles who one) (All-head P entry roles all) rest

rows_all : (P : AccountId × Standing → Type 0) (role_rows : List RoleRow) (old : RoleList) → All (λ row. P (row.who, standing_in row.role)) role_rows → All P old
    → All P (fold with_role old role_rows)
rows_all P [] old each all = all
rows_all P (row ∷ role_rows) old each all =
    rows_all P role_rows (with_role old row) (All-tail (λ (one : RoleRow). P (one.who, standing_in one.role)) row role_rows each)
    (put_all P row.who (standing_in row.role) old (All-head (λ (one : RoleRow). P (one.who, standing_in one.role)) row role_rows each) all)

sound_standing : (who : AccountId) (validators : ℕ) (kind : RoleKind) → rule.IsKind who validators kind → IsSoundStanding who (standing_in kind)
sound_standing who validators (kinds.Nominator targets) is = record {
  some = is.some;
  few = is.few;
  distinct = each_new targets is.distinct;
  others = none_passes (λ target. same_account target who) targets is.others;
}
sound_standing who validators (kinds.Validator commission) is = is.0

-- ## How many validators there are

abbrev one : Bool → ℕ
one b = cond b 1 0

never : {A : Type 0} (b : Bool) (x : A) → (if b && false then Some x else None) ≡ None
never true x = refl
never false x = refl

may_validate : (old : RoleList) (who : AccountId) (commission : ℕ) → commission ≤ WHOLE_FRACTION → length (validators_of old) < MOST_VALIDATORS
    → validate_refusal old who commission ≡ None
may_validate old who commission within room =
    rw (le-ltb WHOLE_FRACTION commission within, lt-leb MOST_VALIDATORS (length (validators_of old)) room) (never (not (is_validator old who)) TooManyValidators)

ranked_of : (roles : RoleList) → taken.AreSound roles → AreRanked roles (validators_of roles)
ranked_of roles sound = record { rising = sound.rising; ranked = refl; few = sound.few }

-- a role is taken, and there is at most one validator more
module _ (old : RoleList) (who : AccountId) (sound : taken.AreSound old) where
  taken_role : (kind : RoleKind) (validators : ℕ) → rule.IsKind who validators kind → length (validators_of old) ≤ validators
      → taken.AreSound (with_standing old who (standing_in kind))
  taken_role (kinds.Nominator targets) validators is few =
      sound_put old who role.Nominator targets sound record {
        some = is.some;
        few = is.few;
        distinct = distinct_to targets (each_new targets is.distinct);
        others = is.others;
      }
  taken_role (kinds.Validator commission) validators is few =
      sound_put old who (role.Validator commission) [] sound (may_validate old who commission is.0 (omega (arith, is.1, few)))

  one_more : (kind : RoleKind) (validators : ℕ) → rule.IsKind who validators kind → length (validators_of old) ≤ validators
      → length (validators_of (with_standing old who (standing_in kind))) ≤ length (validators_of old) + one (rule_roles.is_validator kind)
  one_more (kinds.Nominator targets) validators is few =
      let now : List AccountId = remove_key (is_at (account_cmp who)) (validators_of old) in
      let ranked = ranked_nominating who targets old (with_standing old who (standing.Nominator targets)) (validators_of old) now (ranked_of old sound) refl
      (sorted_put account_total who (standing.Nominator targets) old sound.rising) refl in
      omega (arith, ap length ranked.ranked, length_removed (is_at (account_cmp who)) (validators_of old))
  one_more (kinds.Validator commission) validators is few =
      let now : List AccountId = insert_key account_cmp (validators_of old) who in
      let ranked = ranked_validating who commission old (with_standing old who (standing.Validator commission)) (validators_of old) now (ranked_of old sound)
      (λ absent. omega (arith, is.1, few)) refl (sorted_put account_total who (standing.Validator commission) old sound.rising) refl in
      omega (arith, ap length ranked.ranked, length_inserted who (validators_of old))

more_validators : (row : RoleRow) (role_rows : List RoleRow) → validators_in (row ∷ role_rows) ≡ one (rule_roles.is_validator row.role) + validators_in role_rows
more_validators row role_rows = at (rule_roles.is_validator row.role) where
  rest : List RoleRow
  rest = filter (λ (each : RoleRow). rule_roles.is_validator each.role) role_rows

  at : (b : Bool) → length (cond b (row ∷ rest) rest) ≡ one b + length rest
  at true = omega arith
  at false = omega arith

taken_rows : (count : ℕ) (role_rows : List RoleRow) (old : RoleList) → taken.AreSound old → length (validators_of old) ≤ count
    → ((place : ℕ) (d : RoleRow) → place < length role_rows
    → rule.IsKind (get_or role_rows place d).who (count + validators_in (take place role_rows)) (get_or role_rows place d).role)
    → taken.AreSound (fold with_role old role_rows)
taken_rows count [] old sound few each = sound
taken_rows count (row ∷ role_rows) old sound few each =
    taken_rows (count + one (rule_roles.is_validator row.role)) role_rows (with_role old row)
    (taken_role old row.who sound row.role (count + 0) here (omega (arith, few)))
    (omega (arith, few, one_more old row.who sound row.role (count + 0) here (omega (arith, few))))
    (λ place d within.
    subst (λ (n : ℕ). rule.IsKind (get_or role_rows place d).who n (get_or role_rows place d).role)
    (omega (arith, more_validators row (take place role_rows))) (each (suc place) d (omega (arith, within)))) where
      here : rule.IsKind row.who (count + 0) row.role
      here = each 0 row (omega arith)

-- ## Accounts that stand once

none_again : (who : AccountId) (accounts : List AccountId) → AllByRecursion (λ other. same_account who other ≡ false) accounts → times who accounts ≡ 0
none_again who [] all = refl
none_again who (account ∷ accounts) all =
    omega (arith, times_cons who account accounts, ap one (turned account who ∙ all.0), none_again who accounts all.1)

once : (accounts : List AccountId) → IsDistinct same_account accounts → IsOnce accounts
unfolding IsDistinct
once [] distinct who = omega arith
once (account ∷ accounts) distinct who = at (same_account account who) refl (once accounts distinct.1 who) where
  at : (b : Bool) → same_account account who ≡ b → times who accounts ≤ 1 → times who (account ∷ accounts) ≤ 1
  at true is rest =
      let same : account ≡ who = same_exact account who is in
      let none : times who accounts ≡ 0 = subst (λ (a : AccountId). times a accounts ≡ 0) same (none_again account accounts distinct.0) in
      omega (arith, times_cons who account accounts, ap one is, none)
  at false is rest = omega (arith, times_cons who account accounts, ap one is, rest)

walk_rows : (role_rows : List RoleRow) → map (λ (row : RoleRow). row.who) role_rows ≡ walk (map bag_entry role_rows)
walk_rows [] = refl
walk_rows (row ∷ role_rows) = ap (λ (more : List AccountId). row.who ∷ more) (walk_rows role_rows)

-- ## Scores

same_default : (numbers : List ℕ) (k d e : ℕ) → k < length numbers → get_or numbers k d ≡ get_or numbers k e
same_default [] k d e within = absurd (omega (arith, within))
same_default (n ∷ numbers) zero d e within = refl
same_default (n ∷ numbers) (suc k) d e within = same_default numbers k d e (omega (arith, within))

above : (low : ℕ) (numbers : List ℕ) → IsRisingFrom low numbers → (j e : ℕ) → j < length numbers → low < get_or numbers j e
above low [] rising j e within = absurd (omega (arith, within))
above low (n ∷ numbers) rising zero e within = rising.0
above low (n ∷ numbers) rising (suc j) e within = omega (arith, above n numbers rising.1 j e (omega (arith, within)), rising.0)

strictly : (low : ℕ) (numbers : List ℕ) → IsRisingFrom low numbers → (i j d e : ℕ) → i < j → j < length numbers → get_or numbers i d < get_or numbers j e
strictly low [] rising i j d e lt within = absurd (omega (arith, within))
strictly low (n ∷ numbers) rising i zero d e lt within = absurd (omega (arith, lt))
strictly low (n ∷ numbers) rising zero (suc j) d e lt within = above n numbers rising.1 j e (omega (arith, within))
strictly low (n ∷ numbers) rising (suc i) (suc j) d e lt within = strictly n numbers rising.1 i j d e (omega (arith, lt)) (omega (arith, within))

module _ (thresholds : List ℕ) where
  -- the threshold behind a bag is a score of it
  score_below : IsRisingFrom 0 thresholds → (bag : ℕ) → bag < length thresholds → bag_of thresholds (get_or thresholds bag 0) ≡ bag
  score_below rising bag within =
      count_first (λ threshold. nat_lt threshold (get_or thresholds bag 0)) thresholds bag (omega (arith, within))
      (λ k d lt. lt-ltb _ _ (strictly 0 thresholds rising k bag d 0 lt within))
      (λ k d le lt. le-ltb (get_or thresholds k d) (get_or thresholds bag 0) (later k d le lt (nat_eq bag k) refl)) where
        later : (k d : ℕ) → bag ≤ k → k < length thresholds → (b : Bool) → nat_eq bag k ≡ b → get_or thresholds bag 0 ≤ get_or thresholds k d
        later k d le lt true is =
            let same : bag ≡ k = grind (arith, nat_tests, is) in
            omega (arith, ap (λ (n : ℕ). get_or thresholds n 0) same, same_default thresholds k 0 d lt)
        later k d le lt false is = omega (arith, strictly 0 thresholds rising bag k 0 d (grind (arith, nat_tests, is, le)) lt)

  -- where the last threshold is not the greatest number, that is a score of the last bag
  score_last : IsRisingFrom 0 thresholds → All (λ threshold. threshold < 2 ^ 64) thresholds → is_greatest (last_of thresholds) ≡ false
      → bag_of thresholds (2 ^ 64 - 1) ≡ length thresholds
  score_last rising small none =
      count_first (λ threshold. nat_lt threshold (2 ^ 64 - 1)) thresholds (length thresholds) (omega arith)
      (λ k d lt. lt-ltb (get_or thresholds k d) (2 ^ 64 - 1) (below k d lt (nat_lt k (length thresholds - 1)) refl)) (λ k d le lt. absurd (omega (arith, le, lt))) where
        last_small : (d : ℕ) → 0 < length thresholds → get_or thresholds (length thresholds - 1) d < 2 ^ 64 - 1
        last_small d some =
            let not_greatest : nat_eq (get_or thresholds (length thresholds - 1) d) (2 ^ 64 - 1) ≡ false =
            sym (ap is_greatest (slice_get-get_or thresholds (length thresholds - 1) d (omega (arith, some)))) ∙ none in
            grind (arith, nat_tests, not_greatest, small (length thresholds - 1) d (omega (arith, some)))

        below : (k d : ℕ) → k < length thresholds → (b : Bool) → nat_lt k (length thresholds - 1) ≡ b → get_or thresholds k d < 2 ^ 64 - 1
        below k d lt true is =
            omega (arith, strictly 0 thresholds rising k (length thresholds - 1) d d (grind (arith, nat_tests, is)) (omega (arith, lt)), last_small d (omega (arith, lt)))
        below k d lt false is =
            let same : k ≡ length thresholds - 1 = grind (arith, nat_tests, is, lt) in
            omega (arith, ap (λ (n : ℕ). get_or thresholds n d) same, last_small d (omega (arith, lt)))

  some_score : IsRisingFrom 0 thresholds → All (λ threshold. threshold < 2 ^ 64) thresholds → (bag : ℕ) → bag ≤ length thresholds
      → is_scoreless thresholds bag ≡ false → HasScore thresholds bag
  some_score rising small bag within scores = at (nat_eq bag (length thresholds)) refl scores where
    at : (b : Bool) → nat_eq bag (length thresholds) ≡ b → (b && is_greatest (last_of thresholds)) ≡ false → HasScore thresholds bag
    at true is none =
        let last : bag ≡ length thresholds = grind (arith, nat_tests, is) in (2 ^ 64 - 1, omega arith, score_last rising small none ∙ sym last)
    at false is none =
        let earlier : bag < length thresholds = grind (arith, nat_tests, is, within) in
        (get_or thresholds bag 0, small bag 0 earlier, score_below rising bag earlier)

thresholds_small : (terms : Option (Params × ℕ)) → IfSome terms (pair params_form compact_u32).in_range
    → All (λ threshold. threshold < 2 ^ 64) (thresholds_in (option_map (λ (both : Params × ℕ). both.0) terms))
thresholds_small None fits = All-nil (λ threshold. threshold < 2 ^ 64)
thresholds_small (Some terms) fits = All-from_recursion (λ threshold. threshold < 2 ^ 64) terms.0.thresholds fits.0.1.1

-- ## The roles of the chain

module _ (state : State) (sound : rule.IsSoundState state) where
  pub roles_apart : IsDistinct same_account (map (λ (row : RoleRow). row.who) state.roles)
  roles_apart = new_distinct (λ (row : RoleRow). row.who) state.roles (λ k d few. (sound.roles k d few).first)

  abbrev roles : RoleList
  roles = roles_in state.roles

  standings : All (λ entry. IsSoundStanding entry.0 entry.1) roles
  standings =
      rows_all (λ entry. IsSoundStanding entry.0 entry.1) state.roles []
      (λ k d few. sound_standing (get_or state.roles k d).who (validators_in (take k state.roles)) (get_or state.roles k d).role (sound.roles k d few).kind)
      (All-nil (λ entry. IsSoundStanding entry.0 entry.1))

  bonded : All (λ entry. rows.is_bonded (row_at (chain_of state).book entry.0) ≡ true) roles
  bonded =
      rows_all (λ entry. rows.is_bonded (row_at (chain_of state).book entry.0) ≡ true) state.roles []
      (λ k d few. state_bonded state (get_or state.roles k d).who ∙ (sound.roles k d few).bonded)
      (All-nil (λ entry. rows.is_bonded (row_at (chain_of state).book entry.0) ≡ true))

  all_taken : taken.AreSound roles
  all_taken =
      taken_rows 0 state.roles [] sound_none (omega arith)
      (λ k d few.
      let counted : validators_in (take k state.roles) ≡ 0 + validators_in (take k state.roles) = omega arith in
      subst (λ (n : ℕ). rule.IsKind (get_or state.roles k d).who n (get_or state.roles k d).role) counted (sound.roles k d few).kind)

  pub restored_roles : AreRoles roles
  restored_roles = record {
    ranked = ranked_of roles all_taken;
    nominations = λ who. nomination who (standing_of roles who) refl;
    commissions = λ who. commission who (standing_of roles who) refl;
  } where
    of_account : (who : AccountId) (is : Standing) → standing_of roles who ≡ Some is → IsSoundStanding who is
    of_account who is found = each_found (λ (entry : AccountId × Standing). IsSoundStanding entry.0 entry.1) roles standings who is found

    nominates : (who : AccountId) (is : Standing) → IsSoundStanding who is → IsNomination (targets_in (Some is))
    nominates who (standing.Nominator targets) right = record { few = right.few; distinct = distinct_to targets right.distinct }
    nominates who (standing.Validator share) right = record { few = omega arith; distinct = refl }

    nomination : (who : AccountId) (found : Option Standing) → standing_of roles who ≡ found → IsNomination (nominated_by roles who)
    nomination who None found = subst (λ (o : Option Standing). IsNomination (targets_in o)) (sym found) (record { few = omega arith; distinct = refl })
    nomination who (Some is) found = subst (λ (o : Option Standing). IsNomination (targets_in o)) (sym found) (nominates who is (of_account who is found))

    shares : (who : AccountId) (is : Standing) → IsSoundStanding who is → commission_in (role_in (Some is)) ≤ WHOLE_FRACTION
    shares who (standing.Nominator targets) right = omega arith
    shares who (standing.Validator share) right = right

    commission : (who : AccountId) (found : Option Standing) → standing_of roles who ≡ found → commission_in (role_of roles who) ≤ WHOLE_FRACTION
    commission who None found = subst (λ (o : Option Standing). commission_in (role_in o) ≤ WHOLE_FRACTION) (sym found) (omega arith)
    commission who (Some is) found = subst (λ (o : Option Standing). commission_in (role_in o) ≤ WHOLE_FRACTION) (sym found) (shares who is (of_account who is found))

  pub restored_bags : IsTold (chain_of state) → IsListing roles (chain_of state).bags
  restored_bags told = record {
    listed = told.listed;
    once = once (walk (map bag_entry state.roles)) (subst (IsDistinct same_account) (walk_rows state.roles) roles_apart);
    numbered = All-map (λ (entry : AccountId × ℕ). entry.1 ≤ length (thresholds_in (params_of state))) bag_entry state.roles
        (λ k d few. (sound.roles k d few).bag);
  }

  pub restored_sound_roles : AreSound (params_of state) → IfSome state.params (pair params_form compact_u32).in_range → AreSoundRoles (chain_of state)
  restored_sound_roles params fits = record {
    bonded = bonded;
    standings = standings;
    falling = pairs_map bag_entry (λ (first later : AccountId × ℕ). later.1 ≤ first.1) state.roles
        (follow_pairs (λ (first later : RoleRow). later.bag ≤ first.bag) (λ first next later one two. omega (arith, one, two))
        (λ first later. nat_le later.bag first.bag) (λ first later is. under later.bag first.bag is) state.roles (λ k d few. (sound.roles k d few).walk));
    scores = All-map (λ (entry : AccountId × ℕ). HasScore thresholds entry.1) bag_entry state.roles
        (λ k d few. some_score thresholds (rising_params (params_of state) thresholds params refl) (thresholds_small state.params fits)
        (get_or state.roles k d).bag (sound.roles k d few).bag (sound.roles k d few).scores);
  } where
    thresholds : List ℕ
    thresholds = thresholds_in (params_of state)

    under : (a b : ℕ) → nat_le a b ≡ true → a ≤ b
    under a b e = grind (arith, nat_tests, e)
