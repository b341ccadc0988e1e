-- The validators by rising account, after one standing is set or taken away.
use Rattle.std.proofs.Common.{◌≡◌, ℕ, suc, ◌+◌, ◌<◌, ◌≤◌, Bool, true, false, cond, List, [], ◌∷◌, length, refl, ap, sym, ◌∙◌, subst, arith, Some, None, true≢false, if◌then◌else◌}
use Rattle.std.specs.BTreeMap.{insert_entry, is_at}
use Rattle.std.specs.BTreeSet.{insert_key}
use Rattle.std.specs.Set.{remove_key}
use Rattle.std.specs.Map.{lookup, keys_of, remove_entry}
use Rattle.std.specs.List.{AllByRecursion}
use Rattle.std.specs.List.Sorted.{IsStrictlySortedBy}
use Rattle.std.specs.Ordering.{match_ordering, is_eq}
use Rattle.std.specs.declared.cmp.Ordering.{Ordering}
use Rattle.std.specs.declared.cmp.Ordering.TheVariants.{Less, Equal, Greater}
use Rattle.npos_base.specs.declared.account.AccountId.{AccountId}
use Rattle.npos_base.specs.Account.{account_cmp}
use Rattle.npos_base.proofs.AccountOrder.{account_total, account_exact, account_apart}
use Rattle.npos_base.proofs.EntryLemmas.{lookup_other}
use Rattle.voter_lists.proofs.StandingLemmas.{standing_left}
use Rattle.voter_lists.specs.declared.standing.Standing.{Standing}
use Rattle.voter_lists.specs.declared.standing.Standing.TheVariants.{Nominator, Validator}
use Rattle.voter_lists.specs.Ranked.{AreRanked}
use Rattle.voter_lists.specs.Roles.{KeepsOthers, RoleList, with_standing, without_role, validators_of, is_validator_standing, is_validator_in, is_validator}

module _ (who : AccountId) where
  all_below : (e : AccountId) (ks : List AccountId) → account_cmp who e ≡ Less → AllByRecursion (λ y. account_cmp e y ≡ Less) ks → AllByRecursion (λ y. account_cmp who y ≡ Less) ks
  all_below e [] is all = all
  all_below e (y ∷ ys) is all = (account_total.trans who e y is all.0, all_below e ys is all.1)

  pub all_same : (e : AccountId) (ks : List AccountId) → account_cmp who e ≡ Equal → AllByRecursion (λ y. account_cmp e y ≡ Less) ks → AllByRecursion (λ y. account_cmp who y ≡ Less) ks
  all_same e [] is all = all
  all_same e (y ∷ ys) is all = (account_total.congr who e y is ∙ all.0, all_same e ys is all.1)

  -- below all accounts of the list, it goes to the front and is not there yet
  first : (rows : RoleList) → AllByRecursion (λ y. account_cmp who y ≡ Less) (keys_of rows) → insert_key account_cmp (validators_of rows) who ≡ who ∷ validators_of rows
  first [] all = refl
  first (row ∷ rows) all = at (is_validator_standing row.1) (first rows all.1) where
    at : (b : Bool) → insert_key account_cmp (validators_of rows) who ≡ who ∷ validators_of rows
        → insert_key account_cmp (if b then row.0 ∷ validators_of rows else validators_of rows) who
        ≡ who ∷ (if b then row.0 ∷ validators_of rows else validators_of rows)
    at true rest = rw all.0 refl
    at false rest = rest

  absent : (rows : RoleList) → AllByRecursion (λ y. account_cmp who y ≡ Less) (keys_of rows) → remove_key (is_at (account_cmp who)) (validators_of rows) ≡ validators_of rows
  absent [] all = refl
  absent (row ∷ rows) all = at (is_validator_standing row.1) (absent rows all.1) where
    at : (b : Bool) → remove_key (is_at (account_cmp who)) (validators_of rows) ≡ validators_of rows
        → remove_key (is_at (account_cmp who)) (if b then row.0 ∷ validators_of rows else validators_of rows)
        ≡ (if b then row.0 ∷ validators_of rows else validators_of rows)
    at true rest = rw all.0 (ap (λ vs. row.0 ∷ vs) rest)
    at false rest = rest

  pub unlisted : (rows : RoleList) → AllByRecursion (λ y. account_cmp who y ≡ Less) (keys_of rows) → lookup (is_at (account_cmp who)) rows ≡ None
  unlisted [] all = refl
  unlisted (row ∷ rows) all = rw all.0 (unlisted rows all.1)

  module _ (commission : ℕ) where
    -- a validator enters the validators
    validating_at : (row : AccountId × Standing) (rows : RoleList) (r : Ordering) → account_cmp who row.0 ≡ r → IsStrictlySortedBy account_cmp (keys_of (row ∷ rows))
        → validators_of (insert_entry account_cmp rows who (Validator commission)) ≡ insert_key account_cmp (validators_of rows) who
        → validators_of (match_ordering r ((who, Validator commission) ∷ row ∷ rows) ((row.0, Validator commission) ∷ rows) (row ∷ insert_entry account_cmp rows who (Validator commission)))
        ≡ insert_key account_cmp (validators_of (row ∷ rows)) who
    unfolding IsStrictlySortedBy
    validating_at row rows Less is s rest = sym (first (row ∷ rows) (is, all_below row.0 (keys_of rows) is s.0))
    validating_at row rows Equal is s rest = at (is_validator_standing row.1) where
      at : (b : Bool) → row.0 ∷ validators_of rows ≡ insert_key account_cmp (if b then row.0 ∷ validators_of rows else validators_of rows) who
      at true = rw is refl
      at false = ap (λ account. account ∷ validators_of rows) (sym (account_exact who row.0 is)) ∙ sym (first rows (all_same row.0 (keys_of rows) is s.0))
    validating_at row rows Greater is s rest = at (is_validator_standing row.1) where
      at : (b : Bool) → (if b then row.0 ∷ validators_of (insert_entry account_cmp rows who (Validator commission)) else validators_of (insert_entry account_cmp rows who (Validator commission)))
          ≡ insert_key account_cmp (if b then row.0 ∷ validators_of rows else validators_of rows) who
      at true = rw is (ap (λ vs. row.0 ∷ vs) rest)
      at false = rest

    pub validators_with : (rows : RoleList) → IsStrictlySortedBy account_cmp (keys_of rows)
        → validators_of (insert_entry account_cmp rows who (Validator commission))
        ≡ insert_key account_cmp (validators_of rows) who
    unfolding IsStrictlySortedBy
    validators_with [] s = refl
    validators_with (row ∷ rows) s = validating_at row rows (account_cmp who row.0) refl s (validators_with rows s.1)

    -- and is not counted twice
    counted_at : (row : AccountId × Standing) (rows : RoleList) (r : Ordering) → account_cmp who row.0 ≡ r → IsStrictlySortedBy account_cmp (keys_of (row ∷ rows))
        → (is_validator rows who ≡ true → length (validators_of (insert_entry account_cmp rows who (Validator commission))) ≡ length (validators_of rows))
        → is_validator_in (cond (is_eq r) (Some row.1) (lookup (is_at (account_cmp who)) rows)) ≡ true
        → length (validators_of (match_ordering r ((who, Validator commission) ∷ row ∷ rows) ((row.0, Validator commission) ∷ rows) (row ∷ insert_entry account_cmp rows who (Validator commission))))
        ≡ length (validators_of (row ∷ rows))
    unfolding IsStrictlySortedBy
    counted_at row rows Less is s rest valid = absurd (true≢false (sym valid ∙ ap is_validator_in (unlisted rows (all_below row.0 (keys_of rows) is s.0))))
    counted_at row rows Equal is s rest valid = rw valid refl
    counted_at row rows Greater is s rest valid = at (is_validator_standing row.1) where
      at : (b : Bool) → length (if b then row.0 ∷ validators_of (insert_entry account_cmp rows who
          (Validator commission)) else validators_of (insert_entry account_cmp rows who (Validator commission)))
          ≡ length (if b then row.0 ∷ validators_of rows else validators_of rows)
      at true = ap suc (rest valid)
      at false = rest valid

    pub counted_once : (rows : RoleList) → IsStrictlySortedBy account_cmp (keys_of rows) → is_validator rows who ≡ true
        → length (validators_of (insert_entry account_cmp rows who (Validator commission))) ≡ length (validators_of rows)
    unfolding IsStrictlySortedBy
    counted_once [] s valid = absurd (true≢false (sym valid))
    counted_once (row ∷ rows) s valid = counted_at row rows (account_cmp who row.0) refl s (counted_once rows s.1) valid

  -- who is no validator is not among them
  staying_at : (row : AccountId × Standing) (rows : RoleList) (r : Ordering) → account_cmp who row.0 ≡ r → IsStrictlySortedBy account_cmp (keys_of (row ∷ rows))
      → (is_validator rows who ≡ false → remove_key (is_at (account_cmp who)) (validators_of rows) ≡ validators_of rows)
      → is_validator_in (cond (is_eq r) (Some row.1) (lookup (is_at (account_cmp who)) rows)) ≡ false
      → remove_key (is_at (account_cmp who)) (validators_of (row ∷ rows)) ≡ validators_of (row ∷ rows)
  unfolding IsStrictlySortedBy
  staying_at row rows Less is s rest none = absent (row ∷ rows) (is, all_below row.0 (keys_of rows) is s.0)
  staying_at row rows Equal is s rest none = rw none (absent rows (all_same row.0 (keys_of rows) is s.0))
  staying_at row rows Greater is s rest none = at (is_validator_standing row.1) where
    at : (b : Bool) → remove_key (is_at (account_cmp who)) (if b then row.0 ∷ validators_of rows else validators_of rows) ≡ (if b then row.0 ∷ validators_of rows else validators_of rows)
    at true = rw is (ap (λ vs. row.0 ∷ vs) (rest none))
    at false = rest none

  pub not_among : (rows : RoleList) → IsStrictlySortedBy account_cmp (keys_of rows) → is_validator rows who ≡ false → remove_key (is_at (account_cmp who)) (validators_of rows) ≡ validators_of rows
  unfolding IsStrictlySortedBy
  not_among [] s none = refl
  not_among (row ∷ rows) s none = staying_at row rows (account_cmp who row.0) refl s (not_among rows s.1) none

  -- a nominator leaves the validators
  module _ (targets : List AccountId) where
    nominating_at : (row : AccountId × Standing) (rows : RoleList) (r : Ordering) → account_cmp who row.0 ≡ r → IsStrictlySortedBy account_cmp (keys_of (row ∷ rows))
        → validators_of (insert_entry account_cmp rows who (Nominator targets)) ≡ remove_key (is_at (account_cmp who)) (validators_of rows)
        → validators_of (match_ordering r ((who, Nominator targets) ∷ row ∷ rows) ((row.0, Nominator targets) ∷ rows) (row ∷ insert_entry account_cmp rows who (Nominator targets)))
        ≡ remove_key (is_at (account_cmp who)) (validators_of (row ∷ rows))
    unfolding IsStrictlySortedBy
    nominating_at row rows Less is s rest = sym (absent (row ∷ rows) (is, all_below row.0 (keys_of rows) is s.0))
    nominating_at row rows Equal is s rest = at (is_validator_standing row.1) where
      at : (b : Bool) → validators_of rows ≡ remove_key (is_at (account_cmp who)) (if b then row.0 ∷ validators_of rows else validators_of rows)
      at true = rw is refl
      at false = sym (absent rows (all_same row.0 (keys_of rows) is s.0))
    nominating_at row rows Greater is s rest = at (is_validator_standing row.1) where
      at : (b : Bool) → (if b then row.0 ∷ validators_of (insert_entry account_cmp rows who (Nominator targets)) else validators_of (insert_entry account_cmp rows who (Nominator targets)))
          ≡ remove_key (is_at (account_cmp who)) (if b then row.0 ∷ validators_of rows else validators_of rows)
      at true = rw is (ap (λ vs. row.0 ∷ vs) rest)
      at false = rest

    pub validators_without : (rows : RoleList) → IsStrictlySortedBy account_cmp (keys_of rows)
        → validators_of (insert_entry account_cmp rows who (Nominator targets))
        ≡ remove_key (is_at (account_cmp who)) (validators_of rows)
    unfolding IsStrictlySortedBy
    validators_without [] s = refl
    validators_without (row ∷ rows) s = nominating_at row rows (account_cmp who row.0) refl s (validators_without rows s.1)

  -- so does an account that has no role any more
  leaving_at : (row : AccountId × Standing) (rows : RoleList) (r : Ordering) → account_cmp who row.0 ≡ r → IsStrictlySortedBy account_cmp (keys_of (row ∷ rows))
      → validators_of (remove_entry (is_at (account_cmp who)) rows) ≡ remove_key (is_at (account_cmp who)) (validators_of rows)
      → validators_of (cond (is_eq r) rows (row ∷ remove_entry (is_at (account_cmp who)) rows)) ≡ remove_key (is_at (account_cmp who)) (validators_of (row ∷ rows))
  unfolding IsStrictlySortedBy
  leaving_at row rows Less is s rest = at (is_validator_standing row.1) where
    at : (b : Bool) → (if b then row.0 ∷ validators_of (remove_entry (is_at (account_cmp who)) rows) else validators_of (remove_entry (is_at (account_cmp who)) rows))
        ≡ remove_key (is_at (account_cmp who)) (if b then row.0 ∷ validators_of rows else validators_of rows)
    at true = rw is (ap (λ vs. row.0 ∷ vs) rest)
    at false = rest
  leaving_at row rows Equal is s rest = at (is_validator_standing row.1) where
    at : (b : Bool) → validators_of rows ≡ remove_key (is_at (account_cmp who)) (if b then row.0 ∷ validators_of rows else validators_of rows)
    at true = rw is refl
    at false = sym (absent rows (all_same row.0 (keys_of rows) is s.0))
  leaving_at row rows Greater is s rest = at (is_validator_standing row.1) where
    at : (b : Bool) → (if b then row.0 ∷ validators_of (remove_entry (is_at (account_cmp who)) rows) else validators_of (remove_entry (is_at (account_cmp who)) rows))
        ≡ remove_key (is_at (account_cmp who)) (if b then row.0 ∷ validators_of rows else validators_of rows)
    at true = rw is (ap (λ vs. row.0 ∷ vs) rest)
    at false = rest

  pub validators_left : (rows : RoleList) → IsStrictlySortedBy account_cmp (keys_of rows)
      → validators_of (remove_entry (is_at (account_cmp who)) rows)
      ≡ remove_key (is_at (account_cmp who)) (validators_of rows)
  unfolding IsStrictlySortedBy
  validators_left [] s = refl
  validators_left (row ∷ rows) s = leaving_at row rows (account_cmp who row.0) refl s (validators_left rows s.1)

-- the validators rise, since the rows do
validators_all : (P : AccountId → Type 0) (rows : RoleList) → AllByRecursion P (keys_of rows) → AllByRecursion P (validators_of rows)
validators_all P [] all = all
validators_all P (row ∷ rows) all = at (is_validator_standing row.1) (validators_all P rows all.1) where
  at : (b : Bool) → AllByRecursion P (validators_of rows) → AllByRecursion P (if b then row.0 ∷ validators_of rows else validators_of rows)
  at true rest = (all.0, rest)
  at false rest = rest

pub validators_rise : (rows : RoleList) → IsStrictlySortedBy account_cmp (keys_of rows) → IsStrictlySortedBy account_cmp (validators_of rows)
unfolding IsStrictlySortedBy
validators_rise [] s = s
validators_rise (row ∷ rows) s = at (is_validator_standing row.1) (validators_rise rows s.1) where
  at : (b : Bool) → IsStrictlySortedBy account_cmp (validators_of rows) → IsStrictlySortedBy account_cmp (if b then row.0 ∷ validators_of rows else validators_of rows)
  at true rest = (validators_all (λ y. account_cmp row.0 y ≡ Less) rows s.0, rest)
  at false rest = rest

pub length_removed : (test : AccountId → Bool) (accounts : List AccountId) → length (remove_key test accounts) ≤ length accounts
length_removed test [] = omega arith
length_removed test (account ∷ accounts) = at (test account) (length_removed test accounts) where
  at : (b : Bool) → length (remove_key test accounts) ≤ length accounts → length (cond b accounts (account ∷ remove_key test accounts)) ≤ length (account ∷ accounts)
  at true rest = omega arith
  at false rest = omega (arith, rest)

pub length_inserted : (who : AccountId) (accounts : List AccountId) → length (insert_key account_cmp accounts who) ≤ length accounts + 1
length_inserted who [] = omega arith
length_inserted who (account ∷ accounts) = at (account_cmp who account) (length_inserted who accounts) where
  at : (r : Ordering) → length (insert_key account_cmp accounts who) ≤ length accounts + 1
      → length (match_ordering r (who ∷ account ∷ accounts) (account ∷ accounts) (account ∷ insert_key account_cmp accounts who)) ≤ length (account ∷ accounts) + 1
  at Less rest = omega arith
  at Equal rest = omega arith
  at Greater rest = omega (arith, rest)

-- the validators that are kept beside the standings, after each change
pub ranked_without : (who : AccountId) (rows : RoleList) (accounts : List AccountId) → AreRanked rows accounts → is_validator rows who ≡ false
    → remove_key (is_at (account_cmp who)) accounts ≡ accounts
ranked_without who rows accounts h none =
    subst (λ xs. remove_key (is_at (account_cmp who)) xs ≡ xs) (sym h.ranked) (not_among who rows h.rising none)

pub ranked_rise : (rows : RoleList) (accounts : List AccountId) → AreRanked rows accounts → IsStrictlySortedBy account_cmp accounts
ranked_rise rows accounts h = subst (λ xs. IsStrictlySortedBy account_cmp xs) (sym h.ranked) (validators_rise rows h.rising)

pub ranked_left : (who : AccountId) (rows new : RoleList) (accounts now : List AccountId) → AreRanked rows accounts
    → new ≡ remove_entry (is_at (account_cmp who)) rows → IsStrictlySortedBy account_cmp (keys_of new) → now ≡ remove_key (is_at (account_cmp who)) accounts → AreRanked new now
ranked_left who rows new accounts now h is rise now_is = record {
  rising = rise;
  ranked = now_is ∙ ap (λ xs. remove_key (is_at (account_cmp who)) xs) h.ranked ∙ sym (ap validators_of is ∙ validators_left who rows h.rising);
  few = rw now_is (omega (arith, length_removed (is_at (account_cmp who)) accounts, h.few));
}

pub ranked_nominating : (who : AccountId) (targets : List AccountId) (rows new : RoleList) (accounts now : List AccountId) → AreRanked rows accounts
    → new ≡ insert_entry account_cmp rows who (Nominator targets) → IsStrictlySortedBy account_cmp (keys_of new) → now ≡ remove_key (is_at (account_cmp who)) accounts → AreRanked new now
ranked_nominating who targets rows new accounts now h is rise now_is = record {
  rising = rise;
  ranked = now_is ∙ ap (λ xs. remove_key (is_at (account_cmp who)) xs) h.ranked ∙ sym (ap validators_of is ∙ validators_without who targets rows h.rising);
  few = rw now_is (omega (arith, length_removed (is_at (account_cmp who)) accounts, h.few));
}

pub ranked_validating : (who : AccountId) (commission : ℕ) (rows new : RoleList) (accounts now : List AccountId) → AreRanked rows accounts
    → (is_validator rows who ≡ false → length accounts < 2048)
    → new ≡ insert_entry account_cmp rows who (Validator commission) → IsStrictlySortedBy account_cmp (keys_of new) → now ≡ insert_key account_cmp accounts who → AreRanked new now
ranked_validating who commission rows new accounts now h room is rise now_is = record {
  rising = rise;
  ranked = now_ranked;
  few = at (is_validator rows who) refl;
} where
  now_ranked : now ≡ validators_of new
  now_ranked = now_is ∙ ap (λ xs. insert_key account_cmp xs who) h.ranked ∙ sym (ap validators_of is ∙ validators_with who commission rows h.rising)

  at : (b : Bool) → is_validator rows who ≡ b → length now ≤ 2048
  at true valid = omega (arith, ap length now_ranked, ap (λ xs. length (validators_of xs)) is, counted_once who commission rows h.rising valid, ap length h.ranked, h.few)
  at false valid = rw now_is (omega (arith, length_inserted who accounts, room valid))

-- each other account keeps its standing
pub others_put : (roles : RoleList) (who : AccountId) (standing : Standing) → KeepsOthers roles (with_standing roles who standing) who
others_put roles who standing other differ = lookup_other account_total who standing other roles (account_apart other who differ)

pub others_left : (roles : RoleList) (who : AccountId) → IsStrictlySortedBy account_cmp (keys_of roles) → KeepsOthers roles (without_role roles who) who
others_left roles who ordered other differ = standing_left roles who other ordered ∙ rw (account_apart who other (λ e. differ (sym e))) refl

-- nobody has a role
pub ranked_none : AreRanked [] []
unfolding IsStrictlySortedBy
ranked_none = record { rising = tt; ranked = refl; few = omega arith }
