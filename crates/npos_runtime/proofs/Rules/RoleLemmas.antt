-- What holds of the roles after one account takes a role or has none any more.
use Rattle.std.proofs.Common.{◌≡◌, ◌≢◌, ℕ, ◌<◌, ◌≤◌, Bool, true, false, cond, List, [], ◌∷◌, length, Some, None, refl, sym, ◌∙◌, ap, subst, arith, true≢false}
use Rattle.std.proofs.lemmas.Bool.Decides.{nat_tests}
use Rattle.std.proofs.lemmas.Grind.{common_steps}
use Rattle.std.specs.BTreeMap.{is_at}
use Rattle.std.specs.Map.{keys_of}
use Rattle.std.specs.List.Sorted.{IsStrictlySortedBy}
use Rattle.npos_base.specs.declared.account.AccountId.{AccountId}
use Rattle.npos_base.specs.Account.{account_cmp, same_account}
use Rattle.npos_base.proofs.AccountOrder.{account_total, account_apart, account_exact, same_itself}
use Rattle.std.specs.Cmp.{Equal-is}
use Rattle.std.specs.List.{AllByRecursion}
use Rattle.std.specs.Set.{remove_key}
use Rattle.std.specs.BTreeSet.{insert_key}
use Rattle.std.specs.declared.cmp.Ordering.TheVariants.{Less}
use Rattle.npos_runtime.proofs.Rules.ListLemmas.{by_account}
use Rattle.npos_base.proofs.EntryLemmas.{sorted_put, lookup_put, lookup_other}
use Rattle.voter_lists.specs.declared.standing.Standing.{Standing}
use Rattle.voter_lists.specs.declared.standing.Standing.TheVariants.{Nominator, Validator}
use Rattle.voter_lists.specs.Ranked.{AreRanked}
use Rattle.voter_lists.specs.Roles.{RoleList, role_in, role_of, standing_of, with_standing, without_role, validators_of, is_validator}
use Rattle.voter_lists.specs.Roles.{nominated_by, targets_in, nominate_refusal as list_nominate_refusal, validate_refusal as list_validate_refusal}
use Rattle.voter_lists.proofs.ValidatorLemmas.{ranked_left, ranked_nominating, ranked_validating}
use Rattle.npos_base.specs.declared.limits.TheConstants.{WHOLE_FRACTION}
use Rattle.npos_runtime.specs.Rules.Ballots.{commission_in}
use Rattle.npos_runtime.specs.Live.{IsNomination, AreRoles}

pub apart_from : (who q : AccountId) → same_account who q ≡ false → q ≢ who
apart_from who q e = λ same. true≢false (sym (same_itself who) ∙ ap (λ (a : AccountId). same_account who a) (sym same) ∙ e)

pub standing_with : (roles : RoleList) (who : AccountId) (standing : Standing) → standing_of (with_standing roles who standing) who ≡ Some standing
standing_with roles who standing = lookup_put account_total who standing roles

pub standing_other : (roles : RoleList) (who : AccountId) (standing : Standing) (q : AccountId) → q ≢ who
    → standing_of (with_standing roles who standing) q ≡ standing_of roles q
standing_other roles who standing q differ = lookup_other account_total who standing q roles (account_apart q who differ)

module _ (who : AccountId) where
  test : AccountId → Bool
  test q = is_at (account_cmp who) q

  tied : (q : AccountId) → is_at (account_cmp who) q ≡ true → who ≡ q
  tied q e = account_exact who q ((Equal-is (account_cmp who q)).0 e)

  absent_above : (rows : RoleList) → AllByRecursion (λ y. account_cmp who y ≡ Less) (keys_of rows) → standing_of rows who ≡ None
  absent_above [] all = refl
  absent_above (row ∷ rows) all = rw all.0 (absent_above rows all.1)

  pub standing_without : (rows : RoleList) → IsStrictlySortedBy account_cmp (keys_of rows) → standing_of (without_role rows who) who ≡ None
  unfolding IsStrictlySortedBy
  standing_without [] s = refl
  standing_without (row ∷ rows) s = at (is_at (account_cmp who) row.0) refl (standing_without rows s.1) where
    at : (b : Bool) → is_at (account_cmp who) row.0 ≡ b → standing_of (without_role rows who) who ≡ None
        → standing_of (cond b rows (row ∷ without_role rows who)) who ≡ None
    at true e rest = absent_above rows (subst (λ (a : AccountId). AllByRecursion (λ y. account_cmp a y ≡ Less) (keys_of rows)) (sym (tied row.0 e)) s.0)
    at false e rest = rw e rest

  pub standing_without_other : (q : AccountId) (rows : RoleList) → q ≢ who → standing_of (without_role rows who) q ≡ standing_of rows q
  standing_without_other q [] differ = refl
  standing_without_other q (row ∷ rows) differ = at (is_at (account_cmp who) row.0) refl (standing_without_other q rows differ) where
    at : (b : Bool) → is_at (account_cmp who) row.0 ≡ b → standing_of (without_role rows who) q ≡ standing_of rows q
        → standing_of (cond b rows (row ∷ without_role rows who)) q ≡ cond (is_at (account_cmp q) row.0) (Some row.1) (standing_of rows q)
    at true e rest =
        let apart : is_at (account_cmp q) row.0 ≡ false = account_apart q row.0 (λ same. differ (same ∙ sym (tied row.0 e))) in rw apart refl
    at false e rest = ap (λ o. cond (is_at (account_cmp q) row.0) (Some row.1) o) rest

  all_without : (P : AccountId → Type 0) (rows : RoleList) → AllByRecursion P (keys_of rows) → AllByRecursion P (keys_of (without_role rows who))
  all_without P [] all = all
  all_without P (row ∷ rows) all = at (is_at (account_cmp who) row.0) (all_without P rows all.1) where
    at : (b : Bool) → AllByRecursion P (keys_of (without_role rows who)) → AllByRecursion P (keys_of (cond b rows (row ∷ without_role rows who)))
    at true rest = all.1
    at false rest = (all.0, rest)

  pub rising_without : (rows : RoleList) → IsStrictlySortedBy account_cmp (keys_of rows) → IsStrictlySortedBy account_cmp (keys_of (without_role rows who))
  unfolding IsStrictlySortedBy
  rising_without [] s = s
  rising_without (row ∷ rows) s = at (is_at (account_cmp who) row.0) (rising_without rows s.1) where
    at : (b : Bool) → IsStrictlySortedBy account_cmp (keys_of (without_role rows who)) → IsStrictlySortedBy account_cmp (keys_of (cond b rows (row ∷ without_role rows who)))
    at true rest = s.1
    at false rest = (all_without (λ y. account_cmp row.0 y ≡ Less) rows s.0, rest)

no_targets : IsNomination []
no_targets = record { few = omega arith; distinct = refl }

nominated_rest : (old new : RoleList) (who : AccountId) → ((q : AccountId) → q ≢ who → standing_of new q ≡ standing_of old q)
    → ((q : AccountId) → IsNomination (nominated_by old q)) → IsNomination (nominated_by new who) → (q : AccountId) → IsNomination (nominated_by new q)
nominated_rest old new who others all here q = by_account who q
    (λ same. subst (λ (a : AccountId). IsNomination (nominated_by new a)) same here)
    (λ apart. subst (λ o. IsNomination (targets_in o)) (sym (others q (apart_from who q apart))) (all q))

pub none_kept : 0 ≤ WHOLE_FRACTION
none_kept = omega arith

commissions_rest : (old new : RoleList) (who : AccountId) → ((q : AccountId) → q ≢ who → standing_of new q ≡ standing_of old q)
    → ((q : AccountId) → commission_in (role_of old q) ≤ WHOLE_FRACTION) → commission_in (role_of new who) ≤ WHOLE_FRACTION
    → (q : AccountId) → commission_in (role_of new q) ≤ WHOLE_FRACTION
commissions_rest old new who others all here q = by_account who q
    (λ same. subst (λ (a : AccountId). commission_in (role_of new a) ≤ WHOLE_FRACTION) same here)
    (λ apart. subst (λ o. commission_in (role_in o) ≤ WHOLE_FRACTION) (sym (others q (apart_from who q apart))) (all q))

pub kept_without : (roles : RoleList) (who : AccountId) → AreRoles roles → AreRoles (without_role roles who)
kept_without roles who kept = record {
  ranked = let r = ranked_left who roles (without_role roles who) (validators_of roles)
      (remove_key (is_at (account_cmp who)) (validators_of roles)) kept.ranked refl
      (rising_without who roles kept.ranked.rising) refl in
      subst (λ (accounts : List AccountId). AreRanked (without_role roles who) accounts) r.ranked r;
  nominations = nominated_rest roles (without_role roles who) who (λ q differ. standing_without_other who q roles differ) kept.nominations
      (subst (λ o. IsNomination (targets_in o)) (sym (standing_without who roles kept.ranked.rising)) no_targets);
  commissions = commissions_rest roles (without_role roles who) who (λ q differ. standing_without_other who q roles differ) kept.commissions
      (subst (λ o. commission_in (role_in o) ≤ WHOLE_FRACTION) (sym (standing_without who roles kept.ranked.rising)) none_kept);
}

pub kept_nominated : (roles : RoleList) (who : AccountId) (targets : List AccountId) → AreRoles roles
    → list_nominate_refusal roles who targets ≡ None
    → AreRoles (with_standing roles who (Nominator targets))
kept_nominated roles who targets kept allowed = record {
  ranked = let r = ranked_nominating who targets roles (with_standing roles who (Nominator targets)) (validators_of roles) (remove_key (is_at (account_cmp who)) (validators_of roles)) kept.ranked refl
      (sorted_put account_total who (Nominator targets) roles kept.ranked.rising) refl in
      subst (λ (accounts : List AccountId). AreRanked (with_standing roles who (Nominator targets)) accounts) r.ranked r;
  nominations = nominated_rest roles (with_standing roles who (Nominator targets)) who (λ q differ. standing_other roles who (Nominator targets) q differ) kept.nominations
      (subst (λ o. IsNomination (targets_in o)) (sym (standing_with roles who (Nominator targets))) sound);
  commissions = commissions_rest roles (with_standing roles who (Nominator targets)) who (λ q differ. standing_other roles who (Nominator targets) q differ) kept.commissions
      (subst (λ o. commission_in (role_in o) ≤ WHOLE_FRACTION) (sym (standing_with roles who (Nominator targets))) none_kept);
} where
  sound : IsNomination targets
  sound = record { few = grind (arith, common_steps, nat_tests, allowed); distinct = grind (arith, common_steps, allowed) }

pub kept_validating : (roles : RoleList) (who : AccountId) (commission : ℕ) → AreRoles roles
    → list_validate_refusal roles who commission ≡ None
    → AreRoles (with_standing roles who (Validator commission))
kept_validating roles who commission kept allowed = record {
  ranked = let r = ranked_validating who commission roles (with_standing roles who (Validator commission))
      (validators_of roles) (insert_key account_cmp (validators_of roles) who) kept.ranked room refl
      (sorted_put account_total who (Validator commission) roles kept.ranked.rising) refl in
      subst (λ (accounts : List AccountId). AreRanked (with_standing roles who (Validator commission)) accounts) r.ranked r;
  nominations = nominated_rest roles (with_standing roles who (Validator commission)) who (λ q differ. standing_other roles who (Validator commission) q differ) kept.nominations
      (subst (λ o. IsNomination (targets_in o)) (sym (standing_with roles who (Validator commission))) no_targets);
  commissions = commissions_rest roles (with_standing roles who (Validator commission)) who (λ q differ. standing_other roles who (Validator commission) q differ) kept.commissions
      (subst (λ o. commission_in (role_in o) ≤ WHOLE_FRACTION) (sym (standing_with roles who (Validator commission))) within);
} where
  room : is_validator roles who ≡ false → length (validators_of roles) < 2048
  room absent = grind (arith, common_steps, nat_tests, allowed, absent)

  within : commission ≤ WHOLE_FRACTION
  within = grind (arith, common_steps, nat_tests, allowed)
