-- Roles stay sound.
use Rattle.std.proofs.Common.{◌≡◌, ℕ, ◌≤◌, Bool, true, false, cond, not, nat_eq, nat_lt, if◌then◌else◌, List, [], ◌∷◌, length, All, Some, None, is_some, refl, ap, subst, arith, true≢false}
use Rattle.std.specs.BTreeMap.{insert_entry, is_at}
use Rattle.std.specs.BTreeSet.{insert_key}
use Rattle.std.specs.Set.{remove_key}
use Rattle.std.specs.List.{list_any}
use Rattle.std.specs.Map.{remove_entry}
use Rattle.std.specs.Ordering.{match_ordering}
use Rattle.std.specs.declared.cmp.Ordering.{Ordering}
use Rattle.std.specs.declared.cmp.Ordering.TheVariants.{Less, Equal, Greater}
use Rattle.std.proofs.lemmas.Grind.{common_steps}
use Rattle.std.proofs.lemmas.List.Elements.{All-cons, All-nil, All-head, All-tail}
use Rattle.std.proofs.lemmas.Bool.{or_parts}
use Rattle.npos_base.specs.declared.account.AccountId.{AccountId}
use Rattle.npos_base.specs.Account.{account_cmp, same_account}
use Rattle.npos_base.proofs.AccountOrder.{account_total, account_exact}
use Rattle.npos_base.proofs.EntryLemmas.{sorted_put}
use Rattle.voter_lists.specs.declared.refusal.ListRefusal.{ListRefusal}
use Rattle.voter_lists.specs.declared.standing.Standing.{Standing}
use Rattle.voter_lists.specs.declared.standing.Standing.TheVariants.{Nominator, Validator}
use Rattle.voter_lists.specs.declared.standing.Role.{Role}
use Rattle.voter_lists.specs.declared.standing.Role.TheVariants as role
use Rattle.voter_lists.specs.Roles.{RoleList, validators_of, is_validator, is_no_target, has_repeated_account, nominate_refusal, validate_refusal, without_role, with_standing}
use Rattle.voter_lists.specs.Ranked.{AreRanked}
use Rattle.voter_lists.specs.Taken.{IsNomination, CanTake, with_role, IsSoundStanding, AreSound}
use Rattle.voter_lists.proofs.ValidatorLemmas.{ranked_nominating, ranked_validating, ranked_left, ranked_none}
use Rattle.voter_lists.proofs.StandingLemmas.{left_ordered}
use Rattle.voter_lists.proofs.TakenLemmas.{room_for}

abbrev IsSoundRow : AccountId × Standing → Type 0
IsSoundRow row = IsSoundStanding row.0 row.1

each_put : (who : AccountId) (standing : Standing) (roles : RoleList) → IsSoundStanding who standing → All IsSoundRow roles → All IsSoundRow (with_standing roles who standing)
each_put who standing [] here all = All-cons IsSoundRow (who, standing) [] here (All-nil IsSoundRow)
each_put who standing (row ∷ rows) here all = at (account_cmp who row.0) refl (each_put who standing rows here (All-tail IsSoundRow row rows all)) where
  at : (r : Ordering) → account_cmp who row.0 ≡ r → All IsSoundRow (with_standing rows who standing)
      → All IsSoundRow (match_ordering r ((who, standing) ∷ row ∷ rows) ((row.0, standing) ∷ rows) (row ∷ insert_entry account_cmp rows who standing))
  at Less is rest = All-cons IsSoundRow (who, standing) (row ∷ rows) here all
  at Equal is rest =
      All-cons IsSoundRow (row.0, standing) rows (subst (λ a. IsSoundStanding a standing) (account_exact who row.0 is) here) (All-tail IsSoundRow row rows all)
  at Greater is rest = All-cons IsSoundRow row (insert_entry account_cmp rows who standing) (All-head IsSoundRow row rows all) rest

each_left : (test : AccountId → Bool) (roles : RoleList) → All IsSoundRow roles → All IsSoundRow (remove_entry test roles)
each_left test [] all = all
each_left test (row ∷ rows) all = at (test row.0) (each_left test rows (All-tail IsSoundRow row rows all)) where
  at : (b : Bool) → All IsSoundRow (remove_entry test rows) → All IsSoundRow (cond b rows (row ∷ remove_entry test rows))
  at true rest = All-tail IsSoundRow row rows all
  at false rest = All-cons IsSoundRow row (remove_entry test rows) (All-head IsSoundRow row rows all) rest

ranked_of : (roles : RoleList) → AreSound roles → AreRanked roles (validators_of roles)
ranked_of roles sound = record { rising = sound.rising; ranked = refl; few = sound.few }

sound_of : (roles : RoleList) (accounts : List AccountId) → AreRanked roles accounts → All IsSoundRow roles → AreSound roles
sound_of roles accounts ranked each = record { rising = ranked.rising; few = rw (← ranked.ranked) ranked.few; each = each }

pub sound_none : AreSound []
sound_none = sound_of [] [] ranked_none (All-nil IsSoundRow)

within_whole : (roles : RoleList) (who : AccountId) (commission : ℕ) → validate_refusal roles who commission ≡ None → commission ≤ 1000000000
within_whole roles who commission none = grind (arith, common_steps, none)

pub sound_put : (roles : RoleList) (who : AccountId) (role : Role) (targets : List AccountId) → AreSound roles → CanTake roles who role targets → AreSound (with_role roles who role targets)
sound_put roles who role.Nobody targets sound can = sound
sound_put roles who role.Nominator targets sound can =
    sound_of (with_standing roles who (Nominator targets)) (remove_key (is_at (account_cmp who)) (validators_of roles))
    (ranked_nominating who targets roles (with_standing roles who (Nominator targets)) (validators_of roles) (remove_key (is_at (account_cmp who)) (validators_of roles)) (ranked_of roles sound) refl
    (sorted_put account_total who (Nominator targets) roles sound.rising) refl)
    (each_put who (Nominator targets) roles can sound.each)
sound_put roles who (role.Validator commission) targets sound can =
    sound_of (with_standing roles who (Validator commission)) (insert_key account_cmp (validators_of roles) who)
    (ranked_validating who commission roles (with_standing roles who (Validator commission)) (validators_of roles) (insert_key account_cmp (validators_of roles) who) (ranked_of roles sound)
    (λ absent. room_for who commission roles (validators_of roles) (ranked_of roles sound) can absent) refl
    (sorted_put account_total who (Validator commission) roles sound.rising) refl)
    (each_put who (Validator commission) roles (within_whole roles who commission can) sound.each)

pub sound_left : (roles : RoleList) (who : AccountId) → AreSound roles → AreSound (without_role roles who)
sound_left roles who sound =
    sound_of (without_role roles who) (remove_key (is_at (account_cmp who)) (validators_of roles))
    (ranked_left who roles (without_role roles who) (validators_of roles) (remove_key (is_at (account_cmp who)) (validators_of roles)) (ranked_of roles sound) refl
    (left_ordered (is_at (account_cmp who)) roles sound.rising) refl)
    (each_left (is_at (account_cmp who)) roles sound.each)

-- ---- who may nominate names others

none_due : (a b c d : Bool) (first second third fourth : ListRefusal)
    → (if a then Some first else if b then Some second else if c then Some third else if d then Some fourth else None) ≡ None
    → (a ≡ false) × ((b ≡ false) × ((c ≡ false) × (d ≡ false)))
none_due true b c d first second third fourth e = absurd (true≢false (ap is_some e))
none_due false true c d first second third fourth e = absurd (true≢false (ap is_some e))
none_due false false true d first second third fourth e = absurd (true≢false (ap is_some e))
none_due false false false true first second third fourth e = absurd (true≢false (ap is_some e))
none_due false false false false first second third fourth e = (refl, (refl, (refl, refl)))

names_others : (roles : RoleList) (who : AccountId) (targets : List AccountId) → list_any (λ target. is_no_target roles who target) targets ≡ false
    → list_any (λ target. same_account target who) targets ≡ false
names_others roles who [] none = refl
names_others roles who (target ∷ targets) none =
    let first = or_parts (is_no_target roles who target) (list_any (λ t. is_no_target roles who t) targets) none in
    let second = or_parts (not (is_validator roles target)) (same_account target who) first.0 in
    rw second.1 (names_others roles who targets first.1)

pub nominates : (roles : RoleList) (who : AccountId) (targets : List AccountId) → nominate_refusal roles who targets ≡ None → IsNomination who targets
nominates roles who targets none =
    let due = none_due (nat_eq (length targets) 0) (nat_lt 24 (length targets)) (has_repeated_account targets) (list_any (λ target. is_no_target roles who target) targets) _ _ _ _ none in
    record {
      some = grind (arith, common_steps, due.0);
      few = grind (arith, common_steps, due.1.0);
      distinct = due.1.1.0;
      others = names_others roles who targets due.1.1.1;
    }
