-- The members after a reward.
use Rattle.std.proofs.Common.{◌≡◌, ◌∙◌, ℕ, ◌+◌, ◌*◌, ◌/◌, ◌^◌, ◌<◌, ◌≤◌, List, [], ◌∷◌, ◌++◌, map, refl, ap, sym, subst, arith, sum_by, None, option_map}
use Rattle.std.specs.BTreeMap.{is_at}
use Rattle.std.specs.List.Sorted.{IsStrictlySortedBy}
use Rattle.std.specs.Map.{keys_of, values_of}
use Rattle.std.proofs.lemmas.List.Sums.{sum_by-cons}
use Rattle.std.proofs.lemmas.Map.Made.{keys_of-map_values, lookup-map_values}
use Rattle.npos_base.specs.declared.account.AccountId.{AccountId}
use Rattle.npos_base.specs.Account.{account_cmp}
use Rattle.stake_pools.specs.declared.member.Member.{Member}
use Rattle.stake_pools.specs.Members.{points_of, member_of, total, all_staying, all_credits, rewarded, all_rewarded}
use Rattle.stake_pools.specs.Kept.{AreSummed}
use Rattle.stake_pools.proofs.Quotients.{part_within, shares_within}

-- a member that stands among others has no more than all together
pub inside : (part : Member → ℕ) (before after : List (AccountId × Member)) (who : AccountId) (member : Member) → part member ≤ total part (before ++ (who, member) ∷ after)
inside part [] after who member = omega (arith, sum_by-cons part member (values_of after))
inside part (e ∷ before) after who member =
    omega (arith, sum_by-cons part e.1 (values_of (before ++ (who, member) ∷ after)), inside part before after who member)

-- the credit that one of them has then fits
pub credit_fits : (before after : List (AccountId × Member)) (who : AccountId) (member : Member) (value all : ℕ) → member.staying ≤ all
    → all_credits (before ++ (who, member) ∷ after) + value < 2 ^ 64 → member.credit + value * member.staying / all < 2 ^ 64
credit_fits before after who member value all within fits =
    omega (arith, inside (λ m. m.credit) before after who member, part_within value member.staying all within, fits)

-- what a reward does not touch has the same sum
pub total-rewarded : (part : Member → ℕ) (value all : ℕ) → ((member : Member) → part (rewarded value all member) ≡ part member) → (members : List (AccountId × Member))
    → total part (map (λ e. (e.0, rewarded value all e.1)) members) ≡ total part members
total-rewarded part value all same [] = refl
total-rewarded part value all same (e ∷ members) =
    omega (
      arith,
      sum_by-cons part (rewarded value all e.1) (values_of (map (λ e. (e.0, rewarded value all e.1)) members)),
      sum_by-cons part e.1 (values_of members),
      same e.1,
      total-rewarded part value all same members,
    )

-- the credits grow by the parts
pub credits-rewarded : (value all : ℕ) (members : List (AccountId × Member))
    → all_credits (map (λ e. (e.0, rewarded value all e.1)) members) ≡ all_credits members + sum_by (λ (m : Member). value * m.staying / all) (values_of members)
credits-rewarded value all [] = refl
credits-rewarded value all (e ∷ members) =
    omega (
      arith,
      sum_by-cons (λ (m : Member). m.credit) (rewarded value all e.1) (values_of (map (λ e. (e.0, rewarded value all e.1)) members)),
      sum_by-cons (λ (m : Member). m.credit) e.1 (values_of members),
      sum_by-cons (λ (m : Member). value * m.staying / all) e.1 (values_of members),
      credits-rewarded value all members,
    )

-- which are together no more than the reward
pub credited_within : (value : ℕ) (members : List (AccountId × Member)) → 0 < all_staying members → all_credits (all_rewarded value members) ≤ all_credits members + value
credited_within value members some =
    omega (
      arith,
      credits-rewarded value (all_staying members) members,
      shares_within (λ (m : Member). m.staying) value (all_staying members) (values_of members) some (omega arith),
    )

pub ordered-rewarded : (value : ℕ) (members : List (AccountId × Member)) → IsStrictlySortedBy account_cmp (keys_of members)
    → IsStrictlySortedBy account_cmp (keys_of (all_rewarded value members))
ordered-rewarded value members ordered =
    subst (λ (ks : List AccountId). IsStrictlySortedBy account_cmp ks) (sym (keys_of-map_values (rewarded value (all_staying members)) members)) ordered

pub summed_rewarded : (value : ℕ) (members : List (AccountId × Member)) (points staying : ℕ) → AreSummed members points staying → 0 < all_staying members
    → all_credits members + value < 2 ^ 64 → AreSummed (all_rewarded value members) points staying
summed_rewarded value members points staying summed some fits = record {
  ordered = ordered-rewarded value members summed.ordered;
  points_are = omega (arith, total-rewarded points_of value (all_staying members) (λ m. refl) members, summed.points_are);
  staying_are = omega (arith, total-rewarded (λ m. m.staying) value (all_staying members) (λ m. refl) members, summed.staying_are);
  points_fit = omega (arith, total-rewarded points_of value (all_staying members) (λ m. refl) members, summed.points_fit);
  credits_fit = omega (arith, credited_within value members some, fits);
}

-- nobody becomes a member by it
pub absent-rewarded : (value : ℕ) (members : List (AccountId × Member)) (who : AccountId) → member_of members who ≡ None → member_of (all_rewarded value members) who ≡ None
absent-rewarded value members who none =
    lookup-map_values (rewarded value (all_staying members)) (is_at (account_cmp who)) members ∙ ap (option_map (rewarded value (all_staying members))) none
