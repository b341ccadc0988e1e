-- No item but a slash lowers what another's points are worth.
use Rattle.std.proofs.Common.{◌≡◌, ◌≢◌, ◌∙◌, ℕ, ◌*◌, ◌/◌, ◌≤◌, Bool, true, false, cond, if◌then◌else◌, List, [], ◌∷◌, refl, ap, sym, subst, arith, Option, Some, None, unwrap_or, option_map}
use Rattle.std.specs.BTreeMap.{insert_entry, is_at}
use Rattle.std.specs.Cmp.{IsTotalOrder}
use Rattle.std.specs.Map.{lookup, remove_entry}
use Rattle.std.specs.Ordering.{is_eq}
use Rattle.std.specs.declared.cmp.Ordering.{Ordering}
use Rattle.std.specs.declared.cmp.Ordering.TheVariants.{Less, Equal, Greater}
use Rattle.std.proofs.lemmas.Cmp.{alike_right}
use Rattle.std.proofs.lemmas.Map.Made.{lookup-map_values}
use Rattle.npos_base.specs.declared.account.AccountId.{AccountId}
use Rattle.npos_base.specs.Account.{account_cmp}
use Rattle.npos_base.proofs.AccountOrder.{account_total, account_apart}
use Rattle.npos_base.proofs.EntryLemmas.{lookup_other}
use Rattle.stake_pools.specs.declared.member.Member.{Member}
use Rattle.stake_pools.specs.declared.chain.PoolChain.{PoolChain}
use Rattle.stake_pools.specs.declared.input.PoolKind.{PoolKind}
use Rattle.stake_pools.specs.declared.input.PoolKind.TheVariants as kinds
use Rattle.stake_pools.specs.declared.refusal.PoolRefusal.{PoolRefusal}
use Rattle.stake_pools.specs.Members.{points_of, no_member, member_of, member_at, has_nothing, with_member, joined, left, redeemed, rewarded, all_rewarded, all_staying, claimed}
use Rattle.stake_pools.specs.Chain.{active_of, all_points_of, member_worth}
use Rattle.stake_pools.specs.Rules.{ItemRule, rule_of, join_rule, points_for, leave_rule, release_of, redeem_rule, reward_rule, claim_rule}
use Rattle.stake_pools.specs.Step.{outcome_by}
use Rattle.stake_pools.specs.Sound.{IsSoundPool}
use Rattle.stake_pools.specs.Laws.{KeepsPrice, IsNoSlash, UndilutedLaw}
use Rattle.stake_pools.proofs.Quotients.{quotient_kept}
use Rattle.stake_pools.proofs.MemberLemmas.{part_within}
use Rattle.stake_pools.proofs.SoundLemmas.{leaves_points, reward_figures, claim_figures}
use Rattle.stake_pools.proofs.LawLemmas.{join_keeps, redeem_keeps}

module _ {K X : Type 0} {R : K → K → Ordering} (o : IsTotalOrder R) (k q : K) (apart : is_eq (R q k) ≡ false) where
  other_at : (e : K × X) (es : List (K × X)) (r : Ordering) → R k e.0 ≡ r → lookup (is_at (R q)) (remove_entry (is_at (R k)) es) ≡ lookup (is_at (R q)) es
      → lookup (is_at (R q)) (cond (is_eq r) es (e ∷ remove_entry (is_at (R k)) es)) ≡ lookup (is_at (R q)) (e ∷ es)
  other_at e es Less is rest = ap (λ l. cond (is_eq (R q e.0)) (Some e.1) l) rest
  other_at e es Equal is rest = sym (ap (λ b. cond b (Some e.1) (lookup (is_at (R q)) es)) (ap is_eq (sym (alike_right o k e.0 q is)) ∙ apart))
  other_at e es Greater is rest = ap (λ l. cond (is_eq (R q e.0)) (Some e.1) l) rest

  -- another key keeps its value when one is taken out
  pub lookup_left : (es : List (K × X)) → lookup (is_at (R q)) (remove_entry (is_at (R k)) es) ≡ lookup (is_at (R q)) es
  lookup_left [] = refl
  lookup_left (e ∷ es) = other_at e es (R k e.0) refl (lookup_left es)

-- another member stays as it was
other_kept : (who other : AccountId) (member : Member) (members : List (AccountId × Member)) → other ≢ who → member_at (with_member who member members) other ≡ member_at members other
other_kept who other member members differ = ap (λ (found : Option Member). unwrap_or found no_member) (at (has_nothing member)) where
  at : (b : Bool) → member_of (if b then remove_entry (is_at (account_cmp who)) members else insert_entry account_cmp members who member) other ≡ member_of members other
  at true = lookup_left account_total who other (account_apart other who differ) members
  at false = lookup_other account_total who member other members (account_apart other who differ)

found_points : (value all : ℕ) (found : Option Member) → points_of (unwrap_or (option_map (rewarded value all) found) no_member) ≡ points_of (unwrap_or found no_member)
found_points value all None = refl
found_points value all (Some member) = refl

rewarded_points : (value : ℕ) (members : List (AccountId × Member)) (other : AccountId) → points_of (member_at (all_rewarded value members) other) ≡ points_of (member_at members other)
rewarded_points value members other =
    ap (λ (found : Option Member). points_of (unwrap_or found no_member)) (lookup-map_values (rewarded value (all_staying members)) (is_at (account_cmp other)) members)
    ∙ found_points value (all_staying members) (member_of members other)

-- where the price does not fall, nor another's points change, their worth does not fall
worth_kept : (old new : PoolChain) (other : AccountId) → KeepsPrice old new → points_of (member_at new.members other) ≡ points_of (member_at old.members other)
    → member_worth old other ≤ member_worth new other
worth_kept old new other price same =
    subst (λ points. active_of old * points_of (member_at old.members other) / all_points_of old ≤ active_of new * points / all_points_of new) (sym same)
    (quotient_kept (active_of old) (all_points_of old) (active_of new) (all_points_of new) (points_of (member_at old.members other)) price
    (omega (arith, part_within points_of refl other new.members, same)))

same_price : (old new : PoolChain) → active_of new ≡ active_of old → all_points_of new ≡ all_points_of old → KeepsPrice old new
same_price old new active points = rw (active, points) (omega arith)

by_outcome : (refusal : Option PoolRefusal) (rule : ItemRule) (chain : PoolChain) (other : AccountId) → (refusal ≡ None → member_worth chain other ≤ member_worth rule.done other)
    → member_worth chain other ≤ member_worth (outcome_by refusal rule chain).state other
by_outcome None rule chain other done = done refl
by_outcome (Some refusal) rule chain other done = omega arith

done_keeps : (chain : PoolChain) → IsSoundPool chain → (who other : AccountId) (kind : PoolKind) → IsNoSlash kind → other ≢ who → (rule_of chain who kind).refusal ≡ None
    → member_worth chain other ≤ member_worth (rule_of chain who kind).done other
unfolding rule_of
done_keeps chain sound who other (kinds.Join value) no_slash differ none =
    worth_kept chain (join_rule chain who value).done other (join_keeps chain sound who value none)
    (ap points_of (other_kept who other (joined (points_for chain value) (member_at chain.members who)) chain.members differ))
done_keeps chain sound who other (kinds.Leave points) no_slash differ none =
    worth_kept chain (leave_rule chain who points).done other (same_price chain (leave_rule chain who points).done refl (leaves_points chain who points sound none))
    (ap points_of (other_kept who other (left points (release_of chain) (member_at chain.members who)) chain.members differ))
done_keeps chain sound who other kinds.Redeem no_slash differ none =
    worth_kept chain (redeem_rule chain who).done other (redeem_keeps chain sound who none)
    (ap points_of (other_kept who other (redeemed chain.era (member_at chain.members who)) chain.members differ))
done_keeps chain sound who other (kinds.Reward value) no_slash differ none =
    let figures = reward_figures chain who value sound none in
    worth_kept chain (reward_rule chain who value).done other (same_price chain (reward_rule chain who value).done figures.0 figures.1) (rewarded_points value chain.members other)
done_keeps chain sound who other kinds.Claim no_slash differ none =
    let figures = claim_figures chain who sound none in
    worth_kept chain (claim_rule chain who).done other (same_price chain (claim_rule chain who).done figures.0 figures.1)
    (ap points_of (other_kept who other (claimed (member_at chain.members who)) chain.members differ))
done_keeps chain sound who other (kinds.Slash amount) no_slash differ none = absurd no_slash
done_keeps chain sound who other kinds.NextEra no_slash differ none = omega arith

pub undiluted_law : UndilutedLaw
undiluted_law chain sound who other kind no_slash differ =
    by_outcome (rule_of chain who kind).refusal (rule_of chain who kind) chain other (done_keeps chain sound who other kind no_slash differ)
