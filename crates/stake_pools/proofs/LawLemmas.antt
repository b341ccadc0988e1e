-- The laws.
use Rattle.std.proofs.Common.{◌≡◌, ℕ, ◌+◌, ◌*◌, ◌/◌, ◌≤◌, Bool, true, false, nat_eq, if◌then◌else◌, [], ◌∷◌, refl, arith, Option, Some, None}
use Rattle.std.proofs.Math.Nat.{div-mul-le_self}
use Rattle.std.specs.Map.{values_of}
use Rattle.std.proofs.lemmas.Grind.{common_steps}
use Rattle.npos_base.specs.declared.account.AccountId.{AccountId}
use Rattle.stake_pools.specs.declared.chain.PoolChain.{PoolChain}
use Rattle.stake_pools.specs.declared.line.PoolLine.TheVariants as lines
use Rattle.stake_pools.specs.declared.refusal.PoolRefusal.{PoolRefusal}
use Rattle.stake_pools.specs.Members.{points_of}
use Rattle.stake_pools.specs.Chain.{active_of, all_points_of, worth_of}
use Rattle.stake_pools.specs.Rules.{ItemRule, rule_of, payment_refusal, entry_refusal, join_rule, due_points, redeem_rule}
use Rattle.stake_pools.specs.Step.{outcome_by, item_outcome}
use Rattle.stake_pools.specs.Sound.{IsSoundPool}
use Rattle.stake_pools.specs.Laws.{KeptLaw, WorthLaw, KeepsPrice, JoinLaw, RedeemLaw, PaidLaw}
use Rattle.stake_pools.proofs.Quotients.{entry_keeps, payout_keeps, shares_within}
use Rattle.stake_pools.proofs.SoundLemmas.{neither, can_pay, join_active, join_points, redeems, sound_after}

pub kept_law : KeptLaw
kept_law chain sound [] = sound
kept_law chain sound (item ∷ more) =
    kept_law (item_outcome chain item.who item.kind).state (sound_after chain item.who item.kind sound) more

pub worth_law : WorthLaw
worth_law chain some = shares_within points_of (active_of chain) (all_points_of chain) (values_of chain.members) some (omega arith)

by_outcome : (refusal : Option PoolRefusal) (rule : ItemRule) (chain : PoolChain) → (refusal ≡ None → KeepsPrice chain rule.done)
    → KeepsPrice chain (outcome_by refusal rule chain).state
by_outcome None rule chain done = done refl
by_outcome (Some refusal) rule chain done = omega arith

entry_price : (a q v : ℕ) (b : Bool) → nat_eq q 0 ≡ b → a ≤ q → a * (q + (if b then v else v * q / a)) ≤ (a + v) * q
entry_price a q v true e within =
    let none : q ≡ 0 = grind (arith, common_steps, e) in
    let nothing : a ≡ 0 = omega (arith, none, within) in
    rw (none, nothing) (omega arith)
entry_price a q v false e within = entry_keeps a q v

pub join_keeps : (chain : PoolChain) → IsSoundPool chain → (who : AccountId) (value : ℕ) → (join_rule chain who value).refusal ≡ None → KeepsPrice chain (join_rule chain who value).done
join_keeps chain sound who value none =
    let pays = can_pay chain who value (neither (payment_refusal chain who value) (entry_refusal chain who value) none).0 in
    rw (join_active chain who value pays.apart, join_points chain who value sound)
    (entry_price (active_of chain) (all_points_of chain) value (nat_eq (all_points_of chain) 0) refl sound.backed)

pub join_law : JoinLaw
unfolding rule_of
join_law chain sound who value =
    by_outcome (join_rule chain who value).refusal (join_rule chain who value) chain (join_keeps chain sound who value)

pub redeem_keeps : (chain : PoolChain) → IsSoundPool chain → (who : AccountId) → (redeem_rule chain who).refusal ≡ None → KeepsPrice chain (redeem_rule chain who).done
redeem_keeps chain sound who none =
    let is = redeems chain who sound none in
    rw (is.active, is.points) (payout_keeps (active_of chain) (all_points_of chain) (due_points chain who) is.within)

pub redeem_law : RedeemLaw
unfolding rule_of
redeem_law chain sound who =
    by_outcome (redeem_rule chain who).refusal (redeem_rule chain who) chain (redeem_keeps chain sound who)

paid_by : (refusal : Option PoolRefusal) (chain : PoolChain) (who to : AccountId) (amount : ℕ)
    → (outcome_by refusal (redeem_rule chain who) chain).lines ≡ lines.Accepted ∷ lines.Paid to amount ∷ [] → amount ≡ worth_of chain (due_points chain who)
paid_by None chain who to amount told = cc
paid_by (Some refusal) chain who to amount told = cc

pub paid_law : PaidLaw
unfolding rule_of
paid_law chain who to amount told =
    rw (paid_by (redeem_rule chain who).refusal chain who to amount told)
    (div-mul-le_self (active_of chain * due_points chain who) (all_points_of chain))
