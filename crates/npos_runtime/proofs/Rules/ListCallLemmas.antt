-- The calls that change roles and bags keep the chain live.
use Rattle.std.proofs.Common.{◌≡◌, ℕ, Bool, true, false, List, Option, Some, None, option_map, refl, sym, ap, arith, is_some, true≢false}
use Rattle.std.proofs.lemmas.Grind.{common_steps}
use Rattle.npos_base.specs.declared.account.AccountId.{AccountId}
use Rattle.voter_lists.specs.declared.standing.Standing.{Standing}
use Rattle.voter_lists.specs.declared.standing.Standing.TheVariants.{Nominator, Validator}
use Rattle.voter_lists.specs.Roles.{standing_of, role_in, role_of, with_standing, nominate_refusal as list_nominate_refusal, validate_refusal as list_validate_refusal}
use Rattle.voter_lists.specs.Bags.{Listing, is_listed, moved, rebag_refusal as list_rebag_refusal, put_in_front, put_in_front_refusal as list_put_in_front_refusal}
use Rattle.block_receipts.specs.declared.refusal.Refusal.TheVariants.{Ledger as ByLedger, List as ByList}
use Rattle.npos_runtime.specs.declared.chain.Chain.{Chain}
use Rattle.npos_runtime.specs.Rules.Ballots.{active_of}
use Rattle.npos_runtime.specs.Rules.Lists.{has_role, is_nominator_role, is_validator_role, placed}
use Rattle.npos_runtime.specs.Rules.ListCalls.{role_refusal, nominate_rule, validate_rule, chill_rule, rebag_rule, put_in_front_rule}
use Rattle.npos_runtime.specs.Live.{IsLive, AreRoles}
use Rattle.npos_runtime.proofs.Rules.ListLemmas.{kept_rebagged, kept_front, kept_placed}
use Rattle.npos_runtime.proofs.Rules.RoleLemmas.{apart_from, standing_with, standing_other, kept_nominated, kept_validating}
use Rattle.npos_runtime.proofs.Rules.PartLemmas.{none_inside, second_none, listed_of, with_lists, without_live}
use Rattle.npos_runtime.proofs.Rules.RuleLemmas.{KeepsLive}

-- an account takes a role, and keeps its place only if it had one
placed_live : (chain : Chain) (who : AccountId) (standing : Standing) (stays : Bool) (score : ℕ) → IsLive chain
    → AreRoles (with_standing chain.roles who standing)
    → (stays ≡ true → has_role chain.roles who ≡ true)
    → IsLive (record chain { roles = with_standing chain.roles who standing; bags = placed stays chain.bags who score })
placed_live chain who standing stays score live kept had =
    with_lists chain (with_standing chain.roles who standing) (placed stays chain.bags who score) live
    (kept_placed (has_role chain.roles) (has_role (with_standing chain.roles who standing)) chain.bags who (listed_of chain live)
    (λ q apart. ap is_some (standing_other chain.roles who standing q (apart_from who q apart)))
    (ap is_some (standing_with chain.roles who standing)) stays score had)
    kept

nominator_has : (o : Option Standing) → is_nominator_role (role_in o) ≡ true → is_some o ≡ true
nominator_has None e = absurd (true≢false (sym e))
nominator_has (Some standing) e = refl

validator_has : (o : Option Standing) → is_validator_role (role_in o) ≡ true → is_some o ≡ true
validator_has None e = absurd (true≢false (sym e))
validator_has (Some standing) e = refl

rebag_listed : (listing : Listing) (who : AccountId) (score : ℕ) → list_rebag_refusal listing who score ≡ None
    → is_listed listing.order who ≡ true
rebag_listed listing who score allowed = at (is_listed listing.order who) refl where
  at : (b : Bool) → is_listed listing.order who ≡ b → b ≡ true
  at true e = refl
  at false e = grind (arith, common_steps, allowed, e)

front_listed : (listing : Listing) (who : AccountId) (score : ℕ) (lighter : AccountId) (lighter_score : ℕ)
    → list_put_in_front_refusal listing who score lighter lighter_score ≡ None → is_listed listing.order who ≡ true
front_listed listing who score lighter lighter_score allowed = at (is_listed listing.order who) refl where
  at : (b : Bool) → is_listed listing.order who ≡ b → b ≡ true
  at true e = refl
  at false e = grind (arith, common_steps, allowed, e)

pub nominate_live : (chain : Chain) (who : AccountId) (targets : List AccountId) → KeepsLive chain (nominate_rule chain who targets)
nominate_live chain who targets live free =
    let allowed =
    none_inside ByList (list_nominate_refusal chain.roles who targets)
    (second_none (option_map ByLedger (role_refusal chain who)) (option_map ByList (list_nominate_refusal chain.roles who targets)) free) in
    placed_live chain who (Nominator targets) (is_nominator_role (role_of chain.roles who)) (active_of chain who) live
    (kept_nominated chain.roles who targets live.roles allowed) (nominator_has (standing_of chain.roles who))

pub validate_live : (chain : Chain) (who : AccountId) (commission : ℕ) → KeepsLive chain (validate_rule chain who commission)
validate_live chain who commission live free =
    let allowed =
    none_inside ByList (list_validate_refusal chain.roles who commission)
    (second_none (option_map ByLedger (role_refusal chain who))
    (option_map ByList (list_validate_refusal chain.roles who commission)) free) in
    placed_live chain who (Validator commission) (is_validator_role (role_of chain.roles who)) (active_of chain who) live
    (kept_validating chain.roles who commission live.roles allowed) (validator_has (standing_of chain.roles who))

pub chill_live : (chain : Chain) (who : AccountId) → KeepsLive chain (chill_rule chain who)
chill_live chain who live free = without_live chain who live

pub rebag_live : (chain : Chain) (whom : AccountId) → KeepsLive chain (rebag_rule chain whom)
rebag_live chain whom live free =
    with_lists chain chain.roles (moved chain.bags whom (active_of chain whom)) live
    (kept_rebagged (has_role chain.roles) chain.bags whom (listed_of chain live) (active_of chain whom)
    (rebag_listed chain.bags whom (active_of chain whom)
    (none_inside ByList (list_rebag_refusal chain.bags whom (active_of chain whom)) free)))
    live.roles

pub put_in_front_live : (chain : Chain) (who lighter : AccountId) → KeepsLive chain (put_in_front_rule chain who lighter)
put_in_front_live chain who lighter live free =
    with_lists chain chain.roles (put_in_front chain.bags who lighter) live
    (kept_front (has_role chain.roles) chain.bags who (listed_of chain live) lighter
    (front_listed chain.bags who (active_of chain who) lighter (active_of chain lighter)
    (none_inside ByList (list_put_in_front_refusal chain.bags who (active_of chain who) lighter (active_of chain lighter)) free)))
    live.roles
