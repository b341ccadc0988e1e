use Rattle.std.proofs.Common.{rules, ◌≡◌, ◌∙◌, Bool, cond, List, Some, Ok, ap, sym, subst}
use Rattle.std.specs.BTreeMap.{is_at}
use Rattle.std.specs.Map.{set_value, remove_entry}
use Rattle.std.proofs.lemmas.Result.{err_from_is_err_and}
use Rattle.npos_base.specs.declared.account.AccountId.{AccountId}
use Rattle.npos_base.specs.Account.{account_cmp}
use Rattle.npos_base.specs.Refusal.{MeetsAlways}
use Rattle.stake_pools.specs.declared.member.Member.{Member}
use Rattle.stake_pools.specs.Asking.{redeem_refusal}
use Rattle.stake_pools.specs.Members.{member_of, changed, redeemed}
use Rattle.stake_pools.proofs.MemberLemmas.{redeem_is, refused_found, settled_found}
use Rattle.stake_pools.proofs.members.redeem.Goals as goal

pub returns-in_err-points-clause-meets : goal.returns-in_err-points-clause-meets
returns-in_err-points-clause-meets c =
    let members : List (AccountId × Member) = c.args.entries.now.entries in
    let put : (c.get_mut.follows.lender c.redeem.new.self).entries ≡ set_value (is_at (account_cmp c.args.who)) members c.redeem.new.self = search rules in
    let found : member_of members c.args.who ≡ Some c.in-Some.member.now = search rules in
    let p = err_from_is_err_and c.from_residual.result c.from_residual.ensures.1 in
    rw (put, p.1, p.2)
    (refused_found c.args.who c.in-Some.member.now members found (redeem_refusal members c.args.who c.args.era) (changed c.args.who (redeemed c.args.era) members) c.redeem.new.self _
    (redeem_is c.args.who c.in-Some.member.now members found c.args.era ∙ c.in_err-points.ensures.meets.refused) c.in_err-points.ensures.meets.unchanged)

pub returns-clause-meets : goal.returns-clause-meets
returns-clause-meets c =
    let members : List (AccountId × Member) = c.args.entries.now.entries in
    let put : (c.get_mut.follows.lender c.redeem.new.self).entries ≡ set_value (is_at (account_cmp c.args.who)) members c.redeem.new.self = search rules in
    let found : member_of members c.args.who ≡ Some c.in-Some.member.now = search rules in
    let done : Bool = c.has_nothing-is_done.result in
    let after = c.dismiss.ensures ∙ ap (λ (es : List (AccountId × Member)). cond done (remove_entry (is_at (account_cmp c.args.who)) es) es) put in
    subst (λ (es : List (AccountId × Member)). MeetsAlways (redeem_refusal members c.args.who c.args.era)
    (changed c.args.who (redeemed c.args.era) members) members es (Ok c.in_ok-points.points)) (sym after)
    (settled_found c.args.who c.in-Some.member.now members found (redeemed c.args.era) (redeem_refusal members c.args.who c.args.era) c.redeem.new.self c.in_ok-points.points c.get_mut.ensures.ordered
    (redeem_is c.args.who c.in-Some.member.now members found c.args.era ∙ c.in_ok-points.ensures.meets.ok.0) c.in_ok-points.ensures.meets.ok.1 done c.has_nothing-is_done.ensures)
