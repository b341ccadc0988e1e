use Rattle.std.proofs.Common.{rules, ◌≡◌, ◌∙◌, Bool, cond, List, Some, Ok, ap, sym, subst}
use Rattle.std.specs.BTreeMap.{is_at}
use Rattle.std.specs.Map.{set_value, remove_entry}
use Rattle.std.proofs.lemmas.Result.{err_from_is_err_and}
use Rattle.npos_base.specs.declared.account.AccountId.{AccountId}
use Rattle.npos_base.specs.Account.{account_cmp}
use Rattle.npos_base.specs.Refusal.{MeetsAlways}
use Rattle.stake_pools.specs.declared.member.Member.{Member}
use Rattle.stake_pools.specs.Asking.{claim_refusal}
use Rattle.stake_pools.specs.Members.{member_of, changed, claimed}
use Rattle.stake_pools.proofs.MemberLemmas.{claim_is, refused_found, settled_found}
use Rattle.stake_pools.proofs.members.claim.Goals as goal

pub returns-in_err-credit-clause-meets : goal.returns-in_err-credit-clause-meets
returns-in_err-credit-clause-meets c =
    let members : List (AccountId × Member) = c.args.entries.now.entries in
    let put : (c.get_mut.follows.lender c.claim.new.self).entries ≡ set_value (is_at (account_cmp c.args.who)) members c.claim.new.self = search rules in
    let found : member_of members c.args.who ≡ Some c.in-Some.member.now = search rules in
    let p = err_from_is_err_and c.from_residual.result c.from_residual.ensures.1 in
    rw (put, p.1, p.2)
    (refused_found c.args.who c.in-Some.member.now members found (claim_refusal members c.args.who) (changed c.args.who claimed members) c.claim.new.self _
    (claim_is c.args.who c.in-Some.member.now members found ∙ c.in_err-credit.ensures.meets.refused) c.in_err-credit.ensures.meets.unchanged)

pub returns-clause-meets : goal.returns-clause-meets
returns-clause-meets c =
    let members : List (AccountId × Member) = c.args.entries.now.entries in
    let put : (c.get_mut.follows.lender c.claim.new.self).entries ≡ set_value (is_at (account_cmp c.args.who)) members c.claim.new.self = search rules in
    let found : member_of members c.args.who ≡ Some c.in-Some.member.now = search rules in
    let done : Bool = c.has_nothing-is_done.result in
    let after = c.dismiss.ensures ∙ ap (λ (es : List (AccountId × Member)). cond done (remove_entry (is_at (account_cmp c.args.who)) es) es) put in
    subst (λ (es : List (AccountId × Member)). MeetsAlways (claim_refusal members c.args.who) (changed c.args.who claimed members) members es (Ok c.in_ok-credit.credit)) (sym after)
    (settled_found c.args.who c.in-Some.member.now members found claimed (claim_refusal members c.args.who) c.claim.new.self c.in_ok-credit.credit c.get_mut.ensures.ordered
    (claim_is c.args.who c.in-Some.member.now members found ∙ c.in_ok-credit.ensures.meets.ok.0) c.in_ok-credit.ensures.meets.ok.1 done c.has_nothing-is_done.ensures)
