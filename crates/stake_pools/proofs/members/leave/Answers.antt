use Rattle.std.proofs.Common.{rules, ◌≡◌, List, Some, sym, subst, option_map}
use Rattle.std.specs.BTreeMap.{is_at}
use Rattle.std.specs.Map.{set_value}
use Rattle.npos_base.specs.declared.account.AccountId.{AccountId}
use Rattle.npos_base.specs.Account.{account_cmp}
use Rattle.npos_base.specs.Refusal.{Meets}
use Rattle.stake_pools.specs.declared.member.Member.{Member}
use Rattle.stake_pools.specs.declared.stop.Stop.TheVariants as stops
use Rattle.stake_pools.specs.Asking.{parting_refusal}
use Rattle.stake_pools.specs.Members.{member_of, changed, left}
use Rattle.stake_pools.proofs.MemberLemmas.{leave_found}
use Rattle.stake_pools.proofs.members.leave.Goals as goal

pub returns : goal.returns
returns c =
    let members : List (AccountId × Member) = c.args.entries.now.entries in
    let put : (c.get_mut.follows.lender c.leave.new.self).entries ≡ set_value (is_at (account_cmp c.args.who)) members c.leave.new.self = search rules in
    let found : member_of members c.args.who ≡ Some c.in-Some.member.now = search rules in
    subst (λ (es : List (AccountId × Member)). Meets stops.NoMemory (option_map stops.Refused (parting_refusal members c.args.who c.args.points c.args.release))
    (changed c.args.who (left c.args.points c.args.release) members) members es c.leave.result) (sym put)
    (leave_found c.args.who c.in-Some.member.now members found c.args.points c.args.release c.leave.new.self c.leave.result c.get_mut.ensures.ordered c.leave.ensures)
