use Rattle.std.proofs.Common.{rules, ◌≡◌, ◌∙◌, ◌+◌, Some}
use Rattle.std.specs.BTreeMap.{is_at}
use Rattle.std.specs.Map.{set_value}
use Rattle.npos_base.specs.Account.{account_cmp}
use Rattle.stake_pools.specs.declared.member.Member.{Member}
use Rattle.stake_pools.specs.Members.{member_of}
use Rattle.stake_pools.proofs.MemberLemmas.{joined_found}
use Rattle.stake_pools.proofs.members.enter.Goals as goal

pub returns-in-Some-clause-ok : goal.returns-in-Some-clause-ok
returns-in-Some-clause-ok c =
    let after : Member = record c.in-Some.member.now { staying = c.in-Some.member.now.staying + c.args.points } in
    let put : (c.get_mut.follows.lender after).entries ≡ set_value (is_at (account_cmp c.args.who)) c.args.entries.now.entries after = search rules in
    let found : member_of c.args.entries.now.entries c.args.who ≡ Some c.in-Some.member.now = search rules in
    put ∙ joined_found c.args.who c.args.points c.in-Some.member.now c.args.entries.now.entries c.get_mut.ensures.ordered c.requires.some found
