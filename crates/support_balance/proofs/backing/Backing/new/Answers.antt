use Rattle.std.proofs.Common.{rules, ◌≡◌, [], length, replicate, false}
use Rattle.support_balance.proofs.BackingLemmas.{kept_none}
use Rattle.support_balance.proofs.backing.Backing.new.Goals as goal

pub of-requires : goal.of-requires
of-requires c =
    let targets = length c.args.snapshot.now.targets in
    let marks : c.in_ok-is_member.is_member.items ≡ replicate targets false = search rules in
    let supports : c.in_ok-supports.supports.items ≡ replicate targets 0 = search rules in
    let edges : c.in_ok-edges.edges.items ≡ [] = search rules in
    rw (marks, supports, c.new.ensures.items, edges) (kept_none c.args.snapshot.now c.target_count.ensures.well_formed)
