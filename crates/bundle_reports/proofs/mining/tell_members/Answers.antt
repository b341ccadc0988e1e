use Rattle.std.proofs.Common.{rules, ◌≡◌, ◌<◌, length, get_or, sym, ◌∙◌}
use Rattle.std.proofs.lemmas.Option.{get_or_from_slice_get}
use Rattle.election_snapshot.specs.Snapshot.{no_account}
use Rattle.weight_book.specs.Weights.{support}
use Rattle.bundle_reports.specs.Mining.{target_at}
use Rattle.bundle_reports.proofs.MineLaws.{member_more}
use Rattle.bundle_reports.proofs.mining.tell_members.Goals as goal

pub loop-member-preserved : goal.loop-member-preserved
loop-member-preserved c =
    let committee = c.args.weights.now.plain.committee in
    let i = c.loop-member.member-index in
    let who : c.target.result ≡ target_at c.args.snapshot.now (get_or c.args.weights.now.plain.committee c.loop-member.member-index 0)
    = sym (get_or_from_slice_get c.args.snapshot.now.targets (get_or committee i 0) c.target.result no_account (search rules)) in
    let number : c.support.result ≡ support c.args.weights.now.plain.edges (get_or c.args.weights.now.plain.committee c.loop-member.member-index 0) = search rules in
    let h : c.loop-member.member-index < length c.args.weights.now.plain.committee = search rules in
    c.in_ok-tell_member.ensures.text
    ∙ member_more c.args.snapshot.now c.args.weights.now.plain c.loop-member.text.items c.args.text.now.items i 0 c.target.result c.support.result h who number c.loop-member.invariant
