use Rattle.std.proofs.Common.{rules, ◌≡◌, ◌++◌, take, map, ap, sym, ◌∙◌}
use Rattle.std.proofs.lemmas.List.{take-map}
use Rattle.round_decision.specs.Decision.{member_line}
use Rattle.round_decision.proofs.decision.tell_members.Goals as goal

-- those before the one that could not be told
pub returns-in_err-push-clause-so_far : goal.returns-in_err-push-clause-so_far
returns-in_err-push-clause-so_far c =
    let elected = c.args.elected.now in
    let line = member_line elected.snapshot elected.weights.plain in
    let same : c.push.new.self.items ≡ c.loop-member.lines.items = search rules in (
      c.loop-member.member-index,
      same ∙ c.loop-member.invariant
          ∙ ap (λ lines. c.args.lines.now.items ++ lines)
          (ap (λ members. map line (take c.loop-member.member-index members)) c.committee-member-items.ensures.members
          ∙ sym (take-map line c.loop-member.member-index elected.weights.plain.committee)),
    )
