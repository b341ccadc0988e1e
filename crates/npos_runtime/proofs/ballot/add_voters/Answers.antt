use Rattle.std.proofs.Common.{◌+◌, length, sym, ◌∙◌, ap, subst, arith}
use Rattle.election_snapshot.specs.Draft.{Draft}
use Rattle.npos_runtime.specs.Rules.Polling.{IsPolled}
use Rattle.npos_runtime.proofs.Rules.StepLemmas.{polled_first, polled_next, polled_full, polled_through, one_more, no_more}
use Rattle.npos_runtime.proofs.ballot.add_voters.Goals as goal
use Rattle.npos_runtime.proofs.ballot.add_voters.Goals.{else-loop-voters-test, then-loop-voters-test+in_default}

pub loop-voters-init : goal.loop-voters-init
loop-voters-init c =
    let empty = c.reserve.ensures.same ∙ c.requires.empty in
    record {
      polled = polled_first c.args.chain.now c.reserve.new.self c.walk-walk.result c.requires.live empty c.walk-walk.ensures.accounts;
      roles = c.in_ok-electorate.ensures;
      counted = sym (ap (λ (draft : Draft). length draft.voters) empty);
    }

pub loop-voters-preserved-then-branch : goal.loop-voters-preserved-then-branch
loop-voters-preserved-then-branch c = record {
  polled = polled_next c.args.chain.now c.loop-voters.parts c.in-Some.who c.next.new.self
      (subst (λ ahead. IsPolled c.args.chain.now c.loop-voters.parts ahead) c.in-Some.ensures.steps c.loop-voters.invariant.polled)
      (omega (arith, c.loop-voters-test.true, c.loop-voters.invariant.counted)) c.add_voter.new.parts c.in_ok-add_voter.ensures.ok;
  roles = c.in_ok-add_voter.ensures.kept ∙ c.loop-voters.invariant.roles;
  counted = ap (λ n. n + 1) c.loop-voters.invariant.counted
      ∙ sym (one_more c.args.chain.now c.loop-voters.parts c.add_voter.new.parts c.in-Some.who (sym c.in_ok-add_voter.ensures.answer ∙ c.if-branch.true) c.in_ok-add_voter.ensures.ok);
}

pub loop-voters-preserved : goal.loop-voters-preserved
loop-voters-preserved c = record {
  polled = polled_next c.args.chain.now c.loop-voters.parts c.in-Some.who c.next.new.self
      (subst (λ ahead. IsPolled c.args.chain.now c.loop-voters.parts ahead) c.in-Some.ensures.steps c.loop-voters.invariant.polled)
      (omega (arith, c.loop-voters-test.true, c.loop-voters.invariant.counted)) c.add_voter.new.parts c.in_ok-add_voter.ensures.ok;
  roles = c.in_ok-add_voter.ensures.kept ∙ c.loop-voters.invariant.roles;
  counted = c.loop-voters.invariant.counted
      ∙ sym (no_more c.args.chain.now c.loop-voters.parts c.add_voter.new.parts c.in-Some.who (sym c.in_ok-add_voter.ensures.answer ∙ c.if-branch.false) c.in_ok-add_voter.ensures.ok);
}

pub returns : goal.returns
returns c = elim c.loop-voters-test.branch [
  | else-loop-voters-test w ↦
      polled_full c.args.chain.now c.loop-voters.parts c.loop-voters.walk c.loop-voters.invariant.polled
      (omega (arith, w.loop-voters-test.false, c.loop-voters.invariant.counted))
  | then-loop-voters-test+in_default w ↦
      polled_through c.args.chain.now c.loop-voters.parts
      (subst (λ ahead. IsPolled c.args.chain.now c.loop-voters.parts ahead) w.in_default.ensures.steps.0 c.loop-voters.invariant.polled)
]
