-- A bag without a head is passed.
use Rattle.std.proofs.Common.{◌≡◌, ◌∙◌, ◌-◌, ◌+◌, sym, ap, take, arith}
use Rattle.voter_lists.specs.BagRows.{falling}
use Rattle.voter_lists.specs.Nodes.{bags_in}
use Rattle.voter_lists.proofs.LinkedLemmas.{top_first, top_none}
use Rattle.voter_lists.proofs.nodes.Nodes.top_below.Goals as goal

pub returns-in-Some-clause-some : goal.returns-in-Some-clause-some
returns-in-Some-clause-some c =
    let one : c.loop-lower.lower ≡ c.loop-lower.lower - 1 + 1 = omega arith in
    record {
      lower = omega arith;
      listed = c.in-Some.ensures.member;
      head = sym c.in-Some.ensures.value;
      rest = c.loop-lower.invariant.1 ∙ ap (λ n. falling (take n (bags_in c.args.self.now))) one ∙ top_first c.args.self.now (c.loop-lower.lower - 1) (omega arith);
    }

pub loop-lower-preserved : goal.loop-lower-preserved
loop-lower-preserved c =
    let one : c.loop-lower.lower ≡ c.loop-lower.lower - 1 + 1 = omega arith in (
      omega arith,
      c.loop-lower.invariant.1 ∙ ap (λ n. falling (take n (bags_in c.args.self.now))) one
          ∙ top_none c.args.self.now (c.loop-lower.lower - 1) (omega arith) (sym c.in_default.ensures.value),
    )
