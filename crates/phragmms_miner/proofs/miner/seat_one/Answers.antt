use Rattle.std.proofs.Common.{refl, ◌∙◌}
use Rattle.support_balance.proofs.PutLemmas.{balanced_between}
use Rattle.phragmms_miner.proofs.miner.seat_one.Goals as goal

pub returns-clause-next : goal.returns-clause-next
returns-clause-next c =
    let balanced = rw (c.in_ok-add_member.ensures.committee, c.in_ok-add_member.ensures.snapshot, c.requires.snapshot) at c.balance-made.ensures.balanced in
    record {
      follows = c.pick_next-pick.ensures.follows;
      pick = c.pick_next-pick.result;
      committee = c.balance-made.ensures.committee ∙ c.in_ok-add_member.ensures.committee;
      seated = record {
        best = c.pick_next-pick.ensures.best;
        made = c.balance-made.result;
        balanced = balanced_between _ _ _ _ _ _ _ _ c.in_ok-add_member.ensures.same (λ voter target. refl) balanced;
      };
    }
