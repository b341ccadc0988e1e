use Rattle.std.proofs.Common.{arith, ◌≡◌, ◌+◌, ◌<◌, true, false, length, [], ◌∷◌, ◌++◌, refl, ap, sym, ◌∙◌}
use Rattle.std.proofs.lemmas.Grind.{take-set_at}
use Rattle.std.proofs.lemmas.List.{length-set}
use Rattle.election_snapshot.specs.Snapshot.{has}
use Rattle.phragmms_miner.proofs.RunLemmas.{outside_more, outside_less}
use Rattle.phragmms_miner.proofs.miner.fill_outside.Goals.{then-not-is_member, else-not-is_member}
use Rattle.phragmms_miner.proofs.miner.fill_outside.Goals as goal

pub loop-target-preserved : goal.loop-target-preserved
loop-target-preserved c =
    let committee = c.args.backing.now.weights.committee in
    let target = c.loop-target.target in
    let outside = c.loop-target.outside in
    let count = c.loop-target.count in
    let (so, few, long) = c.loop-target.invariant in
    elim c.if-not-is_member.branch [
      | then-not-is_member w ↦
          let f : has committee target ≡ false = sym c.is_member.ensures ∙ w.if-not-is_member.true in
          let room : count < length outside = omega (arith, few, long, c.requires.places, c.target_count-target-end.ensures.count, c.loop-target-test.true) in
          rw (w.outside-is, w.count-is) (
            take-set_at outside count (count + 1) target refl room ∙ ap (λ xs. xs ++ target ∷ []) so ∙ sym (outside_more committee target f),
            omega (arith, few),
            length-set outside count target ∙ long,
          )
      | else-not-is_member w ↦
          let t : has committee target ≡ true = sym c.is_member.ensures ∙ w.if-not-is_member.false in
          rw (w.outside-is, w.count-is) (so ∙ sym (outside_less committee target t), omega (arith, few), long)
    ]
