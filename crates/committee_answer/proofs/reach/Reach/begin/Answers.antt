use Rattle.std.proofs.Common.{arith, ◌<◌, ℕ, length, set, inl, inr, ap, rules}
use Rattle.std.proofs.lemmas.Bool.{cases_eq}
use Rattle.std.proofs.lemmas.List.{get_or_read}
use Rattle.committee_answer.specs.declared.reach.Way.{Way}
use Rattle.committee_answer.specs.Offers.{at}
use Rattle.committee_answer.specs.Ways.{steps_at}
use Rattle.committee_answer.proofs.ReachLemmas.{spare_reached, here, stay}
use Rattle.committee_answer.proofs.reach.Reach.begin.Goals.{then-index-gt0+in_ok-push, else-index-gt0}
use Rattle.committee_answer.proofs.reach.Reach.begin.Goals as goal

pub loop-target-preserved : goal.loop-target-preserved
loop-target-preserved c =
    let offers = c.args.offers.now in
    let n = c.loop-target.target in
    let self = c.loop-target.self in
    let so = c.loop-target.invariant in
    let in_table : n < length offers.spare.items = search rules in
    let inside : n < length self.members.items = omega (arith, in_table, so.0.member_count) in
    let spare_is = get_or_read offers.spare.items n c.index.result.now in_table c.index.ensures 0 in
    elim c.if-index-gt0.branch [
      | then-index-gt0+in_ok-push w ↦
          let way : Way = record { steps = 0; edge = 0 } in
          rw w.self-is (
            spare_reached offers self.voters.items self.members.items n so.0 inside (omega (arith, spare_is, w.if-index-gt0.true)),
            λ target below some. elim (cases_eq target n) [
              | inl e ↦ omega (arith, ap (λ (m : ℕ). steps_at (set self.members.items n way) m) e, ap (λ (x : Way). x.steps) (here self.members.items n way inside (omega arith)))
              | inr e ↦ stay self.members.items n way inside (omega arith) (omega arith) target (so.1 target (omega (arith, below, e)) some)
            ],
          )
      | else-index-gt0 w ↦ rw w.self-is (
        so.0,
        λ target below some. elim (cases_eq target n) [
          | inl e ↦ absurd (omega (arith, some, ap (at offers.spare.items) e, spare_is, w.if-index-gt0.false))
          | inr e ↦ so.1 target (omega (arith, below, e)) some
        ],
      )
    ]
