use Rattle.std.proofs.Common.{rules, ◌≡◌, ℕ, false, get_or, arith, ◌∙◌}
use Rattle.seat_race.specs.Tables.{says}
use Rattle.seq_phragmen.specs.Kept.{score_by}
use Rattle.seq_phragmen.proofs.LoadLemmas.{shared_most}
use Rattle.seq_phragmen.proofs.TableLemmas.{lighter_next, lightest_stays, floor_set}
use Rattle.seq_phragmen.proofs.picking.lightest_outside.Goals.{then-floors-target+then-not-is_picked-target+then-score-least}
use Rattle.seq_phragmen.proofs.picking.lightest_outside.Goals.{then-floors-target+then-not-is_picked-target+else-score-least, else-floors-target}
use Rattle.seq_phragmen.proofs.picking.lightest_outside.Goals.{else-floors-target-via-then-floors-target+else-not-is_picked-target, else-floors-target-via-else-floors-target}
use Rattle.seq_phragmen.proofs.picking.lightest_outside.Goals as goal

pub loop-target-preserved : goal.loop-target-preserved
loop-target-preserved c =
    let value = λ (target : ℕ). score_by c.args.seat c.args.burdens.now c.args.approvals.now target in
    let marks = c.args.is_picked.now in
    let loop = c.loop-target in
    let stays = lightest_stays value marks loop.target loop.best loop.least
    (shared_most c.args.seat (says c.args.burdens.now loop.target) (says c.args.approvals.now loop.target))
    loop.invariant.lightest in
    elim c.if-floors-target.branch [
      | then-floors-target+then-not-is_picked-target+then-score-least w ↦
          let score = w.share_load-score.ensures.load in
          let unmarked : get_or c.args.is_picked.now c.loop-target.target false ≡ false = search rules in record {
            lightest = rw w.best-is (rw (w.least-is ∙ score) (lighter_next value marks loop.target loop.best
                loop.least c.loop-target-test.true loop.invariant.lightest unmarked
                (omega (arith, score, w.if-score-least.true))));
            floors = rw w.floors-is (floor_set value marks loop.floors loop.target w.share_load-score.result score loop.invariant.floors);
          }
      | then-floors-target+then-not-is_picked-target+else-score-least w ↦
          let score = w.share_load-score.ensures.load in record {
            lightest = rw w.best-is (rw w.least-is (stays (λ _. omega (arith, score, w.if-score-least.false))));
            floors = rw w.floors-is (floor_set value marks loop.floors loop.target w.share_load-score.result score loop.invariant.floors);
          }
      | else-floors-target w ↦ record {
        lightest = rw w.best-is (rw w.least-is (stays (λ f. elim w.else-floors-target.branch [
          | else-floors-target-via-then-floors-target+else-not-is_picked-target v ↦ search rules
          | else-floors-target-via-else-floors-target v ↦ omega (arith, v.if-floors-target.false, loop.invariant.floors loop.target c.loop-target-test.true f)
        ])));
        floors = rw w.floors-is loop.invariant.floors;
      }
    ]
