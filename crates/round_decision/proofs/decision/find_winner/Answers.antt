use Rattle.std.proofs.Common.{◌≡◌, ◌++◌, ◌∷◌, [], List, drop, map, ap, sym, subst, ◌∙◌, append_assoc, arith}
use Rattle.stake_ledger.specs.Ledger.{Ledger}
use Rattle.submission_queue.specs.declared.submission.Submission.{Submission}
use Rattle.submission_queue.specs.Ranking.{Ranking}
use Rattle.election_check.specs.Packed.{verdict_packed}
use Rattle.block_receipts.specs.declared.line.Line.{Line}
use Rattle.block_receipts.specs.declared.line.Line.TheVariants as lines
use Rattle.round_decision.specs.Deposits.{AreHeld, burned, all_burned}
use Rattle.round_decision.specs.Decision.{judged, losers, others, forfeit_line, Stops}
use Rattle.round_decision.proofs.DepositLemmas.{front, held_burned}
use Rattle.round_decision.proofs.DecisionLemmas.{fails_first, fails_by, stops_later, left_later}
use Rattle.round_decision.proofs.decision.find_winner.Goals as goal

pub items-preserved : goal.items-preserved
items-preserved c =
    let snapshot = c.args.checker.now in
    let item = c.in-Some.item in
    let later : List Submission = drop 1 c.items.queue.items in
    let first : c.items.queue.items ≡ item ∷ later = front c.items.queue.items item (sym c.take_best.ensures.best ∙ c.in-Some.is) in
    let rest : c.take_best.new.self.items ≡ later = ap (λ (q : Ranking). q.items) c.take_best.ensures.rest in
    let seen : c.in_ok-verdict.verdict ≡ judged snapshot item =
    c.in_ok-verdict.ensures.verdict ∙ (λ i. verdict_packed (c.items.invariant.snapshot i) item.score (c.as_slice-bytes.ensures i)) in
    let fails_here = fails_first snapshot item later (fails_by snapshot item (λ e. c.in_default-2.not-Yes (seen ∙ e))) in
    let lost : losers snapshot c.items.queue.items ≡ item ∷ losers snapshot later = ap (losers snapshot) first ∙ fails_here.0 in
    let told = c.in_ok-forfeit-in_default-2.ensures in
    let kept = c.in_ok-verdict.ensures.room in
    let cleared = c.clear.ensures.room in
    record {
      snapshot = c.in_ok-verdict.ensures.snapshot ∙ c.items.invariant.snapshot;
      empty = c.clear.ensures.empty;
      room = record {
        members = omega (arith, c.items.invariant.room.members, kept.members, cleared.members);
        edges = omega (arith, c.items.invariant.room.edges, kept.edges, cleared.edges);
      };
      held = subst (λ (b : Ledger). AreHeld b c.take_best.new.self.items) (sym told.book)
          (subst (AreHeld (burned c.items.book item)) (sym rest) (held_burned c.items.book c.items.queue.items item later c.items.invariant.held first));
      others = ap (others snapshot) rest ∙ (sym (ap (others snapshot) first ∙ fails_here.1) ∙ c.items.invariant.others);
      book = (λ i. all_burned (losers snapshot (rest i)) (told.book i))
          ∙ (ap (λ (xs : List Submission). all_burned xs c.items.book) (sym lost) ∙ c.items.invariant.book);
      lines = (λ i. told.line i ++ map (forfeit_line snapshot) (losers snapshot (rest i)))
          ∙ (append_assoc c.items.lines.items (lines.Forfeit item.number item.deposit c.in_ok-verdict.verdict ∷ []) (map (forfeit_line snapshot) (losers snapshot later))
          ∙ ((λ i. c.items.lines.items ++ (lines.Forfeit item.number item.deposit (seen i) ∷ map (forfeit_line snapshot) (losers snapshot later)))
          ∙ (ap (λ (xs : List Submission). c.items.lines.items ++ map (forfeit_line snapshot) xs) (sym lost) ∙ c.items.invariant.lines)));
      places = ap (λ (q : Ranking). q.places) c.take_best.ensures.rest ∙ c.items.invariant.places;
      left = left_later c.args.queue.now c.items.queue c.take_best.new.self c.items.invariant.left c.take_best.ensures.rest;
      so_far = λ book now stops. c.items.invariant.so_far book now
          (subst (λ (xs : List Submission). Stops snapshot xs c.items.book book c.items.lines.items now) (sym first)
          (stops_later snapshot item later c.items.book book c.items.lines.items now (fails_by snapshot item (λ e. c.in_default-2.not-Yes (seen ∙ e)))
          (subst (λ (b : Ledger). Stops snapshot later b book (c.items.lines.items ++ forfeit_line snapshot item ∷ []) now) told.book
          (subst (λ (xs : List Line). Stops snapshot later c.forfeit.new.book book xs now)
          (told.line ∙ (λ i. c.items.lines.items ++ (lines.Forfeit item.number item.deposit (seen i) ∷ [])))
          (subst (λ (xs : List Submission). Stops snapshot xs c.forfeit.new.book book c.forfeit.new.lines.items now) rest stops)))));
    }

pub returns-in_err-forfeit-in_default-2-clause-left : goal.returns-in_err-forfeit-in_default-2-clause-left
returns-in_err-forfeit-in_default-2-clause-left c =
    left_later c.args.queue.now c.items.queue c.take_best.new.self c.items.invariant.left c.take_best.ensures.rest
