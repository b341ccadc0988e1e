use Rattle.std.proofs.Common.{◌≡◌, ◌++◌, List, ◌∷◌, [], drop, ap, length, sym, subst, ◌∙◌, append_assoc, arith}
use Rattle.stake_ledger.specs.Ledger.{Ledger}
use Rattle.submission_queue.specs.declared.submission.Submission.{Submission}
use Rattle.submission_queue.specs.Ranking.{Ranking}
use Rattle.round_decision.specs.Deposits.{AreHeld, returned, all_returned, return_line, return_lines}
use Rattle.round_decision.proofs.DepositLemmas.{front, held_returned}
use Rattle.round_decision.proofs.deposits.return_all.Goals as goal

pub items-preserved : goal.items-preserved
items-preserved c =
    let book = c.items.book in
    let item = c.in-Some.item in
    let first : c.items.queue.items ≡ item ∷ drop 1 c.items.queue.items = front c.items.queue.items item (sym c.take_best.ensures.best ∙ c.in-Some.is) in
    let rest : c.take_best.new.self.items ≡ drop 1 c.items.queue.items = ap (λ (q : Ranking). q.items) c.take_best.ensures.rest in
    let goes = c.give_back.ensures in
    record {
      held = subst (λ (b : Ledger). AreHeld b c.take_best.new.self.items) (sym goes.book)
          (subst (AreHeld (returned book item)) (sym rest) (held_returned book c.items.queue.items item (drop 1 c.items.queue.items) c.items.invariant.held first));
      book = (λ i. all_returned (rest i) (goes.book i)) ∙ (ap (λ (xs : List Submission). all_returned xs book) (sym first) ∙ c.items.invariant.book);
      lines = (λ i. goes.line i ++ return_lines (rest i))
          ∙ (append_assoc c.items.lines.items (return_line item ∷ []) (return_lines (drop 1 c.items.queue.items))
          ∙ (ap (λ (xs : List Submission). c.items.lines.items ++ return_lines xs) (sym first) ∙ c.items.invariant.lines));
      places = ap (λ (q : Ranking). q.places) c.take_best.ensures.rest ∙ c.items.invariant.places;
      len = omega (arith, goes.len, ap length first, ap length rest, c.items.invariant.len);
      capacity = goes.capacity ∙ c.items.invariant.capacity;
    }
