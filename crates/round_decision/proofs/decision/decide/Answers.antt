use Rattle.std.proofs.Common.{rules, ◌≡◌, ◌∷◌, ◌++◌, [], List, map, refl, drop, slice_get, Some, None, ap, sym, subst, ◌∙◌}
use Rattle.election_snapshot.specs.Snapshot.{Snapshot}
use Rattle.submission_queue.specs.declared.submission.Submission.{Submission}
use Rattle.submission_queue.specs.Ranking.{Ranking}
use Rattle.block_receipts.specs.declared.line.Line.{Line}
use Rattle.round_decision.specs.Deposits.{AreHeld, all_burned}
use Rattle.round_decision.specs.Decision.{losers, others, forfeit_line, Stops}
use Rattle.round_decision.proofs.DepositLemmas.{front, nothing_first}
use Rattle.round_decision.proofs.DecisionLemmas.{won_books, lost_books, won_lines, lost_lines, won_weights, lost_weights, stops_here, on_err}
use Rattle.round_decision.proofs.decision.decide.Goals as goal

-- the others are the winner and those that wait still
kept : (checker snapshot : Snapshot) (old new : Ranking) (winner : Submission) → checker ≡ snapshot
    → slice_get (others checker old.items) 0 ≡ Some winner → new ≡ record old { items = drop 1 (others checker old.items) }
    → others snapshot old.items ≡ winner ∷ new.items
kept checker snapshot old new winner same first rest =
    ap (λ (s : Snapshot). others s old.items) (sym same)
    ∙ (front (others checker old.items) winner first ∙ ap (λ (q : Ranking). winner ∷ q.items) (sym rest))

-- there is none
gone : (checker snapshot : Snapshot) (old : Ranking) → checker ≡ snapshot → slice_get (others checker old.items) 0 ≡ None → others snapshot old.items ≡ []
gone checker snapshot old same first = ap (λ (s : Snapshot). others s old.items) (sym same) ∙ nothing_first (others checker old.items) first

pub pay_out-requires : goal.pay_out-requires
pay_out-requires c =
    let found = c.in_ok-winner.ensures in
    let checker = c.in_ok-checker.checker in
    let first : slice_get (others checker c.args.queue.now.items) 0 ≡ Some c.in-Some.winner = sym found.winner ∙ c.in-Some.is in
    subst (AreHeld c.find_winner.new.book) (kept checker checker c.args.queue.now c.find_winner.new.queue c.in-Some.winner refl first found.queue) found.held

pub returns-in_ok-pay_out-in-Some-clause-book : goal.returns-in_ok-pay_out-in-Some-clause-book
returns-in_ok-pay_out-in-Some-clause-book c =
    let found = c.in_ok-winner.ensures in
    let same = c.in_ok-checker.ensures in
    let checker = c.in_ok-checker.checker in
    let first : slice_get (others checker c.args.queue.now.items) 0 ≡ Some c.in-Some.winner = sym found.winner ∙ c.in-Some.is in
    won_books c.args.number c.args.amount c.args.snapshot c.args.queue.now.items c.args.book.now c.find_winner.new.book
    (found.book ∙ ap (λ (s : Snapshot). all_burned (losers s c.args.queue.now.items) c.args.book.now) same)
    c.in-Some.winner c.find_winner.new.queue.items c.pay_out.new.book
    (kept checker c.args.snapshot c.args.queue.now c.find_winner.new.queue c.in-Some.winner same first found.queue)
    c.in_ok-pay_out-in-Some.ensures.book

pub returns-in_ok-pay_out-in-Some-clause-lines : goal.returns-in_ok-pay_out-in-Some-clause-lines
returns-in_ok-pay_out-in-Some-clause-lines c =
    let found = c.in_ok-winner.ensures in
    let same = c.in_ok-checker.ensures in
    let checker = c.in_ok-checker.checker in
    let first : slice_get (others checker c.args.queue.now.items) 0 ≡ Some c.in-Some.winner = sym found.winner ∙ c.in-Some.is in
    won_lines c.args.number c.args.amount c.args.snapshot c.args.queue.now.items c.args.book.now c.find_winner.new.book
    (found.book ∙ ap (λ (s : Snapshot). all_burned (losers s c.args.queue.now.items) c.args.book.now) same)
    c.args.lines.now.items c.find_winner.new.lines.items
    (found.lines ∙ ap (λ (s : Snapshot). c.args.lines.now.items ++ map (forfeit_line s) (losers s c.args.queue.now.items)) same)
    c.in-Some.winner c.find_winner.new.queue.items c.pay_out.new.lines.items
    (kept checker c.args.snapshot c.args.queue.now c.find_winner.new.queue c.in-Some.winner same first found.queue)
    c.in_ok-pay_out-in-Some.ensures.lines

pub returns-in_ok-pay_out-in-Some-clause-weights : goal.returns-in_ok-pay_out-in-Some-clause-weights
returns-in_ok-pay_out-in-Some-clause-weights c =
    let found = c.in_ok-winner.ensures in
    let same = c.in_ok-checker.ensures in
    let checker = c.in_ok-checker.checker in
    let first : slice_get (others checker c.args.queue.now.items) 0 ≡ Some c.in-Some.winner = sym found.winner ∙ c.in-Some.is in
    won_weights c.args.snapshot c.find_winner.new.checker c.args.queue.now.items c.in-Some.winner c.find_winner.new.queue.items c.seat_winner.result.weights.plain
    (kept checker c.args.snapshot c.args.queue.now c.find_winner.new.queue c.in-Some.winner same first found.queue)
    (found.snapshot ∙ same) c.seat_winner.ensures.weights

pub returns-in_ok-push-in-None-clause-book : goal.returns-in_ok-push-in-None-clause-book
returns-in_ok-push-in-None-clause-book c =
    let found = c.in_ok-winner.ensures in
    let same = c.in_ok-checker.ensures in
    lost_books c.args.number c.args.amount c.args.snapshot c.args.queue.now.items c.args.book.now c.find_winner.new.book
    (found.book ∙ ap (λ (s : Snapshot). all_burned (losers s c.args.queue.now.items) c.args.book.now) same)
    (gone c.in_ok-checker.checker c.args.snapshot c.args.queue.now same (sym found.winner ∙ c.in-None.is))

pub returns-in_ok-push-in-None-clause-lines : goal.returns-in_ok-push-in-None-clause-lines
returns-in_ok-push-in-None-clause-lines c =
    let found = c.in_ok-winner.ensures in
    let same = c.in_ok-checker.ensures in
    lost_lines c.args.number c.args.amount c.args.snapshot c.args.queue.now.items c.args.book.now c.find_winner.new.book
    (found.book ∙ ap (λ (s : Snapshot). all_burned (losers s c.args.queue.now.items) c.args.book.now) same)
    c.args.lines.now.items c.find_winner.new.lines.items
    (found.lines ∙ ap (λ (s : Snapshot). c.args.lines.now.items ++ map (forfeit_line s) (losers s c.args.queue.now.items)) same)
    c.push.new.self.items
    (gone c.in_ok-checker.checker c.args.snapshot c.args.queue.now same (sym found.winner ∙ c.in-None.is))
    c.in_ok-push-in-None.ensures.items

pub returns-in_ok-push-in-None-clause-queue : goal.returns-in_ok-push-in-None-clause-queue
returns-in_ok-push-in-None-clause-queue c =
    let found = c.in_ok-winner.ensures in
    let checker = c.in_ok-checker.checker in
    let none = gone checker checker c.args.queue.now refl (sym found.winner ∙ c.in-None.is) in
    found.queue ∙ ap (λ (xs : List Submission). record { items = drop 1 xs; places = c.args.queue.now.places }) none

pub returns-in_ok-push-in-None-clause-weights : goal.returns-in_ok-push-in-None-clause-weights
returns-in_ok-push-in-None-clause-weights c =
    let found = c.in_ok-winner.ensures in
    let same = c.in_ok-checker.ensures in
    lost_weights c.args.snapshot c.into_snapshot.result c.args.queue.now.items c.in_ok-elected-in-None.elected.weights.plain
    (gone c.in_ok-checker.checker c.args.snapshot c.args.queue.now same (sym found.winner ∙ c.in-None.is))
    (c.into_snapshot.ensures ∙ found.snapshot ∙ same) c.in_ok-elected-in-None.ensures.weights

-- before anybody is judged nothing has happened
pub returns-in_err-weights-clause-stops : goal.returns-in_err-weights-clause-stops
returns-in_err-weights-clause-stops c =
    on_err c.from_residual.result (stops_here c.args.snapshot c.args.queue.now.items c.args.book.now c.args.lines.now.items)

-- the fill is seated, and there is no memory to tell it
pub returns-in_err-push-in-None-clause-stops : goal.returns-in_err-push-in-None-clause-stops
returns-in_err-push-in-None-clause-stops c =
    let found = c.in_ok-winner.ensures in
    let kept : c.push.new.self.items ≡ c.find_winner.new.lines.items = search rules in
    on_err _ (subst (λ (s : Snapshot). Stops s c.args.queue.now.items c.args.book.now c.find_winner.new.book c.args.lines.now.items c.push.new.self.items)
    c.in_ok-checker.ensures
    (subst (λ (xs : List Line). Stops c.in_ok-checker.checker c.args.queue.now.items c.args.book.now c.find_winner.new.book c.args.lines.now.items xs)
    (sym kept) found.so_far))
