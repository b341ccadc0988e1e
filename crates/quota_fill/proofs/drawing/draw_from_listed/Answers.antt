use Rattle.std.proofs.Common.{rules, arith, ◌≡◌, ℕ, ◌<◌, ◌≤◌, min, List, length, get_or, sym, subst}
use Rattle.quota_fill.proofs.RoundLemmas.{giver_in_range, drawing_more, drawn_from_all, drawn_when_paid}
use Rattle.quota_fill.proofs.drawing.draw_from_listed.Goals as goal

pub draw_from-requires-clause-voter : goal.draw_from-requires-clause-voter
draw_from-requires-clause-voter c =
    let loop = c.loop-voter in
    let h = subst (λ (ns : List ℕ). loop.voter-index < length ns) c.requires.voters c.loop-voter-test.true in
    subst (λ (ns : List ℕ). get_or ns loop.voter-index 0 < length c.args.snapshot.now.voters) (sym c.requires.voters)
    (giver_in_range c.args.snapshot.now c.args.target c.args.left.now c.args.draws.now.items loop.voter-index 0 h loop.left loop.backings loop.due loop.draws.items loop.invariant)

pub bounds-left-voter : goal.bounds-left-voter
bounds-left-voter c =
    let loop = c.loop-voter in
    let h = subst (λ (ns : List ℕ). loop.voter-index < length ns) c.requires.voters c.loop-voter-test.true in
    subst (λ (ns : List ℕ). get_or ns loop.voter-index 0 < length loop.left) (sym c.requires.voters)
    (omega (
      arith,
      giver_in_range c.args.snapshot.now c.args.target c.args.left.now c.args.draws.now.items
          loop.voter-index 0 h loop.left loop.backings loop.due loop.draws.items loop.invariant,
      loop.invariant.tables.left_size,
    ))

pub loop-voter-preserved : goal.loop-voter-preserved
loop-voter-preserved c =
    let loop = c.loop-voter in
    let h = subst (λ (ns : List ℕ). loop.voter-index < length ns) c.requires.voters c.loop-voter-test.true in
    let is : c.min-amount.result ≡ min (get_or loop.left (get_or c.args.voters.now loop.voter-index 0) 0) loop.due = search rules in
    rw (c.draw_from.ensures.left, c.in_ok-note_draw.ensures, is, c.requires.voters)
    (drawing_more c.args.snapshot.now c.args.target c.args.left.now c.args.draws.now.items loop.voter-index 0 h loop.left loop.backings loop.due loop.draws.items loop.invariant
    c.draw_from.new.backings (rw (c.draw_from.ensures.left, is, c.requires.voters) at c.draw_from.ensures.backings) (search rules))

pub returns-then-due-eq0 : goal.returns-then-due-eq0
returns-then-due-eq0 c =
    let loop = c.loop-voter in
    drawn_when_paid c.args.snapshot.now c.args.target c.args.left.now c.args.draws.now.items loop.voter-index loop.left loop.backings loop.due loop.draws.items loop.invariant c.if-due-eq0.true

pub returns : goal.returns
returns c =
    let loop = c.loop-voter in
    drawn_from_all c.args.snapshot.now c.args.target c.args.left.now c.args.draws.now.items loop.voter-index loop.left loop.backings loop.due loop.draws.items loop.invariant
    (subst (λ (ns : List ℕ). length ns ≤ loop.voter-index) c.requires.voters c.loop-voter-test.false)
