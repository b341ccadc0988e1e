use Rattle.std.proofs.Common.{rules, arith, ◌≡◌, min, get_or}
use Rattle.std.proofs.lemmas.Option.{slice_get_within}
use Rattle.election_snapshot.specs.Snapshot.{votes_of}
use Rattle.seat_race.proofs.NominatorLemmas.{nominates_in_range}
use Rattle.quota_fill.proofs.ChainLemmas.{at_nominates, leads_on}
use Rattle.quota_fill.proofs.RoundLemmas.{along_first, along_more, along_ends, drawn_from_all, drawn_when_paid}
use Rattle.quota_fill.proofs.drawing.draw_from_linked.Goals as goal

pub voters-init : goal.voters-init
voters-init c = along_first c.args.snapshot.now c.args.target c.args.left.now c.args.draws.now.items
    c.first-link.result c.args.left.now c.args.backings.now c.threshold-due.result (search rules) c.first-link.ensures

pub bounds-left-voter : goal.bounds-left-voter
bounds-left-voter c =
    let snapshot = c.args.snapshot.now in
    let at = leads_on snapshot c.args.target c.voters.link c.leads.result c.if-leads.true c.leads.ensures.yes c.voters.invariant.at in
    omega (
      arith,
      c.from-voter.ensures,
      nominates_in_range snapshot c.voters.link.voter c.args.target
          (at_nominates snapshot c.args.target c.voters.link at),
      c.voters.invariant.drawing.tables.left_size,
    )

pub next-link-requires-clause-voter : goal.next-link-requires-clause-voter
next-link-requires-clause-voter c =
    let snapshot = c.args.snapshot.now in
    let at = leads_on snapshot c.args.target c.voters.link c.leads.result c.if-leads.true c.leads.ensures.yes c.voters.invariant.at in
    nominates_in_range snapshot c.voters.link.voter c.args.target (at_nominates snapshot c.args.target c.voters.link at)

pub next-link-requires-clause-place : goal.next-link-requires-clause-place
next-link-requires-clause-place c =
    slice_get_within (votes_of c.args.snapshot.now c.voters.link.voter) c.voters.link.place c.args.target
    (leads_on c.args.snapshot.now c.args.target c.voters.link c.leads.result c.if-leads.true c.leads.ensures.yes c.voters.invariant.at)

pub voters-smaller : goal.voters-smaller
voters-smaller c =
    let snapshot = c.args.snapshot.now in
    let link = c.voters.link in
    let at = leads_on snapshot c.args.target link c.leads.result c.if-leads.true c.leads.ensures.yes c.voters.invariant.at in
    omega (
      arith,
      (c.next-link.ensures c.args.target at).beyond,
      nominates_in_range snapshot link.voter c.args.target
          (at_nominates snapshot c.args.target link at),
      c.threshold-due.ensures.well_formed.voters.voters_few,
    )

pub voters-preserved : goal.voters-preserved
voters-preserved c =
    let snapshot = c.args.snapshot.now in
    let loop = c.voters in
    let link = loop.link in
    let at = leads_on snapshot c.args.target link c.leads.result c.if-leads.true c.leads.ensures.yes loop.invariant.at in
    let is : c.min-amount.result ≡ min (get_or loop.left c.from-voter.result 0) loop.due = search rules in
    rw (c.draw_from.ensures.left, c.in_ok-note_draw.ensures, is, c.from-voter.ensures)
    (along_more snapshot c.args.target c.args.left.now c.args.draws.now.items link loop.left loop.backings loop.due loop.draws.items loop.invariant at
    c.next-link.result (c.next-link.ensures c.args.target at)
    c.draw_from.new.backings (rw (c.draw_from.ensures.left, is, c.from-voter.ensures) at c.draw_from.ensures.backings) (search rules))

pub returns-else-leads : goal.returns-else-leads
returns-else-leads c =
    let loop = c.voters in
    let ends = along_ends c.args.snapshot.now c.args.target c.args.left.now c.args.draws.now.items loop.link loop.left
    loop.backings loop.due loop.draws.items loop.invariant (search rules) (c.leads.ensures.no c.if-leads.false) in
    drawn_from_all c.args.snapshot.now c.args.target c.args.left.now c.args.draws.now.items loop.invariant.count loop.left loop.backings loop.due loop.draws.items loop.invariant.drawing ends

pub returns-after-voters : goal.returns-after-voters
returns-after-voters c =
    let loop = c.voters in
    drawn_when_paid c.args.snapshot.now c.args.target c.args.left.now c.args.draws.now.items loop.invariant.count
    loop.left loop.backings loop.due loop.draws.items loop.invariant.drawing (omega (arith, c.voters-test.false))
