use Rattle.std.proofs.Common.{rules, ◌<◌, false, length, get_or}
use Rattle.committee_answer.proofs.TableLemmas.{marked_next}
use Rattle.committee_answer.proofs.telling.mark_votes.Goals as goal

pub loop-vote-preserved : goal.loop-vote-preserved
loop-vote-preserved c = λ target inside.
    let votes = c.args.votes.now in
    let i = c.loop-vote.vote-index in
    let h : i < length votes = search rules in
    let there : get_or votes i 0 < length c.loop-vote.marks = search rules in
    rw c.from.ensures (marked_next (λ t. get_or c.args.marks.now t false) c.loop-vote.marks votes i target h there (c.loop-vote.invariant target inside))
