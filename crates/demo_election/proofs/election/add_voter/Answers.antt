use Rattle.std.proofs.Common.{rules, ◌≡◌, ◌∙◌, ap₂, ◌+◌, ◌%◌, min}
use Rattle.demo_election.specs.Generated.{votes_round, count_from, most_drawn}
use Rattle.demo_election.proofs.DraftLemmas.{drawn_is_free}
use Rattle.demo_election.proofs.election.add_voter.Goals as goal

pub put_voter-requires : goal.put_voter-requires
put_voter-requires c =
    let most : c.from-most.result ≡ min c.args.targets most_drawn = search rules in
    let votes : c.as_slice.result.now ≡ votes_round c.args.targets (c.draw-3.result % c.args.targets) (count_from c.args.targets c.draw-2.result) =
    c.as_slice.ensures.value ∙ c.in_ok-put_votes.ensures ∙ ap₂ (λ some few. votes_round c.args.targets (c.draw-3.result % some) (1 + c.draw-2.result % few)) c.from.ensures most in
    let free = drawn_is_free c.args.targets c.args.place c.draw.result c.draw-2.result c.draw-3.result c.args.parts.now c.requires.begun c.requires.few in
    rw (votes, c.from-2.ensures) free
