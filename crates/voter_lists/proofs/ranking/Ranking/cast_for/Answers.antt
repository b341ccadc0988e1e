-- A place tells the rank of its account.
use Rattle.std.proofs.Common.{◌∙◌, ◌++◌, ◌∷◌, [], ap, arith}
use Rattle.voter_lists.specs.Chosen.{chosen_in}
use Rattle.voter_lists.specs.Roles.{validators_of}
use Rattle.voter_lists.specs.Votes.{rank_of}
use Rattle.voter_lists.proofs.VoteLemmas.{vote_some, vote_none, all_votes}
use Rattle.voter_lists.proofs.ranking.Ranking.cast_for.Goals as goal
use Rattle.voter_lists.proofs.ranking.Ranking.cast_for.Goals.{in-Some, in_default}

pub loop-i-preserved : goal.loop-i-preserved
loop-i-preserved c =
    let accounts = c.args.self.now.standings.now.accounts in
    let places = chosen_in c.args.chosen in
    let rank = rank_of (validators_of c.args.self.now.standings.now.roles) in
    let i = c.loop-i.i in
    elim c.match-rank_at.branch [
      | in-Some w ↦ rw w.votes-is record {
        votes = w.push_reserved.ensures.items ∙ ap (λ votes. votes ++ w.in-Some.rank ∷ []) c.loop-i.invariant.votes
            ∙ vote_some accounts places rank c.requires.within i c.at.result c.at.ensures c.rank_at.result c.rank_at.ensures w.in-Some.rank w.in-Some.is;
        room = omega (arith, w.push_reserved.ensures.len, w.push_reserved.ensures.capacity, c.loop-i.invariant.room);
      }
      | in_default w ↦ rw w.votes-is record {
        votes = c.loop-i.invariant.votes ∙ vote_none accounts places rank c.requires.within i c.at.result c.at.ensures c.rank_at.result c.rank_at.ensures w.in_default.is;
        room = omega (arith, c.loop-i.invariant.room);
      }
    ]

pub returns : goal.returns
returns c =
    c.loop-i.invariant.votes
    ∙ all_votes c.args.self.now.standings.now.accounts (chosen_in c.args.chosen) (rank_of (validators_of c.args.self.now.standings.now.roles)) c.requires.within c.loop-i.i
    (omega (arith, c.loop-i-test.false, c.len-i-end.ensures))
