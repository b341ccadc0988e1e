use Rattle.voter_lists.specs.Noted.{accounts_at}
use Rattle.voter_lists.specs.Ranking.{AreTold, entered}
use Rattle.voter_lists.specs.Votes.{rank_of}
use Rattle.voter_lists.proofs.ranking.table.Given as goal

-- the validators so far are entered
abbrev pub invariant-loop-rank : goal.invariant-loop-rank
invariant-loop-rank l =
    AreTold l.ranks.items l.standings.accounts (λ who. entered l.rank (rank_of (accounts_at l.standings.accounts l.validators) who))
