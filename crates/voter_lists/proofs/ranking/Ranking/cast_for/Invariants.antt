use Rattle.std.proofs.Common.{◌≡◌, ◌+◌, ◌≤◌, length, take, filter_map, vec_len, vec_capacity}
use Rattle.voter_lists.specs.Chosen.{chosen_in}
use Rattle.voter_lists.specs.Noted.{accounts_at}
use Rattle.voter_lists.specs.Roles.{validators_of}
use Rattle.voter_lists.specs.Votes.{rank_of}
use Rattle.voter_lists.proofs.ranking.Ranking.cast_for.Given as goal

-- the ranks of the targets so far, with room for the others
abbrev pub invariant-loop-i : goal.invariant-loop-i
invariant-loop-i l = record {
  votes : l.votes.items ≡ filter_map (rank_of (validators_of l.self.standings.now.roles)) (take l.i (accounts_at l.self.standings.now.accounts (chosen_in l.chosen)));
  room : vec_len l.votes + length (chosen_in l.chosen) ≤ vec_capacity l.votes + l.i;
}
