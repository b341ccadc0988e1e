use Rattle.std.proofs.Common.{◌≡◌, take}
use Rattle.state_rules.specs.Rounds.{draft_of, is_refused_voter}
use Rattle.state_rules.proofs.ListLemmas.{IsAhead}
use Rattle.state_rules.proofs.round.refuses_voters.Given as goal

-- the voters before were taken
abbrev pub invariant-loop-voter : goal.invariant-loop-voter
invariant-loop-voter l = record {
  ahead : IsAhead (is_refused_voter l.targets) l.voters l.voter-index;
  taken : l.builder ≡ draft_of l.targets (take l.voter-index l.voters);
}
