use Rattle.std.proofs.Common.{◌≡◌, length}
use Rattle.npos_runtime.specs.Rules.Polling.{IsPolled}
use Rattle.npos_runtime.proofs.ballot.add_voters.Given as goal

abbrev pub decreases-loop-voters : goal.decreases-loop-voters
decreases-loop-voters l = length l.walk

-- the draft has the voters of the walk up to what is left of it
abbrev pub invariant-loop-voters : goal.invariant-loop-voters
invariant-loop-voters l = record {
  polled : IsPolled l.chain l.parts l.walk;
  roles : l.electorate ≡ l.chain.roles;
  counted : l.voters ≡ length l.parts.voters;
}
