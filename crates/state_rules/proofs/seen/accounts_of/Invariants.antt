use Rattle.std.proofs.Common.{map, take}
use Rattle.account_places.specs.Places.{by_account}
use Rattle.state_rules.specs.Accounts.{AreNoted}
use Rattle.state_rules.proofs.seen.accounts_of.Given as goal

abbrev pub invariant-loop-row : goal.invariant-loop-row
invariant-loop-row l = AreNoted (by_account l.known.accounts) (map (λ row. row.who) (take l.row-index l.rows))
