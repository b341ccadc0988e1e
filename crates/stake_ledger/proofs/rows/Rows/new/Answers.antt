-- No rows stand at no places.
use Rattle.stake_ledger.proofs.PlaceLemmas.{placed_none}
use Rattle.stake_ledger.proofs.rows.Rows.new.Goals as goal

pub invariant_of-result : goal.invariant_of-result
invariant_of-result c = rw (c.new-2.ensures.items, c.new.ensures) placed_none
