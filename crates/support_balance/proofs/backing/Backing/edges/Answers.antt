use Rattle.std.proofs.Common.{sym}
use Rattle.support_balance.proofs.BackingLemmas.{kept_follows}
use Rattle.support_balance.proofs.backing.Backing.edges.Goals as goal

pub returns-clause-follows : goal.returns-clause-follows
returns-clause-follows c = rw (sym c.self.view_is) (kept_follows _ _ _ _ _ c.self.invariant.0)
