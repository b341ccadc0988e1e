use Rattle.std.proofs.Common.{rules, ◌≡◌}
use Rattle.stake_ledger.specs.Ledger.{row_in}
use Rattle.stake_ledger.proofs.LedgerLemmas.{schedule_in}
use Rattle.stake_ledger.proofs.book.Book.chunks.Goals as goal

pub returns-in-Some-clause-schedule : goal.returns-in-Some-clause-schedule
returns-in-Some-clause-schedule c =
    let chunks : c.as_slice.result.now ≡ (row_in c.self.inside.rows c.args.who).chunks = search rules in
    rw chunks (schedule_in c.args.who c.self.inside.rows c.self.invariant.balanced.schedules)
