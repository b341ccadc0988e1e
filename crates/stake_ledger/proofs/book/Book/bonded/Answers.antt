use Rattle.std.proofs.Common.{rules, ◌≡◌, arith}
use Rattle.stake_ledger.specs.Ledger.{row_in}
use Rattle.stake_ledger.proofs.KeepLemmas.{worth_within}
use Rattle.stake_ledger.proofs.book.Book.bonded.Goals as goal

pub is_bonded-requires : goal.is_bonded-requires
is_bonded-requires c =
    let row : c.in-Some.row.now ≡ row_in c.self.inside.rows c.args.who = search rules in
    rw row (omega (arith, worth_within c.args.who _ _ c.self.invariant))
