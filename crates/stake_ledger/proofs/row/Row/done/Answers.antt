use Rattle.std.proofs.Common.{rules, ◌≡◌, None, arith}
use Rattle.stake_ledger.specs.RowCalls.{row_refusal, row_after}
use Rattle.stake_ledger.proofs.CallLemmas.{worth_after}
use Rattle.stake_ledger.proofs.row.Row.done.Goals as goal

pub parts-requires : goal.parts-requires
parts-requires c =
    let ok : (row_refusal c.args.call c.args.self.now ≡ None) × (c.call.new.self ≡ row_after c.args.call c.args.self.now) = search rules in
    rw ok.1 (omega (arith, worth_after c.args.call c.args.self.now ok.0, c.requires.fits))
