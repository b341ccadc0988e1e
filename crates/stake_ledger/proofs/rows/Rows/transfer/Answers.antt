use Rattle.std.proofs.Common.{◌≡◌, ◌∙◌, ap, arith}
use Rattle.stake_ledger.specs.Rows.{gained, paid}
use Rattle.stake_ledger.specs.Ledger.{with_row}
use Rattle.stake_ledger.proofs.LedgerLemmas.{given_back, row_in_other, row_in_put, row_of-put}
use Rattle.stake_ledger.proofs.rows.Rows.transfer.Goals as goal

pub gain-requires : goal.gain-requires
gain-requires c = rw (c.in_ok-pay.ensures.ok, row_in_other c.args.from (paid c.args.value) c.args.self.now c.args.to c.requires.apart) (omega (arith, c.requires.fits, c.in_ok-pay.ensures.accepted))

pub give-requires-clause-fits : goal.give-requires-clause-fits
give-requires-clause-fits c =
    let same : c.gain.new.self ≡ with_row c.args.from (paid c.args.value) c.args.self.now = c.in-Err.ensures.err ∙ c.in_ok-pay.ensures.ok in
    rw (same, row_in_put c.args.from (paid c.args.value) c.args.self.now) (omega (arith, c.in_ok-pay.ensures.accepted, c.requires.fits))

pub give-requires-clause-there : goal.give-requires-clause-there
give-requires-clause-there c =
    let same : c.gain.new.self ≡ with_row c.args.from (paid c.args.value) c.args.self.now = c.in-Err.ensures.err ∙ c.in_ok-pay.ensures.ok in
    rw same (row_of-put c.args.from (paid c.args.value) c.args.self.now)

pub returns-in-Err-clause-err : goal.returns-in-Err-clause-err
returns-in-Err-clause-err c =
    let same : c.gain.new.self ≡ with_row c.args.from (paid c.args.value) c.args.self.now = c.in-Err.ensures.err ∙ c.in_ok-pay.ensures.ok in
    c.give.ensures ∙ (ap (with_row c.args.from (gained c.args.value)) same
    ∙ given_back c.args.from c.args.value c.args.self.now c.requires.ordered c.in_ok-pay.ensures.there c.in_ok-pay.ensures.accepted)
