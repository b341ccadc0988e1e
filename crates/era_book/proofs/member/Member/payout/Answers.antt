use Rattle.std.proofs.Common.{rules, ◌≡◌, ap, arith}
use Rattle.era_book.specs.Exposures.{amount_sum}
use Rattle.era_book.specs.Payouts.{payout_lines}
use Rattle.era_book.proofs.LineLemmas.{payout_within}
use Rattle.era_book.proofs.member.Member.payout.Goals as goal

pub total_of-total-requires : goal.total_of-total-requires
total_of-total-requires c =
    let made : c.as_slice.result.now ≡ payout_lines c.args.self.now.exposure c.args.value = search rules in
    omega (arith, ap amount_sum made, payout_within c.args.self.now.exposure c.args.value c.requires)

pub returns-clause-within : goal.returns-clause-within
returns-clause-within c =
    let made : c.as_slice.result.now ≡ payout_lines c.args.self.now.exposure c.args.value = search rules in
    omega (arith, ap amount_sum made, payout_within c.args.self.now.exposure c.args.value c.requires, c.total_of-total.ensures)
