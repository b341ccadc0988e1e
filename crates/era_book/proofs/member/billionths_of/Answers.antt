use Rattle.std.proofs.Common.{rules, ◌≡◌, arith}
use Rattle.npos_base.specs.declared.limits.TheConstants.{WHOLE_FRACTION}
use Rattle.era_book.proofs.PartLemmas.{part_split}
use Rattle.era_book.proofs.member.billionths_of.Goals as goal

pub returns-in-None-clause-part : goal.returns-in-None-clause-part
returns-in-None-clause-part c =
    let whole : c.from-whole.result ≡ WHOLE_FRACTION = search rules in
    let parts : c.from-parts.result ≡ c.args.billionths = search rules in
    rw (whole, parts) (part_split c.args.value c.args.billionths WHOLE_FRACTION (omega arith))
