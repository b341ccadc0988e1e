-- A sound exposure has each backer once.
use Rattle.std.proofs.Common.{◌≡◌, rules, sym, subst}
use Rattle.era_book.specs.Exposures.{AreApart}
use Rattle.era_book.specs.Slashes.{slash_lines}
use Rattle.era_book.proofs.DeferredLemmas.{lines_apart}
use Rattle.era_book.proofs.EraLemmas.{member_sound}
use Rattle.era_book.proofs.book.EraBook.slash_list.Goals as goal

pub returns-clause-distinct : goal.returns-clause-distinct
returns-clause-distinct c =
    let lines : c.in_ok-lines.lines ≡ slash_lines c.in-Some-get.member.exposure.backers c.in-Some-get.member.fraction c.args.fraction = search rules in
    subst AreApart (sym lines)
    (lines_apart c.in-Some-get.member.exposure.backers c.in-Some-get.member.fraction c.args.fraction
    (member_sound c.in-Some.members.now c.args.validator c.in-Some-get.member c.in-Some.ensures.sound (search rules)).distinct)
