-- A member of a kept era has a sound exposure.
use Rattle.std.proofs.Common.{rules}
use Rattle.era_book.proofs.EraLemmas.{member_sound}
use Rattle.era_book.proofs.book.EraBook.payout_list.Goals as goal

pub payout-requires : goal.payout-requires
payout-requires c = member_sound c.in-Some.members.now c.args.validator c.in-Some-get.member c.in-Some.ensures.sound (search rules)
