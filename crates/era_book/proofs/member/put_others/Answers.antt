use Rattle.std.proofs.Common.{rules, ◌≡◌, ◌<◌, length, ap, arith}
use Rattle.era_book.specs.declared.seat.Share.{Share}
use Rattle.era_book.proofs.LineLemmas.{share_within}
use Rattle.era_book.proofs.member.put_others.Goals as goal

pub part_for-amount-requires : goal.part_for-amount-requires
part_for-amount-requires c =
    let d : Share = record { place = 0; amount = 0 } in
    let items : c.as_slice-share-items.result.now ≡ c.args.seat.now.shares = search rules in
    let few : c.loop-share.share-index < length c.args.seat.now.shares = omega (arith, c.loop-share-test.true, ap length items) in
    rw (items) (omega (arith, share_within c.args.accounts.now c.args.seat.now.shares c.loop-share.share-index d few, c.requires.sound.support))
