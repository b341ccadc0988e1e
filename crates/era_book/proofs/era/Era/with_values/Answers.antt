-- Each value enters with its accounts named, and those before it stay as they are seen.
use Rattle.std.proofs.Common.{rules, ◌≡◌, ◌<◌, ◌^◌, ◌+◌, ◌++◌, ◌∷◌, [], ap, subst, sym, ◌∙◌, arith, length}
use Rattle.std.specs.BTreeMap.{insert_entry}
use Rattle.npos_base.specs.Account.{account_cmp}
use Rattle.era_book.specs.Members.{Member, IsCounted}
use Rattle.era_book.specs.Records.{members_from}
use Rattle.era_book.specs.Seats.{members_seen}
use Rattle.era_book.proofs.SeatLemmas.{AreSeated, seated_more}
use Rattle.era_book.proofs.RecordLemmas.{rest_behind, seat_joins, counted_more, points_within_room}
use Rattle.era_book.proofs.era.Era.with_values.Goals as goal

pub overflow_add-points : goal.overflow_add-points
overflow_add-points c =
    let few : c.in-Some.value.points < 2 ^ 32 = omega (arith, c.in_ok-seat.ensures.points, ap (λ (m : Member). m.points) c.in_ok-seat.ensures.seen) in
    let small : length c.args.values < 2 ^ 63 = omega (arith, c.into_vec-value-items.result.small, ap length c.into_vec-value-items.ensures) in
    omega (
      arith,
      c.from-points.ensures,
      points_within_room c.args.values c.loop-value.yielded _ _ c.in-Some.value c.loop-value.points c.loop-value.invariant.all c.in-Some.ensures.steps.0 small few c.loop-value.invariant.counted,
    )

pub loop-value-preserved : goal.loop-value-preserved
loop-value-preserved c =
    let before = c.loop-value.invariant in
    let few : c.in-Some.value.points < 2 ^ 32 = omega (arith, c.in_ok-seat.ensures.points, ap (λ (m : Member). m.points) c.in_ok-seat.ensures.seen) in
    let put : c.insert.new.self ≡ insert_entry account_cmp c.loop-value.members c.in-Some.value.exposure.validator c.in_ok-seat.seat = search rules in
    let points : c.loop-value.points + c.from-points.result ≡ c.loop-value.points + c.in-Some.value.points = omega (arith, c.from-points.ensures) in
    record {
      all = rest_behind c.args.values c.loop-value.yielded _ _ c.in-Some.value before.all c.in-Some.ensures.steps.0;
      seen =
          ap (members_seen c.of.new.names) put
          ∙ seat_joins c.loop-value.names c.of.new.names c.loop-value.members c.in_ok-seat.seat c.args.values c.loop-value.yielded _ _ c.in-Some.value
          c.of.ensures.grows before.seated c.in_ok-seat.ensures.seen before.seen before.all c.in-Some.ensures.steps.0 c.requires;
      seated =
          subst (AreSeated c.of.new.names) (sym put)
          (seated_more c.loop-value.names c.of.new.names c.loop-value.members c.in-Some.value.exposure.validator c.in_ok-seat.seat c.of.ensures.grows before.seated c.in_ok-seat.ensures.within);
      counted =
          subst (λ n. IsCounted (members_from (c.loop-value.yielded ++ c.in-Some.value ∷ [])) n) (sym points)
          (counted_more c.loop-value.yielded c.in-Some.value c.loop-value.points few before.counted);
    }
