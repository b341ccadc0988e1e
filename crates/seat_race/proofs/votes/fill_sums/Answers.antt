use Rattle.std.proofs.Common.{rules, arith, ◌≡◌, ℕ, ◌+◌, ◌<◌, ◌^◌, Bool, true, false, cond, length, refl, ap, sym, ◌∙◌}
use Rattle.election_snapshot.specs.Snapshot.{total_stake, nominates, has}
use Rattle.seat_race.specs.Tables.{says}
use Rattle.seat_race.proofs.NominatorLemmas.{before_more, values_fit}
use Rattle.seat_race.proofs.votes.fill_sums.Goals as goal

pub raise_at-requires-clause-fits : goal.raise_at-requires-clause-fits
raise_at-requires-clause-fits c =
    let snapshot = c.args.snapshot.now in
    let voter = c.loop-voter.voter in
    let h : voter < length snapshot.voters = search rules in
    let total : total_stake snapshot < 2 ^ 64 = search rules in
    λ target l. omega (
      arith,
      c.loop-voter.invariant.0 target (omega (arith, l, c.loop-voter.invariant.1)),
      values_fit snapshot (says c.args.values.now) c.requires.within voter target h,
      total,
    )

one_more : (b : Bool) (sum value : ℕ) → cond b (sum + value) sum ≡ sum + cond b value 0
one_more true sum value = refl
one_more false sum value = omega arith

pub loop-voter-preserved : goal.loop-voter-preserved
loop-voter-preserved c =
    let snapshot = c.args.snapshot.now in
    let voter = c.loop-voter.voter in
    let value = says c.args.values.now voter in (
      λ target l. c.raise_at.ensures target (omega (arith, l, c.loop-voter.invariant.1))
          ∙ ap (λ votes. cond (has votes target) (says c.loop-voter.sums target + value) (says c.loop-voter.sums target)) c.votes.ensures.votes
          ∙ one_more (nominates snapshot voter target) (says c.loop-voter.sums target) value
          ∙ ap (λ n. n + cond (nominates snapshot voter target) value 0) (c.loop-voter.invariant.0 target l)
          ∙ sym (before_more snapshot (says c.args.values.now) target voter),
      search rules,
    )
