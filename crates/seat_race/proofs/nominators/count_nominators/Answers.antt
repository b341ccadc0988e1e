use Rattle.std.proofs.Common.{rules, arith, ◌≡◌, ℕ, ◌+◌, ◌≤◌, Bool, true, false, cond, ap, sym, ◌∙◌}
use Rattle.election_snapshot.specs.Snapshot.{has, nominates}
use Rattle.seat_race.specs.Tables.{says}
use Rattle.seat_race.proofs.PartLemmas.{one_counted}
use Rattle.seat_race.proofs.nominators.count_nominators.Goals as goal

one_more : (b : Bool) (now count : ℕ) → now ≡ cond b (count + 1) count → now ≡ count + cond b 1 0
one_more true now count e = e
one_more false now count e = omega (arith, e)

at_most : (b : Bool) (now count voter : ℕ) → now ≡ count + cond b 1 0 → count ≤ voter → now ≤ voter + 1
at_most true now count voter e h = omega (arith, e, h)
at_most false now count voter e h = omega (arith, e, h)

pub loop-voter-preserved : goal.loop-voter-preserved
loop-voter-preserved c =
    let snapshot = c.args.snapshot.now in
    let voter = c.loop-voter.voter in (
      λ target l.
          let so_far = c.loop-voter.invariant.0 target l in
          let now : says c.raise_at.new.table target ≡ says c.loop-voter.counts target + cond (nominates snapshot voter target) 1 0
          = one_more (nominates snapshot voter target) (says c.raise_at.new.table target) (says c.loop-voter.counts target)
          (c.raise_at.ensures target (omega (arith, l, c.loop-voter.invariant.1))
          ∙ ap (λ votes. cond (has votes target) (says c.loop-voter.counts target + 1) (says c.loop-voter.counts target)) c.votes.ensures.votes) in (
            now ∙ ap (λ n. n + cond (nominates snapshot voter target) 1 0) so_far.0 ∙ sym (one_counted snapshot target voter),
            at_most (nominates snapshot voter target) (says c.raise_at.new.table target) (says c.loop-voter.counts target) voter now so_far.1,
          ),
      search rules,
    )
