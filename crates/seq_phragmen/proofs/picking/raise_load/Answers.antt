use Rattle.std.proofs.Common.{rules, arith, ◌≡◌, ◌+◌, ◌*◌, cond, ap, ap₂, ◌∙◌}
use Rattle.election_snapshot.specs.Snapshot.{has, nominates, stake_of}
use Rattle.seat_race.specs.Tables.{says}
use Rattle.seq_phragmen.proofs.RaiseLemmas.{burdens_raised, raise_fits}
use Rattle.seq_phragmen.proofs.picking.raise_load.Goals as goal

pub raise_wide_at-requires-clause-fits : goal.raise_wide_at-requires-clause-fits
raise_wide_at-requires-clause-fits c =
    let snapshot = c.args.snapshot.now in
    let casts : c.from.result * c.from-2.result ≡ stake_of c.args.snapshot.now c.args.voter * c.args.height = ap₂ (λ a b. a * b) (search rules) (search rules) in
    λ target l. omega (
      arith,
      raise_fits snapshot c.args.loads.now c.args.voter c.args.height c.requires.loads_size c.requires.voter c.args.burdens.now c.requires.burdens c.requires.most c.requires.within
          target (omega (arith, l, c.requires.burdens_size)),
      casts,
      c.requires.total,
    )

pub returns-clause-burdens : goal.returns-clause-burdens
returns-clause-burdens c =
    let snapshot = c.args.snapshot.now in
    let casts : c.from.result * c.from-2.result ≡ stake_of c.args.snapshot.now c.args.voter * c.args.height = ap₂ (λ a b. a * b) (search rules) (search rules) in
    burdens_raised snapshot c.args.loads.now c.args.voter c.args.height c.requires.loads_size c.requires.voter c.args.burdens.now c.raise_wide_at.new.wide c.requires.burdens
    (λ target h. c.raise_wide_at.ensures target (omega (arith, h, c.requires.burdens_size))
    ∙ ap (λ votes. cond (has votes target) (says c.args.burdens.now target + c.from.result * c.from-2.result) (says c.args.burdens.now target)) c.votes.ensures.votes
    ∙ ap (λ n. cond (nominates snapshot c.args.voter target) (says c.args.burdens.now target + n) (says c.args.burdens.now target)) casts)
