use Rattle.std.proofs.Common.{rules, ◌≡◌, ◌+◌, ◌-◌, min, List, ◌++◌, ap, ◌∙◌, arith}
use Rattle.npos_base.specs.declared.limits.TheConstants.{MOST_PAST_ERAS}
use Rattle.era_book.specs.Eras.{members_in}
use Rattle.state_rules.specs.declared.state.EraRow.{EraRow}
use Rattle.npos_runtime.specs.Kept.State.{era_row}
use Rattle.npos_runtime.proofs.Kept.SavedLemmas.{eras_next}
use Rattle.npos_runtime.proofs.saved_eras.era_rows.Goals as goal

pub loop-i-preserved : goal.loop-i-preserved
loop-i-preserved c =
    let eras = c.args.eras.now in
    let current = c.current-current.result in
    let past = c.min-past.result in
    let least : past ≡ min current MOST_PAST_ERAS = search rules in
    let era = current - past + c.loop-i.i in
    c.in_ok-put_era.ensures
    ∙ (ap (λ (rows : List EraRow). rows ++ era_row era (members_in eras era)) c.loop-i.invariant
    ∙ eras_next eras current past c.loop-i.i c.current-current.ensures.current
    (omega (arith, c.current-current.ensures.current, c.current-current.ensures.kept.count, least))
    (omega (arith, least)) (omega (arith, least)) (omega (arith, c.loop-i-test.true, c.loop-i.auto.i-end)))
