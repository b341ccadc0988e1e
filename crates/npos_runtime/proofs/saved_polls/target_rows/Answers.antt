use Rattle.std.proofs.Common.{◌<◌, length, [], ◌∷◌, ◌++◌, get_or, ap, ◌∙◌, arith}
use Rattle.std.specs.List.{zip}
use Rattle.std.proofs.lemmas.List.{take_all}
use Rattle.std.proofs.lemmas.Option.{slice_get-get_or}
use Rattle.std.proofs.lemmas.Slice.Zip.{length-zip}
use Rattle.npos_runtime.proofs.Rules.BallotLemmas.{take_next}
use Rattle.npos_runtime.proofs.Kept.SavedLemmas.{zip_at}
use Rattle.npos_runtime.proofs.saved_polls.target_rows.Goals as goal

pub loop-i-preserved : goal.loop-i-preserved
loop-i-preserved c =
    let targets = c.args.snapshot.now.targets in
    let commissions = c.args.commissions.now in
    let commission = get_or commissions c.loop-i.i 0 in
    let within : c.loop-i.i < length commissions =
    omega (arith, c.loop-i-test.true, c.loop-i.auto.i-end, c.target_count-i-end.ensures.count, c.requires.count) in
    c.in_ok-put.ensures.ok
    ∙ (ap (λ rows. rows ++ (c.target.result, commission) ∷ []) c.loop-i.invariant
    ∙ take_next (zip targets commissions) c.loop-i.i (c.target.result, commission)
    (zip_at targets commissions c.loop-i.i c.target.result commission c.target.ensures (slice_get-get_or commissions c.loop-i.i 0 within)))

pub returns : goal.returns
returns c =
    let targets = c.args.snapshot.now.targets in
    let commissions = c.args.commissions.now in
    c.loop-i.invariant
    ∙ take_all c.loop-i.i (zip targets commissions)
    (omega (arith, c.loop-i-test.false, c.loop-i.auto.i-end, c.target_count-i-end.ensures.count, length-zip targets commissions))
