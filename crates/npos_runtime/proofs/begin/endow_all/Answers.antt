use Rattle.npos_runtime.proofs.Rules.EndowLemmas.{opened_more}
use Rattle.npos_runtime.proofs.begin.endow_all.Goals as goal

pub loop-place-preserved : goal.loop-place-preserved
loop-place-preserved c = opened_more c.args.endowments.now c.loop-place.place c.args.book.now c.loop-place.book c.endow.new.book
    (record { who = record { hi = 0; lo = 0 }; value = 0 }) c.loop-place.invariant c.loop-place-test.true
    c.in_ok-endow.ensures.ok.0 c.in_ok-endow.ensures.ok.1
