use Rattle.npos_runtime.proofs.Kept.Remade.ListLemmas.{not_listed, joins_more}
use Rattle.npos_runtime.proofs.remade_lists.join_all.Goals as goal

pub insert-requires : goal.insert-requires
insert-requires c =
    not_listed c.args.thresholds.now c.requires.sound.0 c.args.rows.now c.requires.sound.1 c.loop-row.bags c.loop-row.row-index _ c.row-item.result
    c.loop-row.invariant c.loop-row-test.true c.row-item.is

pub loop-row-preserved : goal.loop-row-preserved
loop-row-preserved c =
    joins_more c.args.thresholds.now c.requires.sound.0 c.args.rows.now c.requires.sound.1 c.loop-row.bags c.insert.new.self c.loop-row.row-index
    c.score_in.result _ c.row-item.result c.loop-row.invariant c.loop-row-test.true c.row-item.is c.score_in.ensures c.in_ok-insert.ensures.ok
