use Rattle.std.proofs.Common.{◌∙◌, ◌++◌, ◌∷◌, [], map, ap, ap₂, sym}
use Rattle.state_rules.specs.Sound.{IsSoundMember}
use Rattle.era_book.specs.Members.{Members}
use Rattle.era_book.specs.Records.{entry_from}
use Rattle.npos_runtime.specs.Kept.Chain.{member_entry}
use Rattle.npos_runtime.proofs.Kept.Remade.ItemLemmas.{each_next, rest_behind, map_put}
use Rattle.npos_runtime.proofs.remade_eras.records_of.Goals as goal

pub record_of-requires : goal.record_of-requires
record_of-requires c =
    (each_next (IsSoundMember c.requires.0) c.args.rows c.loop-row.yielded _ _ c.in-Some.row c.requires.1 c.loop-row.invariant.all c.in-Some.ensures.steps.0).backers.fits

pub loop-row-preserved : goal.loop-row-preserved
loop-row-preserved c = record {
  all = rest_behind c.args.rows c.loop-row.yielded _ _ c.in-Some.row c.loop-row.invariant.all c.in-Some.ensures.steps.0;
  made = ap (map entry_from) c.in_ok-push.ensures.items
      ∙ (map_put entry_from c.loop-row.records.items c.record_of.result
      ∙ (ap₂ (λ (before : Members) entry. before ++ entry ∷ []) c.loop-row.invariant.made c.record_of.ensures
      ∙ sym (map_put member_entry c.loop-row.yielded c.in-Some.row)));
}
