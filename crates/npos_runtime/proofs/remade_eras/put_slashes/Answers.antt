use Rattle.std.proofs.Common.{◌∙◌, ap, arith}
use Rattle.era_book.specs.Eras.{Eras}
use Rattle.era_book.specs.Records.{slash_put}
use Rattle.npos_runtime.proofs.Kept.Remade.ItemLemmas.{next_within, rest_behind}
use Rattle.npos_runtime.proofs.Kept.Remade.EraLemmas.{can_join}
use Rattle.npos_runtime.proofs.remade_eras.put_slashes.Goals as goal

pub put_slash-requires : goal.put_slash-requires
put_slash-requires c =
    let sound = c.requires.sound in
    can_join sound.0 sound.1 c.args.book.now.next_slash sound.2 c.args.slashes c.loop-slash.yielded _ _ c.in-Some.slash c.loop-slash.book sound.3
    c.loop-slash.invariant.all c.in-Some.ensures.steps.0 (ap (λ (eras : Eras). eras.queue) c.loop-slash.invariant.made)
    (ap (λ (eras : Eras). eras.next_slash) c.loop-slash.invariant.made)
    (omega (arith, c.requires.few, next_within c.args.slashes c.loop-slash.yielded _ _ c.in-Some.slash c.loop-slash.invariant.all c.in-Some.ensures.steps.0))

pub loop-slash-preserved : goal.loop-slash-preserved
loop-slash-preserved c = record {
  all = rest_behind c.args.slashes c.loop-slash.yielded _ _ c.in-Some.slash c.loop-slash.invariant.all c.in-Some.ensures.steps.0;
  made = c.in_ok-put_slash.ensures.ok ∙ ap (λ (eras : Eras). slash_put c.in-Some.slash eras) c.loop-slash.invariant.made;
}
