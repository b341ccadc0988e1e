use Rattle.std.proofs.Common.{rules, ◌∙◌, ◌+◌, [], map, min, ap, sym, subst, arith}
use Rattle.npos_base.specs.declared.limits.TheConstants.{MOST_PAST_ERAS}
use Rattle.era_book.specs.Eras.{Eras, is_unknown, with_members}
use Rattle.state_rules.specs.Sound.{EachIs, IsSoundEra}
use Rattle.npos_runtime.specs.Kept.Chain.{member_entry}
use Rattle.npos_runtime.proofs.Kept.Remade.ItemLemmas.{each_next, each_before, rest_behind}
use Rattle.npos_runtime.proofs.Kept.Remade.EraLemmas.{era_known, bare_eras, earlier_eras, era_more}
use Rattle.npos_runtime.proofs.remade_eras.eras_of.Goals as goal

pub loop-row-init : goal.loop-row-init
loop-row-init c = record {
  all = search rules;
  made = c.in_ok-book.ensures
      ∙ (λ i. record {
        current = c.args.last;
        kept = bare_eras (min (c.args.last + 1) (MOST_PAST_ERAS + 1)) c.args.last i;
        queue = [];
        next_slash = c.args.next_slash;
      });
}

pub put_era-requires-clause-known : goal.put_era-requires-clause-known
put_era-requires-clause-known c =
    let row = c.in-Some.row in
    let sound = each_next (IsSoundEra c.requires.sound.0 c.args.last c.requires.sound.1) c.args.rows c.loop-row.yielded _ _ row c.requires.sound.2
    c.loop-row.invariant.all c.in-Some.ensures.steps.0 in
    ap (λ (eras : Eras). is_unknown eras row.era) c.loop-row.invariant.made ∙ era_known c.args.last row.era sound.reached sound.kept

pub put_era-requires-clause-members : goal.put_era-requires-clause-members
put_era-requires-clause-members c = (
  c.requires.sound.1,
  (each_next (IsSoundEra c.requires.sound.0 c.args.last c.requires.sound.1) c.args.rows c.loop-row.yielded _ _ c.in-Some.row c.requires.sound.2
      c.loop-row.invariant.all c.in-Some.ensures.steps.0).members,
)

pub loop-row-preserved : goal.loop-row-preserved
loop-row-preserved c =
    let row = c.in-Some.row in
    let last = c.args.last in
    let count = min (last + 1) (MOST_PAST_ERAS + 1) in
    let sound = each_next (IsSoundEra c.requires.sound.0 last c.requires.sound.1) c.args.rows c.loop-row.yielded _ _ row c.requires.sound.2
    c.loop-row.invariant.all c.in-Some.ensures.steps.0 in
    let front = each_before (IsSoundEra c.requires.sound.0 last c.requires.sound.1) c.loop-row.yielded _
    (subst (EachIs (IsSoundEra c.requires.sound.0 last c.requires.sound.1)) (sym c.loop-row.invariant.all) c.requires.sound.2) in
    record {
      all = rest_behind c.args.rows c.loop-row.yielded _ _ row c.loop-row.invariant.all c.in-Some.ensures.steps.0;
      made = c.in_ok-put_era.ensures
          ∙ (ap (λ (eras : Eras). with_members row.era (map member_entry row.members) eras) c.loop-row.invariant.made
          ∙ (λ i. record {
            current = last;
            kept = era_more count last c.loop-row.yielded row (earlier_eras c.requires.sound.0 last c.requires.sound.1 c.loop-row.yielded row front sound)
                sound.begun sound.reached (omega (arith, sound.begun, sound.reached, sound.kept)) i;
            queue = [];
            next_slash = c.args.next_slash;
          }));
    }
