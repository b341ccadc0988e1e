use Rattle.std.proofs.Common.{rules, ◌≡◌, ◌∙◌, ◌<◌, ◌++◌, ◌∷◌, [], length, map, ap₂, sym, subst}
use Rattle.chain_params.specs.Rules.{places_of}
use Rattle.submission_queue.specs.declared.submission.Submission.{Submission}
use Rattle.submission_queue.specs.Rank.{IsRanked}
use Rattle.submission_queue.specs.Ranking.{Ranking}
use Rattle.npos_runtime.specs.Kept.Chain.{submission_in}
use Rattle.npos_runtime.proofs.Kept.Remade.ItemLemmas.{rest_behind, map_put}
use Rattle.npos_runtime.proofs.Kept.Remade.ListLemmas.{next_room, next_ranked}
use Rattle.npos_runtime.proofs.remade_lists.queue_of.Goals as goal

pub put_behind-requires-clause-room : goal.put_behind-requires-clause-room
put_behind-requires-clause-room c =
    let sound = c.requires.items in
    subst (λ (q : Ranking). length q.items < q.places) (sym c.loop-row.invariant.made)
    (next_room c.args.params.now sound.0 (places_of c.args.params.now) sound.1 sound.2 sound.3 c.args.rows c.loop-row.yielded _ _ c.in-Some.row sound.4
    c.loop-row.invariant.all c.in-Some.ensures.steps.0)

pub put_behind-requires-clause-ranked : goal.put_behind-requires-clause-ranked
put_behind-requires-clause-ranked c =
    let sound = c.requires.items in
    let is : c.submission_of.result ≡ submission_in c.args.params.now c.in-Some.row = search rules in
    subst (λ (q : Ranking). IsRanked (q.items ++ c.submission_of.result ∷ [])) (sym c.loop-row.invariant.made)
    (subst (λ (item : Submission). IsRanked (map (submission_in c.args.params.now) c.loop-row.yielded ++ item ∷ [])) (sym is)
    (next_ranked c.args.params.now sound.0 (places_of c.args.params.now) sound.1 sound.2 sound.3 c.args.rows c.loop-row.yielded _ _ c.in-Some.row sound.4
    c.loop-row.invariant.all c.in-Some.ensures.steps.0))

pub loop-row-preserved : goal.loop-row-preserved
loop-row-preserved c =
    let is : c.submission_of.result ≡ submission_in c.args.params.now c.in-Some.row = search rules in
    record {
      all = rest_behind c.args.rows c.loop-row.yielded _ _ c.in-Some.row c.loop-row.invariant.all c.in-Some.ensures.steps.0;
      made = c.put_behind.ensures
          ∙ (ap₂ (λ (q : Ranking) (item : Submission). record q { items = q.items ++ item ∷ [] }) c.loop-row.invariant.made is
          ∙ (λ i. record {
            items = sym (map_put (submission_in c.args.params.now) c.loop-row.yielded c.in-Some.row) i;
            places = places_of c.args.params.now;
          }));
    }
