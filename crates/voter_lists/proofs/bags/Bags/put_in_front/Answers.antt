-- Both accounts have a place in one bag, where one goes before the other.
use Rattle.std.proofs.Common.{◌∙◌, sym, ap, Some}
use Rattle.voter_lists.specs.BagRows.{walk_from}
use Rattle.voter_lists.specs.Nodes.{bags_in, home_of}
use Rattle.npos_base.proofs.Refusals.{refused_meets, done_meets}
use Rattle.voter_lists.proofs.ListingLemmas.{listed_number, before_walk}
use Rattle.voter_lists.proofs.LinkedLemmas.{linked_before}
use Rattle.voter_lists.proofs.RefusalLemmas.{front_unlisted, front_other_unlisted, front_apart, front_light, front_free, front_itself, front_placed}
use Rattle.voter_lists.proofs.bags.Bags.put_in_front.Goals as goal

pub returns-in_default-clause-meets : goal.returns-in_default-clause-meets
returns-in_default-clause-meets c =
    rw (← c.self.view_is) (refused_meets _ _ _ _ (record {
      thresholds = c.self.inside.thresholds;
      order =
          walk_from 0 (bags_in c.self.inside.nodes);
    }) (front_unlisted (record {
      thresholds = c.self.inside.thresholds;
      order = walk_from 0 (bags_in c.self.inside.nodes);
    }) c.args.who c.args.lighter c.args.score
    c.args.lighter_score (listed_number c.self.inside.thresholds (bags_in c.self.inside.nodes)
    (home_of c.self.inside.nodes) c.self.invariant.homes c.args.who ∙ c.in_default.ensures.absent)))

pub returns-in_default-find-clause-meets : goal.returns-in_default-find-clause-meets
returns-in_default-find-clause-meets c =
    rw (← c.self.view_is) (refused_meets _ _ _ _ (record {
      thresholds = c.self.inside.thresholds;
      order =
          walk_from 0 (bags_in c.self.inside.nodes);
    }) (front_other_unlisted
    (record { thresholds = c.self.inside.thresholds; order = walk_from 0 (bags_in c.self.inside.nodes) })
    c.args.who c.args.lighter c.args.score c.args.lighter_score c.in-Some.home
    (listed_number c.self.inside.thresholds (bags_in c.self.inside.nodes) (home_of c.self.inside.nodes)
    c.self.invariant.homes c.args.who ∙ c.in-Some.ensures.found.1) (listed_number c.self.inside.thresholds
    (bags_in c.self.inside.nodes) (home_of c.self.inside.nodes) c.self.invariant.homes c.args.lighter
    ∙ c.in_default-find.ensures.absent)))

pub returns-then-home-other_home-clause-meets : goal.returns-then-home-other_home-clause-meets
returns-then-home-other_home-clause-meets c =
    rw (← c.self.view_is) (refused_meets _ _ _ _ (record {
      thresholds = c.self.inside.thresholds;
      order =
          walk_from 0 (bags_in c.self.inside.nodes);
    }) (front_apart (record {
      thresholds = c.self.inside.thresholds;
      order = walk_from 0 (bags_in c.self.inside.nodes);
    }) c.args.who c.args.lighter c.args.score
    c.args.lighter_score c.in-Some.home c.in-Some-find.other_home (listed_number c.self.inside.thresholds
    (bags_in c.self.inside.nodes) (home_of c.self.inside.nodes) c.self.invariant.homes c.args.who
    ∙ c.in-Some.ensures.found.1) (listed_number c.self.inside.thresholds (bags_in c.self.inside.nodes)
    (home_of c.self.inside.nodes) c.self.invariant.homes c.args.lighter ∙ c.in-Some-find.ensures.found.1)
    c.if-home-other_home.true))

pub returns-then-score-lighter_score-clause-meets : goal.returns-then-score-lighter_score-clause-meets
returns-then-score-lighter_score-clause-meets c =
    rw (← c.self.view_is) (refused_meets _ _ _ _ (record {
      thresholds = c.self.inside.thresholds;
      order =
          walk_from 0 (bags_in c.self.inside.nodes);
    }) (front_light (record {
      thresholds = c.self.inside.thresholds;
      order = walk_from 0 (bags_in c.self.inside.nodes);
    }) c.args.who c.args.lighter c.args.score
    c.args.lighter_score c.in-Some.home c.in-Some-find.other_home (listed_number c.self.inside.thresholds
    (bags_in c.self.inside.nodes) (home_of c.self.inside.nodes) c.self.invariant.homes c.args.who
    ∙ c.in-Some.ensures.found.1) (listed_number c.self.inside.thresholds (bags_in c.self.inside.nodes)
    (home_of c.self.inside.nodes) c.self.invariant.homes c.args.lighter ∙ c.in-Some-find.ensures.found.1)
    c.if-home-other_home.false c.if-score-lighter_score.true))

pub returns-then-eq-clause-meets : goal.returns-then-eq-clause-meets
returns-then-eq-clause-meets c =
    rw (← c.self.view_is) (done_meets _ _ _ (record {
      thresholds = c.self.inside.thresholds;
      order =
          walk_from 0 (bags_in c.self.inside.nodes);
    }) (record {
      thresholds = c.self.inside.thresholds;
      order =
          walk_from 0 (bags_in c.self.inside.nodes);
    }) (front_free (record {
      thresholds = c.self.inside.thresholds;
      order = walk_from 0 (bags_in c.self.inside.nodes);
    }) c.args.who c.args.lighter c.args.score
    c.args.lighter_score c.in-Some.home c.in-Some-find.other_home (listed_number c.self.inside.thresholds
    (bags_in c.self.inside.nodes) (home_of c.self.inside.nodes) c.self.invariant.homes c.args.who
    ∙ c.in-Some.ensures.found.1) (listed_number c.self.inside.thresholds (bags_in c.self.inside.nodes)
    (home_of c.self.inside.nodes) c.self.invariant.homes c.args.lighter ∙ c.in-Some-find.ensures.found.1)
    c.if-home-other_home.false c.if-score-lighter_score.false)
    (front_itself (record {
      thresholds = c.self.inside.thresholds;
      order = walk_from 0 (bags_in c.self.inside.nodes);
    }) c.args.who c.args.lighter c.args.score c.args.lighter_score (sym c.if-eq.ensures)))

pub invariant_of-self : goal.invariant_of-self
invariant_of-self c =
    linked_before c.self.inside.thresholds c.self.inside.nodes c.self.invariant c.put_before.new.self c.args.who c.in-Some.home c.args.lighter c.in-Some.ensures.found.1
    (c.put_before.ensures c.args.who c.args.lighter c.in-Some.ensures.found.0 c.in-Some-find.ensures.found.0)

pub returns-clause-meets : goal.returns-clause-meets
returns-clause-meets c =
    rw (← c.self.view_is) (done_meets _ _ _ (record {
      thresholds = c.self.inside.thresholds;
      order =
          walk_from 0 (bags_in c.self.inside.nodes);
    }) _
    (front_free (record {
      thresholds = c.self.inside.thresholds;
      order = walk_from 0 (bags_in c.self.inside.nodes);
    }) c.args.who c.args.lighter c.args.score c.args.lighter_score c.in-Some.home c.in-Some-find.other_home
    (listed_number c.self.inside.thresholds (bags_in c.self.inside.nodes) (home_of c.self.inside.nodes)
    c.self.invariant.homes c.args.who ∙ c.in-Some.ensures.found.1) (listed_number c.self.inside.thresholds
    (bags_in c.self.inside.nodes) (home_of c.self.inside.nodes) c.self.invariant.homes c.args.lighter
    ∙ c.in-Some-find.ensures.found.1) c.if-home-other_home.false c.if-score-lighter_score.false)
    (ap (λ order. record { thresholds = c.self.inside.thresholds; order = order })
    (before_walk c.self.inside.thresholds (bags_in c.self.inside.nodes) (home_of c.self.inside.nodes)
    c.self.invariant.homes (bags_in c.put_before.new.self) c.args.who c.args.lighter c.in-Some.home
    c.in-Some.ensures.found.1 (c.in-Some-find.ensures.found.1 ∙ ap Some (sym c.if-home-other_home.false))
    (c.put_before.ensures c.args.who c.args.lighter c.in-Some.ensures.found.0 c.in-Some-find.ensures.found.0).lists)
    ∙ front_placed (record {
      thresholds = c.self.inside.thresholds;
      order = walk_from 0 (bags_in c.self.inside.nodes);
    }) c.args.who c.args.lighter c.args.score c.args.lighter_score c.in-Some.home (sym c.if-eq.ensures)
    (listed_number c.self.inside.thresholds (bags_in c.self.inside.nodes) (home_of c.self.inside.nodes)
    c.self.invariant.homes c.args.who ∙ c.in-Some.ensures.found.1)))
