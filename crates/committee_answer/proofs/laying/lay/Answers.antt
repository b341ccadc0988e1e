use Rattle.std.proofs.Common.{rules, arith, ◌≡◌, ℕ, cond, List, ◌++◌, length, sum, ap, sym, ◌∙◌}
use Rattle.npos_base.specs.declared.figures.Edge.{Edge}
use Rattle.election_snapshot.specs.Snapshot.{has}
use Rattle.committee_answer.specs.Offers.{at, rows}
use Rattle.committee_answer.proofs.LayLemmas.{laid_small, spare_past, written}
use Rattle.committee_answer.proofs.laying.lay.Goals as goal

pub returns-clause-laid : goal.returns-clause-laid
returns-clause-laid c =
    let committee = c.args.committee.now in
    let old = c.args.offers.now in
    let left_count : length c.lay_left-offers.new.left ≡ length old.left.items = search rules in
    let spare_count : length c.lay_spare.new.spare ≡ length old.spare.items = search rules in
    let left_is = written c.lay_left-offers.new.left old.left.items old.left.len old.left.ok.0 left_count in
    let spare_is = written c.lay_spare.new.spare old.spare.items old.spare.len old.spare.ok.0 spare_count in
    record {
      edges = c.in_ok-lay_rows.ensures ∙ ap (λ (es : List Edge). es ++ rows c.args.snapshot.now committee c.args.voters.now) c.clear.ensures.items;
      left = λ voter there. ap (λ (xs : List ℕ). at xs voter) left_is ∙ c.lay_left-offers.ensures.offers voter there;
      spare = λ target. ap (λ (xs : List ℕ). at xs target) spare_is
          ∙ spare_past committee c.lay_spare.new.spare c.total.result target (λ k d h. omega (arith, c.requires.members k d h, spare_count, c.requires.targets)) c.lay_spare.ensures
          ∙ ap (λ (n : ℕ). cond (has committee target) n 0) c.total.ensures.total;
      rest = c.lay_left-offers.ensures.rest;
    }

pub returns-clause-small : goal.returns-clause-small
returns-clause-small c =
    let old = c.args.offers.now in
    let left_count : length c.lay_left-offers.new.left ≡ length old.left.items = search rules in
    let spare_count : length c.lay_spare.new.spare ≡ length old.spare.items = search rules in
    let left_is = written c.lay_left-offers.new.left old.left.items old.left.len old.left.ok.0 left_count in
    let spare_is = written c.lay_spare.new.spare old.spare.items old.spare.len old.spare.ok.0 spare_count in
    laid_small c.args.snapshot.now c.args.committee.now c.args.voters.now _ c.total.ensures.well_formed (returns-clause-laid c)
    (λ k d h. omega (arith, c.requires.in_range k d h, left_count, c.requires.voters, ap (λ (xs : List ℕ). length xs) left_is))
    (λ k d h. omega (arith, c.requires.members k d h, spare_count, c.requires.targets, ap (λ (xs : List ℕ). length xs) spare_is))
    (c.lay_left-offers.ensures.sum ∙ sym (ap (λ (xs : List ℕ). sum xs) left_is)) (omega (arith, c.lay_left-offers.type_inv))
