use Rattle.std.proofs.Common.{arith, ◌≡◌, ◌<◌, ℕ, true, nat_eq, List, length, All, ap, sym, subst, ◌∙◌}
use Rattle.std.specs.List.{IsDistinct}
use Rattle.election_snapshot.specs.Snapshot.{has}
use Rattle.weight_book.specs.Passing.{nominators}
use Rattle.weight_book.specs.Proportional.{group_stake}
use Rattle.seat_race.proofs.NominatorLemmas.{nominators_distinct, stakes_to_fit}
use Rattle.committee_answer.specs.Denials.{IsCase}
use Rattle.committee_answer.specs.Offers.{AreLaid, AreMoved}
use Rattle.committee_answer.specs.Ways.{stuck}
use Rattle.committee_answer.proofs.AnswerLemmas.{not_denied, is_case}
use Rattle.committee_answer.proofs.OfferLemmas.{moved_none, moved_then}
use Rattle.committee_answer.proofs.TellLemmas.{nominators_in_range}
use Rattle.committee_answer.proofs.finding.Search.denies.Goals as goal

pub lay-requires-clause-in_range : goal.lay-requires-clause-in_range
lay-requires-clause-in_range c =
    subst (λ (vs : List ℕ). All (λ voter. voter < length c.args.snapshot.now.voters) vs) (sym c.requires.voters) (nominators_in_range c.args.snapshot.now c.args.target)

pub lay-requires-clause-distinct : goal.lay-requires-clause-distinct
lay-requires-clause-distinct c = subst (λ (vs : List ℕ). IsDistinct nat_eq vs) (sym c.requires.voters) (nominators_distinct c.args.snapshot.now c.args.target)

pub lay-requires-clause-stake : goal.lay-requires-clause-stake
lay-requires-clause-stake c = omega (arith, ap (λ (vs : List ℕ). group_stake c.args.snapshot.now vs) c.requires.voters, stakes_to_fit c.args.snapshot.now c.args.target)

pub returns-then-self-price-clause-no : goal.returns-then-self-price-clause-no
returns-then-self-price-clause-no c = λ _ denied.
    let snapshot = c.args.snapshot.now in
    let committee = c.args.committee.now in
    let offers = c.lay.new.offers in
    let laid : AreLaid snapshot committee (nominators snapshot c.args.target) offers =
    subst (λ (vs : List ℕ). AreLaid snapshot committee vs offers) c.requires.voters c.in_ok-lay.ensures.laid in
    not_denied snapshot committee c.args.target c.requires.distinct offers offers laid (moved_none offers)
    (omega (arith, c.if-self-price.true, c.from-price.ensures, c.total.ensures.total)) denied

pub settle-requires-clause-voters : goal.settle-requires-clause-voters
settle-requires-clause-voters c =
    subst (λ (vs : List ℕ). All (λ voter. voter < length c.args.snapshot.now.voters) vs) (sym c.requires.voters) (nominators_in_range c.args.snapshot.now c.args.target)

pub returns-clause-no : goal.returns-clause-no
returns-clause-no c = λ no denied.
    let snapshot = c.args.snapshot.now in
    let committee = c.args.committee.now in
    let old = c.lay.new.offers in
    let new = c.settle.new.self.offers in
    let laid : AreLaid snapshot committee (nominators snapshot c.args.target) old =
    subst (λ (vs : List ℕ). AreLaid snapshot committee vs old) c.requires.voters c.in_ok-lay.ensures.laid in
    let moved : AreMoved old new = moved_then old c.give_first.new.offers new c.give_first.ensures.moved c.in_ok-is_stuck.ensures.moved in
    let below = c.in_ok-is_stuck.ensures.no no in
    not_denied snapshot committee c.args.target c.requires.distinct old new laid moved (omega (arith, below, c.from-price.ensures, c.total.ensures.total)) denied

pub returns-clause-yes : goal.returns-clause-yes
returns-clause-yes c = λ yes.
    let snapshot = c.args.snapshot.now in
    let committee = c.args.committee.now in
    let target = c.args.target in
    let old = c.lay.new.offers in
    let new = c.settle.new.self.offers in
    let ways = c.settle.new.self.reach.voters.items in
    let laid : AreLaid snapshot committee (nominators snapshot target) old =
    subst (λ (vs : List ℕ). AreLaid snapshot committee vs old) c.requires.voters c.in_ok-lay.ensures.laid in
    let moved : AreMoved old new = moved_then old c.give_first.new.offers new c.give_first.ensures.moved c.in_ok-is_stuck.ensures.moved in
    let so = c.in_ok-is_stuck.ensures.yes yes in
    subst (λ (vs : List ℕ). IsCase snapshot committee target (stuck ways vs)) (sym c.requires.voters)
    (is_case snapshot committee target c.requires.distinct old new laid moved ways c.settle.new.self.reach.members.items so.reach so.whole
    (λ voter there. so.nobody voter (subst (λ (vs : List ℕ). has vs voter ≡ true) (sym c.requires.voters) there))
    c.total.ensures.well_formed (omega (arith, so.enough, c.from-price.ensures, c.total.ensures.total)) c.requires.target (sym c.has.ensures ∙ c.if-has.false))
