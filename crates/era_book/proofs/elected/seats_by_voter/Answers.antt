-- Each target has the same backers by the edges as they stand in the order of the voters.
use Rattle.std.proofs.Common.{rules, ◌≡◌, ◌<◌, All, IfOk, IsPermutation, List, length, map, subst, sym}
use Rattle.std.specs.List.Sorted.{IsNonDecreasingBy}
use Rattle.std.proofs.lemmas.List.Sorted.{All-permutation, IsNonDecreasingBy-from_sort_by_key, IsPermutation-refl}
use Rattle.npos_base.specs.declared.figures.Edge.{Edge}
use Rattle.era_book.specs.declared.exposure.Exposure.{Exposure}
use Rattle.era_book.specs.Committee.{IsWithin, exposure_of}
use Rattle.era_book.specs.Members.{members_with}
use Rattle.era_book.specs.Seats.{members_seen}
use Rattle.era_book.proofs.OrderLemmas.{rises, exposures_sorted}
use Rattle.era_book.proofs.SoundLemmas.{voters_within}
use Rattle.era_book.proofs.elected.seats_by_voter.Goals as goal

pub returns-then-are_by_voter : goal.returns-then-are_by_voter
returns-then-are_by_voter c =
    let up : IsNonDecreasingBy (λ (edge : Edge). edge.voter) c.args.edges.now = c.if-are_by_voter.ensures in
    subst (λ (exposures : List Exposure). IfOk c.seats_of.result (λ seats. members_seen c.args.voters.now seats ≡ members_with exposures))
    (exposures_sorted c.args.targets.now c.args.commissions.now c.args.supports.now c.args.voters.now (length c.args.voters.now) c.args.edges.now c.args.edges.now c.args.members.now
    (IsPermutation-refl c.args.edges.now) (rises c.args.edges.now up)
    (voters_within c.args.targets.now c.args.voters.now c.args.edges.now c.requires.elected.edges_within)
    c.requires.elected.pairs_distinct)
    c.seats_of.ensures

pub seats_of-requires-2-clause-edges : goal.seats_of-requires-2-clause-edges
seats_of-requires-2-clause-edges c =
    let sorted : c.as_slice.result.now ≡ c.sort_unstable_by_key.new.self.items = search rules in
    let same : c.in_ok-sorted.sorted.items ≡ c.args.edges.now = search rules in
    subst (λ edges. All (IsWithin c.args.targets.now c.args.voters.now) edges) (sym sorted)
    (All-permutation (IsWithin c.args.targets.now c.args.voters.now) c.in_ok-sorted.sorted.items _ c.sort_unstable_by_key.ensures.permutation
    (subst (λ edges. All (IsWithin c.args.targets.now c.args.voters.now) edges) (sym same) c.requires.elected.edges_within))

pub returns : goal.returns
returns c =
    let sorted : c.as_slice.result.now ≡ c.sort_unstable_by_key.new.self.items = search rules in
    let same : c.in_ok-sorted.sorted.items ≡ c.args.edges.now = search rules in
    let up = IsNonDecreasingBy-from_sort_by_key (λ (edge : Edge). edge.voter) _ c.sort_unstable_by_key.ensures.sorted (λ a r q k. search rules) in
    let within : All (λ (edge : Edge). edge.voter < length c.args.voters.now) c.sort_unstable_by_key.new.self.items =
    voters_within c.args.targets.now c.args.voters.now c.sort_unstable_by_key.new.self.items
    (All-permutation (IsWithin c.args.targets.now c.args.voters.now) c.in_ok-sorted.sorted.items _ c.sort_unstable_by_key.ensures.permutation
    (subst (λ edges. All (IsWithin c.args.targets.now c.args.voters.now) edges) (sym same) c.requires.elected.edges_within)) in
    subst (λ (exposures : List Exposure). IfOk c.seats_of-2.result (λ seats. members_seen c.args.voters.now seats ≡ members_with exposures))
    (exposures_sorted c.args.targets.now c.args.commissions.now c.args.supports.now c.args.voters.now
    (length c.args.voters.now) c.args.edges.now c.sort_unstable_by_key.new.self.items c.args.members.now
    (subst (λ edges. IsPermutation edges c.sort_unstable_by_key.new.self.items) same
    c.sort_unstable_by_key.ensures.permutation) (rises c.sort_unstable_by_key.new.self.items up) within
    c.requires.elected.pairs_distinct)
    (subst (λ (edges : List Edge). IfOk c.seats_of-2.result (λ seats. members_seen c.args.voters.now seats
    ≡ members_with (map (exposure_of c.args.targets.now c.args.commissions.now c.args.supports.now c.args.voters.now edges) c.args.members.now))) sorted c.seats_of-2.ensures)
