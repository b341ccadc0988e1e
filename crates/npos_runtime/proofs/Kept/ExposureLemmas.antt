-- What stands behind a committee goes by the edges that are kept.
use Rattle.std.proofs.Common.{◌≡◌, ℕ, Bool, true, false, ◌&&◌, nat_eq, nat_lt, List, ◌++◌, length, map, filter, Option, Some, None, option_map, refl, ap, ap₂, sym, ◌∙◌, arith}
use Rattle.std.specs.List.{range_with_len}
use Rattle.std.proofs.lemmas.Bool.Decides.{nat_tests}
use Rattle.std.proofs.lemmas.Bool.{and_parts}
use Rattle.npos_base.specs.declared.account.AccountId.{AccountId}
use Rattle.npos_base.specs.declared.figures.Edge.{Edge}
use Rattle.weight_book.specs.GivenEdges.{gives, is_before, kept_edges}
use Rattle.era_book.specs.Committee.{gives_to, is_of, backer_of, backers_of, edges_by_voter, exposure_of}
use Rattle.era_book.proofs.OrderLemmas.{filters_join, kept_by_voter, same_chunks}
use Rattle.npos_runtime.specs.Rules.Committee.{Committee}
use Rattle.npos_runtime.specs.Rules.Exposed.{voters_in, supports_in, edges_in, exposures_of, exposed}
use Rattle.npos_runtime.specs.Kept.Parts.{kept_committee}
use Rattle.weight_book.proofs.GivenEdgeLemmas.{support_kept, kept_level}

module _ (targets voters : List AccountId) where
  -- the test of an edge of this voter to this target
  abbrev is_from : Bool → ℕ → ℕ → Edge → Bool
  is_from own target voter edge = (gives_to target edge && is_of own targets voters edge) && nat_eq edge.voter voter

  passes : (own : Bool) (target voter : ℕ) (edge : Edge) → is_from own target voter edge ≡ true
      → (nat_eq edge.target target ≡ true) × (gives edge ≡ true) × (nat_eq edge.voter voter ≡ true)
  passes own target voter edge e =
      let parts = and_parts (gives_to target edge && is_of own targets voters edge) (nat_eq edge.voter voter) e in
      let giving = and_parts (nat_eq edge.target target) (gives edge) (and_parts (gives_to target edge) (is_of own targets voters edge) parts.0).0 in
      (giving.0, giving.1, parts.1)

  level : (own : Bool) (target voter : ℕ) (a b : Edge) → is_from own target voter a ≡ true → is_from own target voter b ≡ true → is_before a b ≡ false
  level own target voter a b first second =
      let p = passes own target voter a first in
      let q = passes own target voter b second in
      let voters_are : nat_lt a.voter b.voter ≡ false = grind (arith, nat_tests, p.2, q.2) in
      let targets_are : nat_lt a.target b.target ≡ false = grind (arith, nat_tests, p.0, q.0) in
      rw (voters_are, targets_are) (neither (nat_eq a.voter b.voter)) where
        neither : (b : Bool) → (b && false) ≡ false
        neither true = refl
        neither false = refl

  by_voter_kept : (n : ℕ) (edges : List Edge) (own : Bool) (target : ℕ)
      → filter (λ edge. gives_to target edge && is_of own targets voters edge) (edges_by_voter n (kept_edges edges))
      ≡ filter (λ edge. gives_to target edge && is_of own targets voters edge) (edges_by_voter n edges)
  by_voter_kept n edges own target =
      let test : Edge → Bool = λ edge. gives_to target edge && is_of own targets voters edge in
      kept_by_voter test n (kept_edges edges)
      ∙ same_chunks n (filter test (kept_edges edges)) (filter test edges)
      (λ voter. filters_join (λ edge. nat_eq edge.voter voter) test (kept_edges edges)
      ∙ kept_level (is_from own target voter) (level own target voter)
      (λ edge e. (passes own target voter edge e).1) edges
      ∙ sym (filters_join (λ edge. nat_eq edge.voter voter) test edges))
      ∙ sym (kept_by_voter test n edges)

  backers_kept : (n : ℕ) (edges : List Edge) (target : ℕ)
      → backers_of targets voters (edges_by_voter n (kept_edges edges)) target ≡ backers_of targets voters (edges_by_voter n edges) target
  backers_kept n edges target =
      ap₂ (λ (own others : List Edge). map (backer_of voters) own ++ map (backer_of voters) others)
      (by_voter_kept n edges true target) (by_voter_kept n edges false target)

supports_kept : (committee : Committee) → supports_in (kept_committee committee) ≡ supports_in committee
supports_kept committee =
    λ i. map (λ target. support_kept committee.weights.edges target i) (range_with_len 0 (length committee.snapshot.targets))

exposures_kept : (committee : Committee) → exposures_of (kept_committee committee) ≡ exposures_of committee
exposures_kept committee = λ i. map (λ member. exposure_at member i) committee.weights.committee where
  exposure_at : (member : ℕ)
      → exposure_of committee.snapshot.targets committee.commissions (supports_in (kept_committee committee)) (voters_in committee) (edges_in (kept_committee committee)) member
      ≡ exposure_of committee.snapshot.targets committee.commissions (supports_in committee) (voters_in committee) (edges_in committee) member
  exposure_at member = λ i. record (exposure_of committee.snapshot.targets committee.commissions (supports_kept committee i) (voters_in committee) (edges_in committee) member) {
    backers = backers_kept committee.snapshot.targets (voters_in committee) (length (voters_in committee)) committee.weights.edges member i;
  }

exposed_kept : (waiting : Option Committee) → exposed (option_map kept_committee waiting) ≡ exposed waiting
exposed_kept None = refl
exposed_kept (Some committee) = exposures_kept committee

pub exposed_alike : (one other : Option Committee) → option_map kept_committee one ≡ option_map kept_committee other → exposed one ≡ exposed other
exposed_alike one other alike = sym (exposed_kept one) ∙ (ap exposed alike ∙ exposed_kept other)
