-- What one edge no longer gives, another one to the same member gives.
use Rattle.std.proofs.Common.{◌≡◌, ◌≢◌, ℕ, ◌+◌, ◌-◌, ◌<◌, ◌≤◌, List, length, get_or, set, inl, inr, ap, ◌∙◌, sym, arith}
use Rattle.std.proofs.lemmas.List.{length-set, get_or-set_same, get_or-set_other}
use Rattle.std.proofs.lemmas.Bool.{cases_eq}
use Rattle.npos_base.specs.declared.figures.Edge.{Edge}
use Rattle.committee_answer.specs.declared.offers.Offers.{Offers}
use Rattle.committee_answer.specs.Offers.{at, edge_at, no_edge, less_at, more_at, AreMoved, AreSmall, IsTaken, IsGiven}
use Rattle.committee_answer.proofs.OfferLemmas.{same_voter, same_target}

module _ (old taken : Offers) (place back amount : ℕ) (small : AreSmall old) (p : place < length old.edges.items) (b : back < length old.edges.items)
    (moved : AreMoved old taken) (is_taken : IsTaken old taken back amount) where
  pub left_there : at old.left.items (edge_at old place).voter ≤ at taken.left.items (edge_at taken place).voter
  left_there = elim (cases_eq (edge_at old place).voter (edge_at old back).voter) [
    | inl e ↦ omega (
      arith,
      voter_same,
      ap (at old.left.items) e,
      ap (λ (xs : List ℕ). at xs (edge_at old back).voter) is_taken.left,
      ap (at taken.left.items) e,
      get_or-set_same old.left.items (edge_at old back).voter (at old.left.items (edge_at old back).voter + amount) 0 (small.voters back b),
    )
    | inr e ↦ omega (
      arith,
      voter_same,
      ap (λ (xs : List ℕ). at xs (edge_at old place).voter) is_taken.left,
      get_or-set_other old.left.items (edge_at old back).voter (edge_at old place).voter (at old.left.items (edge_at old back).voter + amount) 0 e,
    )
  ] where
    voter_same : at taken.left.items (edge_at taken place).voter ≡ at taken.left.items (edge_at old place).voter
    voter_same = ap (at taken.left.items) (same_voter old taken moved.edges place)

  module _ (same : (edge_at old back).target ≡ (edge_at old place).target) where
    here : (edge_at taken place).target ≡ (edge_at old back).target
    here = same_target old taken moved.edges place ∙ sym same

    pub spare_there : at taken.spare.items (edge_at taken place).target ≡ at old.spare.items (edge_at old back).target + amount
    spare_there = ap (at taken.spare.items) here
        ∙ ap (λ (xs : List ℕ). at xs (edge_at old back).target) is_taken.spare
        ∙ get_or-set_same old.spare.items (edge_at old back).target (at old.spare.items (edge_at old back).target + amount) 0 (small.targets back b)

    module _ (new : Offers) (is_given : IsGiven taken new place amount) where
      pub same_spare : (target : ℕ) → at new.spare.items target ≡ at old.spare.items target
      same_spare target = elim (cases_eq target (edge_at taken place).target) [
        | inl e ↦ omega (
          arith,
          spare_there,
          ap (λ (xs : List ℕ). at xs target) is_given.spare,
          ap (λ n. at (set taken.spare.items (edge_at taken place).target (at taken.spare.items (edge_at taken place).target - amount)) n) e,
          get_or-set_same taken.spare.items (edge_at taken place).target (at taken.spare.items (edge_at taken place).target - amount) 0
              (omega (arith, here, small.targets back b, moved.spare_count)),
          ap (at old.spare.items) (e ∙ here),
        )
        | inr e ↦ omega (
          arith,
          ap (λ (xs : List ℕ). at xs target) is_given.spare,
          get_or-set_other taken.spare.items (edge_at taken place).target target (at taken.spare.items (edge_at taken place).target - amount) 0 e,
          ap (λ (xs : List ℕ). at xs target) is_taken.spare,
          get_or-set_other old.spare.items (edge_at old back).target target (at old.spare.items (edge_at old back).target + amount) 0 (λ f. e (f ∙ sym here)),
        )
      ]

      pub others_no_less : (other : ℕ) → other ≢ back → (edge_at old other).amount ≤ (edge_at new other).amount
      others_no_less other apart = elim (cases_eq other place) [
        | inl e ↦ omega (
          arith,
          kept,
          ap (λ (es : List Edge). (get_or es other no_edge).amount) is_given.edges,
          ap (λ n. (get_or (set taken.edges.items place (more_at taken place amount)) n no_edge).amount) e,
          ap (λ (edge : Edge). edge.amount) (get_or-set_same taken.edges.items place (more_at taken place amount) no_edge place_in),
          ap (λ n. (edge_at taken n).amount) e,
        )
        | inr e ↦ omega (
          arith,
          kept,
          ap (λ (es : List Edge). (get_or es other no_edge).amount) is_given.edges,
          ap (λ (edge : Edge). edge.amount) (get_or-set_other taken.edges.items place other (more_at taken place amount) no_edge e),
        )
      ] where
        kept : (edge_at taken other).amount ≡ (edge_at old other).amount
        kept = ap (λ (es : List Edge). (get_or es other no_edge).amount) is_taken.edges
            ∙ ap (λ (edge : Edge). edge.amount) (get_or-set_other old.edges.items back other (less_at old back amount) no_edge apart)

        place_in : place < length taken.edges.items
        place_in = omega (arith, p, ap (λ (es : List Edge). length es) is_taken.edges, length-set old.edges.items back (less_at old back amount))

      pub got_some : (edge_at old back).voter ≢ (edge_at old place).voter → 0 < amount → 0 < at new.left.items (edge_at old back).voter
      got_some apart some = omega (
        arith,
        some,
        ap (λ (xs : List ℕ). at xs (edge_at old back).voter) is_given.left,
        get_or-set_other taken.left.items (edge_at taken place).voter (edge_at old back).voter (at taken.left.items (edge_at taken place).voter - amount) 0
            (λ e. apart (e ∙ same_voter old taken moved.edges place)),
        ap (λ (xs : List ℕ). at xs (edge_at old back).voter) is_taken.left,
        get_or-set_same old.left.items (edge_at old back).voter (at old.left.items (edge_at old back).voter + amount) 0 (small.voters back b),
      )
