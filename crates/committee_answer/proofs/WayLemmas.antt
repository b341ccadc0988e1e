-- Nobody in a group that keeps to itself has a way.
use Rattle.std.proofs.Common.{◌≡◌, ℕ, zero, suc, ◌<◌, ◌≤◌, Bool, true, false, List, length, inl, inr, ap, ◌∙◌, sym, arith}
use Rattle.std.proofs.lemmas.Bool.{cases_Bool, true≢false}
use Rattle.npos_base.specs.declared.figures.Edge.{Edge}
use Rattle.seat_race.proofs.InLemmas.{In, in_at}
use Rattle.committee_answer.specs.declared.reach.TheConstants.{FAR}
use Rattle.committee_answer.specs.declared.offers.Offers.{Offers}
use Rattle.committee_answer.specs.declared.reach.Way.{Way}
use Rattle.committee_answer.specs.Offers.{at, edge_at, no_edge}
use Rattle.committee_answer.specs.Ways.{steps_at, way_at, AreWays}

module _ (offers : Offers) (voters members : List Way) (ways : AreWays FAR offers voters members) (inside taken : ℕ → Bool)
    (full : (member : ℕ) → taken member ≡ true → at offers.spare.items member ≡ 0)
    (nominated : (edge : Edge) → In offers.edges.items edge → inside edge.voter ≡ true → taken edge.target ≡ true)
    (own : (edge : Edge) → In offers.edges.items edge → 0 < edge.amount → taken edge.target ≡ true → inside edge.voter ≡ true) where
  there : (place : ℕ) → place < length offers.edges.items → In offers.edges.items (edge_at offers place)
  there place h = in_at offers.edges.items place no_edge h

  record AreOutside (steps : ℕ) : Type 0 where
    voter : (n : ℕ) → steps_at voters n < steps → inside n ≡ false
    member : (n : ℕ) → steps_at members n < steps → taken n ≡ false

  one_more : (steps : ℕ) → suc steps ≤ FAR → AreOutside steps → AreOutside (suc steps)
  one_more steps most nearer = record { voter = voter; member = member } where
    member : (n : ℕ) → steps_at members n < suc steps → taken n ≡ false
    member n h = elim (cases_Bool (taken n)) [
      | inr f ↦ f
      | inl t ↦ elim (ways.of_member n (omega (arith, h, most))) [
        | inl some ↦ absurd (omega (arith, some, full n t))
        | inr back ↦
            let edge = edge_at offers (way_at members n).edge in
            let out = nearer.voter edge.voter (omega (arith, back.nearer, h)) in
            absurd (true≢false (sym (own edge (there (way_at members n).edge back.inside) back.gives (ap taken back.to_member ∙ t)) ∙ out))
      ]
    ]

    voter : (n : ℕ) → steps_at voters n < suc steps → inside n ≡ false
    voter n h = elim (cases_Bool (inside n)) [
      | inr f ↦ f
      | inl t ↦
          let next = ways.of_voter n (omega (arith, h, most)) in
          let edge = edge_at offers (way_at voters n).edge in
          let out = member edge.target (omega (arith, next.no_further, h)) in
          absurd (true≢false (sym (nominated edge (there (way_at voters n).edge next.inside) (ap inside next.of_voter ∙ t)) ∙ out))
    ]

  none_near : (steps : ℕ) → steps ≤ FAR → AreOutside steps
  none_near zero most = record { voter = λ n h. absurd (omega arith); member = λ n h. absurd (omega arith) }
  none_near (suc steps) most = one_more steps most (none_near steps (omega arith))

  pub reached_outside : (voter : ℕ) → steps_at voters voter < FAR → inside voter ≡ false
  reached_outside voter h = (none_near FAR (omega arith)).voter voter h
