-- What is left goes on along ways.
use Rattle.std.proofs.Common.{◌≡◌, ◌≢◌, ℕ, ◌+◌, ◌<◌, ◌≤◌, ◌⊎◌, List, length, get_or, inl, inr, ap, ◌∙◌, sym, subst, arith}
use Rattle.std.proofs.Math.ListN.{get_or-eq_default}
use Rattle.std.proofs.lemmas.List.{get_or_read}
use Rattle.std.proofs.lemmas.Bool.{cases_lt}
use Rattle.npos_base.specs.declared.figures.Edge.{Edge}
use Rattle.committee_answer.specs.declared.reach.TheConstants.{FAR}
use Rattle.committee_answer.specs.declared.lists.Lists.{Lists}
use Rattle.committee_answer.specs.declared.offers.Offers.{Offers}
use Rattle.committee_answer.specs.declared.reach.Way.{Way}
use Rattle.committee_answer.specs.Offers.{at, edge_at, no_edge, AreMoved, AreSmall}
use Rattle.committee_answer.specs.Ways.{no_way, way_at, steps_at, IsNext, IsBack, AreWays, AreLists}
use Rattle.committee_answer.proofs.OfferLemmas.{same_count, same_voter, same_target}

-- who is reached stands in the table
pub in_table : (ways : List Way) (n : ℕ) → steps_at ways n < FAR → n < length ways
in_table ways n h = elim (cases_lt n (length ways)) [
  | inl l ↦ l
  | inr past ↦ absurd (omega (arith, h, ap (λ (w : Way). w.steps) (get_or-eq_default ways no_way past)))
]

pub moved_lists : (old new : Offers) (lists : Lists) → AreMoved old new → AreLists old lists → AreLists new lists
moved_lists old new lists moved so = record {
  begins = omega (arith, so.begins, moved.left_count);
  heads = omega (arith, so.heads, moved.spare_count);
  nexts = omega (arith, so.nexts, same_count old new moved.edges);
}

-- a voter that has a way gives in place of another one
module _ (old new : Offers) (voters members : List Way) (mover : ℕ) (next back : Way) (ways : AreWays (steps_at voters mover + 1) old voters members)
    (is_next : IsNext old members mover next) (no_further : next.steps ≤ steps_at voters mover)
    (is_back : IsBack old voters (edge_at old next.edge).target back) (back_steps : back.steps ≡ steps_at members (edge_at old next.edge).target) where
  pub taker : ℕ
  taker = (edge_at old back.edge).voter

  pub same_member : (edge_at old back.edge).target ≡ (edge_at old next.edge).target
  same_member = is_back.to_member

  pub nearer : steps_at voters (edge_at old back.edge).voter < steps_at voters mover
  nearer = omega (arith, is_back.nearer, back_steps, is_next.no_further, no_further)

  pub apart : (edge_at old back.edge).voter ≢ (edge_at old next.edge).voter
  apart e = absurd (omega (arith, nearer, ap (steps_at voters) (e ∙ is_next.of_voter)))

  module _ (moved : AreMoved old new) (same_spare : (target : ℕ) → at new.spare.items target ≡ at old.spare.items target)
      (others : (other : ℕ) → other ≢ back.edge → (edge_at old other).amount ≤ (edge_at new other).amount) where
    pub ways_on : AreWays (steps_at voters (edge_at old back.edge).voter + 1) new voters members
    ways_on = record { of_voter = of_voter; of_member = of_member } where
      other_edge : (n : ℕ) → steps_at members n < steps_at voters (edge_at old back.edge).voter + 1 → IsBack old voters n (way_at members n) → (way_at members n).edge ≡ back.edge → ⊥
      other_edge n h way e = absurd (omega (
        arith,
        h,
        is_back.nearer,
        back_steps,
        ap (steps_at members) (sym way.to_member ∙ ap (λ k. (edge_at old k).target) e ∙ same_member),
      ))

      of_voter : (n : ℕ) → steps_at voters n < steps_at voters (edge_at old back.edge).voter + 1 → IsNext new members n (way_at voters n)
      of_voter n h = let way = ways.of_voter n (omega (arith, h, nearer)) in record {
        inside = omega (arith, way.inside, same_count old new moved.edges);
        of_voter = same_voter old new moved.edges (way_at voters n).edge ∙ way.of_voter;
        no_further = omega (arith, way.no_further, ap (steps_at members) (same_target old new moved.edges (way_at voters n).edge));
      }

      of_member : (n : ℕ) → steps_at members n < steps_at voters (edge_at old back.edge).voter + 1
          → (0 < at new.spare.items n) ⊎ IsBack new voters n (way_at members n)
      of_member n h = elim (ways.of_member n (omega (arith, h, nearer))) [
        | inl some ↦ inl (omega (arith, some, same_spare n))
        | inr way ↦ inr (record {
          inside = omega (arith, way.inside, same_count old new moved.edges);
          to_member = same_target old new moved.edges (way_at members n).edge ∙ way.to_member;
          gives = omega (arith, way.gives, others (way_at members n).edge (λ e. other_edge n h way e));
          nearer = omega (arith, way.nearer, ap (steps_at voters) (same_voter old new moved.edges (way_at members n).edge));
        })
      ]

-- the way of a member that takes no more leads back from it
pub back_of : (offers : Offers) (voters members : List Way) (mover target : ℕ) (next back : Way) → AreWays (steps_at voters mover + 1) offers voters members
    → next ≡ way_at voters mover → target ≡ (edge_at offers next.edge).target → back ≡ way_at members target → at offers.spare.items target ≤ 0
    → IsBack offers voters (edge_at offers next.edge).target back
back_of offers voters members mover target next back ways next_is target_is back_is none =
    subst (λ t. IsBack offers voters t back) target_is
    (subst (λ (w : Way). IsBack offers voters target w) (sym back_is) (elim (ways.of_member target near) [
      | inl some ↦ absurd (omega (arith, some, none))
      | inr way ↦ way
    ]))
  where
    near : steps_at members target < steps_at voters mover + 1
    near = omega (
      arith,
      (ways.of_voter mover (omega arith)).no_further,
      ap (λ (w : Way). steps_at members (edge_at offers w.edge).target) next_is,
      ap (steps_at members) target_is,
    )

-- what is read at the first step of a way
pub record IsStep (offers : Offers) (voters members : List Way) (mover : ℕ) (way : Way) (target room : ℕ) : Type 0 where
  pub way_is : way ≡ way_at voters mover
  pub leads : IsNext offers members mover way
  pub no_further : way.steps ≤ steps_at voters mover
  pub target_is : target ≡ (edge_at offers way.edge).target
  pub in_spare : target < length offers.spare.items
  pub room_is : room ≡ at offers.spare.items target

pub step_at : (offers : Offers) (voters members : List Way) (mover : ℕ) (way : Way) (edge : Edge) (target room : ℕ)
    → AreWays (steps_at voters mover + 1) offers voters members → steps_at voters mover < FAR → AreSmall offers
    → way ≡ get_or voters mover way → edge ≡ get_or offers.edges.items way.edge edge → target ≡ edge.target
    → room ≡ get_or offers.spare.items target room → IsStep offers voters members mover way target room
step_at offers voters members mover way edge target room ways reached small way_read edge_read target_read room_read = record {
  way_is = way_is;
  leads = leads;
  no_further = omega (arith, ap (λ (w : Way). w.steps) way_is);
  target_is = target_is;
  in_spare = in_spare;
  room_is = get_or_read offers.spare.items target room in_spare room_read 0;
} where
  way_is : way ≡ way_at voters mover
  way_is = get_or_read voters mover way (in_table voters mover reached) way_read no_way

  leads : IsNext offers members mover way
  leads = subst (λ (w : Way). IsNext offers members mover w) (sym way_is) (ways.of_voter mover (omega arith))

  target_is : target ≡ (edge_at offers way.edge).target
  target_is = target_read ∙ ap (λ (e : Edge). e.target) (get_or_read offers.edges.items way.edge edge leads.inside edge_read no_edge)

  in_spare : target < length offers.spare.items
  in_spare = omega (arith, target_is, small.targets way.edge leads.inside)

-- and where its member takes no more, at the step back from it
pub record IsReturn (offers : Offers) (voters members : List Way) (way back : Way) : Type 0 where
  pub is_back : IsBack offers voters (edge_at offers way.edge).target back
  pub back_steps : back.steps ≡ steps_at members (edge_at offers way.edge).target

pub return_at : (offers : Offers) (voters members : List Way) (mover : ℕ) (way back : Way) (target room : ℕ)
    → AreWays (steps_at voters mover + 1) offers voters members → IsStep offers voters members mover way target room → room ≤ 0
    → target < length members → back ≡ get_or members target back → IsReturn offers voters members way back
return_at offers voters members mover way back target room ways step none inside back_read = record {
  is_back = back_of offers voters members mover target way back ways step.way_is step.target_is back_is (omega (arith, none, step.room_is));
  back_steps = ap (λ (w : Way). w.steps) back_is ∙ ap (steps_at members) step.target_is;
} where
  back_is : back ≡ way_at members target
  back_is = get_or_read members target back inside back_read no_way
