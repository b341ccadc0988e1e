-- What is moved stays small, and what one edge gives moves what its voter has left and what its member takes.
use Rattle.std.proofs.Common.{◌≡◌, ℕ, ◌+◌, ◌<◌, ◌≤◌, cond, nat_eq, List, length, get_or, set, map, sum, sum_by, inl, inr, refl, ap, ◌∙◌, sym, arith}
use Rattle.std.proofs.Math.ListN.{get_or-map}
use Rattle.std.proofs.Math.Seq.{map-set_same}
use Rattle.std.proofs.lemmas.List.{length-set, length-map, get_or-set_same, get_or-set_other}
use Rattle.std.proofs.lemmas.List.Sums.{sum_by-set, get_or-le-sum_by}
use Rattle.std.proofs.lemmas.Bool.{cases_eq, cond-true, cond-false, eq-eqb, ne_eqb}
use Rattle.npos_base.specs.declared.figures.Edge.{Edge}
use Rattle.weight_book.specs.Weights.{amount_sum, spent, support}
use Rattle.weight_book.proofs.GivenEdgeLemmas.{filtered_sum}
use Rattle.committee_answer.specs.declared.offers.Offers.{Offers}
use Rattle.committee_answer.specs.Offers.{at, edge_at, no_edge, emptied, AreMoved, AreSmall}

module _ (old new : Offers) (edges : map emptied new.edges.items ≡ map emptied old.edges.items) where
  pub same_count : length new.edges.items ≡ length old.edges.items
  same_count = sym (length-map new.edges.items emptied) ∙ ap (λ (es : List Edge). length es) edges ∙ length-map old.edges.items emptied

  same_empty : (place : ℕ) → emptied (edge_at new place) ≡ emptied (edge_at old place)
  same_empty place = sym (get_or-map emptied new.edges.items place no_edge)
      ∙ ap (λ (es : List Edge). get_or es place no_edge) edges
      ∙ get_or-map emptied old.edges.items place no_edge

  pub same_voter : (place : ℕ) → (edge_at new place).voter ≡ (edge_at old place).voter
  same_voter place = ap (λ (e : Edge). e.voter) (same_empty place)

  pub same_target : (place : ℕ) → (edge_at new place).target ≡ (edge_at old place).target
  same_target place = ap (λ (e : Edge). e.target) (same_empty place)

pub moved_small : (old new : Offers) → AreMoved old new → AreSmall old → new.rest ≡ sum new.left.items → AreSmall new
moved_small old new moved small rest = record {
  voters = λ place h.
      omega (arith, same_voter old new moved.edges place, moved.left_count, small.voters place (omega (arith, h, same_count old new moved.edges)));
  targets = λ place h.
      omega (arith, same_target old new moved.edges place, moved.spare_count, small.targets place (omega (arith, h, same_count old new moved.edges)));
  left = λ voter. omega (arith, moved.left voter, small.left voter);
  spare = λ target. omega (arith, moved.spare target, small.spare target);
  all = omega (arith, moved.rest, small.all);
  rest = rest;
}

pub moved_none : (offers : Offers) → AreMoved offers offers
moved_none offers = record {
  edges = refl;
  left_count = refl;
  spare_count = refl;
  left = λ voter. refl;
  spare = λ target. refl;
  rest = refl;
}

pub moved_then : (one two three : Offers) → AreMoved one two → AreMoved two three → AreMoved one three
moved_then one two three first second = record {
  edges = second.edges ∙ first.edges;
  left_count = second.left_count ∙ first.left_count;
  spare_count = second.spare_count ∙ first.spare_count;
  left = λ voter. second.left voter ∙ first.left voter;
  spare = λ target. second.spare target ∙ first.spare target;
  rest = second.rest ∙ first.rest;
}

-- one edge is set, which has this key
module _ (key : Edge → ℕ) (edges : List Edge) (place : ℕ) (edge : Edge) (table : List ℕ) (entry : ℕ) (h : place < length edges)
    (same : key edge ≡ key (get_or edges place no_edge)) (inside : key edge < length table)
    (kept : entry + edge.amount ≡ at table (key edge) + (get_or edges place no_edge).amount) where
  weight : ℕ → Edge → ℕ
  weight number e = cond (nat_eq (key e) number) e.amount 0

  set_weight : (number : ℕ) → sum_by (weight number) (set edges place edge) + weight number (get_or edges place no_edge)
      ≡ sum_by (weight number) edges + weight number edge
  set_weight number = sum_by-set (weight number) edges place edge no_edge h

  pub set_kept : (number : ℕ) → at (set table (key edge) entry) number + sum_by (λ (e : Edge). cond (nat_eq (key e) number) e.amount 0) (set edges place edge)
      ≡ at table number + sum_by (λ (e : Edge). cond (nat_eq (key e) number) e.amount 0) edges
  unfolding weight
  set_kept number = elim (cases_eq (key edge) number) [
    | inl here ↦ omega (
      arith,
      set_weight number,
      kept,
      ap (λ n. at (set table (key edge) entry) n) here,
      ap (at table) here,
      get_or-set_same table (key edge) entry 0 inside,
      cond-true (nat_eq (key edge) number) edge.amount 0 (eq-eqb (key edge) number here),
      cond-true (nat_eq (key (get_or edges place no_edge)) number) (get_or edges place no_edge).amount 0 (eq-eqb (key (get_or edges place no_edge)) number (sym same ∙ here)),
    )
    | inr other ↦ omega (
      arith,
      set_weight number,
      get_or-set_other table (key edge) number entry 0 (λ e. other (sym e)),
      cond-false (nat_eq (key edge) number) edge.amount 0 (ne_eqb (key edge) number other),
      cond-false (nat_eq (key (get_or edges place no_edge)) number) (get_or edges place no_edge).amount 0 (ne_eqb (key (get_or edges place no_edge)) number (λ e. other (same ∙ e))),
    )
  ]

spent_is : (edges : List Edge) (voter : ℕ) → spent edges voter ≡ sum_by (λ (e : Edge). cond (nat_eq e.voter voter) e.amount 0) edges
spent_is edges voter = filtered_sum (λ (e : Edge). e.amount) (λ e. nat_eq e.voter voter) edges

support_is : (edges : List Edge) (target : ℕ) → support edges target ≡ sum_by (λ (e : Edge). cond (nat_eq e.target target) e.amount 0) edges
support_is edges target = filtered_sum (λ (e : Edge). e.amount) (λ e. nat_eq e.target target) edges

-- the amount of one edge is set, and with it what its voter has left and what its member takes
pub set_moved : (old new : Offers) (place : ℕ) (edge : Edge) (left spare : ℕ) → AreSmall old → place < length old.edges.items
    → edge.voter ≡ (edge_at old place).voter → edge.target ≡ (edge_at old place).target
    → new.edges.items ≡ set old.edges.items place edge → new.left.items ≡ set old.left.items edge.voter left → new.spare.items ≡ set old.spare.items edge.target spare
    → left + edge.amount ≡ at old.left.items edge.voter + (edge_at old place).amount
    → spare + edge.amount ≡ at old.spare.items edge.target + (edge_at old place).amount
    → new.rest + edge.amount ≡ old.rest + (edge_at old place).amount → AreMoved old new
set_moved old new place edge left spare small h v t edges_is left_is spare_is left_kept spare_kept rest_kept = record {
  edges = ap (map emptied) edges_is ∙ map-set_same emptied old.edges.items place edge no_edge same;
  left_count = ap (λ (xs : List ℕ). length xs) left_is ∙ length-set old.left.items edge.voter left;
  spare_count = ap (λ (xs : List ℕ). length xs) spare_is ∙ length-set old.spare.items edge.target spare;
  left = λ voter. omega (
    arith,
    ap (λ (xs : List ℕ). at xs voter) left_is,
    ap (λ (es : List Edge). spent es voter) edges_is,
    spent_is (set old.edges.items place edge) voter,
    spent_is old.edges.items voter,
    set_kept (λ (e : Edge). e.voter) old.edges.items place edge old.left.items left h v (omega (arith, v, small.voters place h)) left_kept voter,
  );
  spare = λ target. omega (
    arith,
    ap (λ (xs : List ℕ). at xs target) spare_is,
    ap (λ (es : List Edge). support es target) edges_is,
    support_is (set old.edges.items place edge) target,
    support_is old.edges.items target,
    set_kept (λ (e : Edge). e.target) old.edges.items place edge old.spare.items spare h t (omega (arith, t, small.targets place h)) spare_kept target,
  );
  rest = omega (
    arith,
    rest_kept,
    ap amount_sum edges_is,
    sum_by-set (λ (e : Edge). e.amount) old.edges.items place edge no_edge h,
  );
} where
  same : emptied edge ≡ emptied (get_or old.edges.items place no_edge)
  same = cc (v, t)

pub set_small : (old new : Offers) (voter left amount given : ℕ) → AreMoved old new → AreSmall old → voter < length old.left.items → new.left.items ≡ set old.left.items voter left
    → left + amount ≡ at old.left.items voter + given → new.rest + amount ≡ old.rest + given → AreSmall new
set_small old new voter left amount given moved small h left_is left_kept rest_kept = moved_small old new moved small (omega (
  arith,
  small.rest,
  ap (λ (xs : List ℕ). sum xs) left_is,
  sum_by-set (λ n. n) old.left.items voter left 0 h,
  left_kept,
  rest_kept,
))

-- what one edge gives is within what its member has
pub amount_within : (offers : Offers) (place : ℕ) → place < length offers.edges.items
    → (edge_at offers place).amount ≤ support offers.edges.items (edge_at offers place).target
amount_within offers place h = omega (
  arith,
  support_is offers.edges.items (edge_at offers place).target,
  get_or-le-sum_by (λ (e : Edge). cond (nat_eq e.target (edge_at offers place).target) e.amount 0) offers.edges.items place no_edge h,
  cond-true (nat_eq (edge_at offers place).target (edge_at offers place).target) (edge_at offers place).amount 0
      (eq-eqb (edge_at offers place).target (edge_at offers place).target refl),
)

-- what one voter has left is within the rest
pub left_within : (offers : Offers) (voter : ℕ) → AreSmall offers → voter < length offers.left.items → at offers.left.items voter ≤ offers.rest
left_within offers voter small h = omega (arith, small.rest, get_or-le-sum_by (λ n. n) offers.left.items voter 0 h)
