-- What the edges so far have paid, and what that leaves to the nominators of a target.
use Rattle.std.proofs.Common.{◌≡◌, ℕ, ◌+◌, ◌-◌, ◌<◌, ◌≤◌, min, cond, nat_eq, List, length, take, get_or, set, sum_by, All, ◌⊎◌, inl, inr, refl, sym, ap, subst, ◌∙◌, arith}
use Rattle.std.specs.List.{range_with_len}
use Rattle.std.proofs.Math.Nat.{div-le_of_le-mul, mul-le-mul_left, mul_comm}
use Rattle.std.proofs.lemmas.List.{length-set, get_or-set_same, get_or-set_other}
use Rattle.std.proofs.lemmas.Bool.{cases_eq, cond-true, cond-false, eq-eqb, ne_eqb}
use Rattle.npos_base.specs.declared.figures.Edge.{Edge}
use Rattle.election_snapshot.specs.Snapshot.{Snapshot, nominates, stake_of}
use Rattle.weight_book.specs.Weights.{edges_from, edges_to, support, spent, amount_sum}
use Rattle.weight_book.specs.Passing.{pay, slack, prescore, nominators}
use Rattle.weight_book.proofs.SumLemmas.{sum_filter_more, sum_filter-take-le, sum_le}
use Rattle.seat_race.specs.Tables.{says}
use Rattle.seat_race.proofs.InLemmas.{from_filter, sum_agree}
use Rattle.seat_race.proofs.NominatorLemmas.{nominates_in_range}

-- what is left once the edges so far have paid
pub record ArePaid (cap : ℕ) (snapshot : Snapshot) (edges : List Edge) (i : ℕ) (left : List ℕ) : Type 0 where
  pub kept : (voter : ℕ) → voter < length snapshot.voters
      → get_or left voter 0 + sum_by (pay cap edges) (edges_from (take i edges) voter) ≡ stake_of snapshot voter
  pub size : length left ≡ length snapshot.voters

-- ---- pays
pub within_support : (edges : List Edge) (i : ℕ) (d : Edge) → i < length edges → (get_or edges i d).amount ≤ support edges (get_or edges i d).target
within_support edges i d h = omega (
  arith,
  sum_filter_more (λ (e : Edge). nat_eq e.target (get_or edges i d).target) (λ (e : Edge). e.amount) edges i d h,
  cond-true (nat_eq (get_or edges i d).target (get_or edges i d).target) (get_or edges i d).amount 0 (eq-eqb (get_or edges i d).target (get_or edges i d).target refl),
  more,
)
  where
    more : amount_sum (edges_to (take (i + 1) edges) (get_or edges i d).target) ≤ support edges (get_or edges i d).target
    more = sum_filter-take-le (λ (e : Edge). nat_eq e.target (get_or edges i d).target) (λ (e : Edge). e.amount) edges (i + 1)

pub pay_within : (cap : ℕ) (edges : List Edge) (edge : Edge) → pay cap edges edge ≤ edge.amount
pay_within cap edges edge = div-le_of_le-mul (support edges edge.target)
    (omega (arith, mul-le-mul_left {m = min cap (support edges edge.target)} {n = support edges edge.target} edge.amount (omega arith), mul_comm edge.amount (support edges edge.target)))

paid_within : (cap : ℕ) (edges all : List Edge) (voter : ℕ) → sum_by (pay cap all) (edges_from edges voter) ≤ spent edges voter
paid_within cap edges all voter = sum_le (pay cap all) (λ (e : Edge). e.amount) (edges_from edges voter) (λ k d h. pay_within cap all (get_or (edges_from edges voter) k d))

module _ (cap : ℕ) (snapshot : Snapshot) (edges : List Edge) (voters_in : All (λ edge. edge.voter < length snapshot.voters) edges)
    (within : (voter : ℕ) → voter < length snapshot.voters → spent edges voter ≤ stake_of snapshot voter) (i : ℕ) (d : Edge) (h : i < length edges) (left : List ℕ)
    (so_far : ArePaid cap snapshot edges i left) where
  abbrev edge : Edge
  edge = get_or edges i d

  abbrev paid_to : ℕ → ℕ → ℕ
  paid_to n voter = sum_by (pay cap edges) (edges_from (take n edges) voter)

  paid_more : (voter : ℕ) → paid_to (i + 1) voter ≡ paid_to i voter + cond (nat_eq edge.voter voter) (pay cap edges edge) 0
  paid_more voter = sum_filter_more (λ (e : Edge). nat_eq e.voter voter) (pay cap edges) edges i d h

  in_range : edge.voter < length snapshot.voters
  in_range = voters_in i d h

  -- the voter has enough left for its pay
  pub pay_left : pay cap edges edge ≤ get_or left edge.voter 0
  pay_left =
      let itself : cond (nat_eq edge.voter edge.voter) (pay cap edges edge) 0 ≡ pay cap edges edge
      = cond-true (nat_eq edge.voter edge.voter) (pay cap edges edge) 0 (eq-eqb edge.voter edge.voter refl) in
      omega (
        arith,
        so_far.kept edge.voter in_range,
        paid_more edge.voter,
        itself,
        sum_filter-take-le (λ (e : Edge). nat_eq e.voter edge.voter) (pay cap edges) edges (i + 1),
        paid_within cap edges edges edge.voter,
        within edge.voter in_range,
      )

  pub paid_next : ArePaid cap snapshot edges (i + 1) (set left edge.voter (get_or left edge.voter 0 - pay cap edges edge))
  paid_next = record {
    kept = λ voter l. at voter l (cases_eq edge.voter voter);
    size = length-set left edge.voter (get_or left edge.voter 0 - pay cap edges edge) ∙ so_far.size;
  } where
    at : (voter : ℕ) → voter < length snapshot.voters → (edge.voter ≡ voter) ⊎ (edge.voter ≡ voter → ⊥)
        → get_or (set left edge.voter (get_or left edge.voter 0 - pay cap edges edge)) voter 0 + paid_to (i + 1) voter ≡ stake_of snapshot voter
    at voter l (inl same) =
        let now = ap (λ n. get_or (set left n (get_or left n 0 - pay cap edges edge)) voter 0) same
        ∙ get_or-set_same left voter (get_or left voter 0 - pay cap edges edge) 0 (omega (arith, l, so_far.size)) in
        let itself = cond-true (nat_eq edge.voter voter) (pay cap edges edge) 0 (eq-eqb edge.voter voter same) in
        let enough : pay cap edges edge ≤ get_or left voter 0 = subst (λ n. pay cap edges edge ≤ get_or left n 0) same pay_left in
        omega (arith, now, paid_more voter, itself, so_far.kept voter l, enough)
    at voter l (inr differ) =
        let now = get_or-set_other left edge.voter voter (get_or left edge.voter 0 - pay cap edges edge) 0 (λ e. differ (sym e)) in
        let other = cond-false (nat_eq edge.voter voter) (pay cap edges edge) 0 (ne_eqb edge.voter voter differ) in
        omega (arith, now, paid_more voter, other, so_far.kept voter l)

-- ---- prescores
module _ (price : ℕ) (snapshot : Snapshot) (edges : List Edge) where
  -- a table of slacks says what the nominators of a target have left
  pub left_is_prescore : (slacks : List ℕ) → ((voter : ℕ) → voter < length snapshot.voters → get_or slacks voter 0 ≡ slack price snapshot edges voter)
      → (target : ℕ) → sum_by (says slacks) (nominators snapshot target) ≡ prescore price snapshot edges target
  left_is_prescore slacks are target = sum_agree (says slacks) (slack price snapshot edges) (nominators snapshot target)
      (λ voter i. are voter (nominates_in_range snapshot voter target (from_filter (λ n. nominates snapshot n target) (range_with_len 0 (length snapshot.voters)) voter i).1))
