-- One member more is reached.
use Rattle.std.proofs.Common.{◌≡◌, ◌≢◌, ℕ, ◌+◌, ◌<◌, ◌≤◌, ◌⊎◌, Bool, not, cond, nat_lt, List, length, set, count_by, inl, inr, refl, ap, ◌∙◌, sym, subst, arith, true, false, get_or}
use Rattle.std.proofs.lemmas.List.{length-set, get_or-set_same, get_or-set_other, get_or_read}
use Rattle.std.proofs.lemmas.List.Sums.{sum_by-set, count_by-le-length, get_or-le-sum_by}
use Rattle.std.proofs.lemmas.Bool.{cases_eq, cond-true, cond-false, lt-ltb, le-ltb, ltb-true, ltb-false}
use Rattle.npos_base.specs.declared.figures.Edge.{Edge}
use Rattle.npos_base.specs.declared.limits.TheConstants.{MOST_TARGETS}
use Rattle.committee_answer.specs.declared.reach.TheConstants.{FAR}
use Rattle.committee_answer.specs.declared.offers.Offers.{Offers}
use Rattle.committee_answer.specs.declared.reach.Way.{Way}
use Rattle.committee_answer.specs.Offers.{at, edge_at, no_edge, AreSmall}
use Rattle.committee_answer.specs.Ways.{no_way, way_at, steps_at, IsReached, unreached, IsNext, IsBack, IsReach, StayReached}

-- with no way at all
module _ (offers : Offers) (voters members : List Way) (none_of : (n : ℕ) → steps_at voters n ≡ FAR) (none_to : (n : ℕ) → steps_at members n ≡ FAR)
    (voter_count : length voters ≡ length offers.left.items) (member_count : length members ≡ length offers.spare.items) (few : length members ≤ MOST_TARGETS) where
  pub none_reached : IsReach offers voters members
  none_reached = record {
    voter_count = voter_count;
    member_count = member_count;
    few = few;
    ways = record {
      of_voter = λ n h. absurd (omega (arith, h, none_of n));
      of_member = λ n h. absurd (omega (arith, h, none_to n));
    };
    voters_short = λ n h. absurd (omega (arith, h, none_of n));
    members_short = λ n h. absurd (omega (arith, h, none_to n));
  }

module _ (members : List Way) (target : ℕ) (way : Way) (inside : target < length members) (leads : way.steps < FAR) where
  abbrev after : List Way
  after = set members target way

  abbrev test : Way → Bool
  test w = not (nat_lt w.steps FAR)

  abbrev counted : Bool → ℕ
  counted b = cond b 1 0

  one_set : count_by test after + counted (test (way_at members target)) ≡ count_by test members + counted (test way)
  one_set = sum_by-set (λ (w : Way). counted (test w)) members target way no_way inside

  now_reached : counted (test way) ≡ 0
  now_reached = cond-false {A = ℕ} (test way) 1 0 (ap not (lt-ltb way.steps FAR leads))

  pub no_more_unreached : unreached after ≤ unreached members
  no_more_unreached = omega (arith, one_set, now_reached)

  pub one_less_unreached : FAR ≤ steps_at members target → unreached after + 1 ≡ unreached members
  one_less_unreached far = omega (arith, one_set, now_reached, cond-true {A = ℕ} (test (way_at members target)) 1 0 (ap not (le-ltb (steps_at members target) FAR far)))

  pub here : way_at after target ≡ way
  here = get_or-set_same members target way no_way inside

  pub elsewhere : (n : ℕ) → n ≢ target → way_at after n ≡ way_at members n
  elsewhere n apart = get_or-set_other members target n way no_way apart

  module _ (no_more : way.steps ≤ steps_at members target) where
    pub no_further : (n : ℕ) → steps_at after n ≤ steps_at members n
    no_further n = elim (cases_eq n target) [
      | inl e ↦ omega (arith, no_more, ap (steps_at after) e, ap (λ (w : Way). w.steps) here, ap (steps_at members) e)
      | inr e ↦ omega (arith, ap (λ (w : Way). w.steps) (elsewhere n e))
    ]

    pub stay : StayReached members after
    stay n h = omega (arith, h, no_further n)

    module _ (offers : Offers) (voters : List Way) (is_reach : IsReach offers voters members)
        (leads_on : (0 < at offers.spare.items target) ⊎ IsBack offers voters target way) (short : way.steps + unreached after ≤ length members) where
      pub one_more : IsReach offers voters after
      one_more = record {
        voter_count = is_reach.voter_count;
        member_count = length-set members target way ∙ is_reach.member_count;
        few = omega (arith, is_reach.few, length-set members target way);
        ways = record { of_voter = of_voter; of_member = of_member };
        voters_short = λ n h. omega (arith, is_reach.voters_short n h, no_more_unreached, length-set members target way);
        members_short = members_short;
      } where
        of_voter : (n : ℕ) → steps_at voters n < FAR → IsNext offers after n (way_at voters n)
        of_voter n h = let next = is_reach.ways.of_voter n h in record {
          inside = next.inside;
          of_voter = next.of_voter;
          no_further = omega (arith, next.no_further, no_further (edge_at offers (way_at voters n).edge).target);
        }

        of_member : (n : ℕ) → steps_at after n < FAR → (0 < at offers.spare.items n) ⊎ IsBack offers voters n (way_at after n)
        of_member n h = elim (cases_eq n target) [
          | inl e ↦ subst (λ m. (0 < at offers.spare.items m) ⊎ IsBack offers voters m (way_at after m)) (sym e)
              (subst (λ (w : Way). (0 < at offers.spare.items target) ⊎ IsBack offers voters target w) (sym here) leads_on)
          | inr e ↦ subst (λ (w : Way). (0 < at offers.spare.items n) ⊎ IsBack offers voters n w) (sym (elsewhere n e))
              (is_reach.ways.of_member n (omega (arith, h, ap (λ (w : Way). w.steps) (elsewhere n e))))
        ]

        members_short : (n : ℕ) → IsReached after n → steps_at after n + unreached after ≤ length after
        members_short n h = elim (cases_eq n target) [
          | inl e ↦ omega (arith, short, ap (steps_at after) e, ap (λ (w : Way). w.steps) here, length-set members target way)
          | inr e ↦ omega (
            arith,
            ap (λ (w : Way). w.steps) (elsewhere n e),
            is_reach.members_short n (omega (arith, h, ap (λ (w : Way). w.steps) (elsewhere n e))),
            no_more_unreached,
            length-set members target way,
          )
        ]

-- a member that takes more is reached in no step
pub spare_reached : (offers : Offers) (voters members : List Way) (target : ℕ) → IsReach offers voters members → target < length members
    → 0 < at offers.spare.items target → IsReach offers voters (set members target (record { steps = 0; edge = 0 }))
spare_reached offers voters members target is_reach inside some =
    let way : Way = record { steps = 0; edge = 0 } in
    one_more members target way inside (omega arith) (omega arith) offers voters is_reach (inl some)
    (omega (arith, count_by-le-length (λ (w : Way). not (nat_lt w.steps FAR)) (set members target way), length-set members target way))

-- the member of an edge that gives something, from a voter that is reached
module _ (offers : Offers) (voters members : List Way) (place : ℕ) (is_reach : IsReach offers voters members) (there : place < length offers.edges.items)
    (inside : (edge_at offers place).target < length members) (voter : IsReached voters (edge_at offers place).voter)
    (gives : 0 < (edge_at offers place).amount) (far : FAR ≤ steps_at members (edge_at offers place).target) where
  abbrev next : Way
  next = record { steps = steps_at voters (edge_at offers place).voter + 1; edge = place }

  abbrev target : ℕ
  target = (edge_at offers place).target

  some_unreached : 1 ≤ unreached members
  some_unreached = omega (
    arith,
    get_or-le-sum_by (λ (w : Way). cond (not (nat_lt w.steps FAR)) 1 0) members target no_way inside,
    cond-true {A = ℕ} (not (nat_lt (steps_at members target) FAR)) 1 0 (ap not (le-ltb (steps_at members target) FAR far)),
  )

  pub leads : next.steps < FAR
  leads = omega (arith, is_reach.voters_short (edge_at offers place).voter voter, is_reach.few, some_unreached)

  pub fewer : unreached (set members target next) < unreached members
  fewer = omega (arith, one_less_unreached members target next inside leads far)

  pub next_reached : IsReach offers voters (set members target next)
  next_reached = one_more members target next inside leads (omega (arith, leads, far)) offers voters is_reach
      (inr (record { inside = there; to_member = refl; gives = gives; nearer = omega arith }))
      (omega (arith, one_less_unreached members target next inside leads far, is_reach.voters_short (edge_at offers place).voter voter))

-- what is read at an edge that gives something, from a voter that is reached to a member that is not
pub record IsFresh (offers : Offers) (voters members : List Way) (place steps target : ℕ) : Type 0 where
  pub target_is : target ≡ (edge_at offers place).target
  pub steps_is : steps ≡ steps_at voters (edge_at offers place).voter
  pub inside : (edge_at offers place).target < length members
  pub voter : IsReached voters (edge_at offers place).voter
  pub gives : 0 < (edge_at offers place).amount
  pub far : FAR ≤ steps_at members (edge_at offers place).target

pub fresh_at : (offers : Offers) (voters members : List Way) (place : ℕ) (edge : Edge) (way other : Way) (target : ℕ) → AreSmall offers → IsReach offers voters members
    → place < length offers.edges.items → edge ≡ get_or offers.edges.items place edge → way ≡ get_or voters edge.voter way → other ≡ get_or members target other
    → target ≡ edge.target → nat_lt way.steps FAR ≡ true → 0 < edge.amount → nat_lt other.steps FAR ≡ false → IsFresh offers voters members place way.steps target
fresh_at offers voters members place edge way other target small is_reach there edge_read way_read other_read target_read leads some stays = record {
  target_is = target_is;
  steps_is = steps_is;
  inside = inside;
  voter = omega (arith, steps_is, ltb-true way.steps FAR leads);
  gives = omega (arith, some, ap (λ (e : Edge). e.amount) edge_is);
  far = omega (arith, ltb-false other.steps FAR stays, ap (λ (w : Way). w.steps) other_is, ap (steps_at members) target_is);
} where
  edge_is : edge ≡ edge_at offers place
  edge_is = get_or_read offers.edges.items place edge there edge_read no_edge

  target_is : target ≡ (edge_at offers place).target
  target_is = target_read ∙ ap (λ (e : Edge). e.target) edge_is

  inside : (edge_at offers place).target < length members
  inside = omega (arith, small.targets place there, is_reach.member_count)

  steps_is : way.steps ≡ steps_at voters (edge_at offers place).voter
  steps_is = ap (λ (w : Way). w.steps)
      (get_or_read voters edge.voter way (omega (arith, ap (λ (e : Edge). e.voter) edge_is, small.voters place there, is_reach.voter_count)) way_read no_way)
      ∙ ap (λ (e : Edge). steps_at voters e.voter) edge_is

  other_is : other ≡ way_at members target
  other_is = get_or_read members target other (omega (arith, target_is, inside)) other_read no_way
