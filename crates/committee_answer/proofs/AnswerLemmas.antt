-- What the offers of a target's nominators tell of it.
use Rattle.std.proofs.Common.{◌≡◌, ℕ, ◌+◌, ◌*◌, ◌/◌, ◌<◌, ◌≤◌, Bool, true, false, not, nat_eq, List, [], ◌∷◌, length, get_or, filter, sum_by, inl, inr, refl, ap, ◌∙◌, sym, subst, arith}
use Rattle.std.specs.List.{IsDistinct, range_with_len}
use Rattle.std.specs.List.Sorted.{IsStrictlyIncreasing}
use Rattle.std.proofs.lemmas.Bool.{cases_Bool, cases_lt, cond-true, cond-false, lt-ltb, ltb-true, true≢false}
use Rattle.std.proofs.Math.Nat.{le-div_iff_mul-le, div-mul-le_self, add-mul}
use Rattle.std.proofs.lemmas.Nat.{mul-le}
use Rattle.std.proofs.lemmas.List.Sums.{sum_by-cons}
use Rattle.std.proofs.lemmas.List.{get_or_default}
use Rattle.std.proofs.lemmas.List.FromFn.{get_or-range_with_len, length-range_with_len}
use Rattle.std.proofs.lemmas.Bool.Decides.{Decides-eqb}
use Rattle.std.proofs.lemmas.List.Kept.{AllPairs-from_increasing, IsStrictlyIncreasing-filter}
use Rattle.std.proofs.lemmas.Map.Made.{IsDistinct-from_AllPairs}
use Rattle.npos_base.specs.declared.figures.Edge.{Edge}
use Rattle.election_snapshot.specs.Snapshot.{Snapshot, IsWellFormed, has, nominates, stake_of, votes_of, total_stake}
use Rattle.weight_book.specs.Weights.{amount_sum, spent}
use Rattle.weight_book.specs.Passing.{nominators}
use Rattle.weight_book.specs.Proportional.{group_stake, nominated_by}
use Rattle.weight_book.specs.Answered.{IsDenied}
use Rattle.weight_book.proofs.SumLemmas.{parts_all, sum_of_sums, sum_of_none, sum_filter-cons}
use Rattle.seat_race.proofs.InLemmas.{In, in_has, from_has, in_filter, from_filter, in_map, from_map, in_flat_map, from_flat_map, in_contains, all_in, all_at, sum_agree}
use Rattle.seat_race.proofs.NominatorLemmas.{nominators_distinct, has_nominators, nominates_in_range}
use Rattle.committee_answer.specs.declared.reach.TheConstants.{FAR}
use Rattle.committee_answer.specs.declared.offers.Offers.{Offers}
use Rattle.committee_answer.specs.declared.reach.Way.{Way}
use Rattle.committee_answer.specs.Denials.{IsGroup, represented, IsGreatest, IsLargest, IsCase}
use Rattle.committee_answer.specs.Offers.{at, edge_at, no_edge, emptied, row, rows, AreLaid, AreMoved}
use Rattle.committee_answer.specs.Ways.{steps_at, reached, stuck, IsReached, IsReach, IsWhole}
use Rattle.committee_answer.proofs.DualityLemmas.{IsBalanced, no_more_due, members_full, own_edges, as_much_due, sum_scaled, nominated_in, some_nominator, distinct_filter}
use Rattle.committee_answer.proofs.WayLemmas.{reached_outside}

-- no amount, no sum
pub none_given : (p : Edge → Bool) (edges : List Edge) → ((edge : Edge) → In edges edge → edge.amount ≡ 0) → amount_sum (filter p edges) ≡ 0
none_given p edges none = sum_agree (λ (e : Edge). e.amount) (λ (_ : Edge). 0) (filter p edges) (λ edge i. none edge (from_filter p edges edge i).0)
    ∙ sum_of_none (filter p edges)

module _ (snapshot : Snapshot) (committee voters : List ℕ) where
  -- an edge that is laid
  pub record IsLaid (edge : Edge) : Type 0 where
    pub voter : has voters edge.voter ≡ true
    pub member : has committee edge.target ≡ true
    pub nominates_it : nominates snapshot edge.voter edge.target ≡ true
    pub empty : edge.amount ≡ 0

  pub laid_edge : (edge : Edge) → In (rows snapshot committee voters) edge → IsLaid edge
  laid_edge edge i =
      let from = from_flat_map (row snapshot committee) voters edge i in
      let along = from_map (λ (member : ℕ). record { voter = from.0; target = member; amount = 0 }) (filter (has committee) (votes_of snapshot from.0)) edge from.2 in
      let kept = from_filter (has committee) (votes_of snapshot from.0) along.0 along.1 in
      subst IsLaid along.2 (record {
        voter = in_has voters from.0 from.1;
        member = kept.1;
        nominates_it = in_has (votes_of snapshot from.0) along.0 kept.0;
        empty = refl;
      })

  edge_laid : (voter member : ℕ) → has voters voter ≡ true → has committee member ≡ true → nominates snapshot voter member ≡ true
      → In (rows snapshot committee voters) (record { voter = voter; target = member; amount = 0 })
  edge_laid voter member v m n = in_flat_map (row snapshot committee) voters voter (record { voter = voter; target = member; amount = 0 }) (from_has voters voter v)
      (in_map (λ (target : ℕ). record { voter = voter; target = target; amount = 0 }) (filter (has committee) (votes_of snapshot voter)) member
      (in_filter (has committee) (votes_of snapshot voter) member (from_has (votes_of snapshot voter) member n) m))

  module _ (old new : Offers) (laid : AreLaid snapshot committee voters old) (moved : AreMoved old new)
      (committee_distinct : IsDistinct nat_eq committee) (voters_distinct : IsDistinct nat_eq voters) where
    old_laid : (edge : Edge) → In old.edges.items edge → IsLaid edge
    old_laid edge i = laid_edge edge (subst (λ (es : List Edge). In es edge) laid.edges i)

    -- an edge with the same ends was laid
    new_laid : (edge : Edge) → In new.edges.items edge → IsLaid (emptied edge)
    new_laid edge i =
        let was = from_map emptied old.edges.items (emptied edge) (subst (λ (es : List Edge). In es (emptied edge)) moved.edges (in_map emptied new.edges.items edge i)) in
        let so = old_laid was.0 was.1 in
        subst IsLaid was.2 (record { voter = so.voter; member = so.member; nominates_it = so.nominates_it; empty = refl })

    empty_sum : (p : Edge → Bool) → amount_sum (filter p old.edges.items) ≡ 0
    empty_sum p = none_given p old.edges.items (λ edge i. (old_laid edge i).empty)

    pub balanced : IsBalanced snapshot committee voters new.edges.items new.left.items new.spare.items
    balanced = record {
      committee_distinct = committee_distinct;
      voters_distinct = voters_distinct;
      of_voters = λ edge i. (new_laid edge i).voter;
      to_members = λ edge i. (new_laid edge i).member;
      nominated = λ edge i. (new_laid edge i).nominates_it;
      offered = λ voter v. omega (arith, moved.left voter, laid.left voter v, empty_sum (λ (e : Edge). nat_eq e.voter voter));
      taken = λ member m. omega (
        arith,
        moved.spare member,
        laid.spare member,
        cond-true (has committee member) (total_stake snapshot) 0 m,
        empty_sum (λ (e : Edge). nat_eq e.target member),
      );
    }

    no_spare_outside : (target : ℕ) → has committee target ≡ false → at new.spare.items target ≡ 0
    no_spare_outside target f = omega (
      arith,
      moved.spare target,
      laid.spare target,
      cond-false (has committee target) (total_stake snapshot) 0 f,
      empty_sum (λ (e : Edge). nat_eq e.target target),
    )

    -- along each nomination of a member stands an edge
    pub edge_of : (voter member : ℕ) → has voters voter ≡ true → has committee member ≡ true → nominates snapshot voter member ≡ true
        → (place : ℕ) × (place < length new.edges.items) × ((edge_at new place).voter ≡ voter) × ((edge_at new place).target ≡ member)
    edge_of voter member v m n =
        let edge : Edge = record { voter = voter; target = member; amount = 0 } in
        let was = subst (λ (es : List Edge). In es edge) (sym laid.edges) (edge_laid voter member v m n) in
        let stands = from_map emptied new.edges.items edge (subst (λ (es : List Edge). In es edge) (sym moved.edges) (in_map emptied old.edges.items edge was)) in
        let place = in_contains new.edges.items stands.0 stands.1 in
        let at_place : edge_at new place.0 ≡ stands.0 = place_is new.edges.items place.0 stands.0 place.1 place.2 in
        (place.0, place.1, ap (λ (e : Edge). e.voter) at_place ∙ ap (λ (e : Edge). e.voter) stands.2, ap (λ (e : Edge). e.target) at_place ∙ ap (λ (e : Edge). e.target) stands.2)
      where
        place_is : (edges : List Edge) (k : ℕ) (edge : Edge) → k < length edges → get_or edges k edge ≡ edge → get_or edges k no_edge ≡ edge
        place_is edges k edge h e = get_or_default edges k no_edge edge h ∙ e

    -- what is left in all
    pub rest_is : new.rest ≡ sum_by (at new.left.items) voters
    rest_is = omega (
      arith,
      moved.rest,
      laid.rest,
      none_given_at_all,
      parts_all (λ (e : Edge). e.voter) (λ (e : Edge). e.amount) new.edges.items voters voters_distinct
          (all_in (λ (e : Edge). has voters e.voter ≡ true) new.edges.items (λ edge i. (new_laid edge i).voter)),
      offers_are,
    ) where
      none_given_at_all : amount_sum old.edges.items ≡ 0
      none_given_at_all = sum_agree (λ (e : Edge). e.amount) (λ (_ : Edge). 0) old.edges.items (λ edge i. (old_laid edge i).empty) ∙ sum_of_none old.edges.items

      offers_are : snapshot.seats * group_stake snapshot voters ≡ sum_by (at new.left.items) voters + sum_by (spent new.edges.items) voters
      offers_are = sym (sum_scaled snapshot.seats (stake_of snapshot) voters)
          ∙ sum_agree (λ voter. snapshot.seats * stake_of snapshot voter) (λ voter. at new.left.items voter + spent new.edges.items voter) voters
          (λ voter i. sym (balanced.offered voter (in_has voters voter i)))
          ∙ sum_of_sums (at new.left.items) (spent new.edges.items) voters

rising_distinct : (numbers : List ℕ) → IsStrictlyIncreasing numbers → IsDistinct nat_eq numbers
rising_distinct numbers h = IsDistinct-from_AllPairs Decides-eqb numbers (λ i j d p q e. absurd (omega (arith, AllPairs-from_increasing numbers h i j d p q)))

range_rising : (low count : ℕ) → IsStrictlyIncreasing (range_with_len low count)
range_rising low count k h = omega (
  arith,
  get_or-range_with_len low count k 0
      (omega (arith, h, length-range_with_len low count)),
  get_or-range_with_len low count (k + 1) 0
      (omega (arith, h, length-range_with_len low count)),
)

-- the sum of those that pass, where all others have nothing
sum_kept : (f : ℕ → ℕ) (p : ℕ → Bool) (numbers : List ℕ) → ((n : ℕ) → In numbers n → p n ≡ false → f n ≡ 0) → sum_by f numbers ≤ sum_by f (filter p numbers)
sum_kept f p [] none = omega arith
sum_kept f p (n ∷ numbers) none =
    let rest = sum_kept f p numbers (λ m i. none m (inr i)) in
    elim (cases_Bool (p n)) [
      | inl t ↦ omega (arith, sum_by-cons f n numbers, sum_filter-cons p f n numbers, cond-true (p n) (f n) 0 t, rest)
      | inr e ↦ omega (arith, sum_by-cons f n numbers, sum_filter-cons p f n numbers, cond-false (p n) (f n) 0 e, none n (inl refl) e, rest)
    ]

-- the nominators of a target, of whom some have given something to members
module _ (snapshot : Snapshot) (committee : List ℕ) (target : ℕ) (committee_distinct : IsDistinct nat_eq committee) (old new : Offers)
    (laid : AreLaid snapshot committee (nominators snapshot target) old) (moved : AreMoved old new) where
  abbrev voters : List ℕ
  voters = nominators snapshot target

  sound : IsBalanced snapshot committee voters new.edges.items new.left.items new.spare.items
  sound = balanced snapshot committee (nominators snapshot target) old new laid moved committee_distinct (nominators_distinct snapshot target)

  left_is : new.rest ≡ sum_by (at new.left.items) voters
  left_is = rest_is snapshot committee (nominators snapshot target) old new laid moved committee_distinct (nominators_distinct snapshot target)

  among : (group : List ℕ) → IsGroup snapshot target group → (voter : ℕ) → In group voter → has voters voter ≡ true
  among group is voter i = in_has (nominators snapshot target) voter
      (has_nominators snapshot voter target (all_at (λ v. nominates snapshot v target ≡ true) group is.all_nominate voter i))

  due_to : (group : List ℕ) → IsGroup snapshot target group
      → snapshot.seats * group_stake snapshot group ≤ represented snapshot committee group * total_stake snapshot + new.rest
  due_to group is = omega (arith, left_is, no_more_due snapshot committee voters new.edges.items new.left.items new.spare.items sound group (rising_distinct group is.rising) (among group is))

  -- where less is left than the price of a seat, the target is not denied
  pub not_denied : new.rest < total_stake snapshot → IsDenied snapshot committee target → ⊥
  not_denied below denied =
      let is : IsGroup snapshot target denied.group = record {
        rising = denied.claim.rising;
        voters_in_range = denied.claim.voters_in_range;
        all_nominate = denied.claim.all_nominate;
      } in
      short (represented snapshot committee denied.group) denied.r (total_stake snapshot) (snapshot.seats * group_stake snapshot denied.group) new.rest
      denied.few denied.claim.enough_stake (due_to denied.group is) below
    where
      short : (m r price stake rest : ℕ) → m < r → r * price ≤ stake → stake ≤ m * price + rest → rest < price → ⊥
      short m r price stake rest h enough most below = omega (arith, enough, most, below, mul-le (m + 1) price r price (omega arith) (omega arith), add-mul m 1 price)

  -- where those that have something left have no way
  module _ (ways ends : List Way) (is_reach : IsReach new ways ends) (whole : IsWhole new ways ends)
      (nobody : (voter : ℕ) → has (nominators snapshot target) voter ≡ true → IsReached ways voter → at new.left.items voter ≡ 0) where
    abbrev group : List ℕ
    group = stuck ways (nominators snapshot target)

    not_reached : (voter : ℕ) → In group voter → (has voters voter ≡ true) × (reached ways voter ≡ false)
    not_reached voter i =
        let from = from_filter (λ v. not (reached ways v)) (nominators snapshot target) voter i in
        (in_has (nominators snapshot target) voter from.0, turned (reached ways voter) from.1)
      where
        turned : (b : Bool) → not b ≡ true → b ≡ false
        turned true e = absurd (true≢false (sym e))
        turned false e = refl

    stuck_in : (voter : ℕ) → has voters voter ≡ true → reached ways voter ≡ false → In group voter
    stuck_in voter v out = in_filter (λ w. not (reached ways w)) (nominators snapshot target) voter (from_has (nominators snapshot target) voter v) (ap not out)

    group_distinct : IsDistinct nat_eq group
    group_distinct = distinct_filter (λ v. not (reached ways v)) (nominators snapshot target) (nominators_distinct snapshot target)

    -- no member that it nominates has a way
    members_stuck : (member : ℕ) → has committee member ≡ true → nominated_by snapshot group member ≡ true → IsReached ends member → ⊥
    members_stuck member c n there =
        let some = some_nominator snapshot group member n in
        let out = not_reached some.0 (from_has group some.0 some.1) in
        let edge = edge_of snapshot committee (nominators snapshot target) old new laid moved committee_distinct (nominators_distinct snapshot target) some.0 member out.0 c some.2 in
        let follows = whole.voters_follow edge.0 edge.1 (subst (λ m. IsReached ends m) (sym edge.3) there) in
        absurd (true≢false (sym (lt-ltb (steps_at ways some.0) FAR (subst (λ v. IsReached ways v) edge.2 follows)) ∙ out.1))

    due : represented snapshot committee group * total_stake snapshot + new.rest ≤ snapshot.seats * group_stake snapshot group
    due = omega (
      arith,
      left_is,
      as_much_due snapshot committee voters new.edges.items new.left.items new.spare.items sound group group_distinct (λ voter i. (not_reached voter i).0) full own all_left,
    ) where
      full : (member : ℕ) → has committee member ≡ true → nominated_by snapshot group member ≡ true → at new.spare.items member ≡ 0
      full member c n = elim (cases_lt 0 (at new.spare.items member)) [
        | inl some ↦ absurd (members_stuck member c n (whole.spares_follow member some))
        | inr none ↦ omega (arith, none)
      ]

      own : (edge : Edge) → In new.edges.items edge → 0 < edge.amount → nominated_by snapshot group edge.target ≡ true → has group edge.voter ≡ true
      own edge i some n = elim (cases_Bool (reached ways edge.voter)) [
        | inl t ↦
            let place = in_contains new.edges.items edge i in
            let is : edge_at new place.0 ≡ edge = get_or_default new.edges.items place.0 no_edge edge place.1 ∙ place.2 in
            let follows = whole.members_follow place.0 place.1 (subst (λ (e : Edge). IsReached ways e.voter) (sym is) (ltb-true (steps_at ways edge.voter) FAR t))
            (subst (λ (e : Edge). 0 < e.amount) (sym is) some) in
            absurd (members_stuck edge.target (sound.to_members edge i) n (subst (λ (e : Edge). IsReached ends e.target) is follows))
        | inr f ↦ in_has group edge.voter (stuck_in edge.voter (sound.of_voters edge i) f)
      ]

      all_left : sum_by (at new.left.items) voters ≤ sum_by (at new.left.items) group
      all_left = sum_kept (at new.left.items) (λ v. not (reached ways v)) (nominators snapshot target)
          (λ voter i f. nobody voter (in_has (nominators snapshot target) voter i) (ltb-true (steps_at ways voter) FAR (back (reached ways voter) f)))
        where
          back : (b : Bool) → not b ≡ false → b ≡ true
          back true e = refl
          back false e = absurd (true≢false e)

    is_group : IsGroup snapshot target (stuck ways (nominators snapshot target))
    is_group = record {
      rising = IsStrictlyIncreasing-filter (λ v. not (reached ways v)) (nominators snapshot target)
          (IsStrictlyIncreasing-filter (λ v. nominates snapshot v target) (range_with_len 0 (length snapshot.voters)) (range_rising 0 (length snapshot.voters)));
      voters_in_range = all_in (λ v. v < length snapshot.voters) group (λ v i. nominates_in_range snapshot v target (nominates_it v i));
      all_nominate = all_in (λ v. nominates snapshot v target ≡ true) group nominates_it;
    } where
      nominates_it : (voter : ℕ) → In group voter → nominates snapshot voter target ≡ true
      nominates_it voter i = (from_filter (λ v. nominates snapshot v target) (range_with_len 0 (length snapshot.voters)) voter
          (from_filter (λ v. not (reached ways v)) (nominators snapshot target) voter i).0).1

    is_greatest : IsGreatest snapshot committee target (stuck ways (nominators snapshot target))
    is_greatest other is = omega (arith, due_to other is, due)

    is_largest : IsLargest snapshot committee target (stuck ways (nominators snapshot target))
    is_largest other is as_much = all_in (λ v. has group v ≡ true) other inside where
      other_due : represented snapshot committee other * total_stake snapshot + sum_by (at new.left.items) voters ≤ snapshot.seats * group_stake snapshot other
      other_due = omega (arith, as_much, due, left_is)

      full : (member : ℕ) → nominated_by snapshot other member ≡ true → at new.spare.items member ≡ 0
      full member n = elim (cases_Bool (has committee member)) [
        | inl c ↦ members_full snapshot committee voters new.edges.items new.left.items new.spare.items sound other (rising_distinct other is.rising) (among other is) other_due member c n
        | inr f ↦ no_spare_outside snapshot committee (nominators snapshot target) old new laid moved committee_distinct (nominators_distinct snapshot target) member f
      ]

      outside : (voter : ℕ) → IsReached ways voter → has other voter ≡ false
      outside = reached_outside new ways ends is_reach.ways (has other) (nominated_by snapshot other) full
          (λ edge i v. nominated_in snapshot other edge.voter edge.target v (sound.nominated edge i))
          (λ edge i some n. own_edges snapshot committee voters new.edges.items new.left.items new.spare.items sound other (rising_distinct other is.rising) (among other is) other_due edge i some n)

      inside : (voter : ℕ) → In other voter → has group voter ≡ true
      inside voter i = elim (cases_Bool (reached ways voter)) [
        | inl t ↦ absurd (true≢false (sym (in_has other voter i) ∙ outside voter (ltb-true (steps_at ways voter) FAR t)))
        | inr f ↦ in_has group voter (stuck_in voter (among other is voter i) f)
      ]

    -- where the price of a seat is left, it holds the stake of more seats than it nominates members
    module _ (formed : IsWellFormed snapshot) (enough : total_stake snapshot ≤ new.rest) where
      some_stake : 0 < total_stake snapshot
      some_stake = omega (arith, formed.total_enough, mul-le 1 1 snapshot.seats snapshot.seats formed.seats_some formed.seats_some)

      too_few : represented snapshot committee (stuck ways (nominators snapshot target))
          < snapshot.seats * group_stake snapshot (stuck ways (nominators snapshot target)) / total_stake snapshot
      too_few = omega (
        arith,
        (le-div_iff_mul-le {x = represented snapshot committee group + 1} {y = snapshot.seats * group_stake snapshot group} some_stake).1
            (omega (arith, due, enough, add-mul (represented snapshot committee group) 1 (total_stake snapshot))),
      )

      denied : target < length snapshot.targets → has committee target ≡ false → IsDenied snapshot committee target
      denied inside out = record {
        in_range = inside;
        outside = out;
        group = group;
        r = snapshot.seats * group_stake snapshot group / total_stake snapshot;
        claim = record {
          rising = is_group.rising;
          voters_in_range = is_group.voters_in_range;
          all_nominate = is_group.all_nominate;
          enough_stake = div-mul-le_self (snapshot.seats * group_stake snapshot group) (total_stake snapshot);
        };
        few = too_few;
      }

      pub is_case : target < length snapshot.targets → has committee target ≡ false → IsCase snapshot committee target (stuck ways (nominators snapshot target))
      is_case inside out = record {
        denied = denied inside out;
        is_group = is_group;
        greatest = is_greatest;
        largest = is_largest;
        too_few = too_few;
      }
