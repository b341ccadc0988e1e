-- Every election with enough targets has a run: turns unit by unit, rounds of them, seat after seat.
use Rattle.std.proofs.Common.{◌≡◌, ◌⊎◌, ℕ, zero, suc, ◌+◌, ◌-◌, ◌<◌, ◌≤◌, ◌&&◌, Bool, true, false, cond, not, nat_eq, List, []}
use Rattle.std.proofs.Common.{◌∷◌, ◌++◌, length, get_or, All, inl, inr, refl, ap, ap₂, sym, subst, ◌∙◌, arith, length-append}
use Rattle.std.specs.List.{AllPairs, AllByRecursion, IsDistinct, list_any, range_with_len}
use Rattle.std.proofs.lemmas.List.Folds.{Any-from_list_any, list_any-append}
use Rattle.std.proofs.lemmas.List.Elements.{All-head, All-tail, All-cons, All-nil, All-filter, All-append, All-from_recursion, filter_passes}
use Rattle.std.proofs.lemmas.List.FromFn.{length-range_with_len, get_or-range_with_len}
use Rattle.std.proofs.lemmas.List.Sums.{sum_by-cons}
use Rattle.std.proofs.lemmas.Bool.{cases_Bool, cases_lt, cases_eq, eq-eqb, eqb-true, ne_eqb, and_parts, or_left, or_parts, not-false, not-true, and_from, true≢false}
use Rattle.npos_base.specs.declared.figures.Edge.{Edge}
use Rattle.election_snapshot.specs.Snapshot.{Snapshot, has, nominates, stake_of, total_stake}
use Rattle.election_snapshot.proofs.HasLemmas.{all_has}
use Rattle.weight_book.specs.Weights.{Weights, Follows, IsFeasible, edges_from, edges_to, amount_sum, support, spent}
use Rattle.weight_book.proofs.SumLemmas.{sum_covered, sum_of_ones, sum_filter-cons}
use Rattle.support_balance.specs.Turns.{given, edges_but, backs, LiesLow, IsTurn}
use Rattle.support_balance.specs.Rounds.{GiveSame, AreTurns, AreRounds, IsBalanced, IsBefore}
use Rattle.support_balance.proofs.GivenLemmas.{pair_weight, LeadsElsewhere, apart_weight}
use Rattle.support_balance.proofs.RowLemmas.{weight, to_weight}
use Rattle.support_balance.proofs.SplitLemmas.{range_distinct}
use Rattle.support_balance.proofs.SpendLemmas.{balanced_whole}
use Rattle.support_balance.proofs.BackingLemmas.{distinct_before}
use Rattle.weight_book.specs.Passing.{prescore}
use Rattle.support_balance.proofs.PutLemmas.{balanced_between}
use Rattle.support_balance.proofs.JoinLemmas.{before_trans}
use Rattle.phragmms_miner.specs.Scores.{score, IsBest}
use Rattle.phragmms_miner.specs.Run.{AreSeated, IsRun}
use Rattle.phragmms_miner.proofs.ScoreLemmas.{greatest_within}
use Rattle.phragmms_miner.proofs.RunLemmas.{next_seated}
use Rattle.phragmms_miner.proofs.OneLemmas.{but_passes, but_none, in_order, given-cons, given_none}

-- ## The lowest of the least

record IsLeast (f : ℕ → ℕ) (passes : ℕ → Bool) (bound least : ℕ) : Type 0 where
  pub below : least < bound
  pub passes_is : passes least ≡ true
  pub least_is : (other : ℕ) → other < bound → passes other ≡ true → f least ≤ f other
  pub lowest : (other : ℕ) → other < least → passes other ≡ true → f least < f other

module _ (f : ℕ → ℕ) (passes : ℕ → Bool) where
  first_one : (bound : ℕ) → ((other : ℕ) → other < bound → passes other ≡ false) → passes bound ≡ true → IsLeast f passes (suc bound) bound
  first_one bound none t = record {
    below = omega arith;
    passes_is = t;
    least_is = λ other h p. elim (cases_eq other bound) [
      | inl e ↦ omega (arith, ap f e)
      | inr ne ↦ absurd (true≢false (sym p ∙ none other (omega (arith, h, ne))))
    ];
    lowest = λ other h p. absurd (true≢false (sym p ∙ none other h));
  }

  still_none : (bound : ℕ) → ((other : ℕ) → other < bound → passes other ≡ false) → passes bound ≡ false → (other : ℕ) → other < suc bound → passes other ≡ false
  still_none bound none e other h = elim (cases_eq other bound) [
    | inl same ↦ ap passes same ∙ e
    | inr ne ↦ none other (omega (arith, h, ne))
  ]

  still_least : (bound least : ℕ) → IsLeast f passes bound least → (passes bound ≡ true → f least ≤ f bound) → IsLeast f passes (suc bound) least
  still_least bound least is more = record {
    below = omega (arith, is.below);
    passes_is = is.passes_is;
    least_is = λ other h p. elim (cases_eq other bound) [
      | inl e ↦ omega (arith, ap f e, more (ap passes (sym e) ∙ p))
      | inr ne ↦ is.least_is other (omega (arith, h, ne)) p
    ];
    lowest = is.lowest;
  }

  now_least : (bound least : ℕ) → IsLeast f passes bound least → passes bound ≡ true → f bound < f least → IsLeast f passes (suc bound) bound
  now_least bound least is t less = record {
    below = omega arith;
    passes_is = t;
    least_is = λ other h p. elim (cases_eq other bound) [
      | inl e ↦ omega (arith, ap f e)
      | inr ne ↦ omega (arith, less, is.least_is other (omega (arith, h, ne)) p)
    ];
    lowest = λ other h p. omega (arith, less, is.least_is other h p);
  }

  least_of : (bound : ℕ) → ((least : ℕ) × IsLeast f passes bound least) ⊎ ((other : ℕ) → other < bound → passes other ≡ false)
  least_of zero = inr (λ other h. absurd (omega (arith, h)))
  least_of (suc bound) = elim (cases_Bool (passes bound)) [
    | inl t ↦ elim (least_of bound) [
      | inl found ↦ elim (cases_lt (f bound) (f found.0)) [
        | inl less ↦ inl (bound, now_least bound found.0 found.1 t less)
        | inr more ↦ inl (found.0, still_least bound found.0 found.1 (λ _. more))
      ]
      | inr none ↦ inl (bound, first_one bound none t)
    ]
    | inr e ↦ elim (least_of bound) [
      | inl found ↦ inl (found.0, still_least bound found.0 found.1 (λ t. absurd (true≢false (sym t ∙ e))))
      | inr none ↦ inr (still_none bound none e)
    ]
  ]

-- ## Whether voters give the same

abbrev differs_at : List Edge → List Edge → Edge → Bool
differs_at old new edge = not (nat_eq (given new edge.voter edge.target) (given old edge.voter edge.target))

abbrev is_of : ℕ → ℕ → Edge → Bool
is_of voter target edge = nat_eq edge.voter voter && nat_eq edge.target target

none_any : {X : Type 0} (p : X → Bool) (xs : List X) → list_any p xs ≡ false → All (λ x. p x ≡ false) xs
none_any p [] e = All-nil (λ x. p x ≡ false)
none_any p (x ∷ xs) e =
    let parts = or_parts (p x) (list_any p xs) e in
    All-cons (λ x. p x ≡ false) x xs parts.0 (none_any p xs parts.1)

-- no edge leads there, so nothing is given
none_of_pair : (edges : List Edge) (voter target : ℕ) → list_any (is_of voter target) edges ≡ false → given edges voter target ≡ 0
none_of_pair edges voter target none = given_none edges voter target (λ k d h. apart (get_or edges k d) (none_any (is_of voter target) edges none k d h)) where
  apart : (edge : Edge) → is_of voter target edge ≡ false → LeadsElsewhere voter target edge
  apart edge e = elim (cases_eq edge.voter voter) [
    | inr ne ↦ inl ne
    | inl v ↦ elim (cases_eq edge.target target) [
      | inr ne ↦ inr ne
      | inl t ↦ absurd (true≢false (let one : nat_eq edge.voter voter ≡ true = eq-eqb edge.voter voter v in
          let two : nat_eq edge.target target ≡ true = eq-eqb edge.target target t in rw (one, two) at e))
    ]
  ]

same_or_not : (old new : List Edge) → GiveSame old new ⊎ (GiveSame old new → ⊥)
same_or_not old new = elim (cases_Bool (list_any (differs_at old new) (old ++ new))) [
  | inl t ↦
      let any = Any-from_list_any (differs_at old new) (old ++ new) t in
      inr (λ same. true≢false (sym any.4 ∙ ap not (eq-eqb (given new any.1.voter any.1.target) (given old any.1.voter any.1.target) (same any.1.voter any.1.target))))
  | inr e ↦ inl (λ voter target. by voter target (cases_Bool (list_any (is_of voter target) (old ++ new))) (none_any (differs_at old new) (old ++ new) e))
]
  where
    by : (voter target : ℕ) → (list_any (is_of voter target) (old ++ new) ≡ true) ⊎ (list_any (is_of voter target) (old ++ new) ≡ false)
        → All (λ edge. differs_at old new edge ≡ false) (old ++ new) → given new voter target ≡ given old voter target
    by voter target (inl t) all =
        let any = Any-from_list_any (is_of voter target) (old ++ new) t in
        let pair = and_parts (nat_eq any.1.voter voter) (nat_eq any.1.target target) any.4 in
        let v = eqb-true any.1.voter voter pair.0 in
        let u = eqb-true any.1.target target pair.1 in
        let here : differs_at old new any.1 ≡ false = ap (differs_at old new) (sym any.3) ∙ all any.0 any.1 any.2 in
        ap₂ (given new) (sym v) (sym u)
        ∙ (eqb-true (given new any.1.voter any.1.target) (given old any.1.voter any.1.target)
        (not-false (nat_eq (given new any.1.voter any.1.target) (given old any.1.voter any.1.target)) here)
        ∙ ap₂ (given old) v u)
    by voter target (inr e) all =
        let parts = or_parts (list_any (is_of voter target) old) (list_any (is_of voter target) new) (sym (list_any-append (is_of voter target) old new) ∙ e) in
        none_of_pair new voter target parts.1 ∙ sym (none_of_pair old voter target parts.0)

-- ## A turn, unit by unit

support-cons : (edge : Edge) (edges : List Edge) (target : ℕ) → support (edge ∷ edges) target ≡ weight target edge + support edges target
support-cons edge edges target =
    to_weight (edge ∷ edges) target ∙ (sum_by-cons (weight target) edge edges ∙ ap (λ n. weight target edge + n) (sym (to_weight edges target)))

unit : ℕ → ℕ → Edge
unit voter target = record { voter = voter; target = target; amount = 1 }

module _ (snapshot : Snapshot) (committee : List ℕ) (in_range : (target : ℕ) → has committee target ≡ true → target < length snapshot.targets) where
  -- an edge along a nomination to a member, which gives something
  abbrev IsFine : Edge → Type 0
  IsFine edge = (edge.voter < length snapshot.voters) × (backs snapshot committee edge.voter edge.target ≡ true) × (0 < edge.amount)

  backed_below : (voter target : ℕ) → backs snapshot committee voter target ≡ true → target < length snapshot.targets
  backed_below voter target t = in_range target (and_parts (has committee target) (nominates snapshot voter target) t).0

  record IsFilled (voter : ℕ) (rest : List Edge) (stake : ℕ) (edges : List Edge) : Type 0 where
    pub others : edges_but edges voter ≡ rest
    pub to_backed : (target : ℕ) → backs snapshot committee voter target ≡ false → given edges voter target ≡ 0
    pub spent_is : spent edges voter ≡ stake
    pub level : (one other : ℕ) → backs snapshot committee voter one ≡ true → backs snapshot committee voter other ≡ true → (one ≡ other → ⊥)
        → 0 < given edges voter one → LiesLow (support edges) one other
    pub fine : All IsFine edges

  none_filled : (voter : ℕ) (old : List Edge) → All IsFine old → IsFilled voter (edges_but old voter) 0 (edges_but old voter)
  none_filled voter old fine = record {
    others = but_passes voter old;
    to_backed = λ target _. ap (λ es. amount_sum (edges_to es target)) (but_none voter old);
    spent_is = ap amount_sum (but_none voter old);
    level = λ one other _ _ _ some. absurd (omega (arith, some, ap (λ es. amount_sum (edges_to es one)) (but_none voter old)));
    fine = All-filter (λ (e : Edge). not (nat_eq e.voter voter)) IsFine old fine;
  }

  module _ (voter : ℕ) (within : voter < length snapshot.voters) (rest : List Edge) (stake : ℕ) (edges : List Edge) (filled : IsFilled voter rest stake edges)
      (pick : ℕ) (least : IsLeast (support edges) (backs snapshot committee voter) (length snapshot.targets) pick) where
    abbrev more : List Edge
    more = unit voter pick ∷ edges

    own : nat_eq voter voter ≡ true
    own = eq-eqb voter voter refl

    given_other : (target : ℕ) → (target ≡ pick → ⊥) → given more voter target ≡ given edges voter target
    unfolding unit
    given_other target ne = omega (arith, given-cons (unit voter pick) edges voter target, apart_weight (unit voter pick) voter target (inr (λ e. ne (sym e))))

    support_other : (target : ℕ) → (target ≡ pick → ⊥) → support more target ≡ support edges target
    unfolding unit
    support_other target ne =
        let miss : nat_eq pick target ≡ false = ne_eqb pick target (λ e. ne (sym e)) in
        support-cons (unit voter pick) edges target ∙ rw miss (omega arith)

    support_pick : support more pick ≡ support edges pick + 1
    unfolding unit
    support_pick =
        let hit : nat_eq pick pick ≡ true = eq-eqb pick pick refl in
        support-cons (unit voter pick) edges pick ∙ rw hit (omega arith)

    low : (one other : ℕ) → backs snapshot committee voter one ≡ true → backs snapshot committee voter other ≡ true → (one ≡ other → ⊥)
        → 0 < given more voter one → LiesLow (support more) one other
    low one other t u apart some = elim (cases_eq one pick) [
      | inl e ↦
          let ne : other ≡ pick → ⊥ = λ same. apart (e ∙ sym same) in
          let most = least.least_is other (backed_below voter other u) u in
          elim (cases_lt (support edges pick) (support edges other)) [
            | inl less ↦ inl (omega (arith, less, support_pick, ap (support more) e, support_other other ne))
            | inr equal ↦ inr (
              omega (arith, most, equal, support_pick, ap (support more) e, support_other other ne),
              elim (cases_lt one other) [
                | inl below ↦ below
                | inr above ↦ absurd (omega (arith, equal, least.lowest other (no_equal other ne above e) u))
              ],
            )
          ]
      | inr ne ↦
          let before = filled.level one other t u apart (omega (arith, some, given_other one ne)) in
          elim (cases_eq other pick) [
            | inl e ↦ elim before [
              | inl l ↦ inl (omega (arith, l, support_pick, support_other one ne, ap (support more) e, ap (support edges) e))
              | inr l ↦ inl (omega (arith, l.0, support_pick, support_other one ne, ap (support more) e, ap (support edges) e))
            ]
            | inr differ ↦ elim before [
              | inl l ↦ inl (omega (arith, l, support_other one ne, support_other other differ))
              | inr l ↦ inr (omega (arith, l.0, support_other one ne, support_other other differ), l.1)
            ]
          ]
    ]
      where
        no_equal : (other : ℕ) → (other ≡ pick → ⊥) → other ≤ one → one ≡ pick → other < pick
        no_equal other ne above e = elim (cases_eq other pick) [
          | inl same ↦ absurd (ne same)
          | inr differ ↦ omega (arith, above, e, differ)
        ]

    one_more : IsFilled voter rest (suc stake) more
    unfolding unit
    one_more = record {
      others = rw own filled.others;
      to_backed = λ target out. elim (cases_eq target pick) [
        | inl e ↦ absurd (true≢false (sym least.passes_is ∙ (ap (backs snapshot committee voter) (sym e) ∙ out)))
        | inr ne ↦ given_other target ne ∙ filled.to_backed target out
      ];
      spent_is = sum_filter-cons (λ (e : Edge). nat_eq e.voter voter) (λ (e : Edge). e.amount) (unit voter pick) edges ∙ rw own (omega (arith, filled.spent_is));
      level = low;
      fine = All-cons IsFine (unit voter pick) edges (within, least.passes_is, omega arith) filled.fine;
    }

  units : (voter : ℕ) → voter < length snapshot.voters → (old : List Edge) → All IsFine old → (target : ℕ) → backs snapshot committee voter target ≡ true → (stake : ℕ)
      → (edges : List Edge) × IsFilled voter (edges_but old voter) stake edges
  units voter within old fine target backed zero = (edges_but old voter, none_filled voter old fine)
  units voter within old fine target backed (suc stake) =
      let before = units voter within old fine target backed stake in
      elim (least_of (support before.0) (backs snapshot committee voter) (length snapshot.targets)) [
        | inl found ↦ (more voter within (edges_but old voter) stake before.0 before.1 found.0 found.1, one_more voter within (edges_but old voter) stake before.0 before.1 found.0 found.1)
        | inr none ↦ absurd (true≢false (sym backed ∙ none target (backed_below voter target backed)))
      ]

  any_turn : (voter : ℕ) → voter < length snapshot.voters → (old : List Edge) → All IsFine old → (new : List Edge) × IsTurn snapshot committee voter old new × All IsFine new
  any_turn voter within old fine = elim (least_of (λ _. 0) (backs snapshot committee voter) (length snapshot.targets)) [
    | inl found ↦
        let whole = units voter within old fine found.0 found.1.passes_is (stake_of snapshot voter) in (
          whole.0,
          record {
            others = whole.1.others;
            to_backed = whole.1.to_backed;
            whole = λ target backed. whole.1.spent_is;
            level = whole.1.level;
          },
          whole.1.fine,
        )
    | inr none ↦
        let nothing = none_filled voter old fine in (
          edges_but old voter,
          record {
            others = nothing.others;
            to_backed = nothing.to_backed;
            whole = λ target backed. absurd (true≢false (sym backed ∙ none target (backed_below voter target backed)));
            level = nothing.level;
          },
          nothing.fine,
        )
  ]

  any_turns : (voters : ℕ) → voters ≤ length snapshot.voters → (old : List Edge) → All IsFine old → (new : List Edge) × AreTurns snapshot committee voters old new × All IsFine new
  any_turns zero within old fine = (old, (λ voter target. refl), fine)
  any_turns (suc voter) within old fine =
      let before = any_turns voter (omega (arith, within)) old fine in
      let turn = any_turn voter (omega (arith, within)) before.0 before.2 in
      (turn.0, (before.0, before.1, turn.1), turn.2)

  -- ## Rounds

  record HasBalance (asked : ℕ) (old : List Edge) : Type 0 where
    pub made : ℕ
    pub new : List Edge
    pub balanced : IsBalanced snapshot committee asked made old new
    pub fine : All IsFine new

  any_rounds : (left asked done : ℕ) (old now : List Edge) → done + left ≡ asked → AreRounds snapshot committee done old now → All IsFine now → HasBalance asked old
  any_rounds zero asked done old now count rounds fine = record {
    made = done;
    new = now;
    balanced = record { after = now; no_more = omega (arith, count); rounds = inl (rounds, omega (arith, count)); same = λ voter target. refl };
    fine = fine;
  }
  any_rounds (suc left) asked done old now count rounds fine =
      let round = any_turns (length snapshot.voters) (omega arith) now fine in
      elim (same_or_not now round.0) [
        | inl same ↦ record {
          made = done + 1;
          new = round.0;
          balanced = record {
            after = round.0;
            no_more = omega (arith, count);
            rounds = inr (done, now, refl, rounds, round.1, same);
            same = λ voter target. refl;
          };
          fine = round.2;
        }
        | inr apart ↦ any_rounds left asked (suc done) old round.0 (omega (arith, count)) (now, rounds, round.1, apart) round.2
      ]

-- ## Edges in order, one for each pair

put_by : (edge first : Edge) (rest later : List Edge) → IsBefore edge first ⊎ (IsBefore first edge ⊎ ((edge.voter ≡ first.voter) × (edge.target ≡ first.target))) → List Edge
put_by edge first rest later (inl before) = edge ∷ first ∷ rest
put_by edge first rest later (inr (inl behind)) = first ∷ later
put_by edge first rest later (inr (inr same)) = record { voter = first.voter; target = first.target; amount = first.amount + edge.amount } ∷ rest

put : Edge → List Edge → List Edge
put edge [] = edge ∷ []
put edge (first ∷ rest) = put_by edge first rest (put edge rest) (in_order edge first)

-- the same amounts, in order
tidy : List Edge → List Edge
tidy [] = []
tidy (edge ∷ edges) = put edge (tidy edges)

abbrev Order : Edge → Edge → Type 0
Order edge first = IsBefore edge first ⊎ (IsBefore first edge ⊎ ((edge.voter ≡ first.voter) × (edge.target ≡ first.target)))

module _ (P : ℕ → ℕ → Type 0) where
  put_all : (edge : Edge) (edges : List Edge) → P edge.voter edge.target → AllByRecursion (λ (e : Edge). P e.voter e.target) edges → AllByRecursion (λ (e : Edge). P e.voter e.target) (put edge edges)
  unfolding put put_by
  put_all edge [] p all = (p, tt)
  put_all edge (first ∷ rest) p all = by (in_order edge first) (put_all edge rest p all.1) where
    by : (o : Order edge first) → AllByRecursion (λ (e : Edge). P e.voter e.target) (put edge rest) → AllByRecursion (λ (e : Edge). P e.voter e.target) (put_by edge first rest (put edge rest) o)
    by (inl before) later = (p, all)
    by (inr (inl behind)) later = (all.0, later)
    by (inr (inr same)) later = (all.0, all.1)

  tidy_all : (edges : List Edge) → All (λ (e : Edge). P e.voter e.target) edges → AllByRecursion (λ (e : Edge). P e.voter e.target) (tidy edges)
  unfolding tidy
  tidy_all [] all = tt
  tidy_all (edge ∷ edges) all = put_all edge (tidy edges) (All-head (λ (e : Edge). P e.voter e.target) edge edges all) (tidy_all edges (All-tail (λ (e : Edge). P e.voter e.target) edge edges all))

Rising : List Edge → Type 0
Rising [] = Unit {0}
Rising (edge ∷ edges) = AllByRecursion (IsBefore edge) edges × Rising edges

further : (one first : Edge) (edges : List Edge) → IsBefore one first → AllByRecursion (IsBefore first) edges → AllByRecursion (IsBefore one) edges
further one first [] before all = tt
further one first (edge ∷ edges) before all = (before_trans one first edge before all.0, further one first edges before all.1)

put_rises : (edge : Edge) (edges : List Edge) → Rising edges → Rising (put edge edges)
unfolding put put_by Rising
put_rises edge [] rises = (tt, tt)
put_rises edge (first ∷ rest) rises = by (in_order edge first) (put_rises edge rest rises.1) where
  by : (o : Order edge first) → Rising (put edge rest) → Rising (put_by edge first rest (put edge rest) o)
  by (inl before) later = ((before, further edge first rest before rises.0), rises)
  by (inr (inl behind)) later = (put_all (λ v t. (first.voter < v) ⊎ ((first.voter ≡ v) × (first.target < t))) edge rest behind rises.0, later)
  by (inr (inr same)) later = (rises.0, rises.1)

tidy_rises : (edges : List Edge) → Rising (tidy edges)
unfolding tidy Rising
tidy_rises [] = tt
tidy_rises (edge ∷ edges) = put_rises edge (tidy edges) (tidy_rises edges)

rising_pairs : (edges : List Edge) → Rising edges → (i j : ℕ) (d : Edge) → i < j → j < length edges → IsBefore (get_or edges i d) (get_or edges j d)
unfolding Rising
rising_pairs [] rises i j d a b = absurd (omega (arith, b))
rising_pairs (edge ∷ edges) rises i zero d a b = absurd (omega (arith, a))
rising_pairs (edge ∷ edges) rises zero (suc j) d a b = All-from_recursion (IsBefore edge) edges rises.0 j d (omega (arith, b))
rising_pairs (edge ∷ edges) rises (suc i) (suc j) d a b = rising_pairs edges rises.1 i j d (omega (arith, a)) (omega (arith, b))

put_above : (edge : Edge) (edges : List Edge) → 0 < edge.amount → AllByRecursion (λ (e : Edge). 0 < e.amount) edges → AllByRecursion (λ (e : Edge). 0 < e.amount) (put edge edges)
unfolding put put_by
put_above edge [] some all = (some, tt)
put_above edge (first ∷ rest) some all = by (in_order edge first) (put_above edge rest some all.1) where
  by : (o : Order edge first) → AllByRecursion (λ (e : Edge). 0 < e.amount) (put edge rest) → AllByRecursion (λ (e : Edge). 0 < e.amount) (put_by edge first rest (put edge rest) o)
  by (inl before) later = (some, all)
  by (inr (inl behind)) later = (all.0, later)
  by (inr (inr same)) later = (omega (arith, some), all.1)

tidy_above : (edges : List Edge) → All (λ (e : Edge). 0 < e.amount) edges → AllByRecursion (λ (e : Edge). 0 < e.amount) (tidy edges)
unfolding tidy
tidy_above [] all = tt
tidy_above (edge ∷ edges) all = put_above edge (tidy edges) (All-head (λ (e : Edge). 0 < e.amount) edge edges all) (tidy_above edges (All-tail (λ (e : Edge). 0 < e.amount) edge edges all))

both_parts : (a b : Bool) (m n : ℕ) → cond a (cond b (m + n) 0) 0 ≡ cond a (cond b n 0) 0 + cond a (cond b m 0) 0
both_parts true true m n = omega arith
both_parts true false m n = refl
both_parts false b m n = refl

put_given : (edge : Edge) (edges : List Edge) (voter target : ℕ) → given (put edge edges) voter target ≡ pair_weight voter target edge + given edges voter target
unfolding put put_by
put_given edge [] voter target = given-cons edge [] voter target
put_given edge (first ∷ rest) voter target = by (in_order edge first) (put_given edge rest voter target) where
  by : (o : Order edge first) → given (put edge rest) voter target ≡ pair_weight voter target edge + given rest voter target
      → given (put_by edge first rest (put edge rest) o) voter target ≡ pair_weight voter target edge + given (first ∷ rest) voter target
  by (inl before) later = given-cons edge (first ∷ rest) voter target
  by (inr (inl behind)) later = omega (arith, later, given-cons first (put edge rest) voter target, given-cons first rest voter target)
  by (inr (inr same)) later =
      let joined : Edge = record { voter = first.voter; target = first.target; amount = first.amount + edge.amount } in
      let moved : pair_weight voter target edge ≡ cond (nat_eq first.voter voter) (cond (nat_eq first.target target) edge.amount 0) 0 =
      ap₂ (λ v t. cond (nat_eq v voter) (cond (nat_eq t target) edge.amount 0) 0) same.0 same.1 in
      omega (
        arith,
        given-cons joined rest voter target,
        given-cons first rest voter target,
        moved,
        both_parts (nat_eq first.voter voter) (nat_eq first.target target) first.amount edge.amount,
      )

tidy_given : (edges : List Edge) → GiveSame edges (tidy edges)
unfolding tidy
tidy_given [] voter target = refl
tidy_given (edge ∷ edges) voter target = omega (arith, put_given edge (tidy edges) voter target, tidy_given edges voter target, given-cons edge edges voter target)

-- ## Seat after seat

record IsSeatedWell (snapshot : Snapshot) (rounds seat : ℕ) (weights : Weights) : Type 0 where
  pub count : length weights.committee ≡ seat
  pub seated : AreSeated snapshot rounds weights.committee seat weights.edges
  pub follows : Follows snapshot weights
  pub rising : AllPairs IsBefore weights.edges
  pub above : All (λ (e : Edge). 0 < e.amount) weights.edges
  pub within : (voter : ℕ) → voter < length snapshot.voters → spent weights.edges voter ≤ stake_of snapshot voter

nobody_seated : (snapshot : Snapshot) (rounds : ℕ) → IsSeatedWell snapshot rounds 0 (record { committee = []; edges = [] })
unfolding IsDistinct
nobody_seated snapshot rounds = record {
  count = refl;
  seated = refl;
  follows = record {
    members_in_range = All-nil (λ member. member < length snapshot.targets);
    members_distinct = tt;
    pairs_distinct = tt;
    voters_in_range = All-nil (λ (e : Edge). e.voter < length snapshot.voters);
    to_members = All-nil (λ (e : Edge). has [] e.target ≡ true);
    nominated = All-nil (λ (e : Edge). nominates snapshot e.voter e.target ≡ true);
  };
  rising = λ i j d a b. absurd (omega (arith, b));
  above = All-nil (λ (e : Edge). 0 < e.amount);
  within = λ voter h. omega arith;
}

distinct_push : (xs : List ℕ) (x : ℕ) → IsDistinct nat_eq xs → has xs x ≡ false → IsDistinct nat_eq (xs ++ x ∷ [])
unfolding IsDistinct
distinct_push [] x distinct none = (tt, tt)
distinct_push (y ∷ xs) x distinct none =
    let parts = or_parts (nat_eq y x) (has xs x) none in (apart xs distinct.0 parts.0, distinct_push xs x distinct.1 parts.1)
  where
    apart : (ys : List ℕ) → AllByRecursion (λ other. nat_eq y other ≡ false) ys → nat_eq y x ≡ false → AllByRecursion (λ other. nat_eq y other ≡ false) (ys ++ x ∷ [])
    apart [] all e = (e, tt)
    apart (other ∷ ys) all e = (all.0, apart ys all.1 e)

module _ (snapshot : Snapshot) (rounds seat : ℕ) (some : 1 ≤ rounds) (old : Weights) (state : IsSeatedWell snapshot rounds seat old) (open_seat : seat < length snapshot.targets) where
  within_total : (target : ℕ) → score snapshot old.edges target ≤ total_stake snapshot
  within_total target = greatest_within (λ price. prescore price snapshot old.edges target) (total_stake snapshot)

  best_found : (pick : ℕ) → IsLeast (λ target. total_stake snapshot - score snapshot old.edges target) (λ target. not (has old.committee target)) (length snapshot.targets) pick
      → IsBest snapshot old.committee old.edges pick
  best_found pick least = record {
    in_range = least.below;
    outside = not-true (has old.committee pick) least.passes_is;
    greatest = λ other h f. omega (arith, least.least_is other h (ap not f), within_total other, within_total pick);
    lowest = λ other h f. omega (arith, least.lowest other h (ap not f), within_total other, within_total pick);
  }

  some_best : (pick : ℕ) × IsBest snapshot old.committee old.edges pick
  some_best = elim (least_of (λ target. total_stake snapshot - score snapshot old.edges target) (λ target. not (has old.committee target)) (length snapshot.targets)) [
    | inl found ↦ (found.0, best_found found.0 found.1)
    | inr none ↦
        let all = range_with_len 0 (length snapshot.targets) in
        let covered = sum_covered (λ _. 1) all old.committee (range_distinct 0 (length snapshot.targets)) (λ k d h.
        let target = get_or all k d in
        not-false (has old.committee target) (none target
        (omega (
          arith,
          length-range_with_len 0 (length snapshot.targets),
          h,
          get_or-range_with_len 0 (length snapshot.targets) k d
              (omega (arith, h, length-range_with_len 0 (length snapshot.targets))),
        )))) in
        absurd (omega (arith, covered, sum_of_ones all, sum_of_ones old.committee, length-range_with_len 0 (length snapshot.targets), state.count, open_seat))
  ]

  module _ (pick : ℕ) (best : IsBest snapshot old.committee old.edges pick) where
    abbrev members : List ℕ
    members = old.committee ++ pick ∷ []

    all_members : All (λ member. member < length snapshot.targets) members
    all_members = All-append (λ member. member < length snapshot.targets) old.committee (pick ∷ []) state.follows.members_in_range
        (All-cons (λ member. member < length snapshot.targets) pick [] best.in_range (All-nil (λ member. member < length snapshot.targets)))

    in_members : (target : ℕ) → has members target ≡ true → target < length snapshot.targets
    in_members target there = all_has (λ member. member < length snapshot.targets) members target all_members there

    old_fine : All (IsFine snapshot members in_members) old.edges
    old_fine k d h = (
      state.follows.voters_in_range k d h,
      and_from (has members (get_or old.edges k d).target) (nominates snapshot (get_or old.edges k d).voter (get_or old.edges k d).target)
          (list_any-append (λ other. nat_eq other (get_or old.edges k d).target) old.committee (pick ∷ [])
          ∙ or_left (has old.committee (get_or old.edges k d).target) (has (pick ∷ []) (get_or old.edges k d).target) (state.follows.to_members k d h))
          (state.follows.nominated k d h),
      state.above k d h,
    )

    balance : HasBalance snapshot members in_members rounds old.edges
    balance = any_rounds snapshot members in_members rounds rounds 0 old.edges old.edges (omega arith) (λ voter target. refl) old_fine

    abbrev edges : List Edge
    edges = tidy balance.new

    abbrev new : Weights
    new = record { committee = members; edges = edges }

    balanced : IsBalanced snapshot members rounds balance.made old.edges edges
    balanced = balanced_between snapshot members rounds balance.made old.edges old.edges balance.new edges (λ voter target. refl) (tidy_given balance.new) balance.balanced

    follow : AllByRecursion (λ (e : Edge). (e.voter < length snapshot.voters) × (backs snapshot members e.voter e.target ≡ true)) edges
    follow = tidy_all (λ voter target. (voter < length snapshot.voters) × (backs snapshot members voter target ≡ true)) balance.new
        (λ k d h. let fine = balance.fine k d h in (fine.0, fine.1))

    each : All (λ (e : Edge). (e.voter < length snapshot.voters) × (backs snapshot members e.voter e.target ≡ true)) edges
    each = All-from_recursion (λ (e : Edge). (e.voter < length snapshot.voters) × (backs snapshot members e.voter e.target ≡ true)) edges follow

    rises : AllPairs IsBefore edges
    rises = rising_pairs edges (tidy_rises balance.new)

    spends : (voter : ℕ) → voter < length snapshot.voters → spent edges voter ≤ stake_of snapshot voter
    spends voter h = by (edges_from edges voter) refl (All-filter (λ (e : Edge). nat_eq e.voter voter)
        (λ (e : Edge). (e.voter < length snapshot.voters) × (backs snapshot members e.voter e.target ≡ true)) edges
        each)
        (λ k d l. filter_passes (λ (e : Edge). nat_eq e.voter voter) edges k d l) where
          by : (own : List Edge) → edges_from edges voter ≡ own → All (λ (e : Edge). (e.voter < length snapshot.voters) × (backs snapshot members e.voter e.target ≡ true)) (edges_from edges voter)
              → All (λ (e : Edge). nat_eq e.voter voter ≡ true) (edges_from edges voter) → spent edges voter ≤ stake_of snapshot voter
          by [] is all owned = omega (arith, ap amount_sum is)
          by (edge ∷ rest) is all owned =
              let first = All-head (λ (e : Edge). (e.voter < length snapshot.voters) × (backs snapshot members e.voter e.target ≡ true)) edge rest
              (subst (λ (es : List Edge). All (λ (e : Edge). (e.voter < length snapshot.voters) × (backs snapshot members e.voter e.target ≡ true)) es) is all) in
              let mine : edge.voter ≡ voter = eqb-true edge.voter voter (All-head (λ (e : Edge). nat_eq e.voter voter ≡ true) edge rest
              (subst (λ (es : List Edge). All (λ (e : Edge). nat_eq e.voter voter ≡ true) es) is owned)) in
              omega (
                arith,
                balanced_whole snapshot members rounds balance.made old.edges edges some balanced voter edge.target h
                    (subst (λ (v : ℕ). backs snapshot members v edge.target ≡ true) mine first.1),
              )

    follows : Follows snapshot new
    follows = record {
      members_in_range = all_members;
      members_distinct = distinct_push old.committee pick state.follows.members_distinct best.outside;
      pairs_distinct = distinct_before edges rises;
      voters_in_range = λ k d h. (each k d h).0;
      to_members = λ k d h. (and_parts (has members (get_or edges k d).target) (nominates snapshot (get_or edges k d).voter (get_or edges k d).target) (each k d h).1).0;
      nominated = λ k d h. (and_parts (has members (get_or edges k d).target) (nominates snapshot (get_or edges k d).voter (get_or edges k d).target) (each k d h).1).1;
    }

    next_seat : IsSeatedWell snapshot rounds (suc seat) new
    next_seat = record {
      count = length-append old.committee (pick ∷ []) ∙ omega (arith, state.count);
      seated = next_seated snapshot rounds old new seat state.count
          (record { follows = state.follows; pick = pick; committee = refl; seated = record { best = best; made = balance.made; balanced = balanced } }) state.seated;
      follows = follows;
      rising = rises;
      above = All-from_recursion (λ (e : Edge). 0 < e.amount) edges (tidy_above balance.new (λ k d h. (balance.fine k d h).2));
      within = spends;
    }

any_seats : (snapshot : Snapshot) (rounds : ℕ) → 1 ≤ rounds → (seat : ℕ) → seat ≤ length snapshot.targets → (weights : Weights) × IsSeatedWell snapshot rounds seat weights
any_seats snapshot rounds some zero enough = (record { committee = []; edges = [] }, nobody_seated snapshot rounds)
any_seats snapshot rounds some (suc seat) enough =
    let before = any_seats snapshot rounds some seat (omega (arith, enough)) in
    let best = some_best snapshot rounds seat some before.0 before.1 (omega (arith, enough)) in
    (new snapshot rounds seat some before.0 before.1 (omega (arith, enough)) best.0 best.1, next_seat snapshot rounds seat some before.0 before.1 (omega (arith, enough)) best.0 best.1)

pub any_run : (snapshot : Snapshot) (rounds : ℕ) → 1 ≤ rounds → snapshot.seats ≤ length snapshot.targets
    → (weights : Weights) × IsRun snapshot rounds weights × IsFeasible snapshot weights
any_run snapshot rounds some enough =
    let (weights, well) = any_seats snapshot rounds some snapshot.seats enough in (
      weights,
      record {
        seats_filled = well.count;
        edges = weights.edges;
        seated = well.seated;
        same = λ voter target. refl;
        listed = record { rising = well.rising; above = well.above };
      },
      record { follows = well.follows; seats_filled = well.count; within_stakes = well.within },
    )
