-- No election has two runs.
use Rattle.std.proofs.Common.{◌≡◌, ◌⊎◌, ℕ, zero, suc, ◌+◌, ◌<◌, ◌≤◌, not, nat_eq, List, [], ◌∷◌, ◌++◌, length, take, get_or, All, inl, inr, refl, ap, ap₂, sym, subst, ◌∙◌, arith}
use Rattle.std.specs.List.{AllPairs}
use Rattle.std.proofs.lemmas.List.{take_more, take_all, append-nil}
use Rattle.std.proofs.lemmas.List.Elements.{All-head, All-tail, filter-append}
use Rattle.std.proofs.lemmas.List.Sums.{sum_by-cons}
use Rattle.std.proofs.lemmas.Bool.{cases_Bool, cases_lt, cases_eq}
use Rattle.npos_base.specs.declared.figures.Edge.{Edge}
use Rattle.election_snapshot.specs.Snapshot.{Snapshot}
use Rattle.weight_book.specs.Weights.{Weights, edges_from, edges_to, amount_sum, support}
use Rattle.support_balance.specs.Turns.{given, edges_but, LiesLow, IsTurn}
use Rattle.support_balance.specs.Rounds.{GiveSame, AreTurns, IsRound, AreRounds, IsSettled, IsBalanced, IsBefore}
use Rattle.support_balance.proofs.GivenLemmas.{pair_weight, given_weight, LeadsElsewhere, apart_none, own_pair, same_edge, before_apart}
use Rattle.support_balance.proofs.SplitLemmas.{support_split, from_but}
use Rattle.support_balance.proofs.PutLemmas.{same_then}
use Rattle.support_balance.proofs.UniqueLemmas.{unique}
use Rattle.support_balance.proofs.JoinLemmas.{before_trans}
use Rattle.support_balance.proofs.FallLemmas.{support_same}
use Rattle.phragmms_miner.specs.Run.{IsSeated, AreSeated, IsRun}
use Rattle.phragmms_miner.proofs.SameLemmas.{score_same, best_same}

pub same_back : (old new : List Edge) → GiveSame old new → GiveSame new old
same_back old new same voter target = sym (same voter target)

-- ## Turns

own_passes : (voter : ℕ) (edges : List Edge) → edges_from (edges_from edges voter) voter ≡ edges_from edges voter
own_passes voter [] = refl
own_passes voter (edge ∷ edges) = elim (cases_Bool (nat_eq edge.voter voter)) [
  | inl t ↦ rw t (rw t (ap (λ es. edge ∷ es) (own_passes voter edges)))
  | inr t ↦ rw t (own_passes voter edges)
]

own_not : (voter : ℕ) (edges : List Edge) → edges_but (edges_from edges voter) voter ≡ []
own_not voter [] = refl
own_not voter (edge ∷ edges) = elim (cases_Bool (nat_eq edge.voter voter)) [
  | inl t ↦ rw t (rw t (own_not voter edges))
  | inr t ↦ rw t (own_not voter edges)
]

pub but_passes : (voter : ℕ) (edges : List Edge) → edges_but (edges_but edges voter) voter ≡ edges_but edges voter
but_passes voter [] = refl
but_passes voter (edge ∷ edges) = elim (cases_Bool (nat_eq edge.voter voter)) [
  | inl t ↦ rw t (but_passes voter edges)
  | inr t ↦ rw t (rw t (ap (λ es. edge ∷ es) (but_passes voter edges)))
]

pub but_none : (voter : ℕ) (edges : List Edge) → edges_from (edges_but edges voter) voter ≡ []
but_none voter [] = refl
but_none voter (edge ∷ edges) = elim (cases_Bool (nat_eq edge.voter voter)) [
  | inl t ↦ rw t (but_none voter edges)
  | inr t ↦ rw t (rw t (but_none voter edges))
]

-- a turn from other edges that give the same, as one from these
module _ (snapshot : Snapshot) (committee : List ℕ) (voter : ℕ) (old other new : List Edge) (same : GiveSame old other) (turn : IsTurn snapshot committee voter other new) where
  abbrev moved : List Edge
  moved = edges_from new voter ++ edges_but old voter

  moved_own : edges_from moved voter ≡ edges_from new voter
  moved_own = filter-append (λ (e : Edge). nat_eq e.voter voter) (edges_from new voter) (edges_but old voter)
      ∙ (ap₂ (λ a b. a ++ b) (own_passes voter new) (but_none voter old) ∙ append-nil (edges_from new voter))

  moved_but : edges_but moved voter ≡ edges_but old voter
  moved_but = filter-append (λ (e : Edge). not (nat_eq e.voter voter)) (edges_from new voter) (edges_but old voter)
      ∙ ap₂ (λ a b. a ++ b) (own_not voter new) (but_passes voter old)

  moved_given : (target : ℕ) → given moved voter target ≡ given new voter target
  moved_given target = ap (λ es. amount_sum (edges_to es target)) moved_own

  moved_support : (target : ℕ) → support moved target ≡ support new target
  moved_support target = omega (
    arith,
    support_split moved voter target,
    support_split new voter target,
    moved_given target,
    ap (λ es. support es target) moved_but,
    ap (λ es. support es target) turn.others,
    support_split old voter target,
    support_split other voter target,
    support_same old other same target,
    same voter target,
  )

  moved_turn : IsTurn snapshot committee voter old moved
  moved_turn = record {
    others = moved_but;
    to_backed = λ target out. moved_given target ∙ turn.to_backed target out;
    whole = λ target backed. ap amount_sum moved_own ∙ turn.whole target backed;
    level = λ one rival t u apart some.
        low one rival (turn.level one rival t u apart (subst (λ (n : ℕ). 0 < n) (moved_given one) some));
  } where
    low : (one rival : ℕ) → LiesLow (support new) one rival → LiesLow (support moved) one rival
    low one rival (inl l) = inl (omega (arith, l, moved_support one, moved_support rival))
    low one rival (inr l) = inr (moved_support one ∙ (l.0 ∙ ap (λ n. n + 1) (sym (moved_support rival))), l.1)

  moved_same : GiveSame moved new
  moved_same someone target = elim (cases_eq someone voter) [
    | inl e ↦ ap (λ n. given new n target) e ∙ (sym (moved_given target) ∙ ap (λ n. given moved n target) (sym e))
    | inr ne ↦
        ap (λ es. amount_sum (edges_to es target)) (sym (from_but new voter someone ne) ∙ (ap (λ es. edges_from es someone) turn.others ∙ from_but other voter someone ne))
        ∙ (same someone target
        ∙ ap (λ es. amount_sum (edges_to es target)) (sym (from_but old voter someone ne) ∙ (ap (λ es. edges_from es someone) (sym moved_but) ∙ from_but moved voter someone ne)))
  ]

pub turn_same : (snapshot : Snapshot) (committee : List ℕ) (voter : ℕ) (old other new result : List Edge) → GiveSame old other
    → IsTurn snapshot committee voter old new → IsTurn snapshot committee voter other result → GiveSame new result
turn_same snapshot committee voter old other new result same one rival =
    same_then new (moved snapshot committee voter old other result same rival) result
    (unique snapshot committee voter old new (moved snapshot committee voter old other result same rival) one (moved_turn snapshot committee voter old other result same rival))
    (moved_same snapshot committee voter old other result same rival)

-- ## Rounds

-- edges that give the same as two that give the same
joined : (a b c d : List Edge) → GiveSame a b → GiveSame a c → GiveSame b d → GiveSame c d
joined a b c d across one rival = same_then c a d (same_back a c one) (same_then a b d across rival)

turns_same : (snapshot : Snapshot) (committee : List ℕ) (voters : ℕ) (old other new result : List Edge) → GiveSame old other
    → AreTurns snapshot committee voters old new → AreTurns snapshot committee voters other result → GiveSame new result
turns_same snapshot committee zero old other new result same one rival = joined old other new result same one rival
turns_same snapshot committee (suc voter) old other new result same (before, turns, turn) (earlier, rivals, rival) =
    turn_same snapshot committee voter before earlier new result (turns_same snapshot committee voter old other before earlier same turns rivals) turn rival

rounds_same : (snapshot : Snapshot) (committee : List ℕ) (made : ℕ) (old other new result : List Edge) → GiveSame old other
    → AreRounds snapshot committee made old new → AreRounds snapshot committee made other result → GiveSame new result
rounds_same snapshot committee zero old other new result same one rival = joined old other new result same one rival
rounds_same snapshot committee (suc made) old other new result same (before, rounds, round, apart) (earlier, rivals, rival, differ) =
    turns_same snapshot committee (length snapshot.voters) before earlier new result (rounds_same snapshot committee made old other before earlier same rounds rivals) round rival

-- a round among others changes something
record IsChanged (snapshot : Snapshot) (committee : List ℕ) (at : ℕ) (old : List Edge) : Type 0 where
  pub before : List Edge
  pub after : List Edge
  pub rounds : AreRounds snapshot committee at old before
  pub round : IsRound snapshot committee before after
  pub apart : GiveSame before after → ⊥

changed_at : (snapshot : Snapshot) (committee : List ℕ) (made at : ℕ) (old new : List Edge) → at < made → AreRounds snapshot committee made old new → IsChanged snapshot committee at old
changed_at snapshot committee zero at old new h rounds = absurd (omega (arith, h))
changed_at snapshot committee (suc made) at old new h (before, rounds, round, apart) = elim (cases_eq at made) [
  | inl e ↦ record { before = before; after = new; rounds = subst (λ (n : ℕ). AreRounds snapshot committee n old before) (sym e) rounds; round = round; apart = apart }
  | inr ne ↦ changed_at snapshot committee made at old before (omega (arith, h, ne)) rounds
]

-- where one balancing has settled, another one makes no further round
clash : (snapshot : Snapshot) (committee : List ℕ) (made at : ℕ) (old other new before after : List Edge) → GiveSame old other → at < made → AreRounds snapshot committee made old new
    → AreRounds snapshot committee at other before → IsRound snapshot committee before after → GiveSame before after → ⊥
clash snapshot committee made at old other new before after same h rounds rivals round settled =
    let change = changed_at snapshot committee made at old new h rounds in
    let here = rounds_same snapshot committee at old other change.before before same change.rounds rivals in
    let there = turns_same snapshot committee (length snapshot.voters) change.before before change.after after here change.round round in
    change.apart (same_then change.before before change.after here (same_then before after change.after settled (same_back change.after after there)))

settled_same : (snapshot : Snapshot) (committee : List ℕ) (asked made : ℕ) (old other new result : List Edge) (end : ℕ) → end ≤ asked → GiveSame old other
    → AreRounds snapshot committee made old new × (made ≡ asked) → IsSettled snapshot committee end other result → ⊥
settled_same snapshot committee asked made old other new result end few same (rounds, all) (earlier, before, is, rivals, round, settled) =
    clash snapshot committee made earlier old other new before result same (omega (arith, all, is, few)) rounds rivals round settled

both_settled : (snapshot : Snapshot) (committee : List ℕ) (made end : ℕ) (old other new result : List Edge) → GiveSame old other
    → IsSettled snapshot committee made old new → IsSettled snapshot committee end other result → GiveSame new result
both_settled snapshot committee made end old other new result same (at, before, is, rounds, round, settled) (place, earlier, was, rivals, rival, quiet) = elim (cases_lt at place) [
  | inl less ↦ absurd (clash snapshot committee place at other old earlier before new (same_back old other same) less rivals rounds round settled)
  | inr more ↦ elim (cases_lt place at) [
    | inl less ↦ absurd (clash snapshot committee at place old other before earlier result same less rounds rivals rival quiet)
    | inr equal ↦
        let e : place ≡ at = omega (arith, more, equal) in
        turns_same snapshot committee (length snapshot.voters) before earlier new result
        (rounds_same snapshot committee at old other before earlier same rounds (subst (λ (n : ℕ). AreRounds snapshot committee n other earlier) e rivals)) round rival
  ]
]

balanced_same : (snapshot : Snapshot) (committee : List ℕ) (asked made end : ℕ) (old other new result : List Edge) → GiveSame old other
    → IsBalanced snapshot committee asked made old new → IsBalanced snapshot committee asked end other result → GiveSame new result
balanced_same snapshot committee asked made end old other new result same one rival =
    joined one.after rival.after new result (by one.rounds rival.rounds) one.same rival.same where
      by : (AreRounds snapshot committee made old one.after × (made ≡ asked)) ⊎ IsSettled snapshot committee made old one.after
          → (AreRounds snapshot committee end other rival.after × (end ≡ asked)) ⊎ IsSettled snapshot committee end other rival.after → GiveSame one.after rival.after
      by (inl all) (inl every) =
          rounds_same snapshot committee made old other one.after rival.after same all.0 (subst (λ (n : ℕ). AreRounds snapshot committee n other rival.after) (every.1 ∙ sym all.1) every.0)
      by (inl all) (inr settled) = absurd (settled_same snapshot committee asked made old other one.after rival.after end rival.no_more same all settled)
      by (inr settled) (inl every) = absurd (settled_same snapshot committee asked end other old rival.after one.after made one.no_more (same_back old other same) every settled)
      by (inr settled) (inr quiet) = both_settled snapshot committee made end old other one.after rival.after same settled quiet

-- ## Seats

seated_same : (snapshot : Snapshot) (rounds : ℕ) (picks others : List ℕ) (seat : ℕ) (edges result : List Edge) → seat ≤ length picks → seat ≤ length others
    → AreSeated snapshot rounds picks seat edges → AreSeated snapshot rounds others seat result → (take seat picks ≡ take seat others) × GiveSame edges result
seated_same snapshot rounds picks others zero edges result few less one rival = (refl, same_given edges result (one ∙ sym rival))
  where
    same_given : (a b : List Edge) → a ≡ b → GiveSame a b
    same_given a b e voter target = ap (λ es. given es voter target) (sym e)
seated_same snapshot rounds picks others (suc seat) edges result few less (before, seated, follows, last) (earlier, rivals, followed, rival) =
    let same = seated_same snapshot rounds picks others seat before earlier (omega (arith, few)) (omega (arith, less)) seated rivals in
    let pick = get_or picks seat 0 in
    let other = get_or others seat 0 in
    let moved = subst (λ (ps : List ℕ). IsSeated snapshot rounds ps earlier other result) (sym same.0) rival in
    let equal : pick ≡ other = best_same snapshot (take seat picks) before earlier pick other
    (score_same snapshot before earlier follows.pairs_distinct followed.pairs_distinct same.1) last.best moved.best in
    let again : IsSeated snapshot rounds (take seat picks) earlier pick result = subst (λ (p : ℕ). IsSeated snapshot rounds (take seat picks) earlier p result) (sym equal) moved in
    let one : suc seat ≡ seat + 1 = omega arith in (
      ap (λ n. take n picks) one
          ∙ (take_more picks seat 0 (omega (arith, few))
          ∙ (ap₂ (λ ps p. ps ++ p ∷ []) same.0 equal
          ∙ (sym (take_more others seat 0 (omega (arith, less))) ∙ ap (λ n. take n others) (sym one)))),
      balanced_same snapshot (take seat picks ++ pick ∷ []) rounds last.made again.made before earlier edges result same.1 last.balanced again.balanced,
    )

-- ## Lists of edges

pub given-cons : (edge : Edge) (edges : List Edge) (voter target : ℕ) → given (edge ∷ edges) voter target ≡ pair_weight voter target edge + given edges voter target
given-cons edge edges voter target =
    given_weight (edge ∷ edges) voter target
    ∙ (sum_by-cons (pair_weight voter target) edge edges ∙ ap (λ n. pair_weight voter target edge + n) (sym (given_weight edges voter target)))

pub given_none : (edges : List Edge) (voter target : ℕ) → All (LeadsElsewhere voter target) edges → given edges voter target ≡ 0
given_none edges voter target all = given_weight edges voter target ∙ apart_none edges voter target all

pub in_order : (one other : Edge) → IsBefore one other ⊎ (IsBefore other one ⊎ ((one.voter ≡ other.voter) × (one.target ≡ other.target)))
in_order one other = elim (cases_lt one.voter other.voter) [
  | inl v ↦ inl (inl v)
  | inr v ↦ elim (cases_lt other.voter one.voter) [
    | inl w ↦ inr (inl (inl w))
    | inr w ↦
        let same : one.voter ≡ other.voter = omega (arith, v, w) in
        elim (cases_lt one.target other.target) [
          | inl t ↦ inl (inr (same, t))
          | inr t ↦ elim (cases_lt other.target one.target) [
            | inl u ↦ inr (inl (inr (sym same, u)))
            | inr u ↦ inr (inr (same, omega (arith, t, u)))
          ]
        ]
  ]
]

tail_rises : (edge : Edge) (edges : List Edge) → AllPairs IsBefore (edge ∷ edges) → AllPairs IsBefore edges
tail_rises edge edges rising i j d a b = rising (suc i) (suc j) d (omega (arith, a)) (omega (arith, b))

-- what stands behind an edge leads elsewhere
behind : (edge : Edge) (edges : List Edge) → AllPairs IsBefore (edge ∷ edges) → All (LeadsElsewhere edge.voter edge.target) edges
behind edge edges rising k d h = before_apart edge (get_or edges k d) (rising 0 (suc k) d (omega arith) (omega (arith, h)))

all_behind : (first edge : Edge) (edges : List Edge) → IsBefore first edge → AllPairs IsBefore (edge ∷ edges) → given (edge ∷ edges) first.voter first.target ≡ 0
all_behind first edge edges before rising = given_none (edge ∷ edges) first.voter first.target by where
  by : All (LeadsElsewhere first.voter first.target) (edge ∷ edges)
  by zero d h = before_apart first edge before
  by (suc k) d h = before_apart first (get_or edges k d) (before_trans first edge (get_or edges k d) before (rising 0 (suc k) d (omega arith) h))

own_amount : (edge : Edge) (edges : List Edge) → AllPairs IsBefore (edge ∷ edges) → given (edge ∷ edges) edge.voter edge.target ≡ edge.amount
own_amount edge edges rising = omega (arith, given-cons edge edges edge.voter edge.target, own_pair edge, given_none edges edge.voter edge.target (behind edge edges rising))

listed_same : (one other : List Edge) → AllPairs IsBefore one → AllPairs IsBefore other → All (λ (e : Edge). 0 < e.amount) one → All (λ (e : Edge). 0 < e.amount) other → GiveSame one other
    → one ≡ other
listed_same [] [] rising rises above over same = refl
listed_same [] (edge ∷ edges) rising rises above over same =
    absurd (omega (arith, same edge.voter edge.target, own_amount edge edges rises, All-head (λ (e : Edge). 0 < e.amount) edge edges over))
listed_same (edge ∷ edges) [] rising rises above over same =
    absurd (omega (arith, same edge.voter edge.target, own_amount edge edges rising, All-head (λ (e : Edge). 0 < e.amount) edge edges above))
listed_same (edge ∷ edges) (rival ∷ rivals) rising rises above over same =
    by (in_order edge rival) (listed_same edges rivals (tail_rises edge edges rising) (tail_rises rival rivals rises)
    (All-tail (λ (e : Edge). 0 < e.amount) edge edges above) (All-tail (λ (e : Edge). 0 < e.amount) rival rivals over)) where
      mine : 0 < edge.amount
      mine = All-head (λ (e : Edge). 0 < e.amount) edge edges above

      yours : 0 < rival.amount
      yours = All-head (λ (e : Edge). 0 < e.amount) rival rivals over

      by : IsBefore edge rival ⊎ (IsBefore rival edge ⊎ ((edge.voter ≡ rival.voter) × (edge.target ≡ rival.target))) → (GiveSame edges rivals → edges ≡ rivals) → edge ∷ edges ≡ rival ∷ rivals
      by (inl before) rest =
          absurd (omega (arith, mine, same edge.voter edge.target, own_amount edge edges rising, all_behind edge rival rivals before rises))
      by (inr (inl before)) rest =
          absurd (omega (arith, yours, same rival.voter rival.target, own_amount rival rivals rises, all_behind rival edge edges before rising))
      by (inr (inr pair)) rest =
          let amounts : edge.amount ≡ rival.amount =
          sym (own_amount edge edges rising)
          ∙ (sym (same edge.voter edge.target)
          ∙ (ap₂ (given (rival ∷ rivals)) pair.0 pair.1 ∙ own_amount rival rivals rises)) in
          let equal : edge ≡ rival = same_edge edge rival pair.0 pair.1 amounts in
          ap₂ (λ e es. e ∷ es) equal (rest (λ voter target. omega (
            arith,
            same voter target,
            given-cons edge edges voter target,
            given-cons rival rivals voter target,
            ap (λ (e : Edge). pair_weight voter target e) equal,
          )))

pub one_run : (snapshot : Snapshot) (rounds : ℕ) (one other : Weights) → IsRun snapshot rounds one → IsRun snapshot rounds other → one ≡ other
one_run snapshot rounds one other first second =
    let seats = snapshot.seats in
    let same = seated_same snapshot rounds one.committee other.committee seats first.edges second.edges
    (omega (arith, first.seats_filled)) (omega (arith, second.seats_filled)) first.seated second.seated in
    let members : one.committee ≡ other.committee =
    sym (take_all seats one.committee (omega (arith, first.seats_filled))) ∙ (same.0 ∙ take_all seats other.committee (omega (arith, second.seats_filled))) in
    let edges : one.edges ≡ other.edges =
    listed_same one.edges other.edges first.listed.rising second.listed.rising first.listed.above second.listed.above
    (joined first.edges second.edges one.edges other.edges same.1 first.same second.same) in
    weights_same members edges
  where
    weights_same : one.committee ≡ other.committee → one.edges ≡ other.edges → one ≡ other
    weights_same members edges = λ i. record { committee = members i; edges = edges i }
