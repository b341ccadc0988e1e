-- One pick's draws, nominator by nominator, and the tables beside them.
use Rattle.std.proofs.Common.{◌≡◌, ℕ, zero, suc, ◌+◌, ◌-◌, ◌<◌, ◌≤◌, ◌⊎◌, min, Bool, true, false, cond, nat_eq, nat_lt, List, [], ◌∷◌, ◌++◌, length}
use Rattle.std.proofs.Common.{length-append, length-drop, take, drop, get_or, set, map, filter, sum_by, inl, inr, refl, ap, sym, subst, ◌∙◌, arith}
use Rattle.std.specs.List.{range_with_len}
use Rattle.std.proofs.Math.Seq.{take-append_seam}
use Rattle.std.proofs.lemmas.List.{take_all, take_more, map_more, length-set, take-append-le, get_or_append_left, get_or_push}
use Rattle.std.proofs.lemmas.List.{get_or-set_same, get_or-set_other, append_assoc, append-nil, drop_more, set-get_or}
use Rattle.std.proofs.lemmas.List.Elements.{filter-append}
use Rattle.std.proofs.lemmas.List.Sums.{sum_by_push}
use Rattle.std.proofs.lemmas.Bool.{cases_Bool, cases_eq, cases_lt, cond-true, cond-false, eq-eqb, ne_eqb, true≢false}
use Rattle.npos_base.specs.declared.figures.Edge.{Edge}
use Rattle.election_snapshot.specs.Snapshot.{Snapshot, IsVoterOf, voter_at, has, nominates, votes_of, threshold}
use Rattle.weight_book.specs.Passing.{nominators}
use Rattle.weight_book.proofs.SumLemmas.{sum_of_sums, sum_same}
use Rattle.weight_book.proofs.StakeLemmas.{range_more}
use Rattle.seat_race.specs.Tables.{says, nominators_before, AreSums}
use Rattle.quota_fill.specs.declared.chains.Link.{Link}
use Rattle.quota_fill.specs.Chains.{nowhere, nominators_from, IsAt, Leads}
use Rattle.quota_fill.specs.Filled.{draw}
use Rattle.quota_fill.specs.Kept.{draw_edge, draws_of, AreTables, IsDrawn}
use Rattle.seat_race.proofs.InLemmas.{In, in_at, in_has, from_has, from_filter, term_le, all_at}
use Rattle.seat_race.proofs.NominatorLemmas.{has_nominators, nominates_in_range, nominators_distinct, one_nominator}
use Rattle.quota_fill.proofs.ChainLemmas.{all_are_from, at_nominates, nominator_first, none_beyond}
use Rattle.quota_fill.proofs.DrawLemmas.{drawn_nominates, drawn_from_nominator}
use Rattle.seat_race.proofs.TableLemmas.{fresh, now_there, still_there}

-- the first of the numbers of a range that pass are those that pass before the next one
module _ (p : ℕ → Bool) where
  abbrev passing : ℕ → List ℕ
  passing count = filter p (range_with_len 0 count)

  next_front : (count i d : ℕ) (b : Bool) (numbers : List ℕ) → numbers ≡ passing count → i < length (numbers ++ cond b (count ∷ []) [])
      → (i < length numbers → take i numbers ≡ passing (get_or numbers i d))
      → take i (numbers ++ cond b (count ∷ []) []) ≡ passing (get_or (numbers ++ cond b (count ∷ []) []) i d)
  next_front count i d b numbers is h front = elim (cases_lt i (length numbers)) [
    | inl l ↦ take-append-le i numbers (cond b (count ∷ []) []) (omega (arith, l)) ∙ front l
        ∙ sym (ap passing (get_or_append_left numbers (cond b (count ∷ []) []) d i l))
    | inr l ↦ at b l h
  ] where
    at : (b : Bool) → length numbers ≤ i → i < length (numbers ++ cond b (count ∷ []) []) → take i (numbers ++ cond b (count ∷ []) []) ≡ passing (get_or (numbers ++ cond b (count ∷ []) []) i d)
    at false l k = absurd (omega (arith, l, k, length-append numbers []))
    at true l k =
        let last : length numbers ≡ i = omega (arith, l, k, length-append numbers (count ∷ [])) in
        ap (λ n. take n (numbers ++ count ∷ [])) (sym last) ∙ take-append_seam numbers (count ∷ []) ∙ is ∙ sym (ap passing (get_or_push numbers count d i last))

  pub in_front : (count i d : ℕ) → i < length (passing count) → take i (passing count) ≡ passing (get_or (passing count) i d)
  in_front zero i d h = absurd (omega (arith, h))
  in_front (suc count) i d h = subst (λ ns. take i ns ≡ passing (get_or ns i d)) (sym more)
      (next_front count i d (p count) (passing count) refl (subst (λ ns. i < length ns) more h) (λ l. in_front count i d l))
    where
      one : (n : ℕ) → suc n ≡ n + 1
      one n = omega arith

      more : passing (suc count) ≡ passing count ++ cond (p count) (count ∷ []) []
      more = ap passing (one count) ∙ ap (filter p) (range_more count) ∙ filter-append p (range_with_len 0 count) (count ∷ [])

-- ---- what is taken from one voter is taken from the backing of its votes
module _ (snapshot : Snapshot) (left : List ℕ) (voter amount : ℕ) (size : length left ≡ length snapshot.voters) (enough : amount ≤ says left voter)
    (in_reach : voter < length snapshot.voters) where
  abbrev pub lowered : List ℕ
  lowered = set left voter (says left voter - amount)

  lowered_at : (n : ℕ) → says left n ≡ says lowered n + cond (nat_eq n voter) amount 0
  lowered_at n = elim (cases_eq n voter) [
    | inl e ↦ omega (
      arith,
      cond-true (nat_eq n voter) amount 0 (eq-eqb n voter e),
      ap (says lowered) e,
      ap (says left) e,
      get_or-set_same left voter (says left voter - amount) 0 (omega (arith, size, in_reach)),
      enough,
    )
    | inr differ ↦ omega (
      arith,
      cond-false (nat_eq n voter) amount 0 (ne_eqb n voter differ),
      get_or-set_other left voter n (says left voter - amount) 0 differ,
    )
  ]

  pub sum_lowered : (target : ℕ) → sum_by (says lowered) (nominators snapshot target) + cond (nominates snapshot voter target) amount 0 ≡ sum_by (says left) (nominators snapshot target)
  sum_lowered target =
      let split = sum_same (says left) (λ n. says lowered n + cond (nat_eq n voter) amount 0) lowered_at (nominators snapshot target)
      ∙ sum_of_sums (says lowered) (λ n. cond (nat_eq n voter) amount 0) (nominators snapshot target) in
      let one = one_nominator snapshot (λ _. amount) voter target in_reach in
      omega (arith, split, one)

  module _ (backings : List ℕ) (are : AreSums snapshot left backings) (sound : IsVoterOf (length snapshot.targets) (voter_at snapshot voter)) where
    pub backing_is_enough : (target : ℕ) → nominates snapshot voter target ≡ true → amount ≤ says backings target
    backing_is_enough target t =
        let in_targets : target < length snapshot.targets = all_at (λ n. n < length snapshot.targets)
        (votes_of snapshot voter) sound.votes_in_range target (from_has (votes_of snapshot voter) target t) in
        omega (arith, enough, are target in_targets, term_le (says left) (nominators snapshot target) voter (has_nominators snapshot voter target t))

    pub backings_lowered : (new : List ℕ) → ((target : ℕ) → target < length snapshot.targets
        → says new target ≡ cond (nominates snapshot voter target) (says backings target - amount) (says backings target)) → AreSums snapshot lowered new
    backings_lowered new change target h = elim (cases_Bool (nominates snapshot voter target)) [
      | inl t ↦ omega (
        arith,
        change target h,
        are target h,
        sum_lowered target,
        cond-true (nominates snapshot voter target) (says backings target - amount) (says backings target) t,
        cond-true (nominates snapshot voter target) amount 0 t,
      )
      | inr f ↦ omega (
        arith,
        change target h,
        are target h,
        sum_lowered target,
        cond-false (nominates snapshot voter target) (says backings target - amount) (says backings target) f,
        cond-false (nominates snapshot voter target) amount 0 f,
      )
    ]

  pub backings_stay : (backings : List ℕ) → AreSums snapshot left backings → amount ≤ 0 → AreSums snapshot lowered backings
  backings_stay backings are none target h = omega (arith, are target h, sum_lowered target, nothing (nominates snapshot voter target)) where
    nothing : (b : Bool) → cond b amount 0 ≤ 0
    nothing true = none
    nothing false = omega arith

-- ---- one pick
module _ (snapshot : Snapshot) (target : ℕ) (old : List ℕ) (drawn : List Edge) where
  abbrev voters : List ℕ
  voters = nominators snapshot target

  -- after the draws from the first of the nominators
  pub record IsDrawing (i : ℕ) (left backings : List ℕ) (due : ℕ) (draws : List Edge) : Type 0 where
    pub left_is : (voter : ℕ) → says left voter ≡ says old voter - cond (has (take i voters) voter) (draw snapshot (says old) target voter) 0
    pub tables : AreTables snapshot left backings
    pub due_is : due + min (threshold snapshot) (sum_by (says old) (take i voters)) ≡ threshold snapshot
    pub draws_are : draws ≡ drawn ++ draws_of snapshot (says old) target (take i voters)

  module _ (i d : ℕ) (h : i < length voters) (left backings : List ℕ) (due : ℕ) (draws : List Edge) (so_far : IsDrawing i left backings due draws) where
    abbrev pub giver : ℕ
    giver = get_or voters i d

    abbrev pub amount : ℕ
    amount = min (says left giver) due

    giver_there : In voters giver
    giver_there = in_at voters i d h

    pub giver_nominates : nominates snapshot giver target ≡ true
    giver_nominates = (from_filter (λ n. nominates snapshot n target) (range_with_len 0 (length snapshot.voters)) giver giver_there).1

    pub giver_in_range : giver < length snapshot.voters
    giver_in_range = nominates_in_range snapshot giver target giver_nominates

    front : take i voters ≡ nominators_before snapshot target giver
    front = in_front (λ n. nominates snapshot n target) (length snapshot.voters) i d h

    untouched : says left giver ≡ says old giver
    untouched = omega (
      arith,
      so_far.left_is giver,
      cond-false (has (take i voters) giver) (draw snapshot (says old) target giver) 0 (fresh voters (nominators_distinct snapshot target) i d h),
    )

    pub amount_is : amount ≡ draw snapshot (says old) target giver
    amount_is = omega (
      arith,
      untouched,
      so_far.due_is,
      ap (sum_by (says old)) front,
      drawn_from_nominator snapshot (says old) target giver giver_nominates,
    )

    pub drawing_more : (new : List ℕ) → AreSums snapshot (set left giver (says left giver - amount)) new → length new ≡ length backings
        → IsDrawing (i + 1) (set left giver (says left giver - amount)) new (due - amount) (draws ++ cond (nat_lt 0 amount) (record { voter = giver; target = target; amount = amount } ∷ []) [])
    drawing_more new are size = record {
      left_is = λ voter. left_at voter (cases_eq giver voter);
      tables = record {
        left_size = length-set left giver (says left giver - amount) ∙ so_far.tables.left_size;
        backings_size = size ∙ so_far.tables.backings_size;
        sums = are;
      };
      due_is = omega (
        arith,
        so_far.due_is,
        untouched,
        ap (sum_by (says old)) (take_more voters i d h),
        sum_by_push (says old) (take i voters) giver,
      );
      draws_are = ap (λ es. es ++ cond (nat_lt 0 amount) (edge_of amount ∷ []) []) so_far.draws_are
          ∙ append_assoc drawn (draws_of snapshot (says old) target (take i voters)) (cond (nat_lt 0 amount) (edge_of amount ∷ []) [])
          ∙ ap (λ es. drawn ++ es) (ap (λ n. draws_of snapshot (says old) target (take i voters) ++ cond (nat_lt 0 n) (edge_of n ∷ []) []) amount_is ∙ sym one_more);
    } where
      edge_of : ℕ → Edge
      edge_of n = record { voter = giver; target = target; amount = n }

      above : Edge → Bool
      above edge = nat_lt 0 edge.amount

      one_more : draws_of snapshot (says old) target (take (i + 1) voters)
          ≡ draws_of snapshot (says old) target (take i voters) ++ cond (nat_lt 0 (draw snapshot (says old) target giver)) (draw_edge snapshot (says old) target giver ∷ []) []
      one_more = ap (filter (λ (edge : Edge). nat_lt 0 edge.amount)) (map_more (draw_edge snapshot (says old) target) voters i d h)
          ∙ filter-append (λ (edge : Edge). nat_lt 0 edge.amount) (map (draw_edge snapshot (says old) target) (take i voters)) (draw_edge snapshot (says old) target giver ∷ [])

      left_at : (voter : ℕ) → (giver ≡ voter) ⊎ (giver ≡ voter → ⊥)
          → says (set left giver (says left giver - amount)) voter ≡ says old voter - cond (has (take (i + 1) voters) voter) (draw snapshot (says old) target voter) 0
      left_at voter (inl same) = subst (λ n. says (set left giver (says left giver - amount)) n ≡ says old n - cond (has (take (i + 1) voters) n) (draw snapshot (says old) target n) 0) same (omega (
        arith,
        get_or-set_same left giver (says left giver - amount) 0 (omega (arith, so_far.tables.left_size, giver_in_range)),
        untouched,
        amount_is,
        cond-true (has (take (i + 1) voters) giver) (draw snapshot (says old) target giver) 0 (now_there voters (nominators_distinct snapshot target) i d h giver refl),
      ))
      left_at voter (inr differ) =
          get_or-set_other left giver voter (says left giver - amount) 0 (λ e. differ (sym e))
          ∙ so_far.left_is voter
          ∙ ap (λ b. says old voter - cond b (draw snapshot (says old) target voter) 0) (sym (still_there voters (nominators_distinct snapshot target) i d h voter differ))

  pub drawn_from_all : (i : ℕ) (left backings : List ℕ) (due : ℕ) (draws : List Edge) → IsDrawing i left backings due draws → length voters ≤ i
      → IsDrawn snapshot target old left backings drawn draws
  drawn_from_all i left backings due draws so_far ends = record {
    left = λ voter. so_far.left_is voter
        ∙ ap (λ ns. says old voter - cond (has ns voter) (draw snapshot (says old) target voter) 0) (take_all i voters ends)
        ∙ at voter (cases_Bool (has voters voter));
    backings = so_far.tables.sums;
    draws = so_far.draws_are ∙ ap (λ ns. drawn ++ draws_of snapshot (says old) target ns) (take_all i voters ends);
  }
    where
      at : (voter : ℕ) → (has voters voter ≡ true) ⊎ (has voters voter ≡ false)
          → says old voter - cond (has voters voter) (draw snapshot (says old) target voter) 0 ≡ says old voter - draw snapshot (says old) target voter
      at voter (inl t) = ap (λ b. says old voter - cond b (draw snapshot (says old) target voter) 0) t
      at voter (inr f) = elim (cases_lt 0 (draw snapshot (says old) target voter)) [
        | inl l ↦ absurd (true≢false (sym (in_has voters voter (has_nominators snapshot voter target (drawn_nominates snapshot (says old) target voter l))) ∙ f))
        | inr l ↦ omega (arith, l, cond-false (has voters voter) (draw snapshot (says old) target voter) 0 f)
      ]

  -- ---- from link to link
  -- the link leads to the nominator after those that were drawn from
  pub record IsAlong (link : Link) (left backings : List ℕ) (due : ℕ) (draws : List Edge) : Type 0 where
    pub count : ℕ
    pub drawing : IsDrawing count left backings due draws
    pub at : (link.voter ≡ nowhere.voter) ⊎ IsAt snapshot target link
    pub ahead : drop count voters ≡ nominators_from snapshot target link.voter

  pub along_first : (link : Link) (left backings : List ℕ) (due : ℕ) → IsDrawing 0 left backings due drawn → Leads snapshot target 0 link → IsAlong link left backings due drawn
  along_first link left backings due none lead = record { count = 0; drawing = none; at = lead.at; ahead = all_are_from snapshot target ∙ lead.skips }

  module _ (link : Link) (left backings : List ℕ) (due : ℕ) (draws : List Edge) (along : IsAlong link left backings due draws) where
    module _ (at : IsAt snapshot target link) where
      split : drop along.count voters ≡ link.voter ∷ nominators_from snapshot target (link.voter + 1)
      split = along.ahead ∙ nominator_first snapshot target link.voter (at_nominates snapshot target link at)

      not_all : along.count < length voters
      not_all = omega (arith, ap length split, length-drop along.count voters)

      parts : get_or voters along.count 0 ∷ drop (along.count + 1) voters ≡ link.voter ∷ nominators_from snapshot target (link.voter + 1)
      parts = sym (drop_more voters along.count 0 not_all) ∙ split

      giver_is : get_or voters along.count 0 ≡ link.voter
      giver_is = ap (λ ns. get_or ns 0 0) parts

      pub along_more : (next : Link) → Leads snapshot target (link.voter + 1) next → (new : List ℕ)
          → AreSums snapshot (set left link.voter (says left link.voter - min (says left link.voter) due)) new → length new ≡ length backings
          → IsAlong next (set left link.voter (says left link.voter - min (says left link.voter) due)) new (due - min (says left link.voter) due)
          (draws ++ cond (nat_lt 0 (min (says left link.voter) due)) (record { voter = link.voter; target = target; amount = min (says left link.voter) due } ∷ []) [])
      along_more next lead new are size = record {
        count = along.count + 1;
        drawing = rw giver_is at (drawing_more along.count 0 not_all left backings due draws along.drawing new (rw giver_is are) size);
        at = lead.at;
        ahead = ap (λ ns. drop 1 ns) parts ∙ lead.skips;
      }

    pub along_ends : length snapshot.voters ≤ nowhere.voter → link.voter ≡ nowhere.voter → length voters ≤ along.count
    along_ends few end = none_left (drop along.count voters) refl (along.ahead ∙ ap (nominators_from snapshot target) end ∙ none_beyond snapshot target nowhere.voter few) where
      none_left : (rest : List ℕ) → drop along.count voters ≡ rest → rest ≡ [] → length voters ≤ along.count
      none_left rest is none = omega (arith, ap length (is ∙ none), length-drop along.count voters)

  -- where the price is drawn, nothing is drawn from the others
  nothing_more : (i d : ℕ) → i < length voters → (left backings : List ℕ) (draws : List Edge) → IsDrawing i left backings 0 draws → IsDrawing (i + 1) left backings 0 draws
  nothing_more i d h left backings draws so_far =
      let giver = get_or voters i d in
      let none : min (says left giver) 0 ≡ 0 = omega arith in
      let stays : set left giver (says left giver - min (says left giver) 0) ≡ left = ap (set left giver) (all_left (says left giver)) ∙ set-get_or left giver 0 in
      let more = drawing_more i d h left backings 0 draws so_far backings (subst (λ ns. AreSums snapshot ns backings) (sym stays) so_far.tables.sums) refl in
      subst (λ es. IsDrawing (i + 1) left backings 0 es) (append-nil draws) (rw (stays, none) at more)
    where
      all_left : (n : ℕ) → n - min n 0 ≡ n
      all_left n = omega arith

  drawing_all : (rest i : ℕ) → length voters ≤ i + rest → (left backings : List ℕ) (draws : List Edge) → IsDrawing i left backings 0 draws
      → (all : ℕ) × (length voters ≤ all) × IsDrawing all left backings 0 draws
  drawing_all zero i most left backings draws so_far = (i, omega (arith, most), so_far)
  drawing_all (suc rest) i most left backings draws so_far = elim (cases_lt i (length voters)) [
    | inl h ↦ drawing_all rest (i + 1) (omega (arith, most)) left backings draws (nothing_more i 0 h left backings draws so_far)
    | inr ends ↦ (i, ends, so_far)
  ]

  pub drawn_when_paid : (i : ℕ) (left backings : List ℕ) (due : ℕ) (draws : List Edge) → IsDrawing i left backings due draws → due ≡ 0
      → IsDrawn snapshot target old left backings drawn draws
  drawn_when_paid i left backings due draws so_far paid =
      let (all, ends, drawing) = drawing_all (length voters) i (omega arith) left backings draws (subst (λ n. IsDrawing i left backings n draws) paid so_far) in
      drawn_from_all all left backings 0 draws drawing ends
