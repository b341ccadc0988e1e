-- The rises of a run, and what they give: a voter's rises sum to its load, so their parts to no more than its stake.
use Rattle.std.proofs.Common.{◌≡◌, ℕ, zero, ◌+◌, ◌-◌, ◌*◌, ◌/◌, ◌<◌, ◌≤◌, ◌⊎◌, Bool, true, false, not, cond, ◌||◌, ◌&&◌}
use Rattle.std.proofs.Common.{nat_eq, List, [], ◌∷◌, length, map, filter, sum_by, inl, inr, refl, ap, sym, subst, ◌∙◌, arith}
use Rattle.std.specs.List.{range_with_len}
use Rattle.std.proofs.Math.Nat.{zero-div}
use Rattle.std.proofs.lemmas.Bool.{cases_Bool, cases_eq, cond-true, cond-false, eqb-true, eq-eqb, ne_eqb, or_left, or_right, true≢false}
use Rattle.std.proofs.lemmas.List.Elements.{filter-append}
use Rattle.std.proofs.lemmas.List.Sums.{sum_by-cons, sum_by-append}
use Rattle.election_snapshot.specs.Snapshot.{Snapshot, has, nominates, stake_of}
use Rattle.weight_book.specs.Passing.{nominators}
use Rattle.weight_book.proofs.SumLemmas.{sum_filter-cons, sum_same, sum_of_sums, sum_of_none}
use Rattle.seq_phragmen.specs.declared.rise.Rise.{Rise}
use Rattle.seq_phragmen.specs.Mined.{score, load_after, rise, part, part_to, parts, given}
use Rattle.seq_phragmen.specs.Kept.{rise_of, rises_after, last_after, earlier_parts, gift}
use Rattle.seat_race.proofs.InLemmas.{In, in_either, in_left, in_right, in_map, from_filter, from_map}
use Rattle.seat_race.proofs.NominatorLemmas.{nominates_in_range, has_nominators, one_nominator, only_one}
use Rattle.seq_phragmen.proofs.PickLemmas.{AreRun}
use Rattle.seq_phragmen.proofs.LoadLemmas.{now_loaded, load_stays, load_up, score_some, parts_within}

sum_filter_map : {X Y : Type 0} (q : Y → Bool) (f : Y → ℕ) (g : X → Y) (xs : List X) → sum_by f (filter q (map g xs)) ≡ sum_by (λ x. cond (q (g x)) (f (g x)) 0) xs
sum_filter_map q f g [] = refl
sum_filter_map q f g (x ∷ xs) = sum_filter-cons q f (g x) (map g xs) ∙ ap (λ n. cond (q (g x)) (f (g x)) 0 + n) (sum_filter_map q f g xs)
    ∙ sym (sum_by-cons (λ y. cond (q (g y)) (f (g y)) 0) x xs)

-- a target that is in neither
pub apart : (pick : ℕ) (picks : List ℕ) (target : ℕ) → has (pick ∷ picks) target ≡ false → (nat_eq pick target ≡ false) × (has picks target ≡ false)
apart pick picks target out = (first (cases_Bool (nat_eq pick target)), rest (cases_Bool (has picks target))) where
  first : (nat_eq pick target ≡ true) ⊎ (nat_eq pick target ≡ false) → nat_eq pick target ≡ false
  first (inr f) = f
  first (inl t) = absurd (true≢false (sym (or_left (nat_eq pick target) (has picks target) t) ∙ out))

  rest : (has picks target ≡ true) ⊎ (has picks target ≡ false) → has picks target ≡ false
  rest (inr f) = f
  rest (inl t) = absurd (true≢false (sym (or_right (nat_eq pick target) (has picks target) t) ∙ out))

-- a pick is none of those before it
pub differs : (pick : ℕ) (picks : List ℕ) → has picks pick ≡ false → (target : ℕ) → has picks target ≡ true → nat_eq pick target ≡ false
differs pick picks out target t = at (cases_Bool (nat_eq pick target)) where
  at : (nat_eq pick target ≡ true) ⊎ (nat_eq pick target ≡ false) → nat_eq pick target ≡ false
  at (inr f) = f
  at (inl e) = absurd (true≢false (sym t ∙ ap (has picks) (sym (eqb-true pick target e)) ∙ out))

module _ (snapshot : Snapshot) where
  abbrev load : List ℕ → ℕ → ℕ
  load picks = load_after snapshot picks

  abbrev pub rises_now : ℕ → List ℕ → List Rise
  rises_now pick picks = map (rise_of (load picks) pick (score snapshot (load picks) pick)) (nominators snapshot pick)

  pub record IsNote (picks : List ℕ) (note : Rise) : Type 0 where
    pub voter_in_range : note.voter < length snapshot.voters
    pub target_in_range : note.target < length snapshot.targets
    pub member : has picks note.target ≡ true
    pub nominated : nominates snapshot note.voter note.target ≡ true
    pub within : note.height ≤ load picks note.voter
    pub parted : (whole : ℕ) → part_to snapshot whole picks note.voter note.target ≡ part snapshot whole note.voter note.height

  pub now_is : (pick : ℕ) (picks : List ℕ) → AreRun snapshot (pick ∷ picks) → (note : Rise) → In (rises_now pick picks) note → IsNote (pick ∷ picks) note × (note.target ≡ pick)
  now_is pick picks run note h = let made = from_map (rise_of (load picks) pick (score snapshot (load picks) pick)) (nominators snapshot pick) note h in
      subst (λ n. IsNote (pick ∷ picks) n × (n.target ≡ pick)) made.2
      (here made.0 (from_filter (λ n. nominates snapshot n pick) (range_with_len 0 (length snapshot.voters)) made.0 made.1).1, refl)
    where
      here : (voter : ℕ) → nominates snapshot voter pick ≡ true → IsNote (pick ∷ picks) (rise_of (load picks) pick (score snapshot (load picks) pick) voter)
      here voter t = record {
        voter_in_range = nominates_in_range snapshot voter pick t;
        target_in_range = run.0.in_range;
        member = or_left (nat_eq pick pick) (has picks pick) (eq-eqb pick pick refl);
        nominated = t;
        within = omega (arith, now_loaded snapshot pick picks voter t);
        parted = λ whole. cond-true (nat_eq pick pick) (part snapshot whole voter (rise snapshot picks pick voter)) (part_to snapshot whole picks voter pick) (eq-eqb pick pick refl)
            ∙ ap (λ n. part snapshot whole voter (n - load picks voter)) (now_loaded snapshot pick picks voter t);
      }

  pub note_is : (picks : List ℕ) → AreRun snapshot picks → (note : Rise) → In (rises_after snapshot picks) note → IsNote picks note
  note_is [] run note h = absurd h
  note_is (pick ∷ picks) run note h = elim (in_either (rises_after snapshot picks) (rises_now pick picks) note h) [
    | inl l ↦ earlier (note_is picks run.1 note l)
    | inr r ↦ (now_is pick picks run note r).0
  ] where
    earlier : IsNote picks note → IsNote (pick ∷ picks) note
    earlier is = record {
      voter_in_range = is.voter_in_range;
      target_in_range = is.target_in_range;
      member = or_right (nat_eq pick note.target) (has picks note.target) is.member;
      nominated = is.nominated;
      within = omega (arith, is.within, load_up snapshot pick picks run note.voter);
      parted = λ whole. cond-false (nat_eq pick note.target) (part snapshot whole note.voter (rise snapshot picks pick note.voter)) (part_to snapshot whole picks note.voter note.target)
          (differs pick picks run.0.is_outside note.target is.member) ∙ is.parted whole;
    }

  -- each pick is noted for each of its nominators
  pub noted : (picks : List ℕ) (voter target : ℕ) → has picks target ≡ true → nominates snapshot voter target ≡ true
      → (note : Rise) × In (rises_after snapshot picks) note × (note.voter ≡ voter) × (note.target ≡ target)
  noted [] voter target h t = absurd (true≢false (sym h))
  noted (pick ∷ picks) voter target h t = at (cases_Bool (nat_eq pick target)) (λ k. noted picks voter target k t) where
    at : (nat_eq pick target ≡ true) ⊎ (nat_eq pick target ≡ false)
        → (has picks target ≡ true → (note : Rise) × In (rises_after snapshot picks) note × (note.voter ≡ voter) × (note.target ≡ target))
        → (note : Rise) × In (rises_after snapshot (pick ∷ picks)) note × (note.voter ≡ voter) × (note.target ≡ target)
    at (inl e) more = (
      rise_of (load picks) pick (score snapshot (load picks) pick) voter,
      in_right (rises_after snapshot picks) (rises_now pick picks) (rise_of (load picks) pick (score snapshot (load picks) pick) voter)
          (in_map (rise_of (load picks) pick (score snapshot (load picks) pick)) (nominators snapshot pick) voter
          (has_nominators snapshot voter pick (subst (λ n. nominates snapshot voter n ≡ true) (sym (eqb-true pick target e)) t))),
      refl,
      eqb-true pick target e,
    )
    at (inr f) more = let before = more (sym (ap (λ b. b || has picks target) f) ∙ h) in
        (before.0, in_left (rises_after snapshot picks) (rises_now pick picks) before.0 before.1, before.2, before.3)

  -- ---- the parts of rises
  no_part : (whole voter height : ℕ) → height ≡ 0 → part snapshot whole voter height ≡ 0
  no_part whole voter height e = ap (λ n. n / whole) (nothing (stake_of snapshot voter) height e) ∙ zero-div whole where
    nothing : (a b : ℕ) → b ≡ 0 → a * b ≡ 0
    nothing a b e = ap (λ n. a * n) e ∙ omega arith

  not_raised : (pick : ℕ) (picks : List ℕ) (voter : ℕ) → nominates snapshot voter pick ≡ false → rise snapshot picks pick voter ≡ 0
  not_raised pick picks voter f = omega (arith, load_stays snapshot pick picks voter f)

  now_parts : (pick : ℕ) (picks : List ℕ) (whole last voter : ℕ) → voter < length snapshot.voters → earlier_parts snapshot whole last (rises_now pick picks) voter
      ≡ cond (not (nat_eq pick last)) (part snapshot whole voter (rise snapshot picks pick voter)) 0
  now_parts pick picks whole last voter h =
      sum_filter_map (λ (note : Rise). nat_eq note.voter voter && not (nat_eq note.target last)) (λ (note : Rise). part snapshot whole voter note.height)
      (rise_of (load picks) pick (score snapshot (load picks) pick)) (nominators snapshot pick)
      ∙ sum_same (λ n. cond (nat_eq n voter && not (nat_eq pick last)) (part_from n) 0) (λ n. cond (nat_eq n voter) (cond (not (nat_eq pick last)) (part_from n) 0) 0)
      (λ n. nested (nat_eq n voter) (not (nat_eq pick last)) (part_from n)) (nominators snapshot pick)
      ∙ one_nominator snapshot (λ n. cond (not (nat_eq pick last)) (part_from n) 0) voter pick h
      ∙ at (cases_Bool (nominates snapshot voter pick))
    where
      part_from : ℕ → ℕ
      part_from n = part snapshot whole voter (score snapshot (load picks) pick - load picks n)

      nested : (a b : Bool) (n : ℕ) → cond (a && b) n 0 ≡ cond a (cond b n 0) 0
      nested true b n = refl
      nested false b n = refl

      nothing : (b : Bool) → zero ≡ cond b zero zero
      nothing true = refl
      nothing false = refl

      at : (nominates snapshot voter pick ≡ true) ⊎ (nominates snapshot voter pick ≡ false) → cond (nominates snapshot voter pick) (cond (not (nat_eq pick last)) (part_from voter) 0) 0
          ≡ cond (not (nat_eq pick last)) (part snapshot whole voter (rise snapshot picks pick voter)) 0
      at (inl t) = cond-true (nominates snapshot voter pick) (cond (not (nat_eq pick last)) (part_from voter) 0) 0 t
          ∙ ap (λ n. cond (not (nat_eq pick last)) (part snapshot whole voter (n - load picks voter)) 0) (sym (now_loaded snapshot pick picks voter t))
      at (inr f) = cond-false (nominates snapshot voter pick) (cond (not (nat_eq pick last)) (part_from voter) 0) 0 f ∙ nothing (not (nat_eq pick last))
          ∙ ap (λ n. cond (not (nat_eq pick last)) n 0) (sym (no_part whole voter (rise snapshot picks pick voter) (not_raised pick picks voter f)))

  with_now : (pick : ℕ) (picks : List ℕ) (whole last voter : ℕ) → voter < length snapshot.voters → earlier_parts snapshot whole last (rises_after snapshot (pick ∷ picks)) voter
      ≡ earlier_parts snapshot whole last (rises_after snapshot picks) voter + cond (not (nat_eq pick last)) (part snapshot whole voter (rise snapshot picks pick voter)) 0
  with_now pick picks whole last voter h =
      ap (sum_by (λ (note : Rise). part snapshot whole voter note.height))
      (filter-append (λ (note : Rise). nat_eq note.voter voter && not (nat_eq note.target last)) (rises_after snapshot picks) (rises_now pick picks))
      ∙ sum_by-append (λ (note : Rise). part snapshot whole voter note.height) (filter (λ (note : Rise). nat_eq note.voter voter && not (nat_eq note.target last)) (rises_after snapshot picks))
      (filter (λ (note : Rise). nat_eq note.voter voter && not (nat_eq note.target last)) (rises_now pick picks))
      ∙ ap (λ n. earlier_parts snapshot whole last (rises_after snapshot picks) voter + n) (now_parts pick picks whole last voter h)

  all_parts : (picks : List ℕ) (whole last voter : ℕ) → voter < length snapshot.voters → has picks last ≡ false
      → earlier_parts snapshot whole last (rises_after snapshot picks) voter ≡ parts snapshot whole picks voter
  all_parts [] whole last voter h out = refl
  all_parts (pick ∷ picks) whole last voter h out = let away = apart pick picks last out in
      with_now pick picks whole last voter h
      ∙ ap (λ b. earlier_parts snapshot whole last (rises_after snapshot picks) voter + cond (not b) (part snapshot whole voter (rise snapshot picks pick voter)) 0) away.0
      ∙ omega (arith, all_parts picks whole last voter h away.1)

  last_parts : (pick : ℕ) (picks : List ℕ) → has picks pick ≡ false → (whole voter : ℕ) → voter < length snapshot.voters
      → earlier_parts snapshot whole pick (rises_after snapshot (pick ∷ picks)) voter ≡ parts snapshot whole picks voter
  last_parts pick picks out whole voter h = with_now pick picks whole pick voter h
      ∙ ap (λ b. earlier_parts snapshot whole pick (rises_after snapshot picks) voter + cond (not b) (part snapshot whole voter (rise snapshot picks pick voter)) 0) (eq-eqb pick pick refl)
      ∙ omega (arith, all_parts picks whole pick voter h out)

  same_parts : (pick : ℕ) (picks : List ℕ) (whole last voter : ℕ) → voter < length snapshot.voters → nominates snapshot voter pick ≡ false
      → earlier_parts snapshot whole last (rises_after snapshot (pick ∷ picks)) voter ≡ earlier_parts snapshot whole last (rises_after snapshot picks) voter
  same_parts pick picks whole last voter h f = with_now pick picks whole last voter h
      ∙ ap (λ n. earlier_parts snapshot whole last (rises_after snapshot picks) voter + cond (not (nat_eq pick last))
      n 0) (no_part whole voter (rise snapshot picks pick voter) (not_raised pick picks voter f))
      ∙ nothing (not (nat_eq pick last)) (earlier_parts snapshot whole last (rises_after snapshot picks) voter)
    where
      nothing : (b : Bool) (n : ℕ) → n + cond b 0 0 ≡ n
      nothing true n = omega arith
      nothing false n = omega arith

  abbrev pub earlier : List ℕ → ℕ → ℕ
  earlier picks voter = earlier_parts snapshot (load picks voter) (last_after snapshot picks voter) (rises_after snapshot picks) voter

  earlier_now : (pick : ℕ) (picks : List ℕ) → has picks pick ≡ false → (voter : ℕ) → voter < length snapshot.voters → nominates snapshot voter pick ≡ true
      → earlier (pick ∷ picks) voter ≡ parts snapshot (load (pick ∷ picks) voter) picks voter
  earlier_now pick picks out voter h t =
      ap (λ n. earlier_parts snapshot (load (pick ∷ picks) voter) n (rises_after snapshot (pick ∷ picks)) voter) (cond-true (nominates snapshot voter pick) pick (last_after snapshot picks voter) t)
      ∙ last_parts pick picks out (load (pick ∷ picks) voter) voter h

  earlier_before : (pick : ℕ) (picks : List ℕ) (voter : ℕ) → voter < length snapshot.voters → nominates snapshot voter pick ≡ false → earlier (pick ∷ picks) voter ≡ earlier picks voter
  earlier_before pick picks voter h f =
      same_parts pick picks (load (pick ∷ picks) voter) (last_after snapshot (pick ∷ picks) voter) voter h f
      ∙ ap (λ n. earlier_parts snapshot n (last_after snapshot (pick ∷ picks) voter) (rises_after snapshot picks) voter) (load_stays snapshot pick picks voter f)
      ∙ ap (λ n. earlier_parts snapshot (load picks voter) n (rises_after snapshot picks) voter) (cond-false (nominates snapshot voter pick) pick (last_after snapshot picks voter) f)

  parts_leave : (pick : ℕ) (picks : List ℕ) → AreRun snapshot (pick ∷ picks) → (voter : ℕ) → nominates snapshot voter pick ≡ true
      → parts snapshot (load (pick ∷ picks) voter) picks voter ≤ stake_of snapshot voter
  parts_leave pick picks run voter t = parts_within snapshot (load (pick ∷ picks) voter) (omega (arith, now_loaded snapshot pick picks voter t, score_some snapshot picks pick))
      picks run.1 voter (load_up snapshot pick picks run voter)

  pub earlier_within : (picks : List ℕ) → AreRun snapshot picks → (voter : ℕ) → voter < length snapshot.voters → earlier picks voter ≤ stake_of snapshot voter
  earlier_within [] run voter h = omega arith
  earlier_within (pick ∷ picks) run voter h = elim (cases_Bool (nominates snapshot voter pick)) [
    | inl t ↦ omega (arith, earlier_now pick picks run.0.is_outside voter h t, parts_leave pick picks run voter t)
    | inr f ↦ omega (arith, earlier_before pick picks voter h f, earlier_within picks run.1 voter h)
  ]

  -- each rise gives what its target is given
  pub gift_is : (picks : List ℕ) → AreRun snapshot picks → (note : Rise) → In (rises_after snapshot picks) note
      → gift snapshot (load picks) (last_after snapshot picks) (λ voter. stake_of snapshot voter - earlier picks voter) note ≡ given snapshot picks note.voter note.target
  gift_is [] run note h = absurd h
  gift_is (pick ∷ picks) run note h = at (cases_Bool (nominates snapshot note.voter pick)) (λ k. gift_is picks run.1 note k) where
    is : IsNote (pick ∷ picks) note
    is = note_is (pick ∷ picks) run note h

    whole : ℕ
    whole = load (pick ∷ picks) note.voter

    choice : ℕ → ℕ → ℕ → ℕ
    choice last rest n = cond (nat_eq note.target last) (stake_of snapshot note.voter - rest) n

    inner : (pick ≡ note.target) ⊎ (pick ≡ note.target → ⊥)
        → cond (nat_eq note.target pick) (stake_of snapshot note.voter - parts snapshot whole picks note.voter) (part snapshot whole note.voter note.height)
        ≡ cond (nat_eq pick note.target) (stake_of snapshot note.voter - parts snapshot whole picks note.voter) (part_to snapshot whole picks note.voter note.target)
    inner (inl e) = cond-true (nat_eq note.target pick) (stake_of snapshot note.voter - parts snapshot whole picks
        note.voter) (part snapshot whole note.voter note.height) (eq-eqb note.target pick (sym e))
        ∙ sym (cond-true (nat_eq pick note.target) (stake_of snapshot note.voter - parts snapshot whole picks
        note.voter) (part_to snapshot whole picks note.voter note.target) (eq-eqb pick note.target e))
    inner (inr d) = cond-false (nat_eq note.target pick) (stake_of snapshot note.voter - parts snapshot whole picks
        note.voter) (part snapshot whole note.voter note.height) (ne_eqb note.target pick (λ e. d (sym e)))
        ∙ sym (is.parted whole)
        ∙ cond-false (nat_eq pick note.target) (part snapshot whole note.voter (rise snapshot picks pick note.voter)) (part_to snapshot whole picks note.voter note.target) (ne_eqb pick note.target d)
        ∙ sym (cond-false (nat_eq pick note.target) (stake_of snapshot note.voter - parts snapshot whole picks
        note.voter) (part_to snapshot whole picks note.voter note.target) (ne_eqb pick note.target d))

    earlier_note : nominates snapshot note.voter pick ≡ false → In (rises_after snapshot picks) note
    earlier_note f = there (in_either (rises_after snapshot picks) (rises_now pick picks) note h) where
      there : In (rises_after snapshot picks) note ⊎ In (rises_now pick picks) note → In (rises_after snapshot picks) note
      there (inl l) = l
      there (inr r) = absurd (true≢false (sym is.nominated ∙ ap (nominates snapshot note.voter) (now_is pick picks run note r).1 ∙ f))

    at : (nominates snapshot note.voter pick ≡ true) ⊎ (nominates snapshot note.voter pick ≡ false)
        → (In (rises_after snapshot picks) note
        → gift snapshot (load picks) (last_after snapshot picks) (λ v. stake_of snapshot v - earlier picks v) note ≡ given snapshot picks note.voter note.target)
        → gift snapshot (load (pick ∷ picks)) (last_after snapshot (pick ∷ picks)) (λ v. stake_of snapshot v - earlier (pick ∷ picks) v) note ≡ given snapshot (pick ∷ picks) note.voter note.target
    at (inl t) before =
        ap (λ n. choice (last_after snapshot (pick ∷ picks) note.voter) n (part snapshot whole note.voter note.height)) (earlier_now pick picks run.0.is_outside note.voter is.voter_in_range t)
        ∙ ap (λ n. choice n (parts snapshot whole picks note.voter) (part snapshot whole note.voter note.height))
        (cond-true (nominates snapshot note.voter pick) pick (last_after snapshot picks note.voter) t)
        ∙ inner (cases_eq pick note.target)
        ∙ sym (cond-true (nominates snapshot note.voter pick)
        (cond (nat_eq pick note.target) (stake_of snapshot note.voter - parts snapshot whole picks note.voter)
        (part_to snapshot whole picks note.voter note.target)) (given snapshot picks note.voter note.target) t)
    at (inr f) before =
        ap (λ n. choice (last_after snapshot (pick ∷ picks) note.voter) n (part snapshot whole note.voter note.height)) (earlier_before pick picks note.voter is.voter_in_range f)
        ∙ ap (λ n. choice n (earlier picks note.voter) (part snapshot whole note.voter note.height)) (cond-false (nominates snapshot note.voter pick) pick (last_after snapshot picks note.voter) f)
        ∙ ap (λ n. choice (last_after snapshot picks note.voter) (earlier picks note.voter) (part snapshot n note.voter note.height)) (load_stays snapshot pick picks note.voter f)
        ∙ before (earlier_note f)
        ∙ sym (cond-false (nominates snapshot note.voter pick)
        (cond (nat_eq pick note.target) (stake_of snapshot note.voter - parts snapshot whole picks note.voter)
        (part_to snapshot whole picks note.voter note.target)) (given snapshot picks note.voter note.target) f)

  -- ---- what a voter gives in all
  pub part_member : (whole : ℕ) (picks : List ℕ) (voter target : ℕ) → 0 < part_to snapshot whole picks voter target → (has picks target ≡ true) × (nominates snapshot voter target ≡ true)
  part_member whole [] voter target h = absurd (omega (arith, h))
  part_member whole (pick ∷ picks) voter target h = at (cases_Bool (nat_eq pick target)) (λ k. part_member whole picks voter target k) where
    at : (nat_eq pick target ≡ true) ⊎ (nat_eq pick target ≡ false)
        → (0 < part_to snapshot whole picks voter target → (has picks target ≡ true) × (nominates snapshot voter target ≡ true))
        → (has (pick ∷ picks) target ≡ true) × (nominates snapshot voter target ≡ true)
    at (inl e) before = (
      or_left (nat_eq pick target) (has picks target) e,
      subst (λ n. nominates snapshot voter n
          ≡ true) (eqb-true pick target e) (here (cases_Bool (nominates snapshot voter pick))),
    ) where
      here : (nominates snapshot voter pick ≡ true) ⊎ (nominates snapshot voter pick ≡ false) → nominates snapshot voter pick ≡ true
      here (inl t) = t
      here (inr f) = absurd (omega (
        arith,
        h,
        cond-true (nat_eq pick target) (part snapshot whole voter (rise snapshot picks pick voter)) (part_to snapshot whole picks voter target) e,
        no_part whole voter (rise snapshot picks pick voter) (not_raised pick picks voter f),
      ))
    at (inr f) before = let rest = before (omega (
      arith,
      h,
      cond-false (nat_eq pick target) (part snapshot whole voter (rise snapshot picks pick voter)) (part_to snapshot whole picks voter target) f,
    )) in (or_right (nat_eq pick target) (has picks target) rest.0, rest.1)

  pub given_member : (picks : List ℕ) (voter target : ℕ) → 0 < given snapshot picks voter target → (has picks target ≡ true) × (nominates snapshot voter target ≡ true)
  given_member [] voter target h = absurd (omega (arith, h))
  given_member (pick ∷ picks) voter target h = at (cases_Bool (nominates snapshot voter pick)) (cases_Bool (nat_eq pick target)) (λ k. given_member picks voter target k) where
    rest : ℕ
    rest = stake_of snapshot voter - parts snapshot (load (pick ∷ picks) voter) picks voter

    more : ℕ
    more = part_to snapshot (load (pick ∷ picks) voter) picks voter target

    at : (nominates snapshot voter pick ≡ true) ⊎ (nominates snapshot voter pick ≡ false) → (nat_eq pick target ≡ true) ⊎ (nat_eq pick target ≡ false)
        → (0 < given snapshot picks voter target → (has picks target ≡ true) × (nominates snapshot voter target ≡ true))
        → (has (pick ∷ picks) target ≡ true) × (nominates snapshot voter target ≡ true)
    at (inl t) (inl e) before = (or_left (nat_eq pick target) (has picks target) e, subst (λ n. nominates snapshot voter n ≡ true) (eqb-true pick target e) t)
    at (inl t) (inr f) before = let there = part_member (load (pick ∷ picks) voter) picks voter target (omega (
      arith,
      h,
      cond-true (nominates snapshot voter pick) (cond (nat_eq pick target) rest more) (given snapshot picks voter target) t,
      cond-false (nat_eq pick target) rest more f,
    )) in (or_right (nat_eq pick target) (has picks target) there.0, there.1)
    at (inr f) _ before = let there = before (omega (arith, h, cond-false (nominates snapshot voter pick) (cond (nat_eq pick target) rest more) (given snapshot picks voter target) f)) in
        (or_right (nat_eq pick target) (has picks target) there.0, there.1)

  abbrev targets : List ℕ
  targets = range_with_len 0 (length snapshot.targets)

  no_part_outside : (whole : ℕ) (picks : List ℕ) (voter target : ℕ) → has picks target ≡ false → part_to snapshot whole picks voter target ≡ 0
  no_part_outside whole [] voter target out = refl
  no_part_outside whole (pick ∷ picks) voter target out = let away = apart pick picks target out in
      cond-false (nat_eq pick target) (part snapshot whole voter (rise snapshot picks pick voter)) (part_to snapshot whole picks voter target) away.0
      ∙ no_part_outside whole picks voter target away.1

  -- one more number with a value of its own
  one_more : (f g : ℕ → ℕ) (pick value : ℕ) → pick < length snapshot.targets → f pick ≡ value → g pick ≡ 0 → ((target : ℕ) → nat_eq pick target ≡ false → f target ≡ g target)
      → sum_by f targets ≡ value + sum_by g targets
  one_more f g pick value h here none other =
      sum_same f (λ target. cond (nat_eq target pick) value 0 + g target) at targets
      ∙ sum_of_sums (λ target. cond (nat_eq target pick) value 0) g targets
      ∙ ap (λ n. n + sum_by g targets) (only_one (λ _. value) pick 0 (length snapshot.targets) (omega arith) (omega (arith, h)))
    where
      at : (target : ℕ) → f target ≡ cond (nat_eq target pick) value 0 + g target
      at target = elim (cases_eq pick target) [
        | inl e ↦ sym (ap f e) ∙ here ∙ omega (arith, cond-true (nat_eq target pick) value 0 (eq-eqb target pick (sym e)), sym (ap g e), none)
        | inr d ↦ other target (ne_eqb pick target d) ∙ omega (arith, cond-false (nat_eq target pick) value 0 (ne_eqb target pick (λ e. d (sym e))))
      ]

  parts_in_all : (whole : ℕ) (picks : List ℕ) → AreRun snapshot picks → (voter : ℕ) → sum_by (part_to snapshot whole picks voter) targets ≡ parts snapshot whole picks voter
  parts_in_all whole [] run voter = sum_of_none targets
  parts_in_all whole (pick ∷ picks) run voter =
      let now = part snapshot whole voter (rise snapshot picks pick voter) in
      one_more (part_to snapshot whole (pick ∷ picks) voter) (part_to snapshot whole picks voter) pick now run.0.in_range
      (cond-true (nat_eq pick pick) now (part_to snapshot whole picks voter pick) (eq-eqb pick pick refl))
      (no_part_outside whole picks voter pick run.0.is_outside)
      (λ target f. cond-false (nat_eq pick target) now (part_to snapshot whole picks voter target) f)
      ∙ ap (λ n. now + n) (parts_in_all whole picks run.1 voter)

  pub given_in_all : (picks : List ℕ) → AreRun snapshot picks → (voter : ℕ) → sum_by (given snapshot picks voter) targets ≤ stake_of snapshot voter
  given_in_all [] run voter = omega (arith, sum_of_none targets)
  given_in_all (pick ∷ picks) run voter = at (cases_Bool (nominates snapshot voter pick)) (given_in_all picks run.1 voter) where
    whole : ℕ
    whole = load (pick ∷ picks) voter

    rest : ℕ
    rest = stake_of snapshot voter - parts snapshot (load (pick ∷ picks) voter) picks voter

    now : ℕ → ℕ
    now target = cond (nat_eq pick target) rest (part_to snapshot whole picks voter target)

    at : (nominates snapshot voter pick ≡ true) ⊎ (nominates snapshot voter pick ≡ false) → sum_by (given snapshot picks voter) targets ≤ stake_of snapshot voter
        → sum_by (given snapshot (pick ∷ picks) voter) targets ≤ stake_of snapshot voter
    at (inl t) before = omega (
      arith,
      sum_same (given snapshot (pick ∷ picks) voter) now (λ target. cond-true (nominates snapshot voter pick) (now target) (given snapshot picks voter target) t) targets,
      one_more now (part_to snapshot whole picks voter) pick rest run.0.in_range (cond-true (nat_eq pick pick) rest (part_to snapshot whole picks voter pick) (eq-eqb pick pick refl))
          (no_part_outside whole picks voter pick run.0.is_outside) (λ target f. cond-false (nat_eq pick target) rest (part_to snapshot whole picks voter target) f),
      parts_in_all whole picks run.1 voter,
      parts_leave pick picks run voter t,
    )
    at (inr f) before = omega (
      arith,
      sum_same (given snapshot (pick ∷ picks) voter) (given snapshot picks voter) (λ target. cond-false (nominates snapshot voter pick) (now target) (given snapshot picks voter target) f) targets,
      before,
    )
