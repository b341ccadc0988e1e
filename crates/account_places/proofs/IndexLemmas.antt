-- Accounts are found after one more was noted.
use Rattle.std.proofs.Common.{◌≡◌, ◌≢◌, ◌∙◌, inl, inr, ℕ, zero, suc, ◌+◌, ◌<◌, ◌≤◌, List, [], ◌∷◌, ◌++◌, length}
use Rattle.std.proofs.Common.{slice_get, slice_set, Some, ap, refl, sym, subst, arith, get_or-set_same, get_or-set_other}
use Rattle.std.proofs.lemmas.Bool.{cases_eq, cases_lt}
use Rattle.std.proofs.lemmas.Option.{same_Some, slice_get_within}
use Rattle.std.specs.BTreeMap.{insert_entry}
use Rattle.npos_base.specs.declared.account.AccountId.{AccountId}
use Rattle.npos_base.specs.Account.{account_cmp}
use Rattle.npos_base.proofs.AccountOrder.{account_total, account_apart}
use Rattle.npos_base.proofs.EntryLemmas.{lookup_put, lookup_other}
use Rattle.account_places.specs.Places.{place_in}
use Rattle.account_places.specs.Index.{slot_in, tag_in, mark_at, AreTaken, AreFilled, IsFree, IsMark, IsMarked, IsFound, Finds, StandOnce}
use Rattle.account_places.proofs.StandLemmas.{slice_left, slice_cases, put_cases}

-- slots that were looked at: none is free, and none has the mark of a place where the account stands
abbrev pub IsPassed : List ℕ → List AccountId → AccountId → ℕ → ℕ → ℕ → Type 0
IsPassed slots accounts who tag first end = (slot : ℕ) → first ≤ slot → slot < end
    → (mark_at slots slot ≢ 0) × ((place : ℕ) → IsMark tag place (mark_at slots slot) → slice_get accounts place ≢ Some who)

marked : (slots : List ℕ) (slot : ℕ) → mark_at slots slot ≡ 0 → slot < length slots
marked [] slot e = omega (arith, e)
marked (mark ∷ slots) zero e = omega arith
marked (mark ∷ slots) (suc slot) e = omega (arith, marked slots slot e)

module _ (slots : List ℕ) (count : ℕ) (crowd : List (AccountId × ℕ)) (accounts : List AccountId) (who : AccountId)
    (place : ℕ) (here : slice_get accounts place ≡ Some who) (finds : Finds slots count crowd accounts place) where
  -- the account marks a free slot
  module _ (slot mark : ℕ) (free : IsFree slots (slot_in count who) slot) (is : IsMark (tag_in count who) place mark) where
    apart : (other : ℕ) → mark_at slots other ≢ 0 → mark_at (slice_set slots slot mark) other ≡ mark_at slots other
    apart other taken = get_or-set_other slots slot other mark 1 (λ e. taken (ap (mark_at slots) e ∙ free.free))

    taken_still : (first end : ℕ) → AreTaken slots first end → AreTaken (slice_set slots slot mark) first end
    taken_still first end taken other after before e = taken other after before (sym (apart other (taken other after before)) ∙ e)

    before_slot : (q : AccountId) (p : ℕ) → IsFound slots count crowd q p → IsFound (slice_set slots slot mark) count crowd q p
    before_slot q p (inl (other, m)) = inl (
      other,
      record {
        after = m.after;
        before = m.before;
        mark = subst (IsMark (tag_in count q) p) (sym (apart other m.mark.taken)) m.mark;
        taken = taken_still (slot_in count q) other m.taken;
      },
    )
    before_slot q p (inr crowded) = inr (record {
      taken = taken_still (slot_in count q) (slot_in count q + 4) crowded.taken;
      told = crowded.told;
    })

    mine : IsMarked (slice_set slots slot mark) (slot_in count who) (tag_in count who) place slot
    mine = record {
      after = free.after;
      before = free.before;
      mark = subst (IsMark (tag_in count who) place) (sym (get_or-set_same slots slot mark 1 (marked slots slot free.free))) is;
      taken = taken_still (slot_in count who) slot free.taken;
    }

    pub finds_slot : Finds (slice_set slots slot mark) count crowd accounts (place + 1)
    finds_slot = record {
      found = λ q p lt at. elim (cases_eq p place) [
        | inl same ↦
            let one : q ≡ who = same_Some q who (sym at ∙ ap (slice_get accounts) same ∙ here) in
            subst (λ a. IsFound (slice_set slots slot mark) count crowd a p) (sym one) (subst (λ n. IsFound (slice_set slots slot mark) count crowd who n) (sym same) (inl (slot, mine)))
        | inr differs ↦ before_slot q p (finds.found q p (omega (arith, lt, differs)) at)
      ];
      standing = finds.standing;
    }

  -- or joins the crowd, with all of its slots filled
  module _ (filled : List ℕ) (fills : AreFilled slots filled (slot_in count who) (slot_in count who + 4)) (alone : StandOnce accounts) where
    taken_then : (first end : ℕ) → AreTaken slots first end → AreTaken filled first end
    taken_then first end taken other after before e = taken other after before (sym (fills.kept other (taken other after before)) ∙ e)

    before_crowd : (q : AccountId) (p : ℕ) → q ≢ who → IsFound slots count crowd q p → IsFound filled count (insert_entry account_cmp crowd who place) q p
    before_crowd q p differ (inl (other, m)) = inl (
      other,
      record {
        after = m.after;
        before = m.before;
        mark = subst (IsMark (tag_in count q) p) (sym (fills.kept other m.mark.taken)) m.mark;
        taken = taken_then (slot_in count q) other m.taken;
      },
    )
    before_crowd q p differ (inr crowded) = inr (record {
      taken = taken_then (slot_in count q) (slot_in count q + 4) crowded.taken;
      told = lookup_other account_total who place q crowd (account_apart q who differ) ∙ crowded.told;
    })

    pub finds_crowd : Finds filled count (insert_entry account_cmp crowd who place) accounts (place + 1)
    finds_crowd = record {
      found = λ q p lt at. elim (cases_eq p place) [
        | inl same ↦
            let one : q ≡ who = same_Some q who (sym at ∙ ap (slice_get accounts) same ∙ here) in
            subst (λ a. IsFound filled count (insert_entry account_cmp crowd who place) a p) (sym one)
            (inr (record {
              taken = fills.taken;
              told = lookup_put account_total who place crowd
                  ∙ ap (λ n. Some n) (sym same);
            }))
        | inr differs ↦ before_crowd q p (λ e. differs (alone q p place at (here ∙ ap (λ a. Some a) (sym e)))) (finds.found q p (omega (arith, lt, differs)) at)
      ];
      standing = λ q p there. put_cases crowd who q place p there (slice_get accounts p ≡ Some q)
          (λ same is. ap (slice_get accounts) is ∙ here ∙ ap (λ a. Some a) (sym same))
          (λ differ before. finds.standing q p before);
    }

-- who is found among some accounts is found where one more stands behind them
pub finds_before : (slots : List ℕ) (count : ℕ) (crowd : List (AccountId × ℕ)) (accounts : List AccountId) (who : AccountId) → Finds slots count crowd accounts (length accounts)
    → Finds slots count crowd (accounts ++ who ∷ []) (length accounts)
finds_before slots count crowd accounts who finds = record {
  found = λ q p lt at. slice_cases accounts who p q at (IsFound slots count crowd q p) (λ before. finds.found q p lt before) (λ _ is. absurd (omega (arith, lt, is)));
  standing = λ q p there. slice_left accounts who p q (finds.standing q p there);
}

-- none of the slots is looked at yet
pub filled_none : (slots : List ℕ) (first : ℕ) → AreFilled slots slots first first
filled_none slots first = record {
  taken = λ slot after before. absurd (omega (arith, after, before));
  kept = λ slot taken. refl;
}

-- one slot more is taken
pub filled_taken : (old new : List ℕ) (first end : ℕ) → AreFilled old new first end → mark_at new end ≢ 0 → AreFilled old new first (end + 1)
filled_taken old new first end filled taken = record {
  taken = λ slot after before. elim (cases_eq slot end) [
    | inl same ↦ λ e. taken (sym (ap (mark_at new) same) ∙ e)
    | inr differs ↦ filled.taken slot after (omega (arith, before, differs))
  ];
  kept = filled.kept;
}

-- a free one is filled
pub filled_free : (old new : List ℕ) (first end : ℕ) → AreFilled old new first end → mark_at new end ≡ 0 → AreFilled old (slice_set new end 1) first (end + 1)
filled_free old new first end filled free = record {
  taken = λ slot after before. elim (cases_eq slot end) [
    | inl same ↦ λ e. omega (arith, sym (get_or-set_same new end 1 1 (marked new end free)) ∙ sym (ap (mark_at (slice_set new end 1)) same) ∙ e)
    | inr differs ↦ λ e. filled.taken slot after (omega (arith, before, differs)) (sym (get_or-set_other new end slot 1 1 differs) ∙ e)
  ];
  kept = λ slot taken. get_or-set_other new end slot 1 1 (λ e. taken (sym (filled.kept slot taken) ∙ ap (mark_at new) e ∙ free)) ∙ filled.kept slot taken;
}

module _ (slots : List ℕ) (count : ℕ) (crowd : List (AccountId × ℕ)) (accounts : List AccountId) (who : AccountId)
    (place : ℕ) (finds : Finds slots count crowd accounts (length accounts)) (at : slice_get accounts place
    ≡ Some who) where
  -- who has a free slot behind those that were looked at stands nowhere
  pub free_absent : (slot : ℕ) → IsPassed slots accounts who (tag_in count who) (slot_in count who) slot → slot_in count who ≤ slot → slot < slot_in count who + 4 → mark_at slots slot ≡ 0 → ⊥
  free_absent slot passed after before free = elim (finds.found who place (slice_get_within accounts place who at) at) [
    | inl (other, m) ↦ elim (cases_lt other slot) [
      | inl lt ↦ (passed other m.after lt).1 place m.mark at
      | inr le ↦ elim (cases_eq other slot) [
        | inl same ↦ m.mark.taken (ap (mark_at slots) same ∙ free)
        | inr differs ↦ m.taken slot after (omega (arith, le, differs)) free
      ]
    ]
    | inr crowded ↦ crowded.taken slot after before free
  ]

  -- of whom no slot tells, the crowd does
  pub crowd_told : IsPassed slots accounts who (tag_in count who) (slot_in count who) (slot_in count who + 4) → place_in crowd who ≡ Some place
  crowd_told passed = elim (finds.found who place (slice_get_within accounts place who at) at) [
    | inl (other, m) ↦ absurd ((passed other m.after m.before).1 place m.mark at)
    | inr crowded ↦ crowded.told
  ]
