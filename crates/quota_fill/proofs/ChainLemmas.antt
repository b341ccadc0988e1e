-- Links from each nominator to the next, as they are made from the last voter to the first.
use Rattle.std.proofs.Common.{◌≡◌, ℕ, zero, suc, ◌+◌, ◌-◌, ◌<◌, ◌≤◌, ◌⊎◌, Bool, true, false, cond, nat_eq, List, [], ◌∷◌, length}
use Rattle.std.proofs.Common.{take, get_or, set, filter, Some, slice_get, All, inl, inr, refl, ap, sym, subst, ◌∙◌, arith}
use Rattle.std.specs.List.{range_with_len, IsDistinct}
use Rattle.std.proofs.lemmas.Bool.{cases_Bool, cases_eq, cases_lt, cond-true, cond-false, eq-eqb, eqb-true, true≢false}
use Rattle.std.proofs.lemmas.Bool.Decides.{Decides-eqb}
use Rattle.std.proofs.lemmas.List.{get_or-set_same, get_or-set_other, length-set}
use Rattle.std.proofs.lemmas.Map.Made.{AllPairs-from_IsDistinct}
use Rattle.std.proofs.lemmas.List.Folds.{list_any_at}
use Rattle.std.proofs.lemmas.Option.{get_or_from_slice_get, slice_get_within}
use Rattle.election_snapshot.specs.Snapshot.{Snapshot, has, nominates, votes_of}
use Rattle.weight_book.specs.Passing.{nominators}
use Rattle.seat_race.proofs.NominatorLemmas.{nominates_in_range}
use Rattle.seat_race.specs.Tables.{says}
use Rattle.seat_race.proofs.TableLemmas.{fresh, now_there, still_there}
use Rattle.quota_fill.specs.declared.chains.Link.{Link}
use Rattle.quota_fill.specs.Chains.{nowhere, nominators_from, IsAt, Leads, AreStarts, AreChained}

-- the nominations of a voter end before those of a higher one begin
pub starts_rise : (snapshot : Snapshot) (starts : List ℕ) (voter other : ℕ) → AreStarts snapshot starts → voter < other → other ≤ length snapshot.voters
    → says starts voter + length (votes_of snapshot voter) ≤ says starts other
starts_rise snapshot starts voter zero are below within = absurd (omega (arith, below))
starts_rise snapshot starts voter (suc other) are below within = rw (more other) (elim (cases_lt voter other) [
  | inl l ↦ omega (arith, starts_rise snapshot starts voter other are l (omega (arith, within)), are.behind other (omega (arith, within)))
  | inr l ↦ let same : other ≡ voter = omega (arith, below, l) in rw same (omega (arith, are.behind voter (omega (arith, within, same))))
]) where
  more : (n : ℕ) → suc n ≡ n + 1
  more n = omega arith

-- ---- one voter's nominations
module _ (votes : List ℕ) (voter start : ℕ) (old_firsts old_nexts : List Link) where
  -- the first of the voter's nominations are linked
  pub record IsLinking (i : ℕ) (firsts nexts : List Link) : Type 0 where
    pub firsts_size : length firsts ≡ length old_firsts
    pub nexts_size : length nexts ≡ length old_nexts
    pub others : (target : ℕ) → has (take i votes) target ≡ false → get_or firsts target nowhere ≡ get_or old_firsts target nowhere
    pub here : (place target : ℕ) → place < i → slice_get votes place ≡ Some target → get_or firsts target nowhere ≡ record { voter = voter; place = place }
    pub linked : (place target : ℕ) → place < i → slice_get votes place ≡ Some target → get_or nexts (start + place) nowhere ≡ get_or old_firsts target nowhere
    pub kept : (slot : ℕ) → start + length votes ≤ slot → get_or nexts slot nowhere ≡ get_or old_nexts slot nowhere

  module _ (distinct : IsDistinct nat_eq votes) (i d : ℕ) (h : i < length votes) (firsts nexts : List Link) (within : get_or votes i d < length old_firsts)
      (room : start + length votes ≤ length old_nexts) (so_far : IsLinking i firsts nexts) where
    abbrev named : ℕ
    named = get_or votes i d

    abbrev to_here : Link
    to_here = record { voter = voter; place = i }

    at_last : (place other : ℕ) → (place < i + 1) → (i ≤ place) → slice_get votes place ≡ Some other → (place ≡ i) × (other ≡ named)
    at_last place other below above at =
        let same : place ≡ i = omega (arith, below, above) in
        (same, sym (get_or_from_slice_get votes place other d at) ∙ ap (λ n. get_or votes n d) same)

    earlier : (place other : ℕ) → place < i → slice_get votes place ≡ Some other → (other ≡ named → ⊥)
    earlier place other below at same =
        AllPairs-from_IsDistinct Decides-eqb votes distinct place i d below h (get_or_from_slice_get votes place other d at ∙ same)

    pub linking_more : IsLinking (i + 1) (set firsts named to_here) (set nexts (start + i) (get_or firsts named nowhere))
    linking_more = record {
      firsts_size = length-set firsts named to_here ∙ so_far.firsts_size;
      nexts_size = length-set nexts (start + i) (get_or firsts named nowhere) ∙ so_far.nexts_size;
      others = λ other free. elim (cases_eq named other) [
        | inl same ↦ absurd (true≢false (sym (now_there votes distinct i d h other same) ∙ free))
        | inr differ ↦ get_or-set_other firsts named other to_here nowhere (λ e. differ (sym e))
            ∙ so_far.others other (sym (still_there votes distinct i d h other differ) ∙ free)
      ];
      here = λ place other below at. elim (cases_lt place i) [
        | inl l ↦ get_or-set_other firsts named other to_here nowhere (earlier place other l at) ∙ so_far.here place other l at
        | inr l ↦
            let is = at_last place other below l at in
            ap (λ n. get_or (set firsts named to_here) n nowhere) is.1
            ∙ get_or-set_same firsts named to_here nowhere (omega (arith, within, so_far.firsts_size))
            ∙ ap (λ n. record { voter = voter; place = n }) (sym is.0)
      ];
      linked = λ place other below at. elim (cases_lt place i) [
        | inl l ↦ get_or-set_other nexts (start + i) (start + place) (get_or firsts named nowhere) nowhere (λ e. apart place l e) ∙ so_far.linked place other l at
        | inr l ↦
            let is = at_last place other below l at in
            ap (λ n. get_or (set nexts (start + i) (get_or firsts named nowhere)) (start + n) nowhere) is.0
            ∙ get_or-set_same nexts (start + i) (get_or firsts named nowhere) nowhere (omega (arith, h, room, so_far.nexts_size))
            ∙ so_far.others named (fresh votes distinct i d h)
            ∙ ap (λ n. get_or old_firsts n nowhere) (sym is.1)
      ];
      kept = λ slot beyond. get_or-set_other nexts (start + i) slot (get_or firsts named nowhere) nowhere (λ e. behind slot beyond e) ∙ so_far.kept slot beyond;
    } where
      apart : (place : ℕ) → place < i → start + place ≡ start + i → ⊥
      apart place l e = omega (arith, l, e)

      behind : (slot : ℕ) → start + length votes ≤ slot → slot ≡ start + i → ⊥
      behind slot beyond e = omega (arith, beyond, e, h)

-- ---- the nominators from a voter on
pub at_nominates : (snapshot : Snapshot) (target : ℕ) (link : Link) → IsAt snapshot target link → nominates snapshot link.voter target ≡ true
at_nominates snapshot target link at =
    list_any_at (λ other. nat_eq other target) (votes_of snapshot link.voter) link.place 0 (slice_get_within (votes_of snapshot link.voter) link.place target at)
    (eq-eqb (get_or (votes_of snapshot link.voter) link.place 0) target (get_or_from_slice_get (votes_of snapshot link.voter) link.place target 0 at))

-- a link that leads to a voter
pub leads_on : (snapshot : Snapshot) (target : ℕ) (link : Link) (leads : Bool) → leads ≡ true → (link.voter ≡ nowhere.voter → leads ≡ false)
    → (link.voter ≡ nowhere.voter) ⊎ IsAt snapshot target link → IsAt snapshot target link
leads_on snapshot target link leads is ends (inl end) = absurd (true≢false (sym is ∙ ends end))
leads_on snapshot target link leads is ends (inr at) = at

-- where a vote stands
stands : (votes : List ℕ) (target : ℕ) → has votes target ≡ true → (place : ℕ) × (slice_get votes place ≡ Some target)
stands [] target h = absurd (true≢false (sym h))
stands (vote ∷ votes) target h = elim (cases_Bool (nat_eq vote target)) [
  | inl t ↦ (0, ap (λ n. Some n) (eqb-true vote target t))
  | inr f ↦ let rest = stands votes target (rw f at h) in (suc rest.0, rest.1)
]

module _ (snapshot : Snapshot) (target : ℕ) where
  abbrev nominated : ℕ → ℕ → List ℕ
  nominated voter count = filter (λ other. nominates snapshot other target) (range_with_len voter count)

  pub all_are_from : nominators snapshot target ≡ nominators_from snapshot target 0
  all_are_from = ap (nominated 0) (all (length snapshot.voters)) where
    all : (count : ℕ) → count ≡ count - 0
    all count = omega arith

  from_here : (voter : ℕ) → voter < length snapshot.voters → nominators_from snapshot target voter
      ≡ cond (nominates snapshot voter target) (voter ∷ nominators_from snapshot target (voter + 1)) (nominators_from snapshot target (voter + 1))
  from_here voter h = ap (nominated voter) (one_less (length snapshot.voters) h) where
    one_less : (count : ℕ) → voter < count → count - voter ≡ suc (count - (voter + 1))
    one_less count h = omega (arith, h)

  pub nominator_first : (voter : ℕ) → nominates snapshot voter target ≡ true → nominators_from snapshot target voter ≡ voter ∷ nominators_from snapshot target (voter + 1)
  nominator_first voter t = from_here voter (nominates_in_range snapshot voter target t)
      ∙ cond-true (nominates snapshot voter target) (voter ∷ nominators_from snapshot target (voter + 1)) (nominators_from snapshot target (voter + 1)) t

  other_skipped : (voter : ℕ) → voter < length snapshot.voters → nominates snapshot voter target ≡ false → nominators_from snapshot target voter ≡ nominators_from snapshot target (voter + 1)
  other_skipped voter h f = from_here voter h
      ∙ cond-false (nominates snapshot voter target) (voter ∷ nominators_from snapshot target (voter + 1)) (nominators_from snapshot target (voter + 1)) f

  pub none_beyond : (voter : ℕ) → length snapshot.voters ≤ voter → nominators_from snapshot target voter ≡ []
  none_beyond voter h = ap (nominated voter) (none_left (length snapshot.voters) h) where
    none_left : (count : ℕ) → count ≤ voter → count - voter ≡ 0
    none_left count h = omega (arith, h)

-- ---- the nominations of all voters
module _ (snapshot : Snapshot) (starts : List ℕ) where
  pub none_chained : (firsts nexts : List Link) → length snapshot.voters ≤ nowhere.voter → ((target : ℕ) → get_or firsts target nowhere ≡ nowhere)
      → AreChained snapshot starts (length snapshot.voters) firsts nexts
  none_chained firsts nexts few free = record {
    firsts_lead = λ target l. subst (Leads snapshot target (length snapshot.voters)) (sym (free target)) record {
      at = inl refl;
      beyond = few;
      skips = none_beyond snapshot target (length snapshot.voters) (omega arith) ∙ sym (none_beyond snapshot target nowhere.voter few);
    };
    nexts_lead = λ other place target beyond at.
        let within = nominates_in_range snapshot other target (at_nominates snapshot target (record { voter = other; place = place }) at) in
        absurd (omega (arith, beyond, within));
  }

  module _ (voter : ℕ) (here : voter < length snapshot.voters) (are_starts : AreStarts snapshot starts)
      (in_range : All (λ vote. vote < length snapshot.targets) (votes_of snapshot voter)) (firsts nexts new_firsts new_nexts : List Link)
      (so_far : AreChained snapshot starts (voter + 1) firsts nexts) where
    pub chained_more : ((target : ℕ) → has (votes_of snapshot voter) target ≡ false → get_or new_firsts target nowhere ≡ get_or firsts target nowhere)
        → ((place target : ℕ) → slice_get (votes_of snapshot voter) place ≡ Some target → get_or new_firsts target nowhere ≡ record { voter = voter; place = place })
        → ((place target : ℕ) → slice_get (votes_of snapshot voter) place ≡ Some target → get_or new_nexts (says starts voter + place) nowhere ≡ get_or firsts target nowhere)
        → ((slot : ℕ) → says starts voter + length (votes_of snapshot voter) ≤ slot → get_or new_nexts slot nowhere ≡ get_or nexts slot nowhere)
        → AreChained snapshot starts voter new_firsts new_nexts
    chained_more others first linked kept = record {
      firsts_lead = λ target l. elim (cases_Bool (nominates snapshot voter target)) [
        | inl t ↦
            let (place, at) = stands (votes_of snapshot voter) target t in
            subst (Leads snapshot target voter) (sym (first place target at)) record { at = inr at; beyond = omega arith; skips = refl }
        | inr f ↦
            let lead = so_far.firsts_lead target l in
            subst (Leads snapshot target voter) (sym (others target f)) record { at = lead.at; beyond = omega (arith, lead.beyond); skips = other_skipped snapshot target voter here f ∙ lead.skips }
      ];
      nexts_lead = λ other place target beyond at. elim (cases_eq voter other) [
        | inl same ↦
            let at_here : slice_get (votes_of snapshot voter) place ≡ Some target = subst (λ n. slice_get (votes_of snapshot n) place ≡ Some target) (sym same) at in
            subst (λ n. Leads snapshot target (n + 1) (get_or new_nexts (says starts n + place) nowhere)) same
            (subst (Leads snapshot target (voter + 1)) (sym (linked place target at_here)) (so_far.firsts_lead target (ranged place target at_here)))
        | inr differ ↦
            let above : voter < other = beyond_apart voter other beyond differ in
            subst (Leads snapshot target (other + 1)) (sym
            (kept (says starts other + place) (omega (
              arith,
              starts_rise snapshot starts voter other are_starts
                  above (omega (arith, in_voters other place target at)),
            ))))
            (so_far.nexts_lead other place target (omega (arith, above)) at)
      ];
    } where
      beyond_apart : (low high : ℕ) → low ≤ high → (low ≡ high → ⊥) → low < high
      beyond_apart low high l differ = omega (arith, l, differ)

      in_voters : (other place target : ℕ) → slice_get (votes_of snapshot other) place ≡ Some target → other < length snapshot.voters
      in_voters other place target at = nominates_in_range snapshot other target (at_nominates snapshot target (record { voter = other; place = place }) at)

      ranged : (place target : ℕ) → slice_get (votes_of snapshot voter) place ≡ Some target → target < length snapshot.targets
      ranged place target at = subst (λ n. n < length snapshot.targets) (get_or_from_slice_get (votes_of snapshot voter) place target 0 at)
          (in_range place 0 (slice_get_within (votes_of snapshot voter) place target at))
