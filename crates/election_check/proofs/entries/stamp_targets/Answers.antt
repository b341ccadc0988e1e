use Rattle.std.proofs.Common.{◌≡◌, ◌≢◌, ◌<◌, ◌+◌, ℕ, false, nat_eq, suc, List, [], ◌∷◌, ◌++◌, All, get_or, slice_set}
use Rattle.std.proofs.Common.{map, take, drop, length, refl, sym, ap, ◌∙◌, subst, inl, inr, length-append, arith}
use Rattle.std.specs.Prelude.{if◌then◌else◌}
use Rattle.std.proofs.Math.ListN.{get_or-append}
use Rattle.std.proofs.Math.Seq.{get_or-append_seam, drop-cons}
use Rattle.std.proofs.lemmas.Bool.{cases_Bool}
use Rattle.std.proofs.lemmas.List.{length-map, get_or-map, map_more, take_all, get_or-set_other}
use Rattle.std.proofs.lemmas.List.Folds.{list_any-append}
use Rattle.std.proofs.lemmas.Grind.{get_or-set_at, common_steps}
use Rattle.election_snapshot.specs.Snapshot.{has}
use Rattle.compact_solution.specs.declared.entry.Share.{Share}
use Rattle.compact_solution.specs.Solution.{targets_of}
use Rattle.election_check.specs.Packed.{first_repeat}
use Rattle.election_check.proofs.entries.stamp_targets.Goals as goal

abbrev no_share : Share
no_share = record { target = 0; parts = 0 }

abbrev listed : List Share → List ℕ
listed shares = map (λ (share : Share). share.target) shares

-- each target of an entry is in range where all of them are
listed_below : (shares : List Share) (last n i : ℕ) (d : Share) → All (λ target. target < n) (listed shares ++ last ∷ []) → i < length shares → (get_or shares i d).target < n
listed_below shares last n i d all below =
    let here : i < length (listed shares) = omega (arith, below, length-map shares (λ (share : Share). share.target)) in
    let long : i < length (listed shares ++ last ∷ []) = omega (arith, here, length-append (listed shares) (last ∷ [])) in
    let at : get_or (listed shares ++ last ∷ []) i 0 ≡ (get_or shares i d).target =
    get_or-append (listed shares) (last ∷ []) 0 i here ∙ get_or-map (λ (share : Share). share.target) shares i d 0 below in
    subst (λ (k : ℕ). k < n) at (all i 0 long)

last_below : (targets : List ℕ) (last n : ℕ) → All (λ target. target < n) (targets ++ last ∷ []) → last < n
last_below targets last n all =
    let long : length targets < length (targets ++ last ∷ []) = omega (arith, length-append targets (last ∷ [])) in
    subst (λ (k : ℕ). k < n) (get_or-append_seam targets last [] 0) (all (length targets) 0 long)

-- one target more is stamped
stamped_more : (targets old stamps : List ℕ) (stamp next : ℕ) → next < length stamps
    → ((target : ℕ) → get_or stamps target 0 ≡ (if has targets target then stamp else get_or old target 0))
    → (target : ℕ) → get_or (slice_set stamps next stamp) target 0 ≡ (if has (targets ++ next ∷ []) target then stamp else get_or old target 0)
stamped_more targets old stamps stamp next below stamped target =
    let here = stamped target in
    grind (arith, list_any-append (λ other. nat_eq other target) targets (next ∷ []), get_or-set_at, get_or-set_other, common_steps)

-- a target that is not stamped has not stood before
not_before : (targets old stamps : List ℕ) (stamp next : ℕ)
    → ((target : ℕ) → get_or stamps target 0 ≡ (if has targets target then stamp else get_or old target 0))
    → get_or stamps next 0 ≢ stamp → has targets next ≡ false
not_before targets old stamps stamp next stamped other = elim (cases_Bool (has targets next)) [
  | inl t ↦ absurd (other (stamped next ∙ rw t refl))
  | inr t ↦ t
]

repeat_step : (before rest : List ℕ) (target : ℕ) → has before target ≡ false → first_repeat before (target ∷ rest) ≡ first_repeat (before ++ target ∷ []) rest
repeat_step before rest target new = rw new refl

-- a repeat is looked for behind one target more, which has not stood before
repeat_more : (shares : List Share) (last i : ℕ) (d : Share) → i < length shares → has (listed (take i shares)) (get_or shares i d).target ≡ false
    → first_repeat (listed (take (i + 1) shares)) (listed (drop (i + 1) shares) ++ last ∷ []) ≡ first_repeat (listed (take i shares)) (listed (drop i shares) ++ last ∷ [])
repeat_more shares last i d below new =
    let next : i + 1 ≡ suc i = omega arith in
    let before = listed (take i shares) in
    let target = (get_or shares i d).target in
    ap (λ (b : List ℕ). first_repeat b (listed (drop (i + 1) shares) ++ last ∷ [])) (map_more (λ (share : Share). share.target) shares i d below)
    ∙ (ap (λ (n : ℕ). first_repeat (before ++ target ∷ []) (listed (drop n shares) ++ last ∷ [])) next
    ∙ (sym (repeat_step before (listed (drop (suc i) shares) ++ last ∷ []) target new)
    ∙ ap (λ (s : List Share). first_repeat before (listed s ++ last ∷ [])) (sym (drop-cons shares i d below))))

-- where the targets of all shares are in range, that of the next one is
next_below : (shares items : List Share) (last n i target : ℕ) → items ≡ shares
    → All (λ target. target < n) (listed shares ++ last ∷ []) → i < length items
    → target ≡ (get_or items i no_share).target → target < n
next_below shares items last n i target same all below is =
    let fits = subst (λ (s : List Share). All (λ target. target < n) (listed s ++ last ∷ [])) (sym same) all in
    omega (arith, is, listed_below items last n i no_share fits below)

pub bounds-stamps-place : goal.bounds-stamps-place
bounds-stamps-place c =
    omega (
      arith,
      c.loop-share.auto.stamps,
      next_below c.args.entry.now.shares c.shares-share-items.result.now c.args.entry.now.last (length c.args.stamps.now) c.loop-share.share-index c.from-place.result
          c.shares-share-items.ensures.shares c.requires.in_range c.loop-share-test.true c.from-place.ensures,
    )

pub bounds-stamps-place-in-loop-share : goal.bounds-stamps-place-in-loop-share
bounds-stamps-place-in-loop-share c =
    omega (
      arith,
      c.loop-share.auto.stamps,
      next_below c.args.entry.now.shares c.shares-share-items.result.now c.args.entry.now.last (length c.args.stamps.now) c.loop-share.share-index c.from-place.result
          c.shares-share-items.ensures.shares c.requires.in_range c.loop-share-test.true c.from-place.ensures,
    )

pub loop-share-preserved : goal.loop-share-preserved
loop-share-preserved c =
    let items = c.shares-share-items.result.now in
    let i = c.loop-share.share-index in
    let target = (get_or items i no_share).target in
    let before = listed (take i items) in
    let at = c.from-place.ensures in
    let other : get_or c.loop-share.stamps target 0 ≢ c.args.stamp = subst (λ (n : ℕ). get_or c.loop-share.stamps n 0 ≢ c.args.stamp) at c.if-stamps-place.false in
    let new = not_before before c.args.stamps.now c.loop-share.stamps c.args.stamp target c.loop-share.invariant.stamped other in
    let below : target < length c.loop-share.stamps = omega (arith, at, bounds-stamps-place-in-loop-share c) in
    let more = map_more (λ (share : Share). share.target) items i no_share c.loop-share-test.true in
    record {
      items = c.loop-share.invariant.items;
      rest = repeat_more items c.args.entry.now.last i no_share c.loop-share-test.true new ∙ c.loop-share.invariant.rest;
      stamped = subst (λ (n : ℕ). (target : ℕ) → get_or (slice_set c.loop-share.stamps n c.args.stamp) target 0
          ≡ (if has (listed (take (i + 1) items)) target then c.args.stamp else get_or c.args.stamps.now target 0))
          (sym at)
          (subst (λ (ts : List ℕ). (n : ℕ) → get_or (slice_set c.loop-share.stamps target c.args.stamp) n 0 ≡ (if has ts n then c.args.stamp else get_or c.args.stamps.now n 0)) (sym more)
          (stamped_more before c.args.stamps.now c.loop-share.stamps c.args.stamp target below c.loop-share.invariant.stamped));
    }

pub bounds-stamps-last : goal.bounds-stamps-last
bounds-stamps-last c =
    let below = last_below (listed c.args.entry.now.shares) c.args.entry.now.last (length c.args.stamps.now) c.requires.in_range in
    omega (arith, below, c.last.ensures, c.from-last.ensures, c.loop-share.auto.stamps)

pub bounds-stamps-last-2 : goal.bounds-stamps-last-2
bounds-stamps-last-2 c =
    let below = last_below (listed c.args.entry.now.shares) c.args.entry.now.last (length c.args.stamps.now) c.requires.in_range in
    omega (arith, below, c.last.ensures, c.from-last.ensures, c.loop-share.auto.stamps)

pub returns-clause-stamped : goal.returns-clause-stamped
returns-clause-stamped c =
    let items = c.shares-share-items.result.now in
    let last = c.args.entry.now.last in
    let at : c.from-last.result ≡ last = c.from-last.ensures ∙ c.last.ensures in
    let all : take c.loop-share.share-index items ≡ c.args.entry.now.shares = take_all c.loop-share.share-index items c.loop-share-test.false ∙ c.shares-share-items.ensures.shares in
    let below : last < length c.loop-share.stamps = omega (arith, at, bounds-stamps-last-2 c) in
    subst (λ (n : ℕ). (target : ℕ) → get_or (slice_set c.loop-share.stamps n c.args.stamp) target 0
    ≡ (if has (targets_of c.args.entry.now) target then c.args.stamp else get_or c.args.stamps.now target 0))
    (sym at)
    (subst (λ (s : List Share). (n : ℕ) → get_or (slice_set c.loop-share.stamps last c.args.stamp) n 0 ≡ (if has (listed s ++ last ∷ []) n then c.args.stamp else get_or c.args.stamps.now n 0)) all
    (stamped_more (listed (take c.loop-share.share-index items)) c.args.stamps.now c.loop-share.stamps c.args.stamp last below c.loop-share.invariant.stamped))
