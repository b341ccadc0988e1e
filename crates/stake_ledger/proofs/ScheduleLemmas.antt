-- Chunks stay a schedule: none is 0, at most 32 stand, and their releases rise.
use Rattle.std.proofs.Common.{◌≡◌, ◌⊎◌, inl, inr, ℕ, ◌+◌, ◌-◌, ◌<◌, ◌≤◌, suc, Bool, true, false, List, [], ◌∷◌, length, refl, sym, subst, arith, ◌==◌, All, nat_lt, min, if◌then◌else◌}
use Rattle.std.proofs.lemmas.Grind.{common_steps}
use Rattle.std.proofs.lemmas.List.Elements.{All-cons, All-nil, All-tail}
use Rattle.std.proofs.lemmas.List.Kept.{AllPairs-cons}
use Rattle.std.proofs.lemmas.List.Sums.{sum_by-cons}
use Rattle.stake_ledger.specs.declared.chunks.Chunk.{Chunk}
use Rattle.stake_ledger.specs.Chunks.{chunk_sum, IsSchedule, with_chunk, without_latest, without_first, lessened, unreleased}

head_of : (P : Chunk → Type 0) (c : Chunk) (cs : List Chunk) → All P (c ∷ cs) → P c
head_of P c cs all = all 0 c (omega arith)

-- all releases are so
abbrev Released : (ℕ → Type 0) → List Chunk → Type 0
Released P cs = All (λ x. P x.release) cs

abbrev later_than : Chunk → ℕ → Type 0
later_than c release = c.release < release

behind : (c : Chunk) (cs : List Chunk) → IsSchedule (c ∷ cs) → Released (later_than c) cs
behind c cs s = λ k d below. s.rising 0 (suc k) d (omega arith) (omega arith)

tail_of : (c : Chunk) (cs : List Chunk) → IsSchedule (c ∷ cs) → IsSchedule cs
tail_of c cs s = record {
  whole = All-tail (λ x. 0 < x.value) c cs s.whole;
  few = omega (arith, s.few);
  rising = λ i j d below within. s.rising (suc i) (suc j) d (omega arith) (omega arith);
}

no_chunk : IsSchedule []
no_chunk = record { whole = All-nil _; few = omega arith; rising = λ i j d below within. absurd (omega arith) }

one_more : (c : Chunk) (cs : List Chunk) → 0 < c.value → Released (later_than c) cs → suc (length cs) ≤ 32 → IsSchedule cs → IsSchedule (c ∷ cs)
one_more c cs some later few s = record {
  whole = All-cons (λ x. 0 < x.value) c cs some s.whole;
  few = few;
  rising = AllPairs-cons (λ e l. e.release < l.release) c cs later s.rising;
}

-- ---- an amount joins

released_with : (P : ℕ → Type 0) (amount release : ℕ) (cs : List Chunk) → P release → Released P cs → Released P (with_chunk amount release cs)
released_with P amount release [] here all = All-cons (λ x. P x.release) (record { value = amount; release = release }) [] here (All-nil _)
released_with P amount release (c ∷ []) here all = at (c.release == release) where
  at : (b : Bool) → Released P (if b then record c { value = c.value + amount } ∷ [] else c ∷ with_chunk amount release [])
  at true = All-cons (λ x. P x.release) (record c { value = c.value + amount }) [] (head_of (λ x. P x.release) c [] all) (All-nil _)
  at false = All-cons (λ x. P x.release) c (with_chunk amount release []) (head_of (λ x. P x.release) c [] all)
      (All-cons (λ x. P x.release) (record { value = amount; release = release }) [] here (All-nil _))
released_with P amount release (c ∷ d ∷ more) here all =
    All-cons (λ x. P x.release) c (with_chunk amount release (d ∷ more)) (head_of (λ x. P x.release) c (d ∷ more) all)
    (released_with P amount release (d ∷ more) here (All-tail (λ x. P x.release) c (d ∷ more) all))

pub schedule_with : (amount release : ℕ) (cs : List Chunk) → IsSchedule cs → 0 < amount → All (λ x. x.release ≤ release) cs → length (with_chunk amount release cs) ≤ 32
    → IsSchedule (with_chunk amount release cs)
schedule_with amount release [] s some within few = one_more (record { value = amount; release = release }) [] some (All-nil _) few s
schedule_with amount release (c ∷ []) s some within few = at (c.release == release) refl few where
  at : (b : Bool) → (c.release == release) ≡ b → length (if b then record c { value = c.value + amount } ∷ [] else c ∷ with_chunk amount release []) ≤ 32
      → IsSchedule (if b then record c { value = c.value + amount } ∷ [] else c ∷ with_chunk amount release [])
  at true is few = one_more (record c { value = c.value + amount }) [] (omega (arith, some)) (All-nil _) few no_chunk
  at false is few =
      let below : c.release < release = grind (arith, common_steps, is, head_of (λ x. x.release ≤ release) c [] within) in
      one_more c (with_chunk amount release []) (head_of (λ x. 0 < x.value) c [] s.whole) (released_with (later_than c) amount release [] below (All-nil _)) few
      (one_more (record { value = amount; release = release }) [] some (All-nil _) (omega arith) no_chunk)
schedule_with amount release (c ∷ d ∷ more) s some within few =
    let below : c.release < release = omega (arith, head_of (λ x. x.release ≤ release) d more (All-tail (λ x. x.release ≤ release) c (d ∷ more) within), behind c (d ∷ more) s 0 d (omega arith)) in
    one_more c (with_chunk amount release (d ∷ more)) (head_of (λ x. 0 < x.value) c (d ∷ more) s.whole) (released_with (later_than c) amount release (d ∷ more) below (behind c (d ∷ more) s)) few
    (schedule_with amount release (d ∷ more) (tail_of c (d ∷ more) s) some (All-tail (λ x. x.release ≤ release) c (d ∷ more) within) (omega (arith, few)))

pub sum_with : (amount release : ℕ) (cs : List Chunk) → chunk_sum (with_chunk amount release cs) ≡ chunk_sum cs + amount
sum_with amount release [] = grind (arith, common_steps)
sum_with amount release (c ∷ []) = at (c.release == release) where
  at : (b : Bool) → chunk_sum (if b then record c { value = c.value + amount } ∷ [] else c ∷ record { value = amount; release = release } ∷ []) ≡ chunk_sum (c ∷ []) + amount
  at true = grind (arith, common_steps)
  at false = grind (arith, common_steps)
sum_with amount release (c ∷ d ∷ more) =
    omega (
      arith,
      sum_by-cons (λ (x : Chunk). x.value) c (with_chunk amount release (d ∷ more)),
      sum_with amount release (d ∷ more),
      sum_by-cons (λ (x : Chunk). x.value) c (d ∷ more),
    )

-- ---- amounts are taken

-- what may be left of chunks: each that stays keeps its release and some of its value
abbrev IsLeft : List Chunk → List Chunk → Type 0
IsLeft [] [] = Unit {0}
IsLeft [] (d ∷ rest) = ⊥
IsLeft (c ∷ later) [] = Unit {0}
IsLeft (c ∷ later) (d ∷ rest) = ((d.release ≡ c.release) × ((0 < d.value) × IsLeft later rest)) ⊎ IsLeft later (d ∷ rest)

left_out : (c : Chunk) (later new : List Chunk) → IsLeft later new → IsLeft (c ∷ later) new
left_out c later [] left = tt
left_out c later (d ∷ rest) left = inr left

left_whole : (cs : List Chunk) → All (λ x. 0 < x.value) cs → IsLeft cs cs
left_whole [] whole = tt
left_whole (c ∷ later) whole = inl (refl, (head_of (λ x. 0 < x.value) c later whole, left_whole later (All-tail (λ x. 0 < x.value) c later whole)))

left_released : (P : ℕ → Type 0) (cs new : List Chunk) → IsLeft cs new → Released P cs → Released P new
left_released P [] [] left all = all
left_released P [] (d ∷ rest) left all = absurd left
left_released P (c ∷ later) [] left all = All-nil _
left_released P (c ∷ later) (d ∷ rest) (inl (same, (some, left))) all =
    All-cons (λ x. P x.release) d rest (subst P (sym same) (head_of (λ x. P x.release) c later all)) (left_released P later rest left (All-tail (λ x. P x.release) c later all))
left_released P (c ∷ later) (d ∷ rest) (inr left) all = left_released P later (d ∷ rest) left (All-tail (λ x. P x.release) c later all)

left_fewer : (cs new : List Chunk) → IsLeft cs new → length new ≤ length cs
left_fewer [] [] left = omega arith
left_fewer [] (d ∷ rest) left = absurd left
left_fewer (c ∷ later) [] left = omega arith
left_fewer (c ∷ later) (d ∷ rest) (inl (same, (some, left))) = omega (arith, left_fewer later rest left)
left_fewer (c ∷ later) (d ∷ rest) (inr left) = omega (arith, left_fewer later (d ∷ rest) left)

schedule_left : (cs new : List Chunk) → IsLeft cs new → IsSchedule cs → IsSchedule new
schedule_left [] [] left s = s
schedule_left [] (d ∷ rest) left s = absurd left
schedule_left (c ∷ later) [] left s = no_chunk
schedule_left (c ∷ later) (d ∷ rest) (inl (same, (some, left))) s =
    one_more d rest some (left_released (later_than d) later rest left (subst (λ r. Released (λ x. r < x) later) (sym same) (behind c later s)))
    (omega (arith, left_fewer later rest left, s.few)) (schedule_left later rest left (tail_of c later s))
schedule_left (c ∷ later) (d ∷ rest) (inr left) s = schedule_left later (d ∷ rest) left (tail_of c later s)

-- from the latest
left_lessened : (n : ℕ) (c : Chunk) (later : List Chunk) → IsLeft (c ∷ later) (lessened n c)
left_lessened n c later = at (nat_lt n c.value) refl where
  nothing : (cs : List Chunk) → IsLeft cs []
  nothing [] = tt
  nothing (c ∷ cs) = tt

  at : (b : Bool) → nat_lt n c.value ≡ b → IsLeft (c ∷ later) (if b then record c { value = c.value - n } ∷ [] else [])
  at true is = inl (refl, (grind (arith, common_steps, is), nothing later))
  at false is = tt

left_latest : (n : ℕ) (cs : List Chunk) → All (λ x. 0 < x.value) cs → IsLeft cs (without_latest n cs)
left_latest n [] whole = tt
left_latest n (c ∷ later) whole = at (nat_lt n (chunk_sum later)) (left_latest n later (All-tail (λ x. 0 < x.value) c later whole)) where
  at : (b : Bool) → IsLeft later (without_latest n later) → IsLeft (c ∷ later) (if b then c ∷ without_latest n later else lessened (n - chunk_sum later) c)
  at true rest = inl (refl, (head_of (λ x. 0 < x.value) c later whole, rest))
  at false rest = left_lessened (n - chunk_sum later) c later

pub schedule_without : (n : ℕ) (cs : List Chunk) → IsSchedule cs → IsSchedule (without_latest n cs)
schedule_without n cs s = schedule_left cs (without_latest n cs) (left_latest n cs s.whole) s

sum_lessened : (n : ℕ) (c : Chunk) → n ≤ c.value → chunk_sum (lessened n c) + n ≡ c.value
sum_lessened n c within = at (nat_lt n c.value) refl where
  at : (b : Bool) → nat_lt n c.value ≡ b → chunk_sum (if b then record c { value = c.value - n } ∷ [] else []) + n ≡ c.value
  at true is = grind (arith, common_steps, is)
  at false is = grind (arith, common_steps, is)

pub sum_without : (n : ℕ) (cs : List Chunk) → n ≤ chunk_sum cs → chunk_sum (without_latest n cs) + n ≡ chunk_sum cs
sum_without n [] within = omega arith
sum_without n (c ∷ later) within = at (nat_lt n (chunk_sum later)) refl (sum_by-cons (λ (x : Chunk). x.value) c later) (sum_without n later) where
  at : (b : Bool) → nat_lt n (chunk_sum later) ≡ b → chunk_sum (c ∷ later) ≡ c.value + chunk_sum later
      → (n ≤ chunk_sum later → chunk_sum (without_latest n later) + n ≡ chunk_sum later)
      → chunk_sum (if b then c ∷ without_latest n later else lessened (n - chunk_sum later) c) + n ≡ chunk_sum (c ∷ later)
  at true is all rest =
      let below : n < chunk_sum later = grind (arith, common_steps, is) in
      omega (arith, all, sum_by-cons (λ (x : Chunk). x.value) c (without_latest n later), rest (omega arith))
  at false is all rest =
      let past : chunk_sum later ≤ n = grind (arith, common_steps, is) in
      omega (arith, all, within, sum_lessened (n - chunk_sum later) c (omega (arith, all, within)))

-- from the first
left_first : (n : ℕ) (cs : List Chunk) → All (λ x. 0 < x.value) cs → IsLeft cs (without_first n cs)
left_first n [] whole = tt
left_first n (c ∷ later) whole =
    at (nat_lt n c.value) refl (All-tail (λ x. 0 < x.value) c later whole) (left_first (n - c.value) later (All-tail (λ x. 0 < x.value) c later whole)) where
      at : (b : Bool) → nat_lt n c.value ≡ b → All (λ x. 0 < x.value) later → IsLeft later (without_first (n - c.value) later)
          → IsLeft (c ∷ later) (if b then record c { value = c.value - n } ∷ later else without_first (n - c.value) later)
      at true is all rest = inl (refl, (grind (arith, common_steps, is), left_whole later all))
      at false is all rest = left_out c later (without_first (n - c.value) later) rest

pub schedule_first : (n : ℕ) (cs : List Chunk) → IsSchedule cs → IsSchedule (without_first n cs)
schedule_first n cs s = schedule_left cs (without_first n cs) (left_first n cs s.whole) s

pub sum_first : (n : ℕ) (cs : List Chunk) → chunk_sum (without_first n cs) + min n (chunk_sum cs) ≡ chunk_sum cs
sum_first n [] = omega arith
sum_first n (c ∷ later) = at (nat_lt n c.value) refl (sum_by-cons (λ (x : Chunk). x.value) c later) (sum_first (n - c.value) later) where
  at : (b : Bool) → nat_lt n c.value ≡ b → chunk_sum (c ∷ later) ≡ c.value + chunk_sum later
      → chunk_sum (without_first (n - c.value) later) + min (n - c.value) (chunk_sum later) ≡ chunk_sum later
      → chunk_sum (if b then record c { value = c.value - n } ∷ later else without_first (n - c.value) later) + min n (chunk_sum (c ∷ later)) ≡ chunk_sum (c ∷ later)
  at true is all rest =
      let within : n < c.value = grind (arith, common_steps, is) in
      omega (arith, all, within, sum_by-cons (λ (x : Chunk). x.value) (record c { value = c.value - n }) later)
  at false is all rest = let past : c.value ≤ n = grind (arith, common_steps, is) in omega (arith, all, past, rest)

-- what is not released yet
left_unreleased : (era : ℕ) (cs : List Chunk) → All (λ x. 0 < x.value) cs → IsLeft cs (unreleased era cs)
left_unreleased era [] whole = tt
left_unreleased era (c ∷ later) whole = at (nat_lt era c.release) (left_unreleased era later (All-tail (λ x. 0 < x.value) c later whole)) where
  at : (b : Bool) → IsLeft later (unreleased era later) → IsLeft (c ∷ later) (if b then c ∷ unreleased era later else unreleased era later)
  at true rest = inl (refl, (head_of (λ x. 0 < x.value) c later whole, rest))
  at false rest = left_out c later (unreleased era later) rest

pub schedule_unreleased : (era : ℕ) (cs : List Chunk) → IsSchedule cs → IsSchedule (unreleased era cs)
schedule_unreleased era cs s = schedule_left cs (unreleased era cs) (left_unreleased era cs s.whole) s
