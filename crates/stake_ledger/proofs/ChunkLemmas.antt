-- What an amount that joins the chunks, and one that is taken from them, leaves.
use Rattle.std.proofs.Common.{◌≡◌, ℕ, ◌+◌, ◌-◌, ◌<◌, ◌≤◌, suc, true, false, List, [], ◌∷◌, ◌++◌, length, slice_set, slice_index_or, refl, ap, sym, ◌∙◌, subst, arith, Some, None, nat_lt, nat_le}
use Rattle.std.proofs.lemmas.List.Sums.{get_or-le-sum_by}
use Rattle.std.proofs.lemmas.List.Filters.{sum_by-filter_both}
use Rattle.std.proofs.lemmas.Grind.{common_steps}
use Rattle.stake_ledger.specs.declared.chunks.Chunk.{Chunk}
use Rattle.stake_ledger.specs.Chunks.{chunk_sum, chunk_refusal, with_chunk, without_latest, without_first, released, unreleased}
use Rattle.stake_ledger.specs.declared.refusal.LedgerRefusal.TheVariants.{NoMoreChunks}
use Rattle.stake_ledger.specs.Joining.{joins_last}

-- one more chunk in front does not change whether the amount joins the last
joins_last-cons : (release : ℕ) (c d : Chunk) (later : List Chunk) → joins_last release (c ∷ d ∷ later) ≡ joins_last release (d ∷ later)
joins_last-cons release c d later = grind (arith, common_steps)

joined_at : (amount release : ℕ) (c : Chunk) (later : List Chunk) (x : Chunk) → joins_last release (c ∷ later) ≡ true
    → x ≡ slice_index_or (c ∷ later) (length later) x
    → with_chunk amount release (c ∷ later) ≡ slice_set (c ∷ later) (length later) (record { value = x.value + amount; release = x.release })
joined_at amount release c [] x joins is = rw (joins, is) refl
joined_at amount release c (d ∷ later) x joins is = ap (λ l. c ∷ l) (joined_at amount release d later x (sym (joins_last-cons release c d later) ∙ joins) is)

put_at : (amount release : ℕ) (c : Chunk) (later : List Chunk) → joins_last release (c ∷ later) ≡ false
    → with_chunk amount release (c ∷ later) ≡ (c ∷ later) ++ record { value = amount; release = release } ∷ []
put_at amount release c [] apart = rw apart refl
put_at amount release c (d ∷ later) apart = ap (λ l. c ∷ l) (put_at amount release d later (sym (joins_last-cons release c d later) ∙ apart))

-- an amount that joins the last chunk makes that one grow
pub joined : (amount release : ℕ) (chunks : List Chunk) (x : Chunk) (n : ℕ) → n ≡ length chunks → joins_last release chunks ≡ true
    → x ≡ slice_index_or chunks (n - 1) x
    → slice_set chunks (n - 1) (record { value = x.value + amount; release = x.release }) ≡ with_chunk amount release chunks
joined amount release [] x n e joins is = cc
joined amount release (c ∷ later) x n e joins is =
    let last : n - 1 ≡ length later = omega arith in
    subst (λ k. slice_set (c ∷ later) k (record { value = x.value + amount; release = x.release }) ≡ with_chunk amount release (c ∷ later)) (sym last)
    (sym (joined_at amount release c later x joins (subst (λ k. x ≡ slice_index_or (c ∷ later) k x) last is)))

-- then there is a last chunk, which holds no more than all together
pub nonempty : (release : ℕ) (chunks : List Chunk) → joins_last release chunks ≡ true → 0 < length chunks
nonempty release [] joins = cc
nonempty release (c ∷ later) joins = omega arith

length-joined_at : (amount release : ℕ) (c : Chunk) (later : List Chunk) → joins_last release (c ∷ later) ≡ true
    → length (with_chunk amount release (c ∷ later)) ≡ length (c ∷ later)
length-joined_at amount release c [] joins = rw joins refl
length-joined_at amount release c (d ∷ later) joins = ap suc (length-joined_at amount release d later (sym (joins_last-cons release c d later) ∙ joins))

-- so there is room for it
pub room_to_join : (amount release : ℕ) (chunks : List Chunk) → length chunks ≤ 32 → joins_last release chunks ≡ true → chunk_refusal amount release chunks ≡ None
room_to_join amount release [] few joins = cc
room_to_join amount release (c ∷ later) few joins = let e = length-joined_at amount release c later joins in grind (arith, common_steps, e)

-- one that joins none is put last
pub put_last : (amount release : ℕ) (chunks : List Chunk) → joins_last release chunks ≡ false
    → with_chunk amount release chunks ≡ chunks ++ record { value = amount; release = release } ∷ []
put_last amount release [] apart = refl
put_last amount release (c ∷ later) apart = put_at amount release c later apart

-- which is refused where there are 32
pub no_room : (amount release : ℕ) (chunks : List Chunk) → 32 ≤ length chunks → joins_last release chunks ≡ false → chunk_refusal amount release chunks ≡ Some NoMoreChunks
no_room amount release chunks many apart =
    rw (put_last amount release chunks apart) (grind (arith, common_steps))

pub room_to_put : (amount release : ℕ) (chunks : List Chunk) → length chunks < 32 → joins_last release chunks ≡ false → chunk_refusal amount release chunks ≡ None
room_to_put amount release chunks few apart =
    rw (put_last amount release chunks apart) (grind (arith, common_steps))

less_none : (n : ℕ) → n - 0 ≡ n
less_none n = omega arith

pub pushed_sum : (chunks : List Chunk) (x : Chunk) → chunk_sum (chunks ++ x ∷ []) ≡ chunk_sum chunks + x.value
pushed_sum chunks x = grind (arith, common_steps)

-- the last chunk is no more than all together
last_in_sum : (c : Chunk) (later : List Chunk) (x : Chunk) → (slice_index_or (c ∷ later) (length later) x).value ≤ chunk_sum (c ∷ later)
last_in_sum c later x = get_or-le-sum_by (λ chunk. chunk.value) (c ∷ later) (length later) x (omega arith)

taken_at : (left : ℕ) (c : Chunk) (later : List Chunk) (x : Chunk) → x ≡ slice_index_or (c ∷ later) (length later) x → left < x.value
    → slice_set (c ∷ later) (length later) (record { value = x.value - left; release = x.release }) ≡ without_latest left (c ∷ later)
taken_at left c [] x is below =
    let none : nat_lt left 0 ≡ false = grind (arith, common_steps) in
    let some : nat_lt left c.value ≡ true = grind (arith, common_steps, ap (λ (k : Chunk). k.value) is) in
    rw (none, less_none left, some, is) refl
taken_at left c (d ∷ later) x is below =
    let within : left < chunk_sum (d ∷ later) = omega (arith, last_in_sum d later x, ap (λ (k : Chunk). k.value) is) in
    let whole : nat_lt left (chunk_sum (d ∷ later)) ≡ true = grind (arith, common_steps, within) in
    rw whole (ap (λ l. c ∷ l) (taken_at left d later x is below))

-- an amount within the last chunk lessens that one alone
pub taken_within : (left : ℕ) (chunks : List Chunk) (x : Chunk) (n : ℕ) → n ≡ length chunks → 0 < n → x ≡ slice_index_or chunks (n - 1) x → left < x.value
    → slice_set chunks (n - 1) (record { value = x.value - left; release = x.release }) ≡ without_latest left chunks
taken_within left [] x n e some is below = absurd (omega arith)
taken_within left (c ∷ later) x n e some is below =
    let last : n - 1 ≡ length later = omega arith in
    subst (λ k. slice_set (c ∷ later) k (record { value = x.value - left; release = x.release }) ≡ without_latest left (c ∷ later)) (sym last)
    (taken_at left c later x (subst (λ k. x ≡ slice_index_or (c ∷ later) k x) last is) below)

-- a larger one empties it, and takes the rest from those before
pub taken_past : (left : ℕ) (chunks : List Chunk) (x : Chunk) → x.value ≤ left
    → without_latest (left - x.value) chunks ≡ without_latest left (chunks ++ x ∷ [])
taken_past left [] x past =
    let none : nat_lt left 0 ≡ false = grind (arith, common_steps) in
    let all : nat_lt left x.value ≡ false = grind (arith, common_steps, past) in
    rw (none, less_none left, all) refl
taken_past left (c ∷ later) x past =
    let more : nat_lt left (chunk_sum (later ++ x ∷ [])) ≡ nat_lt (left - x.value) (chunk_sum later) = grind (arith, common_steps, pushed_sum later x, past) in
    let lack : left - chunk_sum (later ++ x ∷ []) ≡ left - x.value - chunk_sum later = omega (arith, pushed_sum later x, past) in
    rw (more, lack, taken_past left later x past) refl

-- what is released and what is not is all
pub released_sum : (era : ℕ) (chunks : List Chunk) → chunk_sum (released era chunks) + chunk_sum (unreleased era chunks) ≡ chunk_sum chunks
released_sum era chunks =
    sum_by-filter_both (λ (c : Chunk). nat_le c.release era) (λ (c : Chunk). nat_lt era c.release) (λ c. grind (arith, common_steps)) (λ (c : Chunk). c.value) chunks

-- an amount within the first chunk lessens that one alone
pub first_within : (left : ℕ) (chunks : List Chunk) (x : Chunk) → 0 < length chunks → x ≡ slice_index_or chunks 0 x → left < x.value
    → slice_set chunks 0 (record { value = x.value - left; release = x.release }) ≡ without_first left chunks
first_within left [] x some is below = absurd (omega arith)
first_within left (c ∷ later) x some is below =
    let within : nat_lt left c.value ≡ true = grind (arith, common_steps, ap (λ (k : Chunk). k.value) is) in
    rw (within, is) refl

-- a larger one empties it, and takes the rest from those behind
pub first_past : (left : ℕ) (x : Chunk) (later : List Chunk) → x.value ≤ left → without_first (left - x.value) later ≡ without_first left (x ∷ later)
first_past left x later past =
    let all : nat_lt left x.value ≡ false = grind (arith, common_steps, past) in rw all refl

-- by these `chunks` goes on
pub ruleset chunk_steps = (joined, put_last, nonempty, room_to_join, room_to_put, no_room)
