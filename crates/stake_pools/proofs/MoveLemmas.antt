-- The calls of the books make the moves of a pool.
use Rattle.std.proofs.Common.{◌≡◌, ◌∙◌, ℕ, ◌+◌, ◌-◌, ◌<◌, ◌≤◌, min, true, false, nat_eq, nat_lt, List, [], ◌∷◌, refl, ap, ap₂, sym, arith, None}
use Rattle.std.specs.BTreeMap.{insert_entry}
use Rattle.std.specs.Cmp.{IsTotalOrder}
use Rattle.std.specs.Ordering.{match_ordering, ordering_reverse}
use Rattle.std.specs.declared.cmp.Ordering.{Ordering}
use Rattle.std.specs.declared.cmp.Ordering.TheVariants.{Less, Equal, Greater}
use Rattle.std.proofs.lemmas.Grind.{common_steps}
use Rattle.npos_base.specs.declared.account.AccountId.{AccountId}
use Rattle.npos_base.specs.Account.{account_cmp}
use Rattle.npos_base.proofs.AccountOrder.{account_total}
use Rattle.stake_ledger.specs.declared.chunks.Chunk.{Chunk}
use Rattle.stake_ledger.specs.declared.row.Row.{Row}
use Rattle.stake_ledger.specs.Chunks.{chunk_sum, with_chunk, released, unreleased}
use Rattle.stake_ledger.specs.Rows.{is_bonded, gained, paid, activated, unbonded, withdrawn}
use Rattle.stake_ledger.specs.Ledger.{Ledger, row_at, with_row, changed}
use Rattle.stake_ledger.specs.Calls.{transferred, unbond_amount, unbond_refusal, withdraw_refusal}
use Rattle.stake_ledger.proofs.LedgerLemmas.{row_in_put}
use Rattle.stake_pools.specs.Moves.{raised, lowered, freed, invested, paid_out}

-- ---- two changes of one row are one

module _ {K X : Type 0} {R : K → K → Ordering} (o : IsTotalOrder R) (k : K) (v w : X) where
  itself_at : (r : Ordering) → R k k ≡ r → r ≡ ordering_reverse r → R k k ≡ Equal
  itself_at Less is turned = absurd (cc)
  itself_at Equal is turned = is
  itself_at Greater is turned = absurd (cc)

  itself : R k k ≡ Equal
  itself = itself_at (R k k) refl (o.antisymm k k)

  twice_at : (e : K × X) (es : List (K × X)) (r : Ordering) → R k e.0 ≡ r → insert_entry R (insert_entry R es k v) k w ≡ insert_entry R es k w
      → insert_entry R (match_ordering r ((k, v) ∷ e ∷ es) ((e.0, v) ∷ es) (e ∷ insert_entry R es k v)) k w ≡ insert_entry R (e ∷ es) k w
  twice_at e es Less is rest = rw (itself, is) refl
  twice_at e es Equal is rest = rw is refl
  twice_at e es Greater is rest = rw is (ap (λ l. e ∷ l) rest)

  pub put_twice : (es : List (K × X)) → insert_entry R (insert_entry R es k v) k w ≡ insert_entry R es k w
  put_twice [] = rw itself refl
  put_twice (e ∷ es) = twice_at e es (R k e.0) refl (put_twice es)

pub twice : (who : AccountId) (second first both : Row → Row) (ledger : Ledger) → second (first (row_at ledger who)) ≡ both (row_at ledger who)
    → changed who second (changed who first ledger) ≡ changed who both ledger
twice who second first both ledger is =
    ap (λ (rows : List (AccountId × Row)). record ledger { rows = rows })
    (ap (λ (row : Row). insert_entry account_cmp (with_row who first ledger.rows) who (second row)) (row_in_put who first ledger.rows)
    ∙ (put_twice account_total who (first (row_at ledger who)) (second (first (row_at ledger who))) ledger.rows
    ∙ ap (insert_entry account_cmp ledger.rows who) is))

pub same_change : (who : AccountId) (first second : Row → Row) (ledger : Ledger) → first (row_at ledger who) ≡ second (row_at ledger who)
    → changed who first ledger ≡ changed who second ledger
same_change who first second ledger is =
    ap (λ (row : Row). record ledger { rows = insert_entry account_cmp ledger.rows who row }) is

-- ---- an investment

no_change : (n value : ℕ) → n + value - value ≡ n
no_change n value = omega arith

gained_and_bonded : (value : ℕ) (row : Row) → activated value (gained value row) ≡ raised value row
gained_and_bonded value row = ap (λ free. record row { free = free; active = row.active + value }) (no_change row.free value)

pub invested_is : (who pool : AccountId) (value : ℕ) (ledger : Ledger) → changed pool (activated value) (transferred who pool value ledger) ≡ invested who pool value ledger
invested_is who pool value ledger =
    twice pool (activated value) (gained value) (raised value) (changed who (paid value) ledger)
    (gained_and_bonded value (row_at (changed who (paid value) ledger) pool))

-- the pool has the value free then
pub pool_after : (who pool : AccountId) (value : ℕ) (ledger : Ledger) → row_at (transferred who pool value ledger) pool ≡ gained value (row_at (changed who (paid value) ledger) pool)
pool_after who pool value ledger = row_in_put pool (gained value) (changed who (paid value) ledger).rows

-- ---- a payment

least_amount : (amount active : ℕ) → amount ≤ active → min amount active ≡ amount
least_amount amount active there = omega (arith, there)

one_released : (amount era : ℕ) → released era (record { value = amount; release = era } ∷ []) ≡ record { value = amount; release = era } ∷ []
one_released amount era = grind (arith, common_steps)

none_kept : (amount era : ℕ) → unreleased era (record { value = amount; release = era } ∷ []) ≡ []
none_kept amount era = grind (arith, common_steps)

one_sum : (amount era : ℕ) → chunk_sum (released era (record { value = amount; release = era } ∷ [])) ≡ amount
one_sum amount era = ap chunk_sum (one_released amount era) ∙ (omega arith)

-- what is unbonded and withdrawn in one era is free
pub freed_row : (amount era : ℕ) (row : Row) → row.chunks ≡ [] → amount ≤ row.active → withdrawn era (unbonded (unbond_amount row amount) era row) ≡ freed amount row
freed_row amount era row none there =
    let least : unbond_amount row amount ≡ amount = least_amount amount row.active there in
    let chunk : List Chunk = record { value = amount; release = era } ∷ [] in
    let put : with_chunk amount era row.chunks ≡ chunk = ap (with_chunk amount era) none in
    ap (λ n. withdrawn era (unbonded n era row)) least
    ∙ (ap (λ (chunks : List Chunk). withdrawn era (record row { active = row.active - amount; chunks = chunks })) put
    ∙ (ap₂ (λ n (chunks : List Chunk). record row { free = row.free + n; active = row.active - amount; chunks = chunks }) (one_sum amount era) (none_kept amount era)
    ∙ ap (λ (chunks : List Chunk). record row { free = row.free + amount; active = row.active - amount; chunks = chunks }) (sym none)))

pub paid_out_is : (pool who : AccountId) (amount : ℕ) (ledger : Ledger) → 0 < amount → transferred pool who amount (changed pool (freed amount) ledger) ≡ paid_out pool who amount ledger
paid_out_is pool who amount ledger some =
    let not_none : nat_eq amount 0 ≡ false = grind (arith, common_steps, some) in
    rw not_none (ap (λ (l : Ledger). changed who (gained amount) l)
    (twice pool (paid amount) (freed amount) (lowered amount) ledger
    (ap (λ free. record (row_at ledger pool) { free = free; active = (row_at ledger pool).active - amount }) (no_change (row_at ledger pool).free amount))))

-- the freed amount is there to be paid
pub freed_there : (pool : AccountId) (amount : ℕ) (ledger : Ledger) → amount ≤ (row_at (changed pool (freed amount) ledger) pool).free
freed_there pool amount ledger = omega (arith, ap (λ (row : Row). row.free) (row_in_put pool (freed amount) ledger.rows))

-- nothing stands in the way of either call
pub unbond_allowed : (row : Row) (amount era : ℕ) → row.chunks ≡ [] → 0 < amount → amount ≤ row.active → unbond_refusal row amount era 0 ≡ None
unbond_allowed row amount era none some there =
    let no_zero : nat_eq amount 0 ≡ false = grind (arith, common_steps, some) in
    let bonded : is_bonded row ≡ true = grind (arith, common_steps, some, there) in
    let active : nat_eq row.active 0 ≡ false = grind (arith, common_steps, some, there) in
    let stays : nat_lt (row.active - unbond_amount row amount) 0 ≡ false = grind (arith, common_steps) in
    rw (no_zero, bonded, active, stays, none) refl

pub withdraw_allowed : (row : Row) (amount era : ℕ) → row.chunks ≡ [] → 0 < amount → amount ≤ row.active
    → withdraw_refusal (unbonded (unbond_amount row amount) era row) ≡ None
withdraw_allowed row amount era none some there =
    let least : unbond_amount row amount ≡ amount = least_amount amount row.active there in
    let put : with_chunk (unbond_amount row amount) era row.chunks ≡ record { value = unbond_amount row amount; release = era } ∷ [] = ap (with_chunk (unbond_amount row amount) era) none in
    let bonded : is_bonded (unbonded (unbond_amount row amount) era row) ≡ true =
    grind (arith, common_steps, some, least, ap chunk_sum put) in
    rw bonded refl
