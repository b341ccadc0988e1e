-- The books' equation and the running totals, after one row is changed.
use Rattle.std.proofs.Common.{◌≡◌, ◌≢◌, ◌∙◌, ℕ, ◌+◌, ◌-◌, ◌≤◌, false, List, [], ◌∷◌, refl, ap, sym, subst, arith}
use Rattle.std.proofs.Common.{Option, Some, None, unwrap_or, option_map, sum_by, All, IfSome, nat_eq, ◌&&◌, true≢false}
use Rattle.std.specs.BTreeMap.{insert_entry, is_at}
use Rattle.std.specs.Map.{keys_of, values_of, lookup}
use Rattle.std.specs.List.Sorted.{IsStrictlySortedBy}
use Rattle.std.proofs.lemmas.List.Sums.{sum_by-cons}
use Rattle.std.proofs.lemmas.Map.Entries.{sum_by-insert_entry}
use Rattle.std.proofs.lemmas.Map.Views.{All-values-insert_entry, IfSome-lookup_from_All}
use Rattle.std.proofs.lemmas.Grind.{common_steps}
use Rattle.npos_base.specs.declared.account.AccountId.{AccountId}
use Rattle.npos_base.specs.Account.{account_cmp}
use Rattle.npos_base.proofs.AccountOrder.{account_total, account_apart}
use Rattle.stake_ledger.specs.declared.row.Row.{Row}
use Rattle.stake_ledger.specs.Chunks.{chunk_sum, IsSchedule}
use Rattle.stake_ledger.specs.Rows.{empty_row, worth, gained, paid}
use Rattle.stake_ledger.specs.Ledger.{Ledger, row_in, row_of_entries, row_of, row_at, with_row, changed, total, OthersStay}
use Rattle.npos_base.proofs.EntryLemmas.{sorted_put, lookup_put, lookup_other, put_back}

-- no other row changes
pub others_stay : (who : AccountId) (change : Row → Row) (ledger : Ledger) → OthersStay who ledger (changed who change ledger)
others_stay who change ledger = λ other differ. lookup_other account_total who (change (row_at ledger who)) other ledger.rows (account_apart other who differ)

pub others_by : (who : AccountId) (change : Row → Row) (old new : List (AccountId × Row)) → new ≡ with_row who change old
    → (other : AccountId) → other ≢ who → lookup (is_at (account_cmp other)) new ≡ lookup (is_at (account_cmp other)) old
others_by who change old new e other differ =
    rw e (lookup_other account_total who (change (row_in old who)) other old (account_apart other who differ))

pub row_in_other : (who : AccountId) (change : Row → Row) (rows : List (AccountId × Row)) (other : AccountId) → other ≢ who
    → row_in (with_row who change rows) other ≡ row_in rows other
row_in_other who change rows other differ =
    ap (λ (o : Option Row). unwrap_or o empty_row) (lookup_other account_total who (change (row_in rows who)) other rows (account_apart other who differ))

-- accounts of which a comparison says so are different
pub different : (x y : AccountId) → (nat_eq x.hi y.hi && nat_eq x.lo y.lo) ≡ false → x ≢ y
different x y unlike = λ same. true≢false (grind (arith, common_steps, ap (λ (a : AccountId). a.hi) same, ap (λ (a : AccountId). a.lo) same, unlike))

pub row_of-changed : (who : AccountId) (change : Row → Row) (ledger : Ledger) → row_of (changed who change ledger) who ≡ Some (change (row_at ledger who))
row_of-changed who change ledger = lookup_put account_total who (change (row_at ledger who)) ledger.rows

part_at : (part : Row → ℕ) (o : Option Row) → part empty_row ≡ 0 → unwrap_or (option_map part o) 0 ≡ part (unwrap_or o empty_row)
part_at part None none = sym none
part_at part (Some row) none = refl

-- a sum over all accounts, after one row is changed
pub total-changed : (part : Row → ℕ) → part empty_row ≡ 0 → (who : AccountId) (change : Row → Row) (ledger : Ledger) → IsStrictlySortedBy account_cmp (keys_of ledger.rows)
    → total part (changed who change ledger) + part (row_at ledger who) ≡ total part ledger + part (change (row_at ledger who))
total-changed part none who change ledger ordered =
    subst (λ n. total part (changed who change ledger) + n ≡ total part ledger + part (change (row_at ledger who))) (part_at part (row_of ledger who) none)
    (sum_by-insert_entry part account_total ledger.rows who (change (row_at ledger who)) ordered)

-- no account has more than all together
pub part_within : (part : Row → ℕ) → part empty_row ≡ 0 → (who : AccountId) (ledger : Ledger) → IsStrictlySortedBy account_cmp (keys_of ledger.rows)
    → part (row_at ledger who) ≤ total part ledger
part_within part none who ledger ordered =
    omega (arith, total-changed part none who (λ _. empty_row) ledger ordered, none)

pub ordered-changed : (who : AccountId) (change : Row → Row) (ledger : Ledger) → IsStrictlySortedBy account_cmp (keys_of ledger.rows)
    → IsStrictlySortedBy account_cmp (keys_of (changed who change ledger).rows)
ordered-changed who change ledger ordered = sorted_put account_total who (change (row_at ledger who)) ledger.rows ordered

pub schedules-changed : (who : AccountId) (change : Row → Row) (ledger : Ledger) → All (λ row. IsSchedule row.chunks) (values_of ledger.rows)
    → IsSchedule (change (row_at ledger who)).chunks → All (λ row. IsSchedule row.chunks) (values_of (changed who change ledger).rows)
schedules-changed who change ledger all here =
    All-values-insert_entry account_cmp who (change (row_at ledger who)) (λ row. IsSchedule row.chunks) ledger.rows all here

no_schedule : IsSchedule []
no_schedule = record { whole = λ k d below. absurd (omega arith); few = omega arith; rising = λ i j d below within. absurd (omega arith) }

schedule_of : (o : Option Row) → IfSome o (λ row. IsSchedule row.chunks) → IsSchedule (unwrap_or o empty_row).chunks
schedule_of None all = no_schedule
schedule_of (Some row) all = all

-- the chunks of every account are in order
pub schedule_in : (who : AccountId) (rows : List (AccountId × Row)) → All (λ row. IsSchedule row.chunks) (values_of rows) → IsSchedule (row_in rows who).chunks
schedule_in who rows all =
    schedule_of (lookup (is_at (account_cmp who)) rows) (IfSome-lookup_from_All (λ (row : Row). IsSchedule row.chunks) (is_at (account_cmp who)) rows all)

pub schedule_at : (who : AccountId) (ledger : Ledger) → All (λ row. IsSchedule row.chunks) (values_of ledger.rows) → IsSchedule (row_at ledger who).chunks
schedule_at who ledger all = schedule_in who ledger.rows all

-- what all accounts have is the sum of its parts
pub total_worth : (rows : List Row) → sum_by worth rows
    ≡ sum_by (λ row. row.free) rows + sum_by (λ row. row.active) rows + sum_by (λ row. chunk_sum row.chunks) rows + sum_by (λ row. row.held) rows
total_worth [] = refl
total_worth (row ∷ rows) = rw (sum_by-cons, sum_by-cons, sum_by-cons, sum_by-cons, sum_by-cons, total_worth rows) (omega arith)

pub row_in_put : (who : AccountId) (change : Row → Row) (rows : List (AccountId × Row)) → row_in (with_row who change rows) who ≡ change (row_in rows who)
row_in_put who change rows = ap (λ (o : Option Row). unwrap_or o empty_row) (lookup_put account_total who (change (row_in rows who)) rows)

same_free : (row : Row) (value : ℕ) → value ≤ row.free → gained value (paid value row) ≡ row
same_free row value within = let same : row.free - value + value ≡ row.free = omega (arith, within) in ap (λ free. record row { free = free }) same

-- what was paid, given back, leaves the rows as they were
pub given_back : (who : AccountId) (value : ℕ) (rows : List (AccountId × Row)) → IsStrictlySortedBy account_cmp (keys_of rows)
    → row_of_entries who rows ≡ Some (row_in rows who) → value ≤ (row_in rows who).free → with_row who (gained value) (with_row who (paid value) rows) ≡ rows
given_back who value rows ordered there within =
    ap (λ (row : Row). insert_entry account_cmp (with_row who (paid value) rows) who row)
    (ap (gained value) (row_in_put who (paid value) rows) ∙ same_free (row_in rows who) value within)
    ∙ put_back account_total who (paid value (row_in rows who)) rows (row_in rows who) ordered there

pub row_of-put : (who : AccountId) (change : Row → Row) (rows : List (AccountId × Row))
    → row_of_entries who (with_row who change rows) ≡ Some (row_in (with_row who change rows) who)
row_of-put who change rows = lookup_put account_total who (change (row_in rows who)) rows ∙ ap Some (sym (row_in_put who change rows))
