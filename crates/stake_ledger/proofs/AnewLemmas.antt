-- Books are made anew from their rows.
use Rattle.std.proofs.Common.{◌≡◌, ◌∙◌, ℕ, suc, ◌+◌, ◌<◌, ◌≤◌, Bool, true, false, cond, not, nat_eq, nat_lt, nat_le, List, [], ◌∷◌, length}
use Rattle.std.proofs.Common.{map, Option, Some, None, unwrap_or, is_some, IfSome, All, refl, ap, sym, subst, arith, true≢false, sum_by}
use Rattle.std.specs.BTreeMap.{is_at}
use Rattle.std.specs.List.{AllByRecursion}
use Rattle.std.specs.List.Sorted.{IsStrictlySortedBy}
use Rattle.std.specs.Map.{keys_of, values_of, lookup}
use Rattle.std.specs.Ordering.{is_lt, is_eq}
use Rattle.std.specs.declared.cmp.Ordering.TheVariants.{Less}
use Rattle.std.proofs.lemmas.Grind.{common_steps}
use Rattle.std.proofs.lemmas.List.Elements.{All-cons, All-nil, All-head, All-tail}
use Rattle.std.proofs.lemmas.Map.Keys.{sorted_head, sorted_tail}
use Rattle.std.proofs.lemmas.Map.Views.{IfSome-lookup_from_All}
use Rattle.std.proofs.lemmas.Cmp.{tied_itself}
use Rattle.npos_base.specs.declared.account.AccountId.{AccountId}
use Rattle.npos_base.specs.Account.{account_cmp}
use Rattle.npos_base.proofs.AccountOrder.{account_total}
use Rattle.account_places.proofs.StandLemmas.{tied, not_again}
use Rattle.stake_ledger.specs.declared.chunks.Chunk.{Chunk}
use Rattle.stake_ledger.specs.declared.row.Row.{Row}
use Rattle.stake_ledger.specs.declared.book_row.BookRow.{BookRow}
use Rattle.stake_ledger.specs.declared.rows_fault.RowsFault.{RowsFault}
use Rattle.stake_ledger.specs.declared.rows_fault.RowsFault.TheVariants.{BadRow, BadSum}
use Rattle.stake_ledger.specs.Chunks.{IsSchedule}
use Rattle.stake_ledger.specs.Rows.{empty_row, worth}
use Rattle.stake_ledger.specs.Ledger.{Ledger, IsBalanced}
use Rattle.stake_ledger.specs.BookRows.{has_bad_chunk, is_out_of_order, is_bad_row, first_bad_row, entry_of, total_worth, is_bad_sum, rows_fault, book_row, book_rows}
use Rattle.stake_ledger.specs.Releases.{IsWithin}
use Rattle.stake_ledger.specs.Laws.{SavedLaw, RestoredLaw, ReleasesLaw, RowReleasesLaw}
use Rattle.stake_ledger.proofs.BookRowLemmas.{sum_of_rows, balanced_rows}

-- ---- rows and values are one

entries_again : (entries : List (AccountId × Row)) → map entry_of (map book_row entries) ≡ entries
entries_again [] = refl
entries_again (entry ∷ entries) = ap (λ l. entry ∷ l) (entries_again entries)

values_again : (rows : List BookRow) → map book_row (map entry_of rows) ≡ rows
values_again [] = refl
values_again (row ∷ rows) = ap (λ l. row ∷ l) (values_again rows)

-- ---- rows in order have no fault

chunks_good_behind : (before : ℕ) (chunks : List Chunk) → All (λ c. before < c.release) chunks → IsSchedule chunks → has_bad_chunk (Some before) chunks ≡ false
chunks_good_behind before [] above s = refl
chunks_good_behind before (c ∷ later) above s =
    let some : nat_eq c.value 0 ≡ false = grind (arith, common_steps, All-head (λ (x : Chunk). 0 < x.value) c later s.whole) in
    let over : nat_le c.release before ≡ false = grind (arith, common_steps, All-head (λ (x : Chunk). before < x.release) c later above) in
    rw (some, over) (chunks_good_behind c.release later (λ k d below. s.rising 0 (suc k) d (omega arith) (omega (arith, below))) record {
      whole = All-tail (λ (x : Chunk). 0 < x.value) c later s.whole;
      few = omega (arith, s.few);
      rising = λ i j d below within. s.rising (suc i) (suc j) d (omega (arith, below)) (omega (arith, within));
    })

chunks_good : (chunks : List Chunk) → IsSchedule chunks → has_bad_chunk None chunks ≡ false
chunks_good [] s = refl
chunks_good (c ∷ later) s =
    let some : nat_eq c.value 0 ≡ false = grind (arith, common_steps, All-head (λ (x : Chunk). 0 < x.value) c later s.whole) in
    rw some (chunks_good_behind c.release later (λ k d below. s.rising 0 (suc k) d (omega arith) (omega (arith, below))) record {
      whole = All-tail (λ (x : Chunk). 0 < x.value) c later s.whole;
      few = omega (arith, s.few);
      rising = λ i j d below within. s.rising (suc i) (suc j) d (omega (arith, below)) (omega (arith, within));
    })

row_good : (before : Option AccountId) (row : BookRow) → is_out_of_order before row.who ≡ false → IsSchedule row.chunks → is_bad_row before row ≡ false
row_good before row ordered s =
    let few : nat_lt 32 (length row.chunks) ≡ false = grind (arith, common_steps, s.few) in
    let good : has_bad_chunk None row.chunks ≡ false = chunks_good row.chunks s in
    rw (ordered, few) good

rows_good_behind : (before : AccountId) (entries : List (AccountId × Row)) → AllByRecursion (λ y. account_cmp before y ≡ Less) (keys_of entries)
    → IsStrictlySortedBy account_cmp (keys_of entries) → All (λ row. IsSchedule row.chunks) (values_of entries) → first_bad_row (Some before) (map book_row entries) ≡ None
rows_good_behind before [] above ordered schedules = refl
rows_good_behind before (entry ∷ later) above ordered schedules =
    let good : is_bad_row (Some before) (book_row entry) ≡ false =
    row_good (Some before) (book_row entry) (ap (λ o. not (is_lt o)) above.0) (All-head (λ (row : Row). IsSchedule row.chunks) entry.1 (values_of later) schedules) in
    let rest = rows_good_behind entry.0 later (sorted_head account_cmp entry.0 (keys_of later) ordered) (sorted_tail account_cmp entry.0 (keys_of later) ordered)
    (All-tail (λ (row : Row). IsSchedule row.chunks) entry.1 (values_of later) schedules) in
    rw (good, rest) refl

rows_good : (entries : List (AccountId × Row)) → IsStrictlySortedBy account_cmp (keys_of entries) → All (λ row. IsSchedule row.chunks) (values_of entries)
    → first_bad_row None (map book_row entries) ≡ None
rows_good [] ordered schedules = refl
rows_good (entry ∷ later) ordered schedules =
    let good : is_bad_row None (book_row entry) ≡ false =
    row_good None (book_row entry) refl (All-head (λ (row : Row). IsSchedule row.chunks) entry.1 (values_of later) schedules) in
    let rest = rows_good_behind entry.0 later (sorted_head account_cmp entry.0 (keys_of later) ordered) (sorted_tail account_cmp entry.0 (keys_of later) ordered)
    (All-tail (λ (row : Row). IsSchedule row.chunks) entry.1 (values_of later) schedules) in
    rw (good, rest) refl

sums_good : (ledger : Ledger) → IsBalanced ledger → is_bad_sum (book_rows ledger) ledger.genesis ledger.minted ledger.burned ≡ false
sums_good ledger balanced =
    let all : total_worth (book_rows ledger) + ledger.burned ≡ ledger.genesis + ledger.minted =
    omega (arith, balanced.equation, sum_of_rows worth (book_rows ledger), ap (λ entries. sum_by worth (values_of entries)) (entries_again ledger.rows)) in
    grind (arith, common_steps, all, balanced.capped)

no_fault : (rows : List BookRow) (genesis minted burned : ℕ) → first_bad_row None rows ≡ None → is_bad_sum rows genesis minted burned ≡ false
    → rows_fault rows genesis minted burned ≡ None
no_fault rows genesis minted burned none good = rw (none, good) refl

pub saved_law : SavedLaw
saved_law ledger balanced = (
  no_fault (book_rows ledger) ledger.genesis ledger.minted ledger.burned (rows_good ledger.rows balanced.distinct balanced.schedules) (sums_good ledger balanced),
  ap (λ (entries : List (AccountId × Row)). record ledger { rows = entries }) (entries_again ledger.rows),
)

fault_none : (rows : List BookRow) (genesis minted burned : ℕ) → rows_fault rows genesis minted burned ≡ None
    → (first_bad_row None rows ≡ None) × (is_bad_sum rows genesis minted burned ≡ false)
fault_none rows genesis minted burned none = at (first_bad_row None rows) refl (is_bad_sum rows genesis minted burned) refl where
  some_not_none : (fault : RowsFault) → Some fault ≡ None → ⊥
  some_not_none fault e = true≢false (ap is_some e)

  at : (o : Option ℕ) → first_bad_row None rows ≡ o → (b : Bool) → is_bad_sum rows genesis minted burned ≡ b
      → (first_bad_row None rows ≡ None) × (is_bad_sum rows genesis minted burned ≡ false)
  at (Some place) is b sum = absurd (some_not_none (BadRow place) (rw is at none))
  at None is true sum = absurd (some_not_none BadSum (rw (is, sum) at none))
  at None is false sum = (is, sum)

pub restored_law : RestoredLaw
restored_law rows genesis minted burned = (
  values_again rows,
  λ none. let faults = fault_none rows genesis minted burned none in balanced_rows rows genesis minted burned faults.0 faults.1,
)

-- ---- what is on its way out

within_entries : (era : ℕ) (rows : List BookRow) → All (IsWithin era) rows → All (λ (row : Row). All (λ chunk. chunk.release ≤ era) row.chunks) (values_of (map entry_of rows))
within_entries era [] all = All-nil _
within_entries era (row ∷ rows) all =
    All-cons (λ (r : Row). All (λ chunk. chunk.release ≤ era) r.chunks) (entry_of row).1 (values_of (map entry_of rows)) (All-head (IsWithin era) row rows all)
    (within_entries era rows (All-tail (IsWithin era) row rows all))

pub releases_law : ReleasesLaw
releases_law era rows genesis minted burned none all = λ who.
    at (lookup (is_at (account_cmp who)) (map entry_of rows))
    (IfSome-lookup_from_All (λ (row : Row). All (λ chunk. chunk.release ≤ era) row.chunks) (is_at (account_cmp who)) (map entry_of rows) (within_entries era rows all)) where
      at : (o : Option Row) → IfSome o (λ row. All (λ chunk. chunk.release ≤ era) row.chunks) → All (λ chunk. chunk.release ≤ era) (unwrap_or o empty_row).chunks
      at None all = λ k d below. absurd (omega (arith, below))
      at (Some row) all = all

-- each row of the books is that of its account
row_first : (entry : AccountId × Row) (later : List (AccountId × Row)) → lookup (is_at (account_cmp entry.0)) (entry ∷ later) ≡ Some entry.1
row_first entry later = rw (tied_itself account_total entry.0) refl

within_rows : (era : ℕ) (entries : List (AccountId × Row)) → IsStrictlySortedBy account_cmp (keys_of entries)
    → ((who : AccountId) → IfSome (lookup (is_at (account_cmp who)) entries) (λ row. All (λ chunk. chunk.release ≤ era) row.chunks)) → All (IsWithin era) (map book_row entries)
within_rows era [] ordered within = All-nil _
within_rows era (entry ∷ later) ordered within =
    All-cons (IsWithin era) (book_row entry) (map book_row later)
    (subst (λ (o : Option Row). IfSome o (λ row. All (λ chunk. chunk.release ≤ era) row.chunks)) (row_first entry later) (within entry.0))
    (within_rows era later (sorted_tail account_cmp entry.0 (keys_of later) ordered) (λ who. behind who (is_eq (account_cmp who entry.0)) refl)) where
      behind : (who : AccountId) (b : Bool) → is_eq (account_cmp who entry.0) ≡ b
          → IfSome (lookup (is_at (account_cmp who)) later) (λ row. All (λ chunk. chunk.release ≤ era) row.chunks)
      behind who true same =
          subst (λ (o : Option Row). IfSome o (λ row. All (λ chunk. chunk.release ≤ era) row.chunks))
          (sym (ap (λ a. lookup (is_at (account_cmp a)) later) (tied who entry.0 same) ∙ not_again entry later ordered)) tt
      behind who false apart =
          subst (λ b. IfSome (cond b (Some entry.1) (lookup (is_at (account_cmp who)) later)) (λ row. All (λ chunk. chunk.release ≤ era) row.chunks)) apart (within who)

pub row_releases_law : RowReleasesLaw
row_releases_law era ledger balanced within =
    within_rows era ledger.rows balanced.distinct (λ who. at (lookup (is_at (account_cmp who)) ledger.rows) (within who)) where
      at : (o : Option Row) → All (λ chunk. chunk.release ≤ era) (unwrap_or o empty_row).chunks → IfSome o (λ row. All (λ chunk. chunk.release ≤ era) row.chunks)
      at None all = tt
      at (Some row) all = all
