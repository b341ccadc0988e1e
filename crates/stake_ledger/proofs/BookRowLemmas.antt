-- Rows as values: their faults, and the books that they make.
use Rattle.std.proofs.Common.{◌≡◌, ◌∙◌, ℕ, suc, ◌+◌, ◌<◌, ◌≤◌, Bool, true, false, not, ◌||◌, nat_eq, nat_lt, nat_le, if◌then◌else◌}
use Rattle.std.proofs.Common.{List, [], ◌∷◌, ◌++◌, length, map, take, drop, get_or, slice_get, sum_by, Option, Some, None}
use Rattle.std.proofs.Common.{option_map, unwrap_or, is_some, All, refl, ap, ap₂, sym, subst, arith, append_assoc, true≢false}
use Rattle.std.specs.BTreeMap.{insert_entry}
use Rattle.std.specs.List.{AllByRecursion, AllPairs}
use Rattle.std.specs.List.Sorted.{IsStrictlySortedBy}
use Rattle.std.specs.Map.{keys_of, values_of}
use Rattle.std.specs.Ordering.{is_lt}
use Rattle.std.specs.declared.cmp.Ordering.{Ordering}
use Rattle.std.specs.declared.cmp.Ordering.TheVariants.{Less, Equal, Greater}
use Rattle.std.proofs.lemmas.List.{drop_more, map-append, get_or_read}
use Rattle.std.proofs.lemmas.List.Elements.{All-cons, All-nil}
use Rattle.std.proofs.lemmas.List.Kept.{AllPairs-cons}
use Rattle.std.proofs.lemmas.List.Sums.{sum_by-cons, sum_by_more_le_part}
use Rattle.std.proofs.lemmas.Grind.{common_steps}
use Rattle.std.proofs.lemmas.Bool.{or_parts}
use Rattle.npos_base.specs.declared.account.AccountId.{AccountId}
use Rattle.npos_base.specs.Account.{account_cmp}
use Rattle.npos_base.proofs.AccountOrder.{account_total}
use Rattle.npos_base.proofs.EntryLemmas.{last_put, last_new}
use Rattle.stake_ledger.specs.declared.chunks.Chunk.{Chunk}
use Rattle.stake_ledger.specs.declared.row.Row.{Row}
use Rattle.stake_ledger.specs.declared.book_row.BookRow.{BookRow}
use Rattle.stake_ledger.specs.Chunks.{IsSchedule}
use Rattle.stake_ledger.specs.Rows.{empty_row, worth}
use Rattle.stake_ledger.specs.Ledger.{row_in, row_of_entries, IsBalanced, totals_of, issuance_cap}
use Rattle.stake_ledger.specs.declared.totals.Totals.{Totals}
use Rattle.stake_ledger.specs.Kept.{IsKept}
use Rattle.account_places.specs.Places.{place_in}
use Rattle.account_places.proofs.OrderLemmas.{entry_placed}
use Rattle.stake_ledger.specs.Places.{rows_placed}
use Rattle.stake_ledger.proofs.PlaceLemmas.{placed_more}
use Rattle.stake_ledger.specs.BookRows.{falls_back, has_bad_chunk, is_out_of_order, is_bad_row, first_bad_row, entry_of, total_worth, is_bad_sum, ledger_of, book_row}

-- an account without a row has nothing
pub row_in_absent : (who : AccountId) (rows : List (AccountId × Row)) → row_of_entries who rows ≡ None → row_in rows who ≡ empty_row
row_in_absent who rows absent = ap (λ (o : Option Row). unwrap_or o empty_row) absent

-- ---- a bad chunk, and the first bad row, found from the front

pub next_chunk : (before : Option ℕ) (chunks : List Chunk) (i : ℕ) (d : Chunk) → i < length chunks
    → has_bad_chunk before (drop i chunks)
    ≡ (nat_eq (get_or chunks i d).value 0 || falls_back before (get_or chunks i d).release || has_bad_chunk (Some (get_or chunks i d).release) (drop (i + 1) chunks))
next_chunk before chunks i d within = ap (has_bad_chunk before) (drop_more chunks i d within)

-- the place of the first bad row of all, where so many rows are passed
abbrev pub found_behind : ℕ → Option ℕ → Option ℕ
found_behind passed found = option_map (λ place. passed + place) found

first_next : (before : Option AccountId) (row : BookRow) (rows : List BookRow) (i : ℕ) → is_bad_row before row ≡ false
    → found_behind i (first_bad_row before (row ∷ rows)) ≡ found_behind (i + 1) (first_bad_row (Some row.who) rows)
first_next before row rows i good = rw good (at (first_bad_row (Some row.who) rows)) where
  at : (o : Option ℕ) → found_behind i (option_map suc o) ≡ found_behind (i + 1) o
  at None = refl
  at (Some place) = ap (λ n. Some n) (omega arith)

pub next_row : (before : Option AccountId) (rows : List BookRow) (i : ℕ) (d : BookRow) → i < length rows → is_bad_row before (get_or rows i d) ≡ false
    → found_behind i (first_bad_row before (drop i rows)) ≡ found_behind (i + 1) (first_bad_row (Some (get_or rows i d).who) (drop (i + 1) rows))
next_row before rows i d within good =
    ap (λ rest. found_behind i (first_bad_row before rest)) (drop_more rows i d within) ∙ first_next before (get_or rows i d) (drop (i + 1) rows) i good

pub bad_here : (before : Option AccountId) (rows : List BookRow) (i : ℕ) (d : BookRow) → i < length rows → is_bad_row before (get_or rows i d) ≡ true
    → found_behind i (first_bad_row before (drop i rows)) ≡ Some i
bad_here before rows i d within bad =
    ap (λ rest. found_behind i (first_bad_row before rest)) (drop_more rows i d within) ∙ rw bad (ap (λ n. Some n) (omega arith))

pub none_passed : (found : Option ℕ) → found_behind 0 found ≡ found
none_passed None = refl
none_passed (Some place) = ap (λ n. Some n) (omega arith)

-- ---- the sums

-- where the sums do not fail, the rows hold what was issued, which is within the cap
pub sums_meet : (rows : List BookRow) (genesis minted burned : ℕ) → is_bad_sum rows genesis minted burned ≡ false
    → (total_worth rows + burned ≡ genesis + minted) × (genesis + minted ≤ issuance_cap)
sums_meet rows genesis minted burned good = (grind (arith, common_steps, good), grind (arith, common_steps, good))

-- a part of each row, summed so far, and all of the next row are within what all rows hold
pub part_fits : (part : BookRow → ℕ) → ((row : BookRow) → part row ≤ worth (entry_of row).1) → (rows : List BookRow) (genesis minted burned : ℕ) (i : ℕ) (d : BookRow)
    → is_bad_sum rows genesis minted burned ≡ false → i < length rows
    → sum_by part (take i rows) + worth (entry_of (get_or rows i d)).1 ≤ issuance_cap
part_fits part within rows genesis minted burned i d good below =
    let meet = sums_meet rows genesis minted burned good in
    omega (arith, sum_by_more_le_part part (λ row. worth (entry_of row).1) rows i d below within, meet.0, meet.1)

-- ---- rows without a fault

-- the chunks behind one of this release
chunks_behind : (before : ℕ) (chunks : List Chunk) → has_bad_chunk (Some before) chunks ≡ false
    → (All (λ c. before < c.release) chunks) × ((All (λ c. 0 < c.value) chunks) × AllPairs (λ earlier later. earlier.release < later.release) chunks)
chunks_behind before [] good = (All-nil _, (All-nil _, λ i j d below within. absurd (omega (arith, within, below))))
chunks_behind before (c ∷ later) good =
    let first = or_parts (nat_eq c.value 0 || nat_le c.release before) (has_bad_chunk (Some c.release) later) good in
    let second = or_parts (nat_eq c.value 0) (nat_le c.release before) first.0 in
    let rest = chunks_behind c.release later first.1 in
    let some : 0 < c.value = grind (arith, common_steps, second.0) in
    let above : before < c.release = grind (arith, common_steps, second.1) in (
      All-cons (λ (x : Chunk). before < x.release) c later above (λ k d below. omega (arith, above, rest.0 k d below)),
      (
        All-cons (λ (x : Chunk). 0 < x.value) c later some rest.1.0,
        AllPairs-cons (λ (e l : Chunk). e.release < l.release) c later rest.0 rest.1.1,
      ),
    )

pub good_schedule : (chunks : List Chunk) → has_bad_chunk None chunks ≡ false → nat_lt 32 (length chunks) ≡ false → IsSchedule chunks
good_schedule [] good few = record { whole = All-nil _; few = omega arith; rising = λ i j d below within. absurd (omega (arith, within, below)) }
good_schedule (c ∷ later) good few =
    let first = or_parts (nat_eq c.value 0 || false) (has_bad_chunk (Some c.release) later) good in
    let rest = chunks_behind c.release later first.1 in
    let some : 0 < c.value = grind (arith, common_steps, (or_parts (nat_eq c.value 0) false first.0).0) in
    record {
      whole = All-cons (λ (x : Chunk). 0 < x.value) c later some rest.1.0;
      few = grind (arith, common_steps, few);
      rising = AllPairs-cons (λ (e l : Chunk). e.release < l.release) c later rest.0 rest.1.1;
    }

-- the first row is good, and the rows behind it are
first_good : (before : Option AccountId) (row : BookRow) (rows : List BookRow) → first_bad_row before (row ∷ rows) ≡ None
    → (is_bad_row before row ≡ false) × (first_bad_row (Some row.who) rows ≡ None)
first_good before row rows none = at (is_bad_row before row) (first_bad_row (Some row.who) rows) none where
  at : (b : Bool) (o : Option ℕ) → (if b then Some 0 else option_map suc o) ≡ None → (b ≡ false) × (o ≡ None)
  at true o e = absurd (true≢false (ap is_some e))
  at false (Some place) e = absurd (true≢false (ap is_some e))
  at false None e = (refl, refl)

good_row : (before : Option AccountId) (row : BookRow) → is_bad_row before row ≡ false → (is_out_of_order before row.who ≡ false) × IsSchedule row.chunks
good_row before row good =
    let first = or_parts (is_out_of_order before row.who || nat_lt 32 (length row.chunks)) (has_bad_chunk None row.chunks) good in
    let second = or_parts (is_out_of_order before row.who) (nat_lt 32 (length row.chunks)) first.0 in
    (second.0, good_schedule row.chunks first.1 second.1)

above_before : (before who : AccountId) → is_out_of_order (Some before) who ≡ false → account_cmp before who ≡ Less
above_before before who e = at (account_cmp before who) e where
  at : (r : Ordering) → not (is_lt r) ≡ false → r ≡ Less
  at Less e = refl
  at Equal e = absurd (true≢false e)
  at Greater e = absurd (true≢false e)

all_above : (before who : AccountId) (keys : List AccountId) → account_cmp before who ≡ Less → AllByRecursion (λ y. account_cmp who y ≡ Less) keys
    → AllByRecursion (λ y. account_cmp before y ≡ Less) keys
all_above before who [] below all = tt
all_above before who (k ∷ ks) below all = (account_total.trans before who k below all.0, all_above before who ks below all.1)

abbrev accounts_of : List BookRow → List AccountId
accounts_of rows = keys_of (map entry_of rows)

rise_behind : (before : AccountId) (rows : List BookRow) → first_bad_row (Some before) rows ≡ None
    → AllByRecursion (λ y. account_cmp before y ≡ Less) (accounts_of rows) × IsStrictlySortedBy account_cmp (accounts_of rows)
unfolding IsStrictlySortedBy
rise_behind before [] none = (tt, tt)
rise_behind before (row ∷ rows) none =
    let first = first_good (Some before) row rows none in
    let rest = rise_behind row.who rows first.1 in
    let above = above_before before row.who (good_row (Some before) row first.0).0 in
    ((above, all_above before row.who (accounts_of rows) above rest.0), rest)

-- the accounts of good rows rise
pub rows_rise : (rows : List BookRow) → first_bad_row None rows ≡ None → IsStrictlySortedBy account_cmp (accounts_of rows)
unfolding IsStrictlySortedBy
rows_rise [] none = tt
rows_rise (row ∷ rows) none = rise_behind row.who rows (first_good None row rows none).1

-- and their chunks are in order
rows_scheduled : (before : Option AccountId) (rows : List BookRow) → first_bad_row before rows ≡ None
    → All (λ (row : Row). IsSchedule row.chunks) (values_of (map entry_of rows))
rows_scheduled before [] none = All-nil _
rows_scheduled before (row ∷ rows) none =
    let first = first_good before row rows none in
    All-cons (λ (r : Row). IsSchedule r.chunks) (entry_of row).1 (values_of (map entry_of rows)) (good_row before row first.0).1 (rows_scheduled (Some row.who) rows first.1)

-- a sum over the rows of the books is one over the values
pub sum_of_rows : (part : Row → ℕ) (rows : List BookRow) → sum_by part (values_of (map entry_of rows)) ≡ sum_by (λ row. part (entry_of row).1) rows
sum_of_rows part [] = refl
sum_of_rows part (row ∷ rows) =
    sum_by-cons part (entry_of row).1 (values_of (map entry_of rows))
    ∙ (ap (λ n. part (entry_of row).1 + n) (sum_of_rows part rows) ∙ sym (sum_by-cons (λ row. part (entry_of row).1) row rows))

pub balanced_rows : (rows : List BookRow) (genesis minted burned : ℕ) → first_bad_row None rows ≡ None → is_bad_sum rows genesis minted burned ≡ false
    → IsBalanced (ledger_of rows genesis minted burned)
balanced_rows rows genesis minted burned none good =
    let meet = sums_meet rows genesis minted burned good in
    record {
      distinct = rows_rise rows none;
      schedules = rows_scheduled None rows none;
      equation = omega (arith, sum_of_rows worth rows, meet.0);
      capped = meet.1;
    }

-- ---- rows that are put one behind the other

keys_before : (before rest : List BookRow) (value : BookRow) → accounts_of (before ++ value ∷ rest) ≡ keys_of (map entry_of before ++ (value.who, (entry_of value).1) ∷ map entry_of rest)
keys_before before rest value = ap keys_of (map-append entry_of before (value ∷ rest))

pub next_is_new : (rows before rest : List BookRow) (value : BookRow) → before ++ value ∷ rest ≡ rows → first_bad_row None rows ≡ None
    → row_of_entries value.who (map entry_of before) ≡ None
next_is_new rows before rest value is none =
    last_new account_total value.who (entry_of value).1 (map entry_of before) (map entry_of rest)
    (subst (IsStrictlySortedBy account_cmp) (ap accounts_of (sym is) ∙ keys_before before rest value) (rows_rise rows none))

pub next_is_last : (rows before rest : List BookRow) (value : BookRow) → before ++ value ∷ rest ≡ rows → first_bad_row None rows ≡ None
    → insert_entry account_cmp (map entry_of before) value.who (entry_of value).1 ≡ map entry_of (before ++ value ∷ [])
next_is_last rows before rest value is none =
    last_put account_total value.who (entry_of value).1 (map entry_of before) (map entry_of rest)
    (subst (IsStrictlySortedBy account_cmp) (ap accounts_of (sym is) ∙ keys_before before rest value) (rows_rise rows none))
    ∙ sym (map-append entry_of before (value ∷ []))

-- the next element stands behind those before it
pub rest_behind : {X : Type 0} (all before rest left : List X) (value : X) → before ++ left ≡ all → left ≡ value ∷ rest → (before ++ value ∷ []) ++ rest ≡ all
rest_behind all before rest left value is next = append_assoc before (value ∷ []) rest ∙ (ap (λ l. before ++ l) (sym next) ∙ is)

-- the running totals of the books with these rows
pub kept_rows : (rows : List BookRow) (genesis minted burned : ℕ) (entries : List (AccountId × Row)) (totals : Totals) → entries ≡ map entry_of rows
    → totals ≡ totals_of (ledger_of rows genesis minted burned) → first_bad_row None rows ≡ None → is_bad_sum rows genesis minted burned ≡ false
    → IsKept (record { rows = entries; genesis = genesis; minted = totals.minted; burned = totals.burned }) totals
kept_rows rows genesis minted burned entries totals is running none good =
    rw (is, running) record { balanced = balanced_rows rows genesis minted burned none good; running = refl }

-- ---- rows as values, one behind the other

seam_at : (xs rest : List (AccountId × ℕ)) (entry : AccountId × ℕ) → slice_get (xs ++ entry ∷ rest) (length xs) ≡ Some entry
seam_at [] rest entry = refl
seam_at (x ∷ xs) rest entry = seam_at xs rest entry

-- an entry that comes next tells the place of its account
pub next_placed : (places xs rest left : List (AccountId × ℕ)) (entry : AccountId × ℕ) → IsStrictlySortedBy account_cmp (keys_of places)
    → xs ++ left ≡ places → left ≡ entry ∷ rest → place_in places entry.0 ≡ Some entry.1
next_placed places xs rest left entry ordered is next =
    entry_placed places (length xs) entry ordered
    (ap (λ all. slice_get all (length xs)) (sym is ∙ ap (λ l. xs ++ l) next) ∙ seam_at xs rest entry)

pub values_more : (rows : List Row) (places : List (AccountId × ℕ)) (entry : AccountId × ℕ) (values new : List BookRow) (value : BookRow) (row : Row)
    → new ≡ values ++ value ∷ [] → values ≡ map book_row (rows_placed rows places) → value ≡ book_row (entry.0, row) → row ≡ get_or rows entry.1 row → entry.1 < length rows
    → new ≡ map book_row (rows_placed rows (places ++ entry ∷ []))
values_more rows places entry values new value row is made told there within =
    is
    ∙ (ap₂ (λ (vs : List BookRow) (v : BookRow). vs ++ v ∷ []) made (told ∙ ap (λ (r : Row). book_row (entry.0, r)) (get_or_read rows entry.1 row within there empty_row))
    ∙ (sym (map-append book_row (rows_placed rows places) ((entry.0, get_or rows entry.1 empty_row) ∷ [])) ∙ ap (map book_row) (sym (placed_more rows places entry))))
