-- Accounts keep their places, and rows that stand at the places are rows by account.
use Rattle.std.proofs.Common.{◌≡◌, ◌≢◌, ◌∙◌, ℕ, suc, ◌+◌, ◌<◌, Bool, true, false, cond, List, [], ◌∷◌, ◌++◌, length, get_or, slice_set}
use Rattle.std.proofs.Common.{Option, Some, None, option_map, unwrap_or, is_some, OnSome, refl, ap, ap₂, sym, subst, arith, true≢false}
use Rattle.std.specs.BTreeMap.{insert_entry, is_at}
use Rattle.std.specs.Map.{keys_of, lookup}
use Rattle.std.specs.List.Sorted.{IsStrictlySortedBy}
use Rattle.std.specs.Ordering.{match_ordering, is_eq}
use Rattle.std.specs.declared.cmp.Ordering.{Ordering}
use Rattle.std.specs.declared.cmp.Ordering.TheVariants.{Less, Equal, Greater}
use Rattle.std.proofs.lemmas.List.{length-append, length-set, get_or-set_same, get_or-set_other, get_or_append_left, get_or_read}
use Rattle.std.proofs.lemmas.Option.{same_Some}
use Rattle.std.proofs.Math.Seq.{get_or-append_seam}
use Rattle.std.proofs.lemmas.Map.{lookup-none}
use Rattle.std.proofs.lemmas.Map.Entries.{none_below_head}
use Rattle.std.proofs.lemmas.Map.Keys.{sorted_tail}
use Rattle.std.proofs.lemmas.Cmp.{tied_itself}
use Rattle.npos_base.specs.declared.account.AccountId.{AccountId}
use Rattle.npos_base.specs.Account.{account_cmp}
use Rattle.npos_base.proofs.AccountOrder.{account_total, account_exact}
use Rattle.stake_ledger.specs.declared.row.Row.{Row}
use Rattle.stake_ledger.specs.Rows.{empty_row}
use Rattle.stake_ledger.specs.Ledger.{row_in, row_of_entries, with_row}
use Rattle.account_places.specs.Places.{place_in}
use Rattle.account_places.proofs.StandLemmas.{one_longer, put_cases, not_again}
use Rattle.account_places.proofs.OrderLemmas.{place_behind, place_first}
use Rattle.stake_ledger.specs.Places.{rows_placed, ArePlaced}
use Rattle.npos_base.proofs.EntryLemmas.{sorted_put}

not_none : {A : Type 0} (x : A) → Some x ≢ None
not_none x e = true≢false (ap is_some e)

-- rows by account depend on the rows at the accounts' places alone
same_rows : (old new : List Row) (places : List (AccountId × ℕ)) → IsStrictlySortedBy account_cmp (keys_of places)
    → ((who : AccountId) (place : ℕ) → place_in places who ≡ Some place → get_or new place empty_row ≡ get_or old place empty_row)
    → rows_placed new places ≡ rows_placed old places
same_rows old new [] ordered same = refl
same_rows old new (first ∷ later) ordered same =
    ap₂ (λ row rows. (first.0, row) ∷ rows) (same first.0 first.1 (place_first first later))
    (same_rows old new later (sorted_tail account_cmp first.0 (keys_of later) ordered) (λ who place there. same who place (place_behind first later who place ordered there)))

lookup_placed : (test : AccountId → Bool) (rows : List Row) (places : List (AccountId × ℕ))
    → lookup test (rows_placed rows places) ≡ option_map (λ place. get_or rows place empty_row) (lookup test places)
lookup_placed test rows [] = refl
lookup_placed test rows (first ∷ later) = at (test first.0) (lookup_placed test rows later) where
  at : (b : Bool) → lookup test (rows_placed rows later) ≡ option_map (λ place. get_or rows place empty_row) (lookup test later)
      → cond b (Some (get_or rows first.1 empty_row)) (lookup test (rows_placed rows later))
      ≡ option_map (λ place. get_or rows place empty_row) (cond b (Some first.1) (lookup test later))
  at true rest = refl
  at false rest = rest

-- the row of an account is the one at its place
pub row_placed : (rows : List Row) (places : List (AccountId × ℕ)) (who : AccountId) (place : ℕ) → place_in places who ≡ Some place
    → row_of_entries who (rows_placed rows places) ≡ Some (get_or rows place empty_row)
row_placed rows places who place there = lookup_placed (is_at (account_cmp who)) rows places ∙ ap (option_map (λ p. get_or rows p empty_row)) there

pub row_unplaced : (rows : List Row) (places : List (AccountId × ℕ)) (who : AccountId) → place_in places who ≡ None → row_of_entries who (rows_placed rows places) ≡ None
row_unplaced rows places who nowhere = lookup_placed (is_at (account_cmp who)) rows places ∙ ap (option_map (λ p. get_or rows p empty_row)) nowhere

pub row_in_placed : (rows : List Row) (places : List (AccountId × ℕ)) (who : AccountId) (place : ℕ)
    → place_in places who ≡ Some place → row_in (rows_placed rows places) who ≡ get_or rows place empty_row
row_in_placed rows places who place there = ap (λ o. unwrap_or o empty_row) (row_placed rows places who place there)

pub row_in_unplaced : (rows : List Row) (places : List (AccountId × ℕ)) (who : AccountId) → place_in places who ≡ None → row_in (rows_placed rows places) who ≡ empty_row
row_in_unplaced rows places who nowhere = ap (λ o. unwrap_or o empty_row) (row_unplaced rows places who nowhere)

pub unplaced : (rows : List Row) (places : List (AccountId × ℕ)) (who : AccountId) → row_of_entries who (rows_placed rows places) ≡ None → place_in places who ≡ None
unplaced rows places who none = at (place_in places who) refl where
  at : (o : Option ℕ) → place_in places who ≡ o → o ≡ None
  at None e = refl
  at (Some place) e = absurd (not_none (get_or rows place empty_row) (sym (row_placed rows places who place e) ∙ none))

-- another row at the place of an account is another row of it
set_there : (rows : List Row) (places : List (AccountId × ℕ)) (who : AccountId) (place : ℕ) (row : Row) → IsStrictlySortedBy account_cmp (keys_of places)
    → ((other : AccountId) → place_in places other ≡ Some place → other ≡ who) → place_in places who ≡ Some place → place < length rows
    → rows_placed (slice_set rows place row) places ≡ insert_entry account_cmp (rows_placed rows places) who row
set_there rows [] who place row ordered alone there within = absurd (not_none place (sym there))
set_there rows (first ∷ later) who place row ordered alone there within =
    at (account_cmp who first.0) refl there
    (λ found. set_there rows later who place row (sorted_tail account_cmp first.0 (keys_of later) ordered)
    (λ other here. alone other (place_behind first later other place ordered here)) found within) where
      rest : IsStrictlySortedBy account_cmp (keys_of later)
      rest = sorted_tail account_cmp first.0 (keys_of later) ordered

      other_place : first.0 ≢ who → first.1 ≢ place
      other_place differ same = differ (alone first.0 (place_first first later ∙ ap Some same))

      elsewhere : (q : AccountId) (p : ℕ) → first.0 ≡ who → place_in later q ≡ Some p → p ≢ place
      elsewhere q p is found same =
          not_none p (sym found ∙ ap (place_in later) (alone q (place_behind first later q p ordered found ∙ ap Some same) ∙ sym is) ∙ not_again first later ordered)

      differs : (r : Ordering) → account_cmp who first.0 ≡ r → is_eq r ≡ false → first.0 ≢ who
      differs r is unlike same = true≢false (sym (ap is_eq (tied_cmp same)) ∙ ap is_eq is ∙ unlike) where
        tied_cmp : first.0 ≡ who → account_cmp who first.0 ≡ Equal
        tied_cmp same = ap (account_cmp who) same ∙ tied_itself account_total who

      at : (r : Ordering) → account_cmp who first.0 ≡ r → cond (is_eq r) (Some first.1) (place_in later who) ≡ Some place
          → (place_in later who ≡ Some place → rows_placed (slice_set rows place row) later ≡ insert_entry account_cmp (rows_placed rows later) who row)
          → (first.0, get_or (slice_set rows place row) first.1 empty_row) ∷ rows_placed (slice_set rows place row) later
          ≡ match_ordering r ((who, row) ∷ rows_placed rows (first ∷ later)) ((first.0, row) ∷ rows_placed rows later)
          ((first.0, get_or rows first.1 empty_row) ∷ insert_entry account_cmp (rows_placed rows later) who row)
      at Less is found more =
          absurd (not_none place (sym found ∙ lookup-none (is_at (account_cmp who)) later (none_below_head account_total who first later ordered is).1))
      at Equal is found more =
          let same : first.1 ≡ place = same_Some first.1 place found in
          ap₂ (λ r rows. (first.0, r) ∷ rows)
          (ap (λ p. get_or (slice_set rows place row) p empty_row) same ∙ get_or-set_same rows place row empty_row within)
          (same_rows rows (slice_set rows place row) later rest (λ q p there. get_or-set_other rows place p row empty_row (elsewhere q p (sym (account_exact who first.0 is)) there)))
      at Greater is found more =
          ap₂ (λ r rows. (first.0, r) ∷ rows)
          (get_or-set_other rows place first.1 row empty_row (other_place (differs Greater is refl)))
          (more found)

pub row_changed : (rows : List Row) (places : List (AccountId × ℕ)) (who : AccountId) (place : ℕ) (row : Row) → ArePlaced rows places
    → place_in places who ≡ Some place → rows_placed (slice_set rows place row) places ≡ insert_entry account_cmp (rows_placed rows places) who row
row_changed rows places who place row placed there =
    set_there rows places who place row placed.ordered (λ other here. placed.apart who other place there here) there (placed.within who place there)

-- the row that stands at the place of an account is its row
pub row_found : (rows : List Row) (places : List (AccountId × ℕ)) (entries : List (AccountId × Row)) (who : AccountId)
    (place : ℕ) (row : Row) → ArePlaced rows places → rows_placed rows places ≡ entries
    → place_in places who ≡ Some place → row ≡ get_or rows place row → row ≡ row_in entries who
row_found rows places entries who place row placed view there is =
    get_or_read rows place row (placed.within who place there) is empty_row ∙ sym (row_in_placed rows places who place there) ∙ ap (λ es. row_in es who) view

pub row_found_there : (rows : List Row) (places : List (AccountId × ℕ)) (entries : List (AccountId × Row))
    (who : AccountId) (place : ℕ) (row : Row) → ArePlaced rows places → rows_placed rows places ≡ entries
    → place_in places who ≡ Some place → row ≡ get_or rows place row → row_of_entries who entries ≡ Some row
row_found_there rows places entries who place row placed view there is =
    ap (row_of_entries who) (sym view) ∙ row_placed rows places who place there ∙ ap Some (sym (get_or_read rows place row (placed.within who place there) is empty_row))

pub row_missing : (rows : List Row) (places : List (AccountId × ℕ)) (entries : List (AccountId × Row)) (who : AccountId) → rows_placed rows places ≡ entries
    → place_in places who ≡ None → row_of_entries who entries ≡ None
row_missing rows places entries who view nowhere = ap (row_of_entries who) (sym view) ∙ row_unplaced rows places who nowhere

-- what becomes of that row becomes of the account's row
pub row_becomes : (rows : List Row) (places : List (AccountId × ℕ)) (entries : List (AccountId × Row))
    (who : AccountId) (place : ℕ) (row new : Row) (change : Row → Row) → ArePlaced rows places
    → rows_placed rows places ≡ entries
    → place_in places who ≡ Some place → row ≡ get_or rows place row → new ≡ change row → rows_placed (slice_set rows place new) places ≡ with_row who change entries
row_becomes rows places entries who place row new change placed view there is becomes =
    row_changed rows places who place new placed there
    ∙ ap₂ (λ es r. insert_entry account_cmp es who r) view (becomes ∙ ap change (row_found rows places entries who place row placed view there is))

-- what follows from what an Ok or a Some says holds of it too
pub then_some : {T P Q : Type 0} (result : Option T) → (P → Q) → OnSome result P → OnSome result Q
then_some (Some value) follows holds = follows holds
then_some None follows holds = tt

pub placed_changed : (rows : List Row) (places : List (AccountId × ℕ)) (place : ℕ) (row : Row) → ArePlaced rows places → ArePlaced (slice_set rows place row) places
placed_changed rows places place row placed = record {
  count = placed.count ∙ sym (length-set rows place row);
  ordered = placed.ordered;
  within = λ who p there. subst (λ n. p < n) (sym (length-set rows place row)) (placed.within who p there);
  apart = placed.apart;
}

-- a new row behind the others is the row of a new account
open_there : (rows : List Row) (places : List (AccountId × ℕ)) (who : AccountId) (row : Row) → IsStrictlySortedBy account_cmp (keys_of places)
    → ((other : AccountId) (place : ℕ) → place_in places other ≡ Some place → place < length rows)
    → rows_placed (rows ++ row ∷ []) (insert_entry account_cmp places who (length rows)) ≡ insert_entry account_cmp (rows_placed rows places) who row
open_there rows [] who row ordered within = ap (λ r. (who, r) ∷ []) (get_or-append_seam rows row [] empty_row)
open_there rows (first ∷ later) who row ordered within =
    at (account_cmp who first.0)
    (open_there rows later who row (sorted_tail account_cmp first.0 (keys_of later) ordered) (λ other place there. within other place (place_behind first later other place ordered there))) where
      here : get_or (rows ++ row ∷ []) (length rows) empty_row ≡ row
      here = get_or-append_seam rows row [] empty_row

      kept : (other : AccountId) (place : ℕ) → place_in (first ∷ later) other ≡ Some place → get_or (rows ++ row ∷ []) place empty_row ≡ get_or rows place empty_row
      kept other place there = get_or_append_left rows (row ∷ []) empty_row place (within other place there)

      rest : IsStrictlySortedBy account_cmp (keys_of later)
      rest = sorted_tail account_cmp first.0 (keys_of later) ordered

      behind : rows_placed (rows ++ row ∷ []) later ≡ rows_placed rows later
      behind = same_rows rows (rows ++ row ∷ []) later rest (λ other place there. kept other place (place_behind first later other place ordered there))

      at : (r : Ordering) → rows_placed (rows ++ row ∷ []) (insert_entry account_cmp later who (length rows)) ≡ insert_entry account_cmp (rows_placed rows later) who row
          → rows_placed (rows ++ row ∷ []) (match_ordering r ((who, length rows) ∷ first ∷ later) ((first.0, length rows) ∷ later) (first ∷ insert_entry account_cmp later who (length rows)))
          ≡ match_ordering r ((who, row) ∷ rows_placed rows (first ∷ later)) ((first.0, row) ∷ rows_placed rows later)
          ((first.0, get_or rows first.1 empty_row) ∷ insert_entry account_cmp (rows_placed rows later) who row)
      at Less more = ap₂ (λ r rows. (who, r) ∷ rows) here (ap₂ (λ r rows. (first.0, r) ∷ rows) (kept first.0 first.1 (place_first first later)) behind)
      at Equal more = ap₂ (λ r rows. (first.0, r) ∷ rows) here behind
      at Greater more = ap₂ (λ r rows. (first.0, r) ∷ rows) (kept first.0 first.1 (place_first first later)) more

pub row_opened : (rows : List Row) (places : List (AccountId × ℕ)) (who : AccountId) (row : Row) → ArePlaced rows places
    → rows_placed (rows ++ row ∷ []) (insert_entry account_cmp places who (length places)) ≡ insert_entry account_cmp (rows_placed rows places) who row
row_opened rows places who row placed =
    ap (λ n. rows_placed (rows ++ row ∷ []) (insert_entry account_cmp places who n)) placed.count ∙ open_there rows places who row placed.ordered placed.within

pub placed_opened : (rows : List Row) (places : List (AccountId × ℕ)) (who : AccountId) (row : Row) → ArePlaced rows places → place_in places who ≡ None
    → ArePlaced (rows ++ row ∷ []) (insert_entry account_cmp places who (length places))
placed_opened rows places who row placed nowhere = record {
  count = one_longer places who (length places) nowhere ∙ ap (λ n. n + 1) placed.count ∙ sym longer;
  ordered = sorted_put account_total who (length places) places placed.ordered;
  within = λ other place there. put_cases places who other (length places) place there (place < length (rows ++ row ∷ []))
      (λ same is. omega (arith, is, placed.count, longer)) (λ differ before. omega (arith, placed.within other place before, longer));
  apart = λ one other place there here. put_cases places who one (length places) place there (other ≡ one)
      (λ same is. put_cases places who other (length places) place here (other ≡ one) (λ also _. also ∙ sym same) (λ differ before. absurd (past other place before is)))
      (λ differ before. put_cases places who other (length places) place here (other
      ≡ one) (λ also is. absurd (past one place before is)) (λ _ before_too. placed.apart one other place before
      before_too));
} where
  longer : length (rows ++ row ∷ []) ≡ length rows + 1
  longer = length-append rows (row ∷ [])

  past : (other : AccountId) (place : ℕ) → place_in places other ≡ Some place → place ≡ length places → ⊥
  past other place there is = omega (arith, placed.within other place there, is, placed.count)

-- no rows stand at no places
pub placed_none : ArePlaced [] []
unfolding IsStrictlySortedBy
placed_none = record {
  count = refl;
  ordered = tt;
  within = λ who place there. absurd (not_none place (sym there));
  apart = λ who other place there here. absurd (not_none place (sym there));
}

-- there is a row for each place, with its account
pub keys_placed : (rows : List Row) (places : List (AccountId × ℕ)) → keys_of (rows_placed rows places) ≡ keys_of places
keys_placed rows [] = refl
keys_placed rows (first ∷ later) = ap (λ keys. first.0 ∷ keys) (keys_placed rows later)

pub as_many_placed : (rows : List Row) (places : List (AccountId × ℕ)) → length (rows_placed rows places) ≡ length places
as_many_placed rows [] = refl
as_many_placed rows (first ∷ later) = ap suc (as_many_placed rows later)

-- the rows of one more place
pub placed_more : (rows : List Row) (places : List (AccountId × ℕ)) (entry : AccountId × ℕ)
    → rows_placed rows (places ++ entry ∷ []) ≡ rows_placed rows places ++ (entry.0, get_or rows entry.1 empty_row) ∷ []
placed_more rows [] entry = refl
placed_more rows (first ∷ later) entry = ap (λ entries. (first.0, get_or rows first.1 empty_row) ∷ entries) (placed_more rows later entry)
