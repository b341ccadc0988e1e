-- Rows none of which is bad rise by account.
use Rattle.std.proofs.Common.{◌≡◌, ℕ, suc, Bool, true, false, not, ◌||◌, if◌then◌else◌, List, [], ◌∷◌, ◌++◌, map, Option, Some, None, refl, sym, ◌∙◌, ap, arith, length, slice_get, nat_lt}
use Rattle.std.specs.List.{AllByRecursion}
use Rattle.std.specs.List.Sorted.{IsStrictlySortedBy}
use Rattle.std.specs.Option.{option_map}
use Rattle.std.specs.Ordering.{is_lt}
use Rattle.std.specs.declared.cmp.Ordering.{Ordering}
use Rattle.std.specs.declared.cmp.Ordering.TheVariants.{Less, Equal, Greater}
use Rattle.std.proofs.lemmas.Bool.{or_parts}
use Rattle.npos_base.specs.declared.account.AccountId.{AccountId}
use Rattle.npos_base.specs.Account.{account_cmp}
use Rattle.npos_base.proofs.AccountOrder.{account_total}
use Rattle.stake_ledger.specs.declared.book_row.BookRow.{BookRow}
use Rattle.stake_ledger.specs.declared.chunks.TheConstants.{MOST_CHUNKS}
use Rattle.stake_ledger.specs.BookRows as book
use Rattle.state_rules.specs.Lists.{bad_from, bad_place, last_of}
use Rattle.state_rules.specs.Known.{AreByAccount}
use Rattle.state_rules.specs.Rows.{is_late, is_bad_row}

at_end : {A : Type 0} (before : List A) (item : A) → slice_get (before ++ item ∷ []) (length before) ≡ Some item
at_end [] item = refl
at_end (x ∷ before) item = at_end before item

one_more : {A : Type 0} (before : List A) (item : A) → length (before ++ item ∷ []) ≡ suc (length before)
one_more [] item = refl
one_more (x ∷ before) item = ap suc (one_more before item)

-- the last of a list is what was put behind the others
pub last_put : {A : Type 0} (before : List A) (item : A) → last_of (before ++ item ∷ []) ≡ Some item
last_put before item = ap (slice_get (before ++ item ∷ [])) (let more = one_more before item in omega (arith, more)) ∙ at_end before item

passed : {A : Type 0} (bad : Bool) (place : A) (rest : Option A) → (if bad then Some place else rest) ≡ None → (bad ≡ false) × (rest ≡ None)
passed true place rest e = cc
passed false place rest e = (refl, e)

less : (r : Ordering) → not (is_lt r) ≡ false → r ≡ Less
less Less e = refl
less Equal e = cc
less Greater e = cc

below_all : (who other : AccountId) (accounts : List AccountId) → account_cmp who other ≡ Less → AllByRecursion (λ y. account_cmp other y ≡ Less) accounts
    → AllByRecursion (λ y. account_cmp who y ≡ Less) accounts
below_all who other [] below all = tt
below_all who other (y ∷ ys) below all = (account_total.trans who other y below all.0, below_all who other ys below all.1)

-- the rows behind others rise, and are above the last of those
behind : (latest : ℕ) (before rows : List BookRow) → bad_from (is_bad_row latest) before rows ≡ None
    → AreByAccount rows × ((last : BookRow) → last_of before ≡ Some last → AllByRecursion (λ y. account_cmp last.who y ≡ Less) (map (λ row. row.who) rows))
unfolding IsStrictlySortedBy
behind latest before [] e = (tt, λ last is. tt)
behind latest before (row ∷ rows) e =
    let (good, more) = passed (is_bad_row latest before row) (length before) (bad_from (is_bad_row latest) (before ++ row ∷ []) rows) e in
    let rest = behind latest (before ++ row ∷ []) rows more in
    let above = rest.1 row (last_put before row) in
    let kept : book.is_bad_row (option_map (λ earlier. earlier.who) (last_of before)) row ≡ false = (or_parts _ (is_late latest row) good).0 in
    let ordered : book.is_out_of_order (option_map (λ earlier. earlier.who) (last_of before)) row.who ≡ false =
    (or_parts (book.is_out_of_order (option_map (λ earlier. earlier.who) (last_of before)) row.who) (nat_lt MOST_CHUNKS (length row.chunks))
    (or_parts (book.is_out_of_order (option_map (λ earlier. earlier.who) (last_of before)) row.who || nat_lt MOST_CHUNKS (length row.chunks))
    (book.has_bad_chunk None row.chunks) kept).0).0 in (
      (above, rest.0),
      λ last is.
          let below : account_cmp last.who row.who ≡ Less = less (account_cmp last.who row.who)
          (sym (ap (λ (o : Option BookRow). book.is_out_of_order (option_map (λ earlier. earlier.who) o) row.who) is) ∙ ordered) in
          (below, below_all last.who row.who (map (λ r. r.who) rows) below above),
    )

pub by_account : (latest : ℕ) (rows : List BookRow) → bad_place (is_bad_row latest) rows ≡ None → AreByAccount rows
by_account latest rows e = (behind latest [] rows e).0
