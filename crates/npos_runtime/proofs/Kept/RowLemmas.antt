-- The rows that a chain keeps are those of its books: what is found at an account, and lists of which each item stands so to those before it.
use Rattle.std.proofs.Common.{◌≡◌, ℕ, zero, suc, ◌+◌, Bool, true, false, cond, is_some, unwrap_or, All, List, [], ◌∷◌}
use Rattle.std.proofs.Common.{map, take, get_or, Option, Some, None, option_map, refl, ap, sym, subst, ◌∙◌, arith}
use Rattle.std.specs.BTreeMap.{is_at}
use Rattle.std.specs.List.{list_any, AllByRecursion, AllPairs, IsDistinct}
use Rattle.std.specs.List.Sorted.{IsStrictlySortedBy}
use Rattle.std.specs.Ordering.{is_eq}
use Rattle.std.specs.declared.cmp.Ordering.TheVariants.{Less}
use Rattle.std.proofs.lemmas.Cmp.{tied_itself}
use Rattle.std.proofs.lemmas.List.{take_more}
use Rattle.std.proofs.lemmas.List.Elements.{All-nil, All-cons, All-map}
use Rattle.std.proofs.lemmas.List.Kept.{AllPairs-cons}
use Rattle.npos_base.specs.declared.account.AccountId.{AccountId}
use Rattle.npos_base.specs.Account.{account_cmp, same_account}
use Rattle.npos_base.proofs.AccountOrder.{account_total, same_exact, same_ordered}
use Rattle.stake_ledger.specs.declared.row.Row.{Row}
use Rattle.stake_ledger.specs.Rows as rows
use Rattle.stake_ledger.specs.Ledger.{Ledger, row_at, row_of_entries}
use Rattle.stake_ledger.specs.Ledger as ledger
use Rattle.state_rules.specs.Known.{row_of, has_row, is_bonded}
use Rattle.state_rules.specs.Lists.{follows, stands_behind}
use Rattle.state_rules.specs.Sound.{EachIs}
use Rattle.state_rules.proofs.RowLemmas.{last_put}
use Rattle.npos_runtime.specs.Kept.State.{book_row}

-- ## Rows by account

-- the row that is found is the one of the books
pub row_found : (entries : List (AccountId × Row)) (who : AccountId)
    → row_of (map book_row entries) who ≡ option_map (λ (row : Row). book_row (who, row)) (row_of_entries who entries)
row_found [] who = refl
row_found (entry ∷ entries) who = at (same_account entry.0 who) refl (row_found entries who) where
  at : (b : Bool) → same_account entry.0 who ≡ b
      → row_of (map book_row entries) who ≡ option_map (λ (row : Row). book_row (who, row)) (row_of_entries who entries)
      → cond b (Some (book_row entry)) (row_of (map book_row entries) who)
      ≡ option_map (λ (row : Row). book_row (who, row)) (cond (is_at (account_cmp who) entry.0) (Some entry.1) (row_of_entries who entries))
  at true is rest =
      let same : entry.0 ≡ who = same_exact entry.0 who is in
      let here : is_at (account_cmp who) entry.0 ≡ true =
      ap (λ (q : AccountId). is_eq (account_cmp who q)) same ∙ ap is_eq (tied_itself account_total who) in
      rw here (ap (λ (q : AccountId). Some (book_row (q, entry.1))) same)
  at false is rest =
      let apart : is_at (account_cmp who) entry.0 ≡ false = same_ordered entry.0 who is in
      rw apart rest

-- an account has a row in the state where it has one in the books
pub row_known : (book : Ledger) (who : AccountId) → has_row (map book_row book.rows) who ≡ is_some (ledger.row_of book who)
row_known book who = ap is_some (row_found book.rows who) ∙ at (ledger.row_of book who) where
  at : (o : Option Row) → is_some (option_map (λ (row : Row). book_row (who, row)) o) ≡ is_some o
  at None = refl
  at (Some row) = refl

-- and is bonded there where it is so here
pub row_bonded : (book : Ledger) (who : AccountId) → is_bonded (row_of (map book_row book.rows) who) ≡ rows.is_bonded (row_at book who)
row_bonded book who = ap is_bonded (row_found book.rows who) ∙ at (ledger.row_of book who) where
  at : (o : Option Row) → is_bonded (option_map (λ (row : Row). book_row (who, row)) o) ≡ rows.is_bonded (unwrap_or o rows.empty_row)
  at None = refl
  at (Some row) = refl

-- ## Items behind those before them

-- where each item precedes all later ones, it precedes the next one
pub pairs_follow : {A : Type 0} (Before : A → A → Type 0) (precedes : A → A → Bool) → ((first later : A) → Before first later → precedes first later ≡ true)
    → (items : List A) → AllPairs Before items → EachIs (λ before item. follows precedes before item ≡ true) items
pairs_follow Before precedes holds items pairs zero d few = refl
pairs_follow Before precedes holds items pairs (suc place) d few =
    let next : suc place ≡ place + 1 = omega arith in
    subst (λ before. follows precedes before (get_or items (suc place) d) ≡ true)
    (sym (ap (λ (n : ℕ). take n items) next ∙ take_more items place d (omega (arith, few))))
    (ap (λ last. stands_behind precedes last (get_or items (suc place) d)) (last_put (take place items) (get_or items place d))
    ∙ holds (get_or items place d) (get_or items (suc place) d) (pairs place (suc place) d (omega arith) few))

-- where no item is told so of a later one, none before it is
pub pairs_apart : {A : Type 0} (Before : A → A → Type 0) (alike : A → A → Bool) → ((first later : A) → Before first later → alike first later ≡ false)
    → (items : List A) → AllPairs Before items → EachIs (λ before item. list_any (λ earlier. alike earlier item) before ≡ false) items
pairs_apart Before alike apart [] pairs place d few = absurd (omega (arith, few))
pairs_apart Before alike apart (item ∷ items) pairs zero d few = refl
pairs_apart Before alike apart (item ∷ items) pairs (suc place) d few =
    let first : alike item (get_or items place d) ≡ false =
    apart item (get_or items place d) (pairs 0 (suc place) d (omega arith) few) in
    rw first (pairs_apart Before alike apart items (λ i j e lt within. pairs (suc i) (suc j) e (omega (arith, lt)) (omega (arith, within))) place d (omega (arith, few)))

-- ## Pairs

-- what holds of the images of any two items holds of any two images
pub pairs_map : {A B : Type 0} (f : A → B) (Before : B → B → Type 0) (items : List A) → AllPairs (λ first later. Before (f first) (f later)) items
    → AllPairs Before (map f items)
pairs_map f Before [] pairs = λ i j d lt within. absurd (omega (arith, within))
pairs_map f Before (item ∷ items) pairs =
    AllPairs-cons Before (f item) (map f items)
    (All-map (Before (f item)) f items (λ k d few. pairs 0 (suc k) d (omega arith) (omega (arith, few))))
    (pairs_map f Before items (λ i j d lt few. pairs (suc i) (suc j) d (omega (arith, lt)) (omega (arith, few))))

module _ {A : Type 0} (account : A → AccountId) where
  all_back : (P : AccountId → Type 0) (items : List A) → AllByRecursion P (map account items) → All (λ item. P (account item)) items
  all_back P [] all = All-nil (λ item. P (account item))
  all_back P (item ∷ items) all = All-cons (λ item. P (account item)) item items all.0 (all_back P items all.1)

  -- of items whose accounts are different, any two have different accounts
  pub distinct_pairs : (items : List A) → IsDistinct same_account (map account items)
      → AllPairs (λ first later. same_account (account first) (account later) ≡ false) items
  unfolding IsDistinct
  distinct_pairs [] apart = λ i j d lt within. absurd (omega (arith, within))
  distinct_pairs (item ∷ items) apart =
      AllPairs-cons (λ first later. same_account (account first) (account later) ≡ false) item items
      (all_back (λ other. same_account (account item) other ≡ false) items apart.0) (distinct_pairs items apart.1)

  -- of items whose accounts rise, any earlier one is below any later one
  pub sorted_pairs : (items : List A) → IsStrictlySortedBy account_cmp (map account items)
      → AllPairs (λ first later. account_cmp (account first) (account later) ≡ Less) items
  unfolding IsStrictlySortedBy
  sorted_pairs [] rising = λ i j d lt within. absurd (omega (arith, within))
  sorted_pairs (item ∷ items) rising =
      AllPairs-cons (λ first later. account_cmp (account first) (account later) ≡ Less) item items
      (all_back (λ other. account_cmp (account item) other ≡ Less) items rising.0) (sorted_pairs items rising.1)
