-- How one more endowment changes what is known of those before it, and that a pool starts sound.
use Rattle.std.proofs.Common.{◌≡◌, ℕ, ◌+◌, Bool, true, false, ◌||◌, List, [], ◌∷◌, ◌++◌, Option, Some, None, is_some, refl}
use Rattle.std.proofs.Common.{sym, ◌∙◌, ap, ap₂, subst, arith, ◌<◌, ◌≤◌, length, take, drop, get_or, nat_lt, if◌then◌else◌}
use Rattle.std.specs.Option.{option_or}
use Rattle.std.proofs.lemmas.List.{take_all, drop_all, take_more, drop_more, length-take-le}
use Rattle.std.proofs.lemmas.List.Folds.{list_any-append}
use Rattle.std.proofs.lemmas.List.Sums.{sum_by-append, sum_by-cons}
use Rattle.npos_base.specs.declared.account.AccountId.{AccountId}
use Rattle.npos_base.specs.Account.{same_account}
use Rattle.stake_ledger.specs.Ledger.{Ledger, row_of, empty_ledger, issuance_cap}
use Rattle.stake_ledger.specs.Calls.{endowed}
use Rattle.stake_ledger.proofs.EndowedLemmas.{known_by}
use Rattle.stake_pools.specs.declared.fault.PoolFault.{PoolFault}
use Rattle.stake_pools.specs.declared.fault.PoolFault.TheVariants.{RepeatedAccount, TooMuch, PoolEndowed}
use Rattle.stake_pools.specs.Genesis.{is_endowed, endowment_sum, endowed_all, endowment_fault, IsFault}
use Rattle.stake_pools.specs.Opening.{opening_fault}
use Rattle.stake_pools.proofs.FaultLemmas.{is_first}

or-false : (a : Bool) → (a || false) ≡ a
or-false true = refl
or-false false = refl

pub endowed_more : (before : List (AccountId × ℕ)) (e : AccountId × ℕ) (ledger : Ledger)
    → endowed_all (before ++ e ∷ []) ledger ≡ endowed e.0 e.1 (endowed_all before ledger)
endowed_more [] e ledger = refl
endowed_more (x ∷ before) e ledger = endowed_more before e (endowed x.0 x.1 ledger)

pub known_more : (before : List (AccountId × ℕ)) (e : AccountId × ℕ) (ledger : Ledger)
    → ((other : AccountId) → is_some (row_of ledger other) ≡ is_endowed before other)
    → (other : AccountId) → is_some (row_of (endowed e.0 e.1 ledger) other) ≡ is_endowed (before ++ e ∷ []) other
known_more before e ledger known other =
    known_by e.0 other e.1 ledger
    ∙ (ap₂ (λ a b. a || b) (known other) (sym (or-false (same_account e.0 other)))
    ∙ sym (list_any-append (λ x. same_account x.0 other) before (e ∷ [])))

pub sum_more : (before : List (AccountId × ℕ)) (e : AccountId × ℕ) → endowment_sum (before ++ e ∷ []) ≡ endowment_sum before + e.1
sum_more before e = omega (arith, sum_by-append (λ x. x.1) before (e ∷ []), sum_by-cons (λ (x : AccountId × ℕ). x.1) e [])

either : (a b c : Bool) (x y z : PoolFault) (r : Option PoolFault)
    → (if a then Some x else if b then Some y else if c then Some z else r) ≡ option_or (if a then Some x else if b then Some y else if c then Some z else None) r
either true b c x y z r = refl
either false true c x y z r = refl
either false false true x y z r = refl
either false false false x y z r = refl

-- the first fault is that of the next endowment, or else it is behind it
next_fault : (pool : AccountId) (before more : List (AccountId × ℕ)) (e : AccountId × ℕ) (ledger : Ledger)
    → ((other : AccountId) → is_some (row_of ledger other) ≡ is_endowed before other) → ledger.genesis ≡ endowment_sum before
    → endowment_fault pool before (e ∷ more) ≡ option_or (opening_fault pool ledger (length before) e) (endowment_fault pool (before ++ e ∷ []) more)
next_fault pool before more e ledger known total =
    let same : nat_lt issuance_cap (endowment_sum (before ++ e ∷ [])) ≡ nat_lt issuance_cap (ledger.genesis + e.1) =
    ap (nat_lt issuance_cap) (sum_more before e ∙ ap (λ sum. sum + e.1) (sym total)) in
    (λ i. if sym (known e.0) i then Some (RepeatedAccount (length before)) else if same i then Some (TooMuch (length before))
    else if same_account e.0 pool then Some (PoolEndowed (length before)) else endowment_fault pool (before ++ e ∷ []) more)
    ∙ either (is_some (row_of ledger e.0)) (nat_lt issuance_cap (ledger.genesis + e.1)) (same_account e.0 pool) (RepeatedAccount (length before)) (TooMuch (length before))
    (PoolEndowed (length before)) (endowment_fault pool (before ++ e ∷ []) more)

-- the endowments before this place are in the books, and were without a fault
pub record IsOpened (pool : AccountId) (all : List (AccountId × ℕ)) (place : ℕ) (start ledger : Ledger) : Type 0 where
  pub ahead : endowment_fault pool (take place all) (drop place all) ≡ endowment_fault pool [] all
  pub book_is : ledger ≡ endowed_all (take place all) start
  pub known : (who : AccountId) → is_some (row_of ledger who) ≡ is_endowed (take place all) who
  pub total : ledger.genesis ≡ endowment_sum (take place all)
  pub unminted : ledger.minted ≡ 0

here : (pool : AccountId) (all : List (AccountId × ℕ)) (place : ℕ) (start ledger : Ledger) (d : AccountId × ℕ) → IsOpened pool all place start ledger → place < length all
    → endowment_fault pool [] all ≡ option_or (opening_fault pool ledger place (get_or all place d)) (endowment_fault pool (take (place + 1) all) (drop (place + 1) all))
here pool all place start ledger d opened few =
    sym opened.ahead ∙ (ap (endowment_fault pool (take place all)) (drop_more all place d few)
    ∙ (next_fault pool (take place all) (drop (place + 1) all) (get_or all place d) ledger opened.known opened.total
    ∙ ((λ i. option_or (opening_fault pool ledger (length-take-le place all (omega (arith, few)) i) (get_or all place d))
    (endowment_fault pool (sym (take_more all place d few) i) (drop (place + 1) all))))))

-- a fault of the next endowment is the first of all
pub fault_ahead : (pool : AccountId) (all : List (AccountId × ℕ)) (place : ℕ) (start ledger : Ledger) (d : AccountId × ℕ) (fault : PoolFault) → IsOpened pool all place start ledger
    → place < length all → IsFault (opening_fault pool ledger place (get_or all place d)) fault → IsFault (endowment_fault pool [] all) fault
fault_ahead pool all place start ledger d fault opened few is =
    subst (λ (due : Option PoolFault). IsFault due fault) (sym (here pool all place start ledger d opened few))
    (is_first (opening_fault pool ledger place (get_or all place d)) (endowment_fault pool (take (place + 1) all) (drop (place + 1) all)) fault is)

pub opened_more : (pool : AccountId) (all : List (AccountId × ℕ)) (place : ℕ) (start ledger new : Ledger) (d : AccountId × ℕ) → IsOpened pool all place start ledger → place < length all
    → opening_fault pool ledger place (get_or all place d) ≡ None → new ≡ endowed (get_or all place d).0 (get_or all place d).1 ledger
    → IsOpened pool all (place + 1) start new
opened_more pool all place start ledger new d opened few none new_is =
    let e : AccountId × ℕ = get_or all place d in
    record {
      ahead = sym (here pool all place start ledger d opened few ∙ ap (λ (o : Option PoolFault). option_or o (endowment_fault pool (take (place + 1) all) (drop (place + 1) all))) none);
      book_is = new_is ∙ (ap (endowed e.0 e.1) opened.book_is ∙ (sym (endowed_more (take place all) e start)
          ∙ ap (λ (es : List (AccountId × ℕ)). endowed_all es start) (sym (take_more all place d few))));
      known = λ who. ap (λ (l : Ledger). is_some (row_of l who)) new_is ∙ (known_more (take place all) e ledger opened.known who
          ∙ ap (λ (es : List (AccountId × ℕ)). is_endowed es who) (sym (take_more all place d few)));
      total = ap (λ (l : Ledger). l.genesis) new_is ∙ (ap (λ sum. sum + e.1) opened.total
          ∙ (sym (sum_more (take place all) e) ∙ ap endowment_sum (sym (take_more all place d few))));
      unminted = ap (λ (l : Ledger). l.minted) new_is ∙ opened.unminted;
    }

pub all_opened : (pool : AccountId) (all : List (AccountId × ℕ)) (place : ℕ) (start ledger : Ledger) → IsOpened pool all place start ledger → length all ≤ place
    → (endowment_fault pool [] all ≡ None) × (ledger ≡ endowed_all all start)
all_opened pool all place start ledger opened end =
    (sym opened.ahead ∙ ap (endowment_fault pool (take place all)) (drop_all place all end), opened.book_is ∙ ap (λ (es : List (AccountId × ℕ)). endowed_all es start) (take_all place all end))

pub none_opened : (pool : AccountId) (all : List (AccountId × ℕ)) (start : Ledger) → start ≡ empty_ledger → IsOpened pool all 0 start start
none_opened pool all start empty = record {
  ahead = refl;
  book_is = refl;
  known = λ who. ap (λ (l : Ledger). is_some (row_of l who)) empty;
  total = ap (λ (l : Ledger). l.genesis) empty;
  unminted = ap (λ (l : Ledger). l.minted) empty;
}

-- by these `start` goes on
pub ruleset openings = (fault_ahead, opened_more, all_opened, none_opened)
