-- How one more endowment changes what is known of those before it.
use Rattle.std.proofs.Common.{◌≡◌, ℕ, ◌+◌, Bool, true, false, ◌||◌, List, [], ◌∷◌, ◌++◌, Option, Some, None, is_some, refl}
use Rattle.std.proofs.Common.{sym, ◌∙◌, ap, ap₂, subst, arith, ◌<◌, ◌≤◌, length, take, drop, get_or, nat_lt, if◌then◌else◌}
use Rattle.std.specs.Option.{option_or}
use Rattle.std.proofs.lemmas.List.{take_all, drop_all, take_more, drop_more, length-take-le}
use Rattle.std.proofs.lemmas.List.Folds.{list_any-append}
use Rattle.std.proofs.lemmas.List.Sums.{sum_by-append, sum_by-cons}
use Rattle.npos_base.specs.declared.account.AccountId.{AccountId}
use Rattle.npos_base.specs.Account.{same_account}
use Rattle.block_wire.specs.declared.genesis.Endowment.{Endowment}
use Rattle.stake_ledger.specs.Ledger.{Ledger, row_of, empty_ledger, issuance_cap}
use Rattle.stake_ledger.specs.Calls.{endowed}
use Rattle.stake_ledger.proofs.EndowedLemmas.{known_by}
use Rattle.chain_params.specs.declared.fault.GenesisFault.{GenesisFault}
use Rattle.chain_params.specs.declared.fault.GenesisFault.TheVariants.{RepeatedAccount, TooMuch}
use Rattle.npos_runtime.specs.Genesis.{is_endowed, endowment_sum, endowed_all, endowment_fault, opening_fault, IsFault}
use Rattle.npos_runtime.proofs.Rules.FaultLemmas.{is_first}

or-false : (a : Bool) → (a || false) ≡ a
or-false true = refl
or-false false = refl

pub endowed_more : (before : List Endowment) (e : Endowment) (ledger : Ledger)
    → endowed_all (before ++ e ∷ []) ledger ≡ endowed e.who e.value (endowed_all before ledger)
endowed_more [] e ledger = refl
endowed_more (x ∷ before) e ledger = endowed_more before e (endowed x.who x.value ledger)

pub known_more : (before : List Endowment) (e : Endowment) (ledger : Ledger)
    → ((other : AccountId) → is_some (row_of ledger other) ≡ is_endowed before other)
    → (other : AccountId) → is_some (row_of (endowed e.who e.value ledger) other) ≡ is_endowed (before ++ e ∷ []) other
known_more before e ledger known other =
    known_by e.who other e.value ledger
    ∙ (ap₂ (λ a b. a || b) (known other) (sym (or-false (same_account e.who other)))
    ∙ sym (list_any-append (λ x. same_account x.who other) before (e ∷ [])))

pub sum_more : (before : List Endowment) (e : Endowment) → endowment_sum (before ++ e ∷ []) ≡ endowment_sum before + e.value
sum_more before e = omega (arith, sum_by-append (λ x. x.value) before (e ∷ []), sum_by-cons (λ (x : Endowment). x.value) e [])

either : (a b : Bool) (x y : GenesisFault) (r : Option GenesisFault)
    → (if a then Some x else if b then Some y else r) ≡ option_or (if a then Some x else if b then Some y else None) r
either true b x y r = refl
either false true x y r = refl
either false false x y r = refl

-- the first fault is that of the next endowment, or else it is behind it
next_fault : (before more : List Endowment) (e : Endowment) (ledger : Ledger)
    → ((other : AccountId) → is_some (row_of ledger other) ≡ is_endowed before other) → ledger.genesis ≡ endowment_sum before
    → endowment_fault before (e ∷ more) ≡ option_or (opening_fault ledger (length before) e) (endowment_fault (before ++ e ∷ []) more)
next_fault before more e ledger known total =
    let same : nat_lt issuance_cap (endowment_sum (before ++ e ∷ [])) ≡ nat_lt issuance_cap (ledger.genesis + e.value) =
    ap (nat_lt issuance_cap) (sum_more before e ∙ ap (λ sum. sum + e.value) (sym total)) in
    (λ i. if sym (known e.who) i then Some (RepeatedAccount (length before)) else if same i then Some (TooMuch (length before))
    else endowment_fault (before ++ e ∷ []) more)
    ∙ either (is_some (row_of ledger e.who)) (nat_lt issuance_cap (ledger.genesis + e.value)) (RepeatedAccount (length before)) (TooMuch (length before))
    (endowment_fault (before ++ e ∷ []) more)

-- the endowments before this place are in the books, and were without a fault
pub record IsOpened (all : List Endowment) (place : ℕ) (start ledger : Ledger) : Type 0 where
  pub ahead : endowment_fault (take place all) (drop place all) ≡ endowment_fault [] all
  pub book_is : ledger ≡ endowed_all (take place all) start
  pub known : (who : AccountId) → is_some (row_of ledger who) ≡ is_endowed (take place all) who
  pub total : ledger.genesis ≡ endowment_sum (take place all)
  pub unminted : ledger.minted ≡ 0

here : (all : List Endowment) (place : ℕ) (start ledger : Ledger) (d : Endowment) → IsOpened all place start ledger → place < length all
    → endowment_fault [] all ≡ option_or (opening_fault ledger place (get_or all place d)) (endowment_fault (take (place + 1) all) (drop (place + 1) all))
here all place start ledger d opened few =
    sym opened.ahead ∙ (ap (endowment_fault (take place all)) (drop_more all place d few)
    ∙ (next_fault (take place all) (drop (place + 1) all) (get_or all place d) ledger opened.known opened.total
    ∙ ((λ i. option_or (opening_fault ledger (length-take-le place all (omega (arith, few)) i) (get_or all place d))
    (endowment_fault (sym (take_more all place d few) i) (drop (place + 1) all))))))

-- a fault of the next endowment is the first of all
pub fault_ahead : (all : List Endowment) (place : ℕ) (start ledger : Ledger) (d : Endowment) (fault : GenesisFault) → IsOpened all place start ledger
    → place < length all → IsFault (opening_fault ledger place (get_or all place d)) fault → IsFault (endowment_fault [] all) fault
fault_ahead all place start ledger d fault opened few is =
    subst (λ (due : Option GenesisFault). IsFault due fault) (sym (here all place start ledger d opened few))
    (is_first (opening_fault ledger place (get_or all place d)) (endowment_fault (take (place + 1) all) (drop (place + 1) all)) fault is)

pub opened_more : (all : List Endowment) (place : ℕ) (start ledger new : Ledger) (d : Endowment) → IsOpened all place start ledger → place < length all
    → opening_fault ledger place (get_or all place d) ≡ None → new ≡ endowed (get_or all place d).who (get_or all place d).value ledger
    → IsOpened all (place + 1) start new
opened_more all place start ledger new d opened few none new_is =
    let e : Endowment = get_or all place d in
    record {
      ahead = sym (here all place start ledger d opened few ∙ ap (λ (o : Option GenesisFault). option_or o (endowment_fault (take (place + 1) all) (drop (place + 1) all))) none);
      book_is = new_is ∙ (ap (endowed e.who e.value) opened.book_is ∙ (sym (endowed_more (take place all) e start)
          ∙ ap (λ (es : List Endowment). endowed_all es start) (sym (take_more all place d few))));
      known = λ who. ap (λ (l : Ledger). is_some (row_of l who)) new_is ∙ (known_more (take place all) e ledger opened.known who
          ∙ ap (λ (es : List Endowment). is_endowed es who) (sym (take_more all place d few)));
      total = ap (λ (l : Ledger). l.genesis) new_is ∙ (ap (λ sum. sum + e.value) opened.total
          ∙ (sym (sum_more (take place all) e) ∙ ap endowment_sum (sym (take_more all place d few))));
      unminted = ap (λ (l : Ledger). l.minted) new_is ∙ opened.unminted;
    }

pub all_opened : (all : List Endowment) (place : ℕ) (start ledger : Ledger) → IsOpened all place start ledger → length all ≤ place
    → (endowment_fault [] all ≡ None) × (ledger ≡ endowed_all all start)
all_opened all place start ledger opened end =
    (sym opened.ahead ∙ ap (endowment_fault (take place all)) (drop_all place all end), opened.book_is ∙ ap (λ (es : List Endowment). endowed_all es start) (take_all place all end))

pub none_opened : (all : List Endowment) (start : Ledger) → start ≡ empty_ledger → IsOpened all 0 start start
none_opened all start empty = record {
  ahead = refl;
  book_is = refl;
  known = λ who. ap (λ (l : Ledger). is_some (row_of l who)) empty;
  total = ap (λ (l : Ledger). l.genesis) empty;
  unminted = ap (λ (l : Ledger). l.minted) empty;
}
