-- The table of ranks, while one validator after another is entered.
use Rattle.std.proofs.Common.{◌≡◌, ◌≢◌, ◌∙◌, ℕ, ◌+◌, ◌<◌, ◌≤◌, Bool, true, false, nat_eq, nat_lt, if◌then◌else◌, List, length, get_or, slice_get}
use Rattle.std.proofs.Common.{slice_set, Option, Some, None, refl, ap, sym, arith, true≢false, ◌⊎◌, inl, inr, get_or-set_same, get_or-set_other}
use Rattle.std.specs.List.Sorted.{IsStrictlySortedBy}
use Rattle.std.proofs.lemmas.Bool.{cases_lt}
use Rattle.std.proofs.lemmas.Grind.{common_steps}
use Rattle.std.proofs.lemmas.List.{length-set}
use Rattle.std.proofs.lemmas.List.Quantifiers.{position-Some}
use Rattle.std.proofs.lemmas.Option.{same_Some, get_or_from_slice_get, slice_get_within}
use Rattle.npos_base.specs.declared.account.AccountId.{AccountId}
use Rattle.npos_base.specs.Account.{account_cmp, same_account}
use Rattle.npos_base.proofs.AccountOrder.{same_itself, same_exact}
use Rattle.account_places.specs.Places.{by_account, Stand}
use Rattle.voter_lists.specs.Ranking.{no_rank, rank_in, AreTold, entered}
use Rattle.voter_lists.specs.Votes.{rank_of}
use Rattle.voter_lists.proofs.PlaceLemmas.{place_is}

among : (rank count : ℕ) → rank < count → (if nat_lt rank count then Some rank else None) ≡ Some rank
among rank count below = let yes : nat_lt rank count ≡ true = grind (arith, common_steps, below) in rw yes refl

not_among : (rank count : ℕ) → count ≤ rank → (if nat_lt rank count then Some rank else None) ≡ None
not_among rank count above = let no_one : nat_lt rank count ≡ false = grind (arith, common_steps, above) in rw no_one refl

same_entered : (rank count : ℕ) → rank ≢ count → entered (count + 1) (Some rank) ≡ entered count (Some rank)
same_entered rank count differ = by_side (cases_lt rank count) where
  by_side : (rank < count) ⊎ (count ≤ rank) → entered (count + 1) (Some rank) ≡ entered count (Some rank)
  by_side (inl below) = among rank (count + 1) (omega (arith, below)) ∙ sym (among rank count below)
  by_side (inr above) = not_among rank (count + 1) (omega (arith, above, differ)) ∙ sym (not_among rank count above)

pub all_entered : (validators : List AccountId) (count : ℕ) (who : AccountId) → length validators ≤ count → entered count (rank_of validators who) ≡ rank_of validators who
all_entered validators count who most = at (rank_of validators who) refl where
  at : (o : Option ℕ) → rank_of validators who ≡ o → entered count o ≡ o
  at None e = refl
  at (Some rank) e = among rank count (omega (arith, most, (position-Some (same_account who) validators rank who e).0))

-- one more is entered
module _ (ranks : List ℕ) (accounts validators : List AccountId) (count : ℕ) (validator : AccountId) (stand : Stand accounts (by_account accounts)) (rising : IsStrictlySortedBy account_cmp validators)
    (there : slice_get validators count ≡ Some validator) (few : count < no_rank) (told : AreTold ranks accounts (λ who. entered count (rank_of validators who))) where
  abbrev IsNext : List ℕ → Type 0
  IsNext now = AreTold now accounts (λ who. entered (count + 1) (rank_of validators who))

  other_entered : (who : AccountId) → who ≢ validator → entered (count + 1) (rank_of validators who) ≡ entered count (rank_of validators who)
  other_entered who apart = at (rank_of validators who) refl where
    at : (o : Option ℕ) → rank_of validators who ≡ o → entered (count + 1) o ≡ entered count o
    at None e = refl
    at (Some rank) e =
        let here : who ≡ get_or validators rank who = same_exact who (get_or validators rank who) (position-Some (same_account who) validators rank who e).1 in
        same_entered rank count (λ same. apart (here ∙ ap (λ n. get_or validators n who) same ∙ get_or_from_slice_get validators count validator who there))

  this_entered : entered (count + 1) (rank_of validators validator) ≡ Some count
  this_entered = ap (entered (count + 1)) (place_is validator validators count rising there) ∙ among count (count + 1) (omega arith)

  entry_told : rank_in count ≡ Some count
  entry_told = let other : nat_eq count no_rank ≡ false = grind (arith, common_steps, few) in rw other refl

  told_with : (now : List ℕ) → length now ≡ length ranks
      → ((place : ℕ) → slice_get accounts place ≡ Some validator → get_or now place no_rank ≡ count)
      → ((place : ℕ) (who : AccountId) → slice_get accounts place ≡ Some who → who ≢ validator → get_or now place no_rank ≡ get_or ranks place no_rank)
      → IsNext now
  told_with now long here others = record {
    count = long ∙ told.count;
    tells = λ place who at. by_test place who at (same_account who validator) refl;
  } where
    by_test : (place : ℕ) (who : AccountId) → slice_get accounts place ≡ Some who → (t : Bool) → same_account who validator ≡ t
        → rank_in (get_or now place no_rank) ≡ entered (count + 1) (rank_of validators who)
    by_test place who at true is =
        let same : who ≡ validator = same_exact who validator is in
        ap rank_in (here place (at ∙ ap (λ a. Some a) same)) ∙ entry_told ∙ sym (ap (λ a. entered (count + 1) (rank_of validators a)) same ∙ this_entered)
    by_test place who at false is =
        let apart : who ≢ validator = λ same. true≢false (sym (same_itself who) ∙ ap (λ a. same_account who a) same ∙ is) in
        ap rank_in (others place who at apart) ∙ told.tells place who at ∙ sym (other_entered who apart)

  -- at its place
  pub told_set : (place : ℕ) → slice_get accounts place ≡ Some validator → IsNext (slice_set ranks place count)
  told_set place stands = told_with (slice_set ranks place count) (length-set ranks place count)
      (λ at also. ap (λ n. get_or (slice_set ranks place count) n no_rank) (same_Some at place (sym (stand.placed validator at also) ∙ stand.placed validator place stands))
      ∙ get_or-set_same ranks place count no_rank (omega (arith, told.count, slice_get_within accounts place validator stands)))
      (λ at who also apart. get_or-set_other ranks place at count no_rank (λ same. apart (same_Some who validator (sym also ∙ ap (slice_get accounts) same ∙ stands))))
