-- Votes, one after another.
use Rattle.std.proofs.Common.{◌≡◌, ℕ, zero, suc, ◌+◌, ◌<◌, ◌≤◌, List, [], ◌∷◌, ◌++◌, length, take, take_all, filter_map, Option, Some, None, refl, ◌∙◌, ap, sym, arith, get_or, slice_get}
use Rattle.std.specs.List.{cons_option}
use Rattle.std.proofs.lemmas.Option.{slice_get-get_or, slice_get_within}
use Rattle.npos_base.specs.declared.account.AccountId.{AccountId}
use Rattle.voter_lists.specs.Noted.{accounts_at, AreWithin}
use Rattle.voter_lists.proofs.NamedLemmas.{count_at, account_at}

more_by_one : (i : ℕ) → suc i ≡ i + 1
more_by_one i = omega arith

some_suc : {A B : Type 0} (f : A → Option B) (xs : List A) (i : ℕ) (d : A) (y : B) → i < length xs → f (get_or xs i d) ≡ Some y
    → filter_map f (take i xs) ++ y ∷ [] ≡ filter_map f (take (suc i) xs)
some_suc f [] i d y lt e = absurd (omega (arith, lt))
some_suc f (x ∷ xs) zero d y lt e = rw e refl
some_suc f (x ∷ xs) (suc i) d y lt e = at (f x) (some_suc f xs i d y (omega (arith, lt)) e) where
  at : (o : Option _) → filter_map f (take i xs) ++ y ∷ [] ≡ filter_map f (take (suc i) xs)
      → cons_option o (filter_map f (take i xs)) ++ y ∷ [] ≡ cons_option o (filter_map f (take (suc i) xs))
  at None rest = rest
  at (Some z) rest = ap (λ zs. z ∷ zs) rest

cast_some : {A B : Type 0} (f : A → Option B) (xs : List A) (i : ℕ) (d : A) (y : B) → i < length xs → f (get_or xs i d) ≡ Some y
    → filter_map f (take i xs) ++ y ∷ [] ≡ filter_map f (take (i + 1) xs)
cast_some f xs i d y lt e = some_suc f xs i d y lt e ∙ ap (λ n. filter_map f (take n xs)) (more_by_one i)

none_suc : {A B : Type 0} (f : A → Option B) (xs : List A) (i : ℕ) (d : A) → i < length xs → f (get_or xs i d) ≡ None
    → filter_map f (take i xs) ≡ filter_map f (take (suc i) xs)
none_suc f [] i d lt e = absurd (omega (arith, lt))
none_suc f (x ∷ xs) zero d lt e = rw e refl
none_suc f (x ∷ xs) (suc i) d lt e = ap (cons_option (f x)) (none_suc f xs i d (omega (arith, lt)) e)

cast_none : {A B : Type 0} (f : A → Option B) (xs : List A) (i : ℕ) (d : A) → i < length xs → f (get_or xs i d) ≡ None
    → filter_map f (take i xs) ≡ filter_map f (take (i + 1) xs)
cast_none f xs i d lt e = none_suc f xs i d lt e ∙ ap (λ n. filter_map f (take n xs)) (more_by_one i)

-- the votes for the accounts at places, one after another
module _ (accounts : List AccountId) (places : List ℕ) (rank : AccountId → Option ℕ) (within : AreWithin accounts places) where
  nobody : AccountId
  nobody = record { hi = 0; lo = 0 }

  module _ (i place : ℕ) (there : slice_get places i ≡ Some place) (told : Option ℕ) (tells : (who : AccountId) → slice_get accounts place ≡ Some who → told ≡ rank who) where
    below : i < length (accounts_at accounts places)
    below = omega (arith, count_at accounts places within, slice_get_within places i place there)

    told_is : told ≡ rank (get_or (accounts_at accounts places) i nobody)
    told_is = tells (get_or (accounts_at accounts places) i nobody)
        (sym (account_at accounts places i place within there) ∙ slice_get-get_or (accounts_at accounts places) i nobody below)

    pub vote_some : (vote : ℕ) → told ≡ Some vote → filter_map rank (take i (accounts_at accounts places)) ++ vote ∷ [] ≡ filter_map rank (take (i + 1) (accounts_at accounts places))
    vote_some vote is = cast_some rank (accounts_at accounts places) i nobody vote below (sym told_is ∙ is)

    pub vote_none : told ≡ None → filter_map rank (take i (accounts_at accounts places)) ≡ filter_map rank (take (i + 1) (accounts_at accounts places))
    vote_none is = cast_none rank (accounts_at accounts places) i nobody below (sym told_is ∙ is)

  pub all_votes : (count : ℕ) → length places ≤ count → filter_map rank (take count (accounts_at accounts places)) ≡ filter_map rank (accounts_at accounts places)
  all_votes count most = ap (filter_map rank) (take_all count (accounts_at accounts places) (omega (arith, most, count_at accounts places within)))
