-- The targets of a snapshot, and votes, one after another.
use Rattle.std.proofs.Common.{◌≡◌, ℕ, zero, suc, ◌+◌, ◌<◌, false, nat_le, List, [], ◌∷◌, ◌++◌, length, take, map, Some, None, is_some, slice_get, refl, sym, ◌∙◌, ap, arith, true≢false}
use Rattle.std.proofs.lemmas.Bool.Decides.{nat_tests}
use Rattle.std.specs.List.Sorted.{IsStrictlySortedBy}
use Rattle.std.specs.declared.cmp.Ordering.TheVariants.{Less}
use Rattle.npos_base.specs.declared.account.AccountId.{AccountId}
use Rattle.npos_base.specs.Account.{account_cmp}
use Rattle.voter_lists.specs.Ranked.{AreRanked}
use Rattle.voter_lists.specs.Roles.{RoleList, validators_of}
use Rattle.voter_lists.proofs.PlaceLemmas.{at_all, below_apart}
use Rattle.voter_lists.proofs.ValidatorLemmas.{validators_rise}
use Rattle.election_snapshot.specs.Draft.{Draft, stands_in, target_fault, with_target}

new_stands : (xs : List AccountId) (i : ℕ) (x : AccountId) → IsStrictlySortedBy account_cmp xs → slice_get xs i ≡ Some x → stands_in (take i xs) x ≡ false
unfolding IsStrictlySortedBy
new_stands [] zero x s e = refl
new_stands [] (suc i) x s e = refl
new_stands (y ∷ ys) zero x s e = refl
new_stands (y ∷ ys) (suc i) x s e = rw (below_apart y x (at_all (λ z. account_cmp y z ≡ Less) ys i x s.0 e)) (new_stands ys i x s.1 e)

within : (xs : List AccountId) (i : ℕ) (x : AccountId) → slice_get xs i ≡ Some x → length (take i xs) < length xs
within [] i x e = absurd (true≢false (sym (ap is_some e)))
within (y ∷ ys) zero x e = omega arith
within (y ∷ ys) (suc i) x e = omega (arith, within ys i x e)

more_by_one : (i : ℕ) → suc i ≡ i + 1
more_by_one i = omega arith

take_suc : {A : Type 0} (xs : List A) (i : ℕ) (x : A) → slice_get xs i ≡ Some x → take i xs ++ x ∷ [] ≡ take (suc i) xs
take_suc [] i x e = absurd (true≢false (sym (ap is_some e)))
take_suc (y ∷ ys) zero x e = cc
take_suc (y ∷ ys) (suc i) x e = ap (λ zs. y ∷ zs) (take_suc ys i x e)

pub take_next : {A : Type 0} (xs : List A) (i : ℕ) (x : A) → slice_get xs i ≡ Some x → take i xs ++ x ∷ [] ≡ take (i + 1) xs
take_next xs i x e = take_suc xs i x e ∙ ap (λ n. take n xs) (more_by_one i)

-- the next validator is a target without a fault
pub target_free : (roles : RoleList) (draft : Draft) (i : ℕ) (who : AccountId) → AreRanked roles (validators_of roles)
    → draft ≡ record { targets = take i (validators_of roles); voters = [] } → slice_get (validators_of roles) i ≡ Some who → target_fault draft who ≡ None
target_free roles draft i who ranked is at =
    let vs : List AccountId = validators_of roles in
    let few : nat_le 2048 (length (take i vs)) ≡ false = let short = within vs i who at in let most = ranked.few in grind (arith, nat_tests) in
    ap (λ (d : Draft). target_fault d who) is ∙ rw (few, new_stands vs i who (validators_rise roles ranked.rising) at) refl

pub target_next : (roles : RoleList) (draft new : Draft) (i : ℕ) (who : AccountId)
    → draft ≡ record { targets = take i (validators_of roles); voters = [] } → slice_get (validators_of roles) i ≡ Some who → new ≡ with_target draft who
    → new ≡ record { targets = take (i + 1) (validators_of roles); voters = [] }
target_next roles draft new i who is at done =
    done ∙ (ap (λ (d : Draft). with_target d who) is ∙ (λ j. record { targets = take_next (validators_of roles) i who at j; voters = [] }))

mapped_suc : {A B : Type 0} (f : A → B) (xs : List A) (i : ℕ) (x : A) → slice_get xs i ≡ Some x → map f (take i xs) ++ f x ∷ [] ≡ map f (take (suc i) xs)
mapped_suc f [] i x e = absurd (true≢false (sym (ap is_some e)))
mapped_suc f (y ∷ ys) zero x e = cc
mapped_suc f (y ∷ ys) (suc i) x e = ap (λ zs. f y ∷ zs) (mapped_suc f ys i x e)

pub mapped_next : {A B : Type 0} (f : A → B) (xs : List A) (i : ℕ) (x : A) → slice_get xs i ≡ Some x → map f (take i xs) ++ f x ∷ [] ≡ map f (take (i + 1) xs)
mapped_next f xs i x e = mapped_suc f xs i x e ∙ ap (λ n. map f (take n xs)) (more_by_one i)
