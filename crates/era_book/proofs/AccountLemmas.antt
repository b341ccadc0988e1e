-- Lists of accounts that a test tells to be the same are the same.
use Rattle.std.proofs.Common.{◌≡◌, Bool, true, List, [], ◌∷◌, refl, ap₂, sym, true≢false}
use Rattle.std.proofs.lemmas.Bool.{and_parts}
use Rattle.std.specs.Cmp.Lexicographic.{pointwise}
use Rattle.npos_base.specs.declared.account.AccountId.{AccountId}

pub same_accounts : (test : AccountId → AccountId → Bool) → ((x y : AccountId) → test x y ≡ true → x ≡ y) → (xs ys : List AccountId) → pointwise test xs ys ≡ true → xs ≡ ys
same_accounts test exact [] [] e = refl
same_accounts test exact [] (y ∷ ys) e = absurd (true≢false (sym e))
same_accounts test exact (x ∷ xs) [] e = absurd (true≢false (sym e))
same_accounts test exact (x ∷ xs) (y ∷ ys) e =
    let parts = and_parts (test x y) (pointwise test xs ys) e in
    ap₂ (λ z zs. z ∷ zs) (exact x y parts.0) (same_accounts test exact xs ys parts.1)
