-- An account and its 32 bytes give one another back, and stand in one order.
use Rattle.std.proofs.Common.{◌≡◌, ℕ, zero, suc, ◌^◌, ◌<◌, List, [], ◌∷◌, ◌++◌, length, get_or, take, drop, refl, ◌∙◌, ap₂, arith, length-drop}
use Rattle.std.proofs.lemmas.List.{length-take-le, take-append-drop}
use Rattle.std.specs.Int.{w128, to_be_bytes}
use Rattle.npos_base.specs.declared.account.AccountId.{AccountId}
use Rattle.std.specs.Ordering.{nat_cmp, ordering_then}
use Rattle.std.specs.Cmp.Lexicographic.{slice_cmp}
use Rattle.npos_base.specs.Account.{account_bytes, account_of, account_cmp}
use Rattle.npos_base.proofs.BigEndian.{AreBytes, sixteen_bytes_kept, number_kept, sixteen_order, fronts_order}

pub are_bytes : (bs : List ℕ) → ((i : ℕ) → get_or bs i 0 < 256) → AreBytes bs
are_bytes [] h = tt
are_bytes (b ∷ bs) h = (h 0, are_bytes bs (λ i. h (suc i)))

are_bytes_take : (n : ℕ) (bs : List ℕ) → AreBytes bs → AreBytes (take n bs)
are_bytes_take zero bs h = tt
are_bytes_take (suc n) [] h = tt
are_bytes_take (suc n) (b ∷ bs) h = (h.0, are_bytes_take n bs h.1)

are_bytes_drop : (n : ℕ) (bs : List ℕ) → AreBytes bs → AreBytes (drop n bs)
are_bytes_drop zero bs h = h
are_bytes_drop (suc n) [] h = tt
are_bytes_drop (suc n) (b ∷ bs) h = are_bytes_drop n bs h.1

pub bytes_kept : (bs : List ℕ) → length bs ≡ 32 → AreBytes bs → account_bytes (account_of bs) ≡ bs
bytes_kept bs l h =
    let front : length (take 16 bs) ≡ 16 = length-take-le 16 bs (omega (arith, l)) in
    let back : length (drop 16 bs) ≡ 16 = omega (arith, l, length-drop 16 bs) in
    ap₂ (λ xs ys. xs ++ ys) (sixteen_bytes_kept (take 16 bs) front (are_bytes_take 16 bs h)) (sixteen_bytes_kept (drop 16 bs) back (are_bytes_drop 16 bs h))
    ∙ take-append-drop 16 bs

pub account_kept : (account : AccountId) → account.hi < 2 ^ 128 → account.lo < 2 ^ 128 → account_of (account_bytes account) ≡ account
account_kept account high low = ap₂ (λ hi lo. record { hi = hi; lo = lo }) (number_kept account.hi high) (number_kept account.lo low)

pub account_order : (a b : AccountId) → a.hi < 2 ^ 128 → a.lo < 2 ^ 128 → b.hi < 2 ^ 128 → b.lo < 2 ^ 128
    → slice_cmp nat_cmp (account_bytes a) (account_bytes b) ≡ account_cmp a b
account_order a b p q r s =
    fronts_order (to_be_bytes w128 a.hi) (to_be_bytes w128 b.hi) (to_be_bytes w128 a.lo) (to_be_bytes w128 b.lo) refl
    ∙ ap₂ ordering_then (sixteen_order a.hi b.hi p r) (sixteen_order a.lo b.lo q s)
