-- What the test whether two numbers are one tells.
use Rattle.std.proofs.Common.{◌≡◌, ◌≢◌, ℕ, true, false, nat_eq, arith}
use Rattle.std.proofs.lemmas.Bool.Decides.{nat_tests}

pub number_same : (a : ℕ) → nat_eq a a ≡ true
number_same a = grind (arith, nat_tests)

pub number_tie : (a b : ℕ) → nat_eq a b ≡ true → a ≡ b
number_tie a b e = grind (arith, nat_tests)

pub number_test : (a b : ℕ) → a ≢ b → nat_eq a b ≡ false
number_test a b differ = grind (arith, nat_tests)

pub other_number : (a b : ℕ) → nat_eq a b ≡ false → a ≢ b
other_number a b e = λ same. grind (arith, nat_tests, same)
