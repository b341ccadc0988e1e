-- Why an account is not put in front of another.
use Rattle.std.proofs.Common.{◌≡◌, ◌≢◌, ◌≤◌, ◌<◌, ℕ, true, false, nat_eq, nat_le, refl, ap, ◌∙◌, arith, Some, None}
use Rattle.voter_lists.specs.declared.refusal.ListRefusal.TheVariants.{NotListed, OtherBag, NotHeavier}
use Rattle.std.proofs.lemmas.Bool.Decides.{nat_tests}
use Rattle.npos_base.specs.declared.account.AccountId.{AccountId}
use Rattle.voter_lists.specs.Bags.{Listing, number_of, arranged, placed_before, left, put_in_front, put_in_front_refusal}
use Rattle.npos_base.specs.Account.{same_account}
use Rattle.npos_base.proofs.NumberTests.{number_test, number_same}

-- when an account is put in front of another
module _ (listing : Listing) (who lighter : AccountId) (score lighter_score : ℕ) where
  pub front_unlisted : number_of listing.order who ≡ None → put_in_front_refusal listing who score lighter lighter_score ≡ Some NotListed
  front_unlisted e = rw e refl

  pub front_other_unlisted : (n : ℕ) → number_of listing.order who ≡ Some n → number_of listing.order lighter ≡ None → put_in_front_refusal listing who score lighter lighter_score ≡ Some NotListed
  front_other_unlisted n e f = rw (e, f) refl

  pub front_apart : (n m : ℕ) → number_of listing.order who ≡ Some n → number_of listing.order lighter ≡ Some m → n ≢ m → put_in_front_refusal listing who score lighter lighter_score ≡ Some OtherBag
  front_apart n m e f apart = rw (e, f, number_test n m apart) refl

  pub front_light : (n m : ℕ) → number_of listing.order who ≡ Some n → number_of listing.order lighter ≡ Some m
      → n ≡ m → score ≤ lighter_score → put_in_front_refusal listing who score lighter lighter_score ≡ Some NotHeavier
  front_light n m e f same light =
      let tied : nat_eq n m ≡ true = ap (λ k. nat_eq k m) same ∙ number_same m in
      let test : nat_le score lighter_score ≡ true = grind (arith, nat_tests) in rw (e, f, tied, test) refl

  pub front_free : (n m : ℕ) → number_of listing.order who ≡ Some n → number_of listing.order lighter ≡ Some m → n ≡ m
      → lighter_score < score → put_in_front_refusal listing who score lighter lighter_score ≡ None
  front_free n m e f same heavy =
      let tied : nat_eq n m ≡ true = ap (λ k. nat_eq k m) same ∙ number_same m in
      let test : nat_le score lighter_score ≡ false = grind (arith, nat_tests) in rw (e, f, tied, test) refl

  pub front_itself : same_account who lighter ≡ true → listing ≡ put_in_front listing who lighter
  front_itself e = rw e refl

  pub front_placed : (n : ℕ) → same_account who lighter ≡ false → number_of listing.order who ≡ Some n
      → arranged listing (placed_before (left listing.order who) (who, n) lighter) ≡ put_in_front listing who lighter
  front_placed n e f = rw (e, f) refl
