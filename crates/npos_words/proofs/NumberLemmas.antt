-- Numbers that std does not read.
use Rattle.std.proofs.Common.{◌≡◌, ◌<◌, ◌≤◌, ◌^◌, ◌&&◌, ℕ, Bool, true, false, rules, refl, arith, List, length, IfSome, None, leb-true}
use Rattle.std.specs.Prelude.{nat_le}
use Rattle.std.specs.Char.{is_ascii_digit}
use Rattle.std.specs.List.{list_all}
use Rattle.std.specs.Str.Parse.{digits_value}
use Rattle.std.proofs.lemmas.Str.Parse.{IsNumeralModel, numerals_by_value}
use Rattle.clap.proofs.WalkLemmas.{both}
use Rattle.npos_words.specs.Numbers.{is_number, is_within, number_within}

pub own : IsNumeralModel (λ ds. list_all is_ascii_digit ds ≡ true) (digits_value 10)
own = numerals_by_value _ (search rules)

pub not_read : (least most : ℕ) (text : List ℕ) → most < 2 ^ 64 → ((0 < length text) × (digits_value 10 text < 2 ^ 64) → ⊥) → None ≡ number_within least most text
not_read least most text small none = go (is_number text && is_within least most (digits_value 10 text)) refl
  where
    go : (b : Bool) → (is_number text && is_within least most (digits_value 10 text)) ≡ b → None ≡ number_within least most text
    go false e = rw e refl
    go true e =
        let parts = both (is_number text) (is_within least most (digits_value 10 text)) e in
        let front = both (nat_le 1 (length text) && nat_le (length text) 20) (list_all is_ascii_digit text) parts.0 in
        let lengths = both (nat_le 1 (length text)) (nat_le (length text) 20) front.0 in
        let bounds = both (nat_le least (digits_value 10 text)) (nat_le (digits_value 10 text) most) parts.1 in
        let some : 1 ≤ length text = leb-true 1 (length text) lengths.0 in
        let below : digits_value 10 text ≤ most = leb-true (digits_value 10 text) most bounds.1 in
        absurd (none (omega arith, omega arith))

pub within_bounds : (least most : ℕ) (text : List ℕ) → IfSome (number_within least most text) (λ number. (least ≤ number) × (number ≤ most))
within_bounds least most text = go (is_number text && is_within least most (digits_value 10 text)) refl
  where
    go : (b : Bool) → (is_number text && is_within least most (digits_value 10 text)) ≡ b
        → IfSome (number_within least most text) (λ number. (least ≤ number) × (number ≤ most))
    go false e = rw e tt
    go true e =
        let within = both (is_number text) (is_within least most (digits_value 10 text)) e in
        let bounds = both (nat_le least (digits_value 10 text)) (nat_le (digits_value 10 text) most) within.1 in
        rw e (leb-true least (digits_value 10 text) bounds.0, leb-true (digits_value 10 text) most bounds.1)
