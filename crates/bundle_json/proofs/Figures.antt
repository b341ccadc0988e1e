-- A number of 128 bits and its text.
use Rattle.std.proofs.Common.{◌≡◌, ℕ, ◌^◌, ◌<◌, ◌≤◌, ◌&&◌, Bool, true, false, cond, List, Option, Some, None, Result}
use Rattle.std.proofs.Common.{Ok, Err, decimal, refl, sym, ap, ◌∙◌, subst, arith, lit≤, lt-ltb, ltb-true, true≢false}
use Rattle.std.specs.Prelude.{nat_lt}
use Rattle.std.specs.Str.{bytes_eq}
use Rattle.std.specs.Str.Parse.{digits_value, ParsesUnsigned}
use Rattle.std.proofs.lemmas.Bool.{and_parts}
use Rattle.std.proofs.lemmas.Fmt.{decimal_is_IsNumeral_wide, parse-decimal_wide}
use Rattle.std.proofs.lemmas.Slice.Eq.{bytes_eq-Decides}
use Rattle.bundle_json.specs.Shape.{figure_in}

pub wide : (n : ℕ) → n < 2 ^ 128 → n < 10 ^ 64
wide n h = let more : 2 ^ 128 ≤ 10 ^ 64 = lit≤ tt in omega arith

unless : {A : Type 0} (b : Bool) (o : Option A) → (b ≡ true → ⊥) → cond b o None ≡ None
unless true o wrong = absurd (wrong refl)
unless false o wrong = refl

-- a text that is a figure is read as it
parsed : {E : Type 0} (text : List ℕ) (r : Result ℕ E) → ParsesUnsigned 128 10 text r
    → (bytes_eq (decimal (digits_value 10 text)) text && nat_lt (digits_value 10 text) (2 ^ 128)) ≡ true → r ≡ Ok (digits_value 10 text)
parsed text r parses is =
    let n = digits_value 10 text in
    let both = and_parts (bytes_eq (decimal n) text) (nat_lt n (2 ^ 128)) is in
    let same : decimal n ≡ text = (bytes_eq-Decides (decimal n) text).0 both.0 in
    let small : n < 2 ^ 128 = ltb-true n (2 ^ 128) both.1 in
    parse-decimal_wide 128 n text r small (wide n small) (sym same) parses

pub figure_unread : {E : Type 0} (text : List ℕ) (e : E) → ParsesUnsigned {E = E} 128 10 text (Err e) → figure_in text ≡ None
figure_unread text e parses = unless _ (Some (digits_value 10 text)) (λ is.
    let is_ok : Err e ≡ Ok (digits_value 10 text) = parsed text (Err e) parses is in cc)

pub figure_other : {E : Type 0} (text : List ℕ) (r : Result ℕ E) (n : ℕ) → ParsesUnsigned 128 10 text r → r ≡ Ok n → bytes_eq (decimal n) text ≡ false → figure_in text ≡ None
figure_other text r n parses is_n other =
    unless _ (Some (digits_value 10 text)) (λ is.
    let m = digits_value 10 text in
    let is_m : r ≡ Ok m = parsed text r parses is in
    let same : n ≡ m = cc in
    let both = and_parts (bytes_eq (decimal m) text) (nat_lt m (2 ^ 128)) is in
    true≢false (sym (ap (λ k. bytes_eq (decimal k) text) same ∙ both.0) ∙ other))

pub figure_read : (text : List ℕ) (n : ℕ) → n < 2 ^ 128 → bytes_eq (decimal n) text ≡ true → figure_in text ≡ Some n
figure_read text n small is =
    let same : decimal n ≡ text = (bytes_eq-Decides (decimal n) text).0 is in
    let value : digits_value 10 text ≡ n = ap (digits_value 10) (sym same) ∙ (decimal_is_IsNumeral_wide n (wide n small)).1 in
    rw (value, is, lt-ltb n (2 ^ 128) small)

pub figure_parsed : {E : Type 0} (text : List ℕ) (r : Result ℕ E) (n : ℕ) → ParsesUnsigned 128 10 text r → r ≡ Ok n → bytes_eq (decimal n) text ≡ true → figure_in text ≡ Some n
figure_parsed {E} text r n parses is_n is =
    let known : ParsesUnsigned {E = E} 128 10 text (Ok n) = subst (λ (o : Result ℕ E). ParsesUnsigned 128 10 text o) is_n parses in
    figure_read text n (subst (λ (k : ℕ). k < 2 ^ 128) (sym known.1) known.0.1) is
