-- A part of the price by a rate in place of a division.
use Rattle.std.proofs.Common.{◌≡◌, ℕ, ◌+◌, ◌-◌, ◌*◌, ◌/◌, ◌%◌, ◌<◌, ◌≤◌, min, ap, sym, ◌∙◌, arith}
use Rattle.std.proofs.Math.Nat.{mul-div-le, div-add-mod, lt-mul-div-succ, le_of_mul-le-mul_left, lt_of_mul-lt-mul_left, mul-le-mul_left, mul_left_comm, mul_comm, mul-add}
use Rattle.std.proofs.lemmas.Nat.{div-mul-add}

module _ (price amount support whole : ℕ) (some : 0 < support) (units : 0 < whole) where
  abbrev rate : ℕ
  rate = price * whole / support

  abbrev part : ℕ
  part = amount * rate / whole

  turned : (n : ℕ) → whole * (n * support) ≡ support * (whole * n)
  turned n = ap (λ m. whole * m) (mul_comm n support) ∙ sym (mul_left_comm support whole n)

  last : amount * (price * whole) ≡ whole * (amount * price)
  last = ap (λ n. amount * n) (mul_comm price whole) ∙ mul_left_comm amount whole price

  -- by the rate nothing is paid too much
  pub part_within : part * support ≤ amount * price
  part_within = le_of_mul-le-mul_left (omega (
    arith,
    mul-le-mul_left support (mul-div-le (amount * rate) whole),
    mul-le-mul_left amount (mul-div-le (price * whole) support),
    turned part,
    mul_left_comm support amount rate,
    last,
  )) units

  -- the rate falls short by less than one of its units, and an amount of them by less than the amount
  below : (n : ℕ) → amount * rate + amount + 1 ≤ whole * n → amount * price < n * support
  below n fits =
      let above : price * whole < support * (rate + 1) = lt-mul-div-succ (price * whole) some in
      let rated : amount * (price * whole) ≤ amount * (support * (rate + 1)) = mul-le-mul_left amount (omega (arith, above)) in
      let scaled : support * (amount * rate + amount + 1) ≤ support * (whole * n) = mul-le-mul_left support fits in
      lt_of_mul-lt-mul_left whole (omega (
        arith,
        rated,
        scaled,
        some,
        turned n,
        last,
        mul_left_comm support amount (rate + 1),
        ap (λ n. support * n) (mul-add amount rate 1),
        ap (λ n. support * (amount * rate + n)) (mul_one amount),
        mul-add support (amount * rate + amount) 1,
      ))
    where
      mul_one : (n : ℕ) → n * 1 ≡ n
      mul_one n = omega arith

  -- so less than two units are paid too little
  pub part_near : amount < whole → amount * price < (part + 2) * support
  part_near fits =
      let high : amount * rate < whole * (part + 1) = lt-mul-div-succ (amount * rate) units in
      below (part + 2) (omega (arith, high, fits, mul-add whole part 1, mul-add whole part 2))

  abbrev rest : ℕ
  rest = amount * price - part * support

  one : (part + 1) * support ≡ part * support + support
  one = mul_comm (part + 1) support ∙ mul-add support part 1 ∙ omega (arith, mul_comm support part)

  module _ (above : price < support) where
    least : amount * min price support / support ≡ amount * price / support
    least =
        let e : min price support ≡ price = omega (arith, above) in
        ap (λ n. amount * n / support) e

    pub part_found : rest < support → part ≡ amount * min price support / support
    part_found h =
        let e : amount * price ≡ part * support + rest = omega (arith, part_within) in
        sym (least ∙ ap (λ n. n / support) e ∙ div-mul-add part support rest h)

    -- where what is cut off leaves room for the amount, nothing is missed
    pub part_exact : amount * rate % whole + amount < whole → part ≡ amount * min price support / support
    part_exact fits =
        let near : amount * price < (part + 1) * support
        = below (part + 1) (omega (arith, fits, div-add-mod (amount * rate) whole, mul-add whole part 1)) in
        part_found (omega (arith, near, one, part_within))

    pub part_missed : amount < whole → support ≤ rest → part + 1 ≡ amount * min price support / support
    part_missed fits h =
        let two : (part + 2) * support ≡ part * support + 2 * support
        = mul_comm (part + 2) support ∙ mul-add support part 2 ∙ omega (arith, mul_comm support part) in
        let e : amount * price ≡ (part + 1) * support + (rest - support) = omega (arith, part_within, one, h) in
        sym (least ∙ ap (λ n. n / support) e ∙ div-mul-add (part + 1) support (rest - support) (omega (arith, part_near fits, two, h)))
