use Rattle.std.proofs.Common.{rules, arith, ◌≡◌, ℕ, ◌*◌, ◌/◌, ◌<◌, ◌≤◌, ◌⊎◌, nat_lt, leb, ap₂, inl, inr, sym, ◌∙◌}
use Rattle.std.proofs.Math.Nat.{div-eq_of_lt}
use Rattle.std.proofs.lemmas.Nat.{le-div}
use Rattle.std.proofs.lemmas.Bool.{cases_lt, lt-ltb, le-ltb, le-leb, lt-leb}
use Rattle.compact_solution.proofs.choosing.has_part.Goals as goal

-- a quotient is above 0 where the product is no less than the divisor
product_tells : (stake product : ℕ) → 0 < stake → leb stake product ≡ nat_lt 0 (product / stake)
product_tells stake product some = at (cases_lt product stake) where
  at : (product < stake) ⊎ (stake ≤ product) → leb stake product ≡ nat_lt 0 (product / stake)
  at (inl less) = lt-leb stake product less ∙ sym (le-ltb 0 (product / stake) (omega (arith, div-eq_of_lt less)))
  at (inr no_less) = le-leb stake product no_less ∙ sym (lt-ltb 0 (product / stake) (omega (arith, le-div 1 product stake some (omega (arith, no_less)))))

pub returns : goal.returns
returns c =
    let casts : c.from-2.result * c.from-3.result ≡ c.args.edge.amount * 65535 = ap₂ (λ a b. a * b) (search rules) (search rules) in
    let stake : c.from.result ≡ c.args.stake = search rules in
    ap₂ leb stake casts ∙ product_tells c.args.stake (c.args.edge.amount * 65535) c.requires.some
