-- The fill passes. Either some pick found less than the price of a seat, and from then on every target outside has less;
-- or each pick drew the price, and in all less than one unit a seat is left, which is no more than the price.
use Rattle.std.proofs.Common.{◌≡◌, ℕ, suc, ◌+◌, ◌*◌, ◌/◌, ◌%◌, ◌<◌, ◌≤◌, ◌⊎◌, true, false, nat_eq, List, [], ◌∷◌, length, reverse, sum_by, inl, inr, ap, sym, ◌∙◌, arith}
use Rattle.std.specs.List.{range_with_len, IsDistinct}
use Rattle.std.proofs.Math.Nat.{div-add-mod, mul-le-mul_left}
use Rattle.std.proofs.lemmas.Nat.{mod_below}
use Rattle.std.proofs.lemmas.Bool.{cases_Bool, cases_lt, or_right, true≢false}
use Rattle.std.proofs.lemmas.List.Sorted.{IsPermutation-reverse, length_permutation}
use Rattle.election_snapshot.specs.Snapshot.{Snapshot, IsWellFormed, has, nominates, threshold, total_stake}
use Rattle.weight_book.specs.Passing.{nominators, Passes, slack}
use Rattle.weight_book.proofs.SumLemmas.{sum_filter-le, sum_le}
use Rattle.weight_book.proofs.StakeLemmas.{stakes_in_order}
use Rattle.seat_race.specs.Giving.{edges_given}
use Rattle.seat_race.specs.Picks.{more}
use Rattle.seat_race.proofs.GivingLemmas.{given_follows, is_member, spent_is}
use Rattle.seat_race.proofs.PickLemmas.{all_picks, more_orders, pick_in_range, picks_distinct}
use Rattle.quota_fill.specs.Filled.{left_after, given, backing, picked, filled}
use Rattle.quota_fill.specs.Laws.{EveryFillPasses}
use Rattle.seat_race.proofs.InLemmas.{In, from_has, from_filter, from_range, sum_agree}
use Rattle.quota_fill.proofs.PickLemmas.{AreRun, are_run, greatest_of}
use Rattle.quota_fill.proofs.DrawLemmas.{drawn_in_all, left_and_drawn}
use Rattle.quota_fill.proofs.EdgeLemmas.{given_member, given_and_left, slack_is_left}

not_in : (numbers : List ℕ) (pick target : ℕ) → has (pick ∷ numbers) target ≡ false → has numbers target ≡ false
not_in numbers pick target h = at (cases_Bool (has numbers target)) where
  at : (has numbers target ≡ true) ⊎ (has numbers target ≡ false) → has numbers target ≡ false
  at (inr f) = f
  at (inl t) = absurd (true≢false (sym (or_right (nat_eq pick target) (has numbers target) t) ∙ h))

module _ (snapshot : Snapshot) (formed : IsWellFormed snapshot) where
  abbrev price : ℕ
  price = threshold snapshot

  abbrev voters : List ℕ
  voters = range_with_len 0 (length snapshot.voters)

  -- what is left in all
  abbrev left_in_all : List ℕ → ℕ
  left_in_all picks = sum_by (left_after snapshot picks) voters

  abbrev NoneCanPay : List ℕ → Type 0
  NoneCanPay picks = (target : ℕ) → target < length snapshot.targets → has picks target ≡ false → backing snapshot picks target < price

  backing_falls : (pick : ℕ) (picks : List ℕ) (target : ℕ) → backing snapshot (pick ∷ picks) target ≤ backing snapshot picks target
  backing_falls pick picks target = sum_le (left_after snapshot (pick ∷ picks)) (left_after snapshot picks) (nominators snapshot target) (λ k d h. omega arith)

  still_none : (pick : ℕ) (picks : List ℕ) → NoneCanPay picks → NoneCanPay (pick ∷ picks)
  still_none pick picks none target h out = omega (arith, backing_falls pick picks target, none target h (not_in picks pick target out))

  outcome : (picks : List ℕ) → AreRun snapshot picks → NoneCanPay picks ⊎ (left_in_all picks + length picks * price ≡ total_stake snapshot)
  outcome [] run = inr (omega (arith, stakes_in_order snapshot))
  outcome (pick ∷ picks) run = at (outcome picks run.1) (cases_lt (backing snapshot picks pick) price) where
    at : NoneCanPay picks ⊎ (left_in_all picks + length picks * price ≡ total_stake snapshot) → (backing snapshot picks pick < price) ⊎ (price ≤ backing snapshot picks pick)
        → NoneCanPay (pick ∷ picks) ⊎ (left_in_all (pick ∷ picks) + length (pick ∷ picks) * price ≡ total_stake snapshot)
    at (inl none) _ = inl (still_none pick picks none)
    at (inr whole) (inl less) = inl (still_none pick picks (λ target h out. omega (arith, less, (greatest_of snapshot picks pick run.0).greatest target h out)))
    at (inr whole) (inr enough) =
        let drawn = drawn_in_all snapshot (left_after snapshot picks) pick (length snapshot.voters) in
        let split = left_and_drawn snapshot (left_after snapshot picks) pick voters in
        inr (joined (left_in_all (pick ∷ picks)) (left_in_all picks) (length picks) price (omega (arith, drawn, split, enough)) whole)
      where
        joined : (now before count price : ℕ) {total : ℕ} → now + price ≡ before → before + count * price ≡ total → now + (suc count) * price ≡ total
        joined now before count price e h = omega (arith, e, h, more count price) where
          more : (a b : ℕ) → (suc a) * b ≡ a * b + b
          more a b = grind arith

  abbrev picks : List ℕ
  picks = picked snapshot snapshot.seats

  run : AreRun snapshot picks
  run = are_run snapshot snapshot.seats

  as_many : length picks ≡ snapshot.seats
  as_many = all_picks (length snapshot.targets) more more_orders (backing snapshot) snapshot.seats formed.targets_enough

  -- a seat stands for at least as many units as there are seats
  seats_le_price : snapshot.seats ≤ price
  seats_le_price = at snapshot.seats (total_stake snapshot) formed.seats_some formed.total_enough where
    at : (k total : ℕ) → 1 ≤ k → k * k ≤ total → k ≤ total / k
    at k total p h = elim (cases_lt (total / k) k) [
      | inr l ↦ l
      | inl l ↦ absurd (too_few k (total / k) (total % k) total p h l (div-add-mod total k) (mod_below total k (omega (arith, p))))
    ] where
      too_few : (k q r total : ℕ) → 1 ≤ k → k * k ≤ total → q < k → k * q + r ≡ total → r < k → ⊥
      too_few k q r total p h l e m =
          let more : k * (q + 1) ≤ k * k = mul_up k (q + 1) k (omega (arith, l)) in
          omega (arith, h, e, m, more, spread k q)
        where
          spread : (a b : ℕ) → a * (b + 1) ≡ a * b + a
          spread a b = grind arith

          mul_up : (a b c : ℕ) → b ≤ c → a * b ≤ a * c
          mul_up a b c l = mul-le-mul_left a l

  none_can_pay : NoneCanPay picks
  none_can_pay = at (outcome picks run) where
    at : NoneCanPay picks ⊎ (left_in_all picks + length picks * price ≡ total_stake snapshot) → NoneCanPay picks
    at (inl none) = none
    at (inr whole) = λ target h out.
        let counted = sum_filter-le (λ voter. nominates snapshot voter target) (left_after snapshot picks) voters in
        omega (arith, counted, left_is_rest, seats_le_price) where
          left_is_rest : left_in_all picks < snapshot.seats
          left_is_rest = rest snapshot.seats (total_stake snapshot) (left_in_all picks) (length picks) formed.seats_some as_many whole where
            rest : (k total left count : ℕ) → 1 ≤ k → count ≡ k → left + count * (total / k) ≡ total → left < k
            rest k total left count p e h =
                let same : count * (total / k) ≡ k * (total / k) = ap (λ n. n * (total / k)) e in
                omega (arith, h, same, div-add-mod total k, mod_below total k (omega (arith, p)))

  abbrev members : List ℕ
  members = reverse picks

  below : (target : ℕ) → In picks target → target < length snapshot.targets
  below = pick_in_range (length snapshot.targets) more more_orders (backing snapshot) picks run

  distinct : IsDistinct nat_eq picks
  distinct = picks_distinct (length snapshot.targets) more more_orders (backing snapshot) picks run

  pub fill_passes : Passes snapshot (filled snapshot)
  fill_passes = record {
    feasible = record {
      follows = given_follows snapshot (given snapshot picks) picks below distinct (given_member snapshot picks) (omega (arith, formed.voters.targets_few));
      seats_filled = length_permutation picks members (IsPermutation-reverse picks) ∙ as_many;
      within_stakes = λ voter h. omega (arith, spent_is snapshot (given snapshot picks) voter h, given_and_left snapshot picks run voter);
    };
    none_outweighs = λ target h out.
        let same = sum_agree (slack price snapshot (edges_given snapshot (given snapshot picks))) (left_after snapshot picks) (nominators snapshot target)
        (λ voter i. slack_is_left snapshot picks run voter (in_reach target voter i)) in
        omega (arith, same, none_can_pay target h (not_picked target out));
  } where
    in_reach : (target voter : ℕ) → In (nominators snapshot target) voter → voter < length snapshot.voters
    in_reach target voter i = omega (arith, (from_range 0 (length snapshot.voters) voter (from_filter (λ n. nominates snapshot n target) voters voter i).0).1)

    not_picked : (target : ℕ) → has members target ≡ false → has picks target ≡ false
    not_picked target out = at (cases_Bool (has picks target)) where
      at : (has picks target ≡ true) ⊎ (has picks target ≡ false) → has picks target ≡ false
      at (inr f) = f
      at (inl t) = absurd (true≢false (sym (is_member snapshot (given snapshot picks) picks below distinct (given_member snapshot picks) target (from_has picks target t)) ∙ out))

pub every_fill_passes : EveryFillPasses
every_fill_passes snapshot formed = fill_passes snapshot formed
