-- Sums over the voters by their positions, and what feasible weights give in all.
use Rattle.std.proofs.Common.{◌≡◌, ℕ, zero, suc, ◌+◌, ◌-◌, ◌<◌, ◌≤◌, true, cond, List, [], ◌∷◌, ◌++◌, length, get_or, map, sum_by, refl, sym, ap, ◌∙◌, arith}
use Rattle.std.specs.List.{range_with_len}
use Rattle.std.proofs.lemmas.List.Sums.{sum_by-append, sum_by-cons}
use Rattle.std.proofs.lemmas.List.FromFn.{fill_by_all, get_or-range_with_len, length-range_with_len}
use Rattle.npos_base.specs.declared.figures.Edge.{Edge}
use Rattle.election_snapshot.specs.Snapshot.{Snapshot, Voter, nobody, has, stake_of, total_stake}
use Rattle.weight_book.specs.Weights.{Weights, IsFeasible, amount_sum, spent}
use Rattle.weight_book.proofs.SumLemmas.{sum_le, at_least, has_range}

pub range_append : (low a b : ℕ) → range_with_len low (a + b) ≡ range_with_len low a ++ range_with_len (low + a) b
range_append low zero b = rw (zero_more low, zero_less b) refl where
  zero_more : (n : ℕ) → n + 0 ≡ n
  zero_more n = omega arith

  zero_less : (n : ℕ) → 0 + n ≡ n
  zero_less n = omega arith
range_append low (suc a) b = one low a b ∙ ap (λ ns. low ∷ ns) (range_append (low + 1) a b ∙ ap (λ n. range_with_len (low + 1) a ++ range_with_len n b) (next low a)) where
  one : (low a b : ℕ) → range_with_len low (suc a + b) ≡ low ∷ range_with_len (low + 1) (a + b)
  one low a b = ap (range_with_len low) (out a b) where
    out : (a b : ℕ) → suc a + b ≡ suc (a + b)
    out a b = omega arith

  next : (low a : ℕ) → low + 1 + a ≡ low + suc a
  next low a = omega arith

-- the voters up to one, and that one
pub range_more : (n : ℕ) → range_with_len 0 (n + 1) ≡ range_with_len 0 n ++ n ∷ []
range_more n = range_append 0 n 1 ∙ ap (λ m. range_with_len 0 n ++ m ∷ []) (zero_less n) where
  zero_less : (n : ℕ) → 0 + n ≡ n
  zero_less n = omega arith

sum_of_map : {X : Type 0} (f : X → ℕ) (g : ℕ → X) (numbers : List ℕ) → sum_by f (map g numbers) ≡ sum_by (λ n. f (g n)) numbers
sum_of_map f g [] = refl
sum_of_map f g (n ∷ numbers) = rw (sum_by-cons f (g n) (map g numbers), sum_by-cons (λ m. f (g m)) n numbers) (ap (λ m. f (g n) + m) (sum_of_map f g numbers))

pub stakes_in_order : (snapshot : Snapshot) → sum_by (stake_of snapshot) (range_with_len 0 (length snapshot.voters)) ≡ total_stake snapshot
stakes_in_order snapshot =
    sym (sum_of_map (λ (voter : Voter). voter.stake) (λ n. get_or snapshot.voters n nobody) (range_with_len 0 (length snapshot.voters)))
    ∙ ap (sum_by (λ (voter : Voter). voter.stake)) (sym (fill_by_all (λ n. get_or snapshot.voters n nobody) snapshot.voters (length snapshot.voters) nobody refl (λ k h. refl)))

-- the first voters have no more than all
pub stakes_before : (snapshot : Snapshot) (n : ℕ) → n ≤ length snapshot.voters → sum_by (stake_of snapshot) (range_with_len 0 n) ≤ total_stake snapshot
stakes_before snapshot n h =
    let split = ap (λ m. sum_by (stake_of snapshot) (range_with_len 0 m)) (whole n (length snapshot.voters) h) ∙ ap (sum_by (stake_of snapshot)) (range_append 0 n (length snapshot.voters - n))
    ∙ sum_by-append (stake_of snapshot) (range_with_len 0 n) (range_with_len (0 + n) (length snapshot.voters - n)) in
    omega (arith, split, stakes_in_order snapshot)
  where
    whole : (a b : ℕ) → a ≤ b → b ≡ a + (b - a)
    whole a b h = omega arith

-- feasible weights give no more than all stakes
pub amounts_within : (snapshot : Snapshot) (weights : Weights) → IsFeasible snapshot weights → amount_sum weights.edges ≤ total_stake snapshot
amounts_within snapshot weights feasible =
    let voters = range_with_len 0 (length snapshot.voters) in
    let all = sum_le (λ (edge : Edge). edge.amount) (λ (edge : Edge). cond (has voters edge.voter) edge.amount 0) weights.edges
    (λ k d h. counted (get_or weights.edges k d) (feasible.follows.voters_in_range k d h)) in
    let by_voter = at_least (λ (edge : Edge). edge.voter) (λ (edge : Edge). edge.amount) weights.edges voters in
    let each = sum_le (spent weights.edges) (stake_of snapshot) voters (λ k d h. within k d (length-range_with_len 0 (length snapshot.voters)) h) in
    omega (arith, all, by_voter, each, stakes_in_order snapshot)
  where
    counted : (edge : Edge) → edge.voter < length snapshot.voters → edge.amount ≤ cond (has (range_with_len 0 (length snapshot.voters)) edge.voter) edge.amount 0
    counted edge h = let there : has (range_with_len 0 (length snapshot.voters)) edge.voter ≡ true = has_range 0 (length snapshot.voters) edge.voter (omega arith) (omega (arith, h)) in
        rw there (omega arith)

    within : (k d : ℕ) → length (range_with_len 0 (length snapshot.voters)) ≡ length snapshot.voters → k < length (range_with_len 0 (length snapshot.voters))
        → spent weights.edges (get_or (range_with_len 0 (length snapshot.voters)) k d) ≤ stake_of snapshot (get_or (range_with_len 0 (length snapshot.voters)) k d)
    within k d e h = let at = get_or-range_with_len 0 (length snapshot.voters) k d (omega (arith, e, h)) in
        feasible.within_stakes (get_or (range_with_len 0 (length snapshot.voters)) k d) (omega (arith, at, e, h))
