-- Snapshots and committees that are made anew.
use Rattle.std.proofs.Common.{◌≡◌, ℕ, suc, ◌+◌, ◌≤◌, ◌<◌, Bool, true, false, cond, not, nat_eq, nat_lt, List, [], ◌∷◌}
use Rattle.std.proofs.Common.{◌++◌, length, take, sum_by, get_or, Option, None, refl, ap, ap₂, sym, ◌∙◌, true≢false, arith}
use Rattle.std.specs.List.{AllByRecursion, AllPairs}
use Rattle.std.specs.List.Sorted.{IsPermutation, IsStrictlyIncreasing}
use Rattle.std.proofs.lemmas.Bool.Decides.{nat_tests}
use Rattle.std.proofs.lemmas.List.Elements.{recursion_from_All}
use Rattle.std.proofs.lemmas.List.Kept.{AllPairs-from_increasing}
use Rattle.std.proofs.lemmas.List.Sorted.{sum_by-IsPermutation}
use Rattle.std.proofs.lemmas.List.Sums.{sum_by-cons}
use Rattle.block_wire.specs.declared.genesis.Params.{Params}
use Rattle.chain_params.specs.Rules.{seats_of}
use Rattle.election_snapshot.specs.Draft.{Draft, target_fault, voter_fault, seated}
use Rattle.election_snapshot.specs.Snapshot.{Snapshot}
use Rattle.state_rules.specs.declared.state.RoundRow.{RoundRow}
use Rattle.npos_runtime.specs.Kept.Chain.{snapshot_in}
use Rattle.block_wire.specs.declared.bundle.BundleVoter.{BundleVoter}
use Rattle.state_rules.specs.Rounds.{Target, draft_of}
use Rattle.state_rules.specs.Lists.{bad_place, follows, is_rising}
use Rattle.state_rules.specs.Sound.{EachIs}
use Rattle.state_rules.proofs.SoundLemmas.{each_is, no_place, holds}
use Rattle.npos_runtime.specs.Kept.Remade.{AreTargetsTaken, AreVotersTaken}
use Rattle.npos_runtime.proofs.Kept.Remade.ItemLemmas.{built, all_put, all_behind}

pub target_ready : (targets : List Target) (draft : Draft) (place : ℕ) (d target : Target) → AreTargetsTaken targets → draft ≡ draft_of (take place targets) []
    → place < length targets → target ≡ get_or targets place d → target_fault draft target.0 ≡ None
target_ready targets draft place d target taken drafted few is =
    ap (λ (f : Draft). target_fault f target.0) drafted
    ∙ (ap (λ (t : Target). target_fault (draft_of (take place targets) []) t.0) is ∙ taken place d few)

pub voter_ready : (targets : List Target) (voters : List BundleVoter) (draft : Draft) (place : ℕ) (d voter : BundleVoter) → AreVotersTaken targets voters
    → draft ≡ draft_of targets (take place voters) → place < length voters → voter ≡ get_or voters place d
    → voter_fault draft voter.account voter.stake voter.votes ≡ None
voter_ready targets voters draft place d voter taken drafted few is =
    ap (λ (f : Draft). voter_fault f voter.account voter.stake voter.votes) drafted
    ∙ (ap (λ (v : BundleVoter). voter_fault (draft_of targets (take place voters)) v.account v.stake v.votes) is ∙ taken place d few)

-- the snapshot of so many seats as the params ask for
pub built_snapshot : (row : RoundRow) (snapshot : Snapshot) (seats : ℕ) (params : Option Params) → seats ≡ seats_of params
    → snapshot ≡ seated (draft_of row.targets row.voters) seats → snapshot ≡ snapshot_in params row
built_snapshot row snapshot seats params is made = made ∙ ap (seated (draft_of row.targets row.voters)) is

-- ## A committee that rises is left as it is by a sort

abbrev Rise : List ℕ → Type 0
Rise [] = Unit {0}
Rise (x ∷ xs) = AllByRecursion (λ (y : ℕ). x < y) xs × Rise xs

rise_more : (xs : List ℕ) (y : ℕ) → Rise xs → AllByRecursion (λ (x : ℕ). x < y) xs → Rise (xs ++ y ∷ [])
rise_more [] y up under = (tt, tt)
rise_more (x ∷ xs) y up under = (all_put (λ (z : ℕ). x < z) xs y up.0 under.0, rise_more xs y up.1 under.1)

abbrev Follows : List ℕ → ℕ → Type 0
Follows before member = follows nat_lt before member ≡ true

rise_each : (members : List ℕ) → EachIs Follows members → Rise members
rise_each members each =
    built Follows Rise
    (λ before member each_earlier up stands.
    rise_more before member up
    (all_behind nat_lt (λ (a b : ℕ). a < b) (λ a b e. lower a b e) (λ a b c x y. omega (arith, x, y)) before each_earlier member stands))
    members tt each where
      lower : (a b : ℕ) → nat_lt a b ≡ true → a < b
      lower a b e = grind (arith, nat_tests, e)

rise_rows : (members : List ℕ) → is_rising nat_lt members ≡ true → Rise members
rise_rows members rising =
    rise_each members
    (each_is (λ before member. not (follows nat_lt before member)) Follows members (λ before member e. holds (follows nat_lt before member) e)
    (no_place (bad_place (λ before member. not (follows nat_lt before member)) members) (turned _ rising))) where
      turned : (b : Bool) → not b ≡ true → b ≡ false
      turned true e = absurd (true≢false (sym e))
      turned false e = refl

rise_pairs : (xs : List ℕ) → AllPairs (λ (x y : ℕ). x < y) xs → Rise xs
rise_pairs [] up = tt
rise_pairs (x ∷ xs) up = (
  recursion_from_All (λ (y : ℕ). x < y) xs (λ k d few. up 0 (suc k) d (omega arith) (omega (arith, few))),
  rise_pairs xs (λ i j d lt few. up (suc i) (suc j) d (omega (arith, lt)) (omega (arith, few))),
)

abbrev one : Bool → ℕ
one b = cond b 1 0

abbrev count : ℕ → List ℕ → ℕ
count n xs = sum_by (λ m. one (nat_eq n m)) xs

none_counted : (n : ℕ) (xs : List ℕ) → AllByRecursion (λ (x : ℕ). n < x) xs → count n xs ≡ 0
none_counted n [] all = refl
none_counted n (x ∷ xs) all =
    let test : nat_eq n x ≡ false = let lower : n < x = all.0 in grind (arith, nat_tests, lower) in
    let here : one (nat_eq n x) ≡ 0 = ap one test in
    let more : count n (x ∷ xs) ≡ one (nat_eq n x) + count n xs = sum_by-cons (λ m. one (nat_eq n m)) x xs in
    omega (arith, more, here, none_counted n xs all.1)

itself : (x : ℕ) (xs : List ℕ) → 1 ≤ count x (x ∷ xs)
itself x xs =
    let test : one (nat_eq x x) ≡ 1 = ap one (same x) in
    omega (arith, test, sum_by-cons (λ m. one (nat_eq x m)) x xs) where
      same : (n : ℕ) → nat_eq n n ≡ true
      same n = grind (arith, nat_tests)

under_all : (a b : ℕ) (xs : List ℕ) → a < b → AllByRecursion (λ (x : ℕ). b < x) xs → AllByRecursion (λ (x : ℕ). a < x) xs
under_all a b [] lower all = tt
under_all a b (x ∷ xs) lower all = let first : b < x = all.0 in (omega (arith, lower, first), under_all a b xs lower all.1)

no_lower : (x y : ℕ) (xs ys : List ℕ) → Rise (y ∷ ys) → count x (x ∷ xs) ≡ count x (y ∷ ys) → y ≤ x
no_lower x y xs ys up alike = at (nat_lt x y) refl where
  at : (b : Bool) → nat_lt x y ≡ b → y ≤ x
  at false is = grind (arith, nat_tests, is)
  at true is =
      let lower : x < y = grind (arith, nat_tests, is) in
      absurd (omega (arith, itself x xs, alike, none_counted x (y ∷ ys) (lower, under_all x y ys lower up.0)))

-- numbers that rise and are counted alike are the same
risen_same : (xs ys : List ℕ) → Rise xs → Rise ys → ((n : ℕ) → count n xs ≡ count n ys) → xs ≡ ys
risen_same [] [] up over alike = refl
risen_same [] (y ∷ ys) up over alike = absurd (omega (arith, itself y ys, alike y))
risen_same (x ∷ xs) [] up over alike = absurd (omega (arith, itself x xs, alike x))
risen_same (x ∷ xs) (y ∷ ys) up over alike =
    let first = no_lower x y xs ys over (alike x) in
    let other = no_lower y x ys xs up (sym (alike y)) in
    let same : x ≡ y = omega (arith, first, other) in
    ap₂ (λ (n : ℕ) (l : List ℕ). n ∷ l) same
    (risen_same xs ys up.1 over.1
    (λ n. omega (
      arith,
      alike n,
      ap (λ (m : ℕ). one (nat_eq n m)) same,
      sum_by-cons (λ m. one (nat_eq n m)) x xs,
      sum_by-cons (λ m. one (nat_eq n m)) y ys,
    )))

-- members that rise strictly are the same however they were sorted
pub same_members : (rows sorted : List ℕ) → is_rising nat_lt rows ≡ true → IsPermutation rows sorted → IsStrictlyIncreasing sorted → sorted ≡ rows
same_members rows sorted rising moved up =
    risen_same sorted rows (rise_pairs sorted (AllPairs-from_increasing sorted up)) (rise_rows rows rising)
    (λ n. sum_by-IsPermutation (λ m. one (nat_eq n m)) rows sorted moved)
