-- Weights that pass do so with the edges that are kept.
use Rattle.std.proofs.Common.{◌≡◌, ℕ, ◌*◌, ◌-◌, ◌/◌, ◌<◌, ◌≤◌, min, Bool, true, false, cond, ◌&&◌, ◌||◌, nat_eq, nat_lt}
use Rattle.std.proofs.Common.{IsTrue, All, List, [], ◌∷◌, length, filter, sum_by, refl, ap, sym, subst, ◌∙◌, arith}
use Rattle.std.specs.List.{AllByRecursion, IsDistinct}
use Rattle.std.proofs.Math.Nat.{zero-div}
use Rattle.std.proofs.lemmas.Bool.Decides.{nat_tests}
use Rattle.std.proofs.lemmas.List.Elements.{All-from_recursion, All-filter, recursion_from_All}
use Rattle.npos_base.specs.declared.figures.Edge.{Edge}
use Rattle.election_snapshot.specs.Snapshot.{Snapshot, has, nominates, stake_of, threshold}
use Rattle.weight_book.specs.Weights.{Weights, same_pair, edges_from, support, spent, Follows}
use Rattle.weight_book.specs.Passing.{pay, paid, nominators, prescore, Passes}
use Rattle.weight_book.specs.GivenEdges.{gives, is_before, kept_edges}
use Rattle.weight_book.proofs.GivenEdgeLemmas.{IsAhead, Rise, sum_kept, filtered_sum, support_kept, all_in_order, kept_rise}

abbrev pub kept_weights : Weights → Weights
kept_weights weights = record { committee = weights.committee; edges = kept_edges weights.edges }

-- what holds of all edges holds of those that are kept
all_kept : (P : Edge → Type 0) (edges : List Edge) → All P edges → All P (kept_edges edges)
all_kept P edges all =
    All-from_recursion P (kept_edges edges)
    (all_in_order P (filter gives edges) (recursion_from_All P (filter gives edges) (All-filter gives P edges all)))

ahead_apart : (edge later : Edge) → is_before edge later ≡ true → same_pair edge later ≡ false
ahead_apart edge later ahead =
    at (nat_lt edge.voter later.voter) (nat_eq edge.voter later.voter) (nat_lt edge.target later.target) (nat_eq edge.target later.target) refl refl refl refl ahead where
      at : (p q r s : Bool) → nat_lt edge.voter later.voter ≡ p → nat_eq edge.voter later.voter ≡ q → nat_lt edge.target later.target ≡ r → nat_eq edge.target later.target ≡ s
          → (p || (q && r)) ≡ true → (q && s) ≡ false
      at p false r s e1 e2 e3 e4 before = refl
      at p true r false e1 e2 e3 e4 before = refl
      at true true r true e1 e2 e3 e4 before = absurd (grind (arith, nat_tests, e1, e2))
      at false true true true e1 e2 e3 e4 before = absurd (grind (arith, nat_tests, e3, e4))
      at false true false true e1 e2 e3 e4 before = absurd (cc)

-- edges that rise lead to different targets, or from different voters
risen_distinct : (edges : List Edge) → Rise edges → IsDistinct same_pair edges
unfolding IsDistinct
risen_distinct [] up = tt
risen_distinct (edge ∷ edges) up = (apart edges up.0, risen_distinct edges up.1) where
  apart : (more : List Edge) → AllByRecursion (IsAhead edge) more → AllByRecursion (λ later. same_pair edge later ≡ false) more
  apart [] ahead = tt
  apart (later ∷ more) ahead = (ahead_apart edge later ahead.0, apart more ahead.1)

module _ (edges : List Edge) where
  -- whatever is 0 where nothing is given sums to the same over a voter's edges
  from_kept : (f : Edge → ℕ) (voter : ℕ) → ((edge : Edge) → edge.amount ≡ 0 → f edge ≡ 0)
      → sum_by f (edges_from (kept_edges edges) voter) ≡ sum_by f (edges_from edges voter)
  from_kept f voter nothing =
      filtered_sum f (λ edge. nat_eq edge.voter voter) (kept_edges edges)
      ∙ (sum_kept (λ edge. cond (nat_eq edge.voter voter) (f edge) 0) none edges
      ∙ sym (filtered_sum f (λ edge. nat_eq edge.voter voter) edges)) where
        none : (edge : Edge) → edge.amount ≡ 0 → cond (nat_eq edge.voter voter) (f edge) 0 ≡ 0
        none edge nothing_given = at (nat_eq edge.voter voter) where
          at : (b : Bool) → cond b (f edge) 0 ≡ 0
          at true = nothing edge nothing_given
          at false = refl

  spent_kept : (voter : ℕ) → spent (kept_edges edges) voter ≡ spent edges voter
  spent_kept voter = from_kept (λ (edge : Edge). edge.amount) voter (λ edge none. none)

  -- who gives nothing pays nothing
  no_pay : (cap : ℕ) (edge : Edge) → edge.amount ≡ 0 → pay cap edges edge ≡ 0
  no_pay cap edge none =
      ap (λ amount. amount * min cap (support edges edge.target) / support edges edge.target) none
      ∙ (ap (λ n. n / support edges edge.target) (nothing (min cap (support edges edge.target))) ∙ zero-div (support edges edge.target)) where
        nothing : (n : ℕ) → 0 * n ≡ 0
        nothing n = omega arith

  paid_kept : (cap voter : ℕ) → paid cap (kept_edges edges) voter ≡ paid cap edges voter
  paid_kept cap voter =
      (λ i. sum_by (λ (edge : Edge). edge.amount * min cap (support_kept edges edge.target i) / support_kept edges edge.target i) (edges_from (kept_edges edges) voter))
      ∙ from_kept (pay cap edges) voter (no_pay cap)

  prescore_kept : (cap : ℕ) (snapshot : Snapshot) (target : ℕ) → prescore cap snapshot (kept_edges edges) target ≡ prescore cap snapshot edges target
  prescore_kept cap snapshot target = λ i. sum_by (λ (voter : ℕ). stake_of snapshot voter - paid_kept cap voter i) (nominators snapshot target)

follows_kept : (snapshot : Snapshot) (weights : Weights) → Follows snapshot weights → Follows snapshot (kept_weights weights)
follows_kept snapshot weights follows = record {
  members_in_range = follows.members_in_range;
  members_distinct = follows.members_distinct;
  pairs_distinct = risen_distinct (kept_edges weights.edges) (kept_rise weights.edges follows.pairs_distinct);
  voters_in_range = all_kept (λ edge. edge.voter < length snapshot.voters) weights.edges follows.voters_in_range;
  to_members = all_kept (λ edge. IsTrue (has weights.committee edge.target)) weights.edges follows.to_members;
  nominated = all_kept (λ edge. IsTrue (nominates snapshot edge.voter edge.target)) weights.edges follows.nominated;
}

-- weights that pass do so with the edges that are kept
pub passes_kept : (snapshot : Snapshot) (weights : Weights) → Passes snapshot weights → Passes snapshot (kept_weights weights)
passes_kept snapshot weights passes = record {
  feasible = record {
    follows = follows_kept snapshot weights passes.feasible.follows;
    seats_filled = passes.feasible.seats_filled;
    within_stakes = λ voter few. subst (λ n. n ≤ stake_of snapshot voter) (sym (spent_kept weights.edges voter)) (passes.feasible.within_stakes voter few);
  };
  none_outweighs = λ target few outside. subst (λ n. n < threshold snapshot) (sym (prescore_kept weights.edges (threshold snapshot) snapshot target))
      (passes.none_outweighs target few outside);
}
