-- Weights that follow, laid along the slots of their members.
use Rattle.std.proofs.Common.{◌≡◌, ℕ, ◌^◌, ◌<◌, ◌≤◌, Bool, true, false, slice_index_or, List, [], ◌∷◌, length, get_or, All, IsPermutation, inl, inr, refl, ap, sym, subst, ◌∙◌, arith}
use Rattle.std.specs.List.{AllPairs, IsDistinct}
use Rattle.std.specs.List.Sorted.{IsNonDecreasingBy}
use Rattle.std.proofs.lemmas.List.Elements.{All-from_recursion, All-filter}
use Rattle.std.proofs.lemmas.List.Kept.{AllPairs-cons, AllPairs-filter}
use Rattle.std.proofs.lemmas.List.Sorted.{All-permutation, sum_by-IsPermutation}
use Rattle.std.proofs.lemmas.Map.Keys.{IsDistinct-IsPermutation}
use Rattle.std.proofs.lemmas.Bool.{cases_Bool, cases_lt, true≢false}
use Rattle.npos_base.specs.declared.figures.Edge.{Edge}
use Rattle.election_snapshot.specs.Snapshot.{Snapshot, IsWellFormed, has}
use Rattle.election_snapshot.proofs.HasLemmas.{all_has}
use Rattle.weight_book.specs.Weights.{Weights, same_pair, support, Follows}
use Rattle.weight_book.proofs.SumLemmas.{eqb_turned}
use Rattle.support_balance.specs.Rounds.{IsBefore, GiveSame}
use Rattle.support_balance.specs.Rows.{at, AreAlike}
use Rattle.support_balance.specs.Laid.{Covers}
use Rattle.support_balance.specs.Slots.{AreSlots, marked, has_pair, AreLaid}
use Rattle.npos_base.specs.Edge.{place_of}
use Rattle.support_balance.specs.Backing.{IsKept}
use Rattle.support_balance.proofs.AlikeLemmas.{rising_before}
use Rattle.support_balance.proofs.LayLemmas.{same_pair_true, pair_is}
use Rattle.support_balance.proofs.GivenLemmas.{pair_weight, given_weight}
use Rattle.support_balance.proofs.BackingLemmas.{laid_all, laid_covers}
use Rattle.support_balance.proofs.CoverLemmas.{from_pair, few_covering}

pair_turned : (one other : Edge) → same_pair one other ≡ same_pair other one
pair_turned one other = rw (eqb_turned one.voter other.voter, eqb_turned one.target other.target) refl

apart_pairs : (edges : List Edge) → IsDistinct same_pair edges → AllPairs (λ one other. same_pair one other ≡ false) edges
unfolding IsDistinct
apart_pairs [] distinct = λ i j d a b. absurd (omega (arith, b))
apart_pairs (edge ∷ edges) distinct = AllPairs-cons (λ one other. same_pair one other ≡ false) edge edges
    (All-from_recursion (λ (other : Edge). same_pair edge other ≡ false) edges distinct.0) (apart_pairs edges distinct.1)

-- edges of different pairs that do not fall rise
pub sorted_before : (edges sorted : List Edge) → IsDistinct same_pair edges → IsPermutation edges sorted → IsNonDecreasingBy place_of sorted
    → All (λ (e : Edge). e.target < 65536) edges → AllPairs IsBefore sorted
sorted_before edges sorted distinct moved up small i j d a b =
    let one = get_or sorted i d in
    let other = get_or sorted j d in
    let few = All-permutation (λ (e : Edge). e.target < 65536) edges sorted moved small in
    let apart = apart_pairs sorted (IsDistinct-IsPermutation same_pair pair_turned edges sorted moved distinct) i j d a b in
    before one other (up i j d (omega (arith, a)) b) (few i d (omega (arith, a, b))) (few j d b) apart
  where
    before : (one other : Edge) → place_of one ≤ place_of other → one.target < 65536 → other.target < 65536 → same_pair one other ≡ false → IsBefore one other
    before one other l s t apart = elim (cases_lt one.voter other.voter) [
      | inl v ↦ inl v
      | inr v ↦
          let same : one.voter ≡ other.voter = omega (arith, l, s, t, v) in
          elim (cases_lt one.target other.target) [
            | inl u ↦ inr (same, u)
            | inr u ↦ absurd (true≢false (sym (same_pair_true one other same (omega (arith, l, same, u))) ∙ apart))
          ]
    ]

marked_has : (marks : ℕ → Bool) (slots : List Edge) (edge : Edge) → marks edge.target ≡ true → has_pair slots edge ≡ true → has_pair (marked marks slots) edge ≡ true
marked_has marks [] edge mark some = some
marked_has marks (slot ∷ slots) edge mark some = elim (cases_Bool (same_pair slot edge)) [
  | inl same ↦ rw (ap marks (pair_is slot edge same).1 ∙ mark, same) refl
  | inr other ↦
      let rest = marked_has marks slots edge mark (rw other at some) in
      elim (cases_Bool (marks slot.target)) [
        | inl t ↦ rw (t, other) rest
        | inr t ↦ rw t rest
      ]
]

module _ (snapshot : Snapshot) (formed : IsWellFormed snapshot) (weights : Weights) (follows : Follows snapshot weights) (slots : List Edge)
    (are : AreSlots snapshot (length snapshot.voters) slots) (is_member : List Bool) (marks : (target : ℕ) → slice_index_or is_member target false ≡ has weights.committee target)
    (marks_count : length is_member ≡ length snapshot.targets) (sorted : List Edge) (up : IsNonDecreasingBy place_of sorted) (moved : IsPermutation weights.edges sorted) where
  small_targets : All (λ (e : Edge). e.target < 65536) weights.edges
  small_targets k d h = all_has (λ target. target < 65536) weights.committee (get_or weights.edges k d).target
      (λ i e l. omega (arith, follows.members_in_range i e l, formed.voters.targets_few)) (follows.to_members k d h)

  pub rising_sorted : AllPairs IsBefore sorted
  rising_sorted = sorted_before weights.edges sorted follows.pairs_distinct moved up small_targets

  pub along_sorted : All (λ (e : Edge). has_pair (marked (λ t. slice_index_or is_member t false) slots) e ≡ true) sorted
  along_sorted = All-permutation (λ (e : Edge). has_pair (marked (λ t. slice_index_or is_member t false) slots) e ≡ true) weights.edges sorted moved
      (λ k d h.
      let edge = get_or weights.edges k d in
      marked_has (λ t. slice_index_or is_member t false) slots edge (marks edge.target ∙ follows.to_members k d h)
      (sym (from_pair slots edge) ∙ are.pairs edge.voter edge.target (follows.voters_in_range k d h) ∙ follows.nominated k d h))

  module _ (laid : List Edge) (lays : AreLaid (λ t. slice_index_or is_member t false) slots sorted laid) where
    alike_members : AreAlike (marked (has weights.committee) slots) laid
    alike_members = subst (λ (m : ℕ → Bool). AreAlike (marked m slots) laid) (λ i t. marks t i) lays.alike

    rising_laid : AllPairs IsBefore laid
    rising_laid = rising_before (marked (λ t. slice_index_or is_member t false) slots) laid lays.alike
        (AllPairs-filter IsBefore (λ (e : Edge). slice_index_or is_member e.target false) slots are.rising)

    voters_laid : All (λ (e : Edge). e.voter < length snapshot.voters) laid
    voters_laid = laid_all (λ v t. v < length snapshot.voters) (marked (λ t. slice_index_or is_member t false) slots) laid lays.alike
        (All-filter (λ (e : Edge). slice_index_or is_member e.target false) (λ (e : Edge). e.voter < length snapshot.voters) slots are.voters_in_range)

    covers_laid : Covers snapshot weights.committee laid
    covers_laid = laid_covers snapshot weights.committee slots laid are alike_members

    pub few_laid : length laid ≤ 2 ^ 20
    few_laid = few_covering snapshot weights.committee laid formed rising_laid voters_laid covers_laid

    pub laid_in_range : All (λ (e : Edge). e.target < length snapshot.targets) laid
    laid_in_range = laid_all (λ v t. t < length snapshot.targets) (marked (λ t. slice_index_or is_member t false) slots) laid lays.alike
        (All-filter (λ (e : Edge). slice_index_or is_member e.target false) (λ (e : Edge). e.target < length snapshot.targets) slots are.targets_in_range)

    pub same_laid : GiveSame weights.edges laid
    same_laid voter target = lays.same voter target ∙ given_weight sorted voter target
        ∙ sum_by-IsPermutation (pair_weight voter target) weights.edges sorted moved ∙ sym (given_weight weights.edges voter target)

    pub kept_over : (supports : List ℕ) → length supports ≡ length snapshot.targets → ((target : ℕ) → at supports target ≡ support laid target)
        → IsKept snapshot weights.committee is_member laid supports
    kept_over supports count table = record {
      formed = formed;
      in_range = follows.members_in_range;
      distinct = follows.members_distinct;
      marks = marks;
      marks_count = marks_count;
      covers = covers_laid;
      voters_in_range = voters_laid;
      kept = record {
        rising = rising_laid;
        few = few_laid;
        small = lays.small;
        in_range = λ k d h. omega (arith, laid_in_range k d h, count);
        table = table;
      };
      count = count;
    }
