-- Offers that are laid, voter by voter.
use Rattle.std.proofs.Common.{◌≡◌, ◌≢◌, ℕ, ◌+◌, ◌*◌, ◌^◌, ◌<◌, ◌≤◌, ◌⊎◌, Bool, cond, nat_eq, List, [], ◌∷◌, ◌++◌, length}
use Rattle.std.proofs.Common.{get_or, set, take, drop, filter, sum, sum_by, All, inl, inr, ap, ◌∙◌, sym, subst, arith}
use Rattle.std.specs.List.{IsDistinct}
use Rattle.std.proofs.Math.Nat.{mul-add}
use Rattle.std.proofs.Math.ListN.{get_or-eq_default}
use Rattle.std.proofs.lemmas.Bool.{cases_eq, cases_lt, cases_Bool, cond-true, cond-false, true≢false}
use Rattle.std.proofs.lemmas.List.{get_or-set_same, get_or-set_other, take_more, take_all, take-append-le}
use Rattle.std.proofs.lemmas.List.Sums.{sum_by-set, sum_by_more, get_or-le-sum_by}
use Rattle.npos_base.specs.declared.figures.Edge.{Edge}
use Rattle.election_snapshot.specs.Snapshot.{Snapshot, IsWellFormed, has, stake_of, total_stake}
use Rattle.election_snapshot.proofs.HasLemmas.{all_has}
use Rattle.weight_book.specs.Proportional.{group_stake}
use Rattle.seat_race.proofs.InLemmas.{In, in_has, in_left, in_right, in_either, in_at, sum_agree}
use Rattle.seat_race.proofs.TableLemmas.{fresh}
use Rattle.weight_book.proofs.SumLemmas.{sum_of_none}
use Rattle.committee_answer.specs.declared.offers.Offers.{Offers}
use Rattle.committee_answer.specs.Offers.{at, edge_at, no_edge, AreLaid, AreSmall}
use Rattle.committee_answer.proofs.AnswerLemmas.{none_given, IsLaid, laid_edge}

module _ (snapshot : Snapshot) (voters : List ℕ) (distinct : IsDistinct nat_eq voters) (i : ℕ) (h : i < length voters) (left : List ℕ)
    (inside : get_or voters i 0 < length left)
    (given : (voter : ℕ) → In (take i voters) voter → at left voter ≡ snapshot.seats * stake_of snapshot voter)
    (none : (voter : ℕ) → (In (take i voters) voter → ⊥) → at left voter ≡ 0) where
  abbrev voter_now : ℕ
  voter_now = get_or voters i 0

  abbrev offer : ℕ
  offer = snapshot.seats * stake_of snapshot voter_now

  more : take (i + 1) voters ≡ take i voters ++ voter_now ∷ []
  more = take_more voters i 0 h

  pub given_next : (voter : ℕ) → In (take (i + 1) voters) voter → at (set left voter_now offer) voter ≡ snapshot.seats * stake_of snapshot voter
  given_next voter there = elim (cases_eq voter voter_now) [
    | inl e ↦ ap (at (set left voter_now offer)) e ∙ get_or-set_same left voter_now offer 0 inside ∙ ap (λ v. snapshot.seats * stake_of snapshot v) (sym e)
    | inr e ↦ get_or-set_other left voter_now voter offer 0 e ∙ given voter (before (in_either (take i voters) (voter_now ∷ []) voter (subst (λ (vs : List ℕ). In vs voter) more there)) e)
  ] where
    before : In (take i voters) voter ⊎ In (voter_now ∷ []) voter → voter ≢ voter_now → In (take i voters) voter
    before (inl there) e = there
    before (inr (inl same)) e = absurd (e (sym same))
    before (inr (inr never)) e = absurd never

  pub none_next : (voter : ℕ) → (In (take (i + 1) voters) voter → ⊥) → at (set left voter_now offer) voter ≡ 0
  none_next voter out = get_or-set_other left voter_now voter offer 0
      (λ e. out (subst (λ (vs : List ℕ). In vs voter) (sym more) (in_right (take i voters) (voter_now ∷ []) voter (inl (sym e)))))
      ∙ none voter (λ there. out (subst (λ (vs : List ℕ). In vs voter) (sym more) (in_left (take i voters) (voter_now ∷ []) voter there)))

  pub rest_next : (rest : ℕ) → rest ≡ snapshot.seats * group_stake snapshot (take i voters) → rest + offer ≡ snapshot.seats * group_stake snapshot (take (i + 1) voters)
  rest_next rest e = omega (
    arith,
    e,
    ap (λ n. snapshot.seats * n) (sum_by_more (stake_of snapshot) voters i 0 h),
    mul-add snapshot.seats (group_stake snapshot (take i voters)) (stake_of snapshot voter_now),
  )

  pub sum_next : (rest : ℕ) → rest ≡ sum left → rest + offer ≡ sum (set left voter_now offer)
  sum_next rest e = omega (
    arith,
    e,
    sum_by-set (λ n. n) left voter_now offer 0 inside,
    none voter_now (λ there. true≢false (sym (in_has (take i voters) voter_now there) ∙ fresh voters distinct i 0 h)),
  )

-- what is laid is small
module _ (snapshot : Snapshot) (committee voters : List ℕ) (offers : Offers) (formed : IsWellFormed snapshot) (laid : AreLaid snapshot committee voters offers)
    (voters_in : All (λ voter. voter < length offers.left.items) voters) (members_in : All (λ member. member < length offers.spare.items) committee)
    (rest_is : offers.rest ≡ sum offers.left.items) (rest_small : offers.rest < 2 ^ 128) where
  edge_laid : (edge : Edge) → In offers.edges.items edge → IsLaid snapshot committee voters edge
  edge_laid edge i = laid_edge snapshot committee voters edge (subst (λ (es : List Edge). In es edge) laid.edges i)

  nothing : (p : Edge → Bool) → sum_by (λ (e : Edge). e.amount) (filter p offers.edges.items) ≡ 0
  nothing p = none_given p offers.edges.items (λ edge i. (edge_laid edge i).empty)

  pub laid_small : AreSmall offers
  laid_small = record {
    voters = λ place h. all_has (λ v. v < length offers.left.items) voters (edge_at offers place).voter voters_in (edge_laid (edge_at offers place) (in_at offers.edges.items place no_edge h)).voter;
    targets = λ place h. all_has (λ m. m < length offers.spare.items) committee (edge_at offers place).target
        members_in (edge_laid (edge_at offers place) (in_at offers.edges.items place no_edge h)).member;
    left = λ voter. omega (arith, nothing (λ (e : Edge). nat_eq e.voter voter), left_small voter, rest_is, rest_small);
    spare = λ target. omega (arith, nothing (λ (e : Edge). nat_eq e.target target), spare_small target, formed.voters.total_fits);
    all = omega (arith, all_nothing, rest_small);
    rest = rest_is;
  } where
    left_small : (voter : ℕ) → at offers.left.items voter ≤ sum offers.left.items
    left_small voter = elim (cases_lt voter (length offers.left.items)) [
      | inl h ↦ get_or-le-sum_by (λ n. n) offers.left.items voter 0 h
      | inr past ↦ omega (arith, get_or-eq_default offers.left.items 0 past)
    ]

    spare_small : (target : ℕ) → at offers.spare.items target ≤ total_stake snapshot
    spare_small target = elim (cases_Bool (has committee target)) [
      | inl t ↦ omega (arith, laid.spare target, cond-true (has committee target) (total_stake snapshot) 0 t)
      | inr f ↦ omega (arith, laid.spare target, cond-false (has committee target) (total_stake snapshot) 0 f)
    ]

    all_nothing : sum_by (λ (e : Edge). e.amount) offers.edges.items ≡ 0
    all_nothing = sum_agree (λ (e : Edge). e.amount) (λ (_ : Edge). 0) offers.edges.items (λ edge i. (edge_laid edge i).empty) ∙ sum_of_none offers.edges.items

-- a target past the table is no member
pub spare_past : (committee spare : List ℕ) (total target : ℕ) → All (λ member. member < length spare) committee
    → ((t : ℕ) → t < length spare → at spare t ≡ cond (has committee t) total 0) → at spare target ≡ cond (has committee target) total 0
spare_past committee spare total target inside so = elim (cases_lt target (length spare)) [
  | inl h ↦ so target h
  | inr past ↦ elim (cases_Bool (has committee target)) [
    | inl t ↦ absurd (omega (arith, past, all_has (λ m. m < length spare) committee target inside t))
    | inr f ↦ get_or-eq_default spare 0 past ∙ sym (cond-false (has committee target) total 0 f)
  ]
]

-- a list that is written whole
pub written : {X : Type 0} (xs ys : List X) (n : ℕ) → n ≡ length ys → length xs ≡ length ys → take n (xs ++ drop (length xs) ys) ≡ xs
written xs ys n e f = take-append-le n xs (drop (length xs) ys) (omega (arith, e, f)) ∙ take_all n xs (omega (arith, e, f))
