-- Members without edges get the verdict on their list, but that a target may outweigh.
use Rattle.std.proofs.Common.{◌≡◌, ◌⊎◌, ℕ, true, false, not, nat_eq, nat_le, List, [], ◌∷◌, ◌++◌, length, Option, Some, None, find, Ok, Err, arith, refl, sym, ap, ◌∙◌, inl, inr}
use Rattle.std.specs.List.{range_with_len}
use Rattle.std.proofs.lemmas.Bool.{cases_Bool, le-ltb, true≢false}
use Rattle.npos_base.specs.declared.figures.Edge.{Edge}
use Rattle.election_snapshot.specs.Snapshot.{Snapshot, has, stake_of}
use Rattle.weight_book.specs.Weights.{Weights, IsFeasible, spent}
use Rattle.election_check.specs.declared.verdict.Verdict.{Verdict}
use Rattle.election_check.specs.declared.verdict.Verdict.TheVariants.{Yes, Undecodable, NoVoter, NoTarget, VoterTwice, TargetTwice, NotNominated, BadShare, WrongSize, WrongScore, Outweighed, Overspent}
use Rattle.election_check.specs.First.{first_of, or_yes}
use Rattle.election_check.specs.Steps.{size_fault, outweighs, outweighed}
use Rattle.election_check.specs.Plain.{members_fault, overspends, overspent, verdict_plain}
use Rattle.election_check.specs.Packed.{expand_fault, expand_verdict, expanded, weights_unless}
use Rattle.election_check.proofs.FaultLemmas.{yes_is_none}
use Rattle.election_work.specs.declared.finding.Finding.TheVariants.{Judged}
use Rattle.election_work.proofs.JudgedLaws.{expanded_feasible}
use Rattle.compact_solution.specs.Solution.{Entry}
use Rattle.election_check.proofs.FirstLemmas.{none_found}
use Rattle.election_check.proofs.PassingLemmas.{feasible}
use Rattle.committee_judge.specs.Committees.{IsCommittee, without_edges, list_verdict, is_refusal, unless, listed}

cases_Option : {A : Type 0} (o : Option A) → (o ≡ None) ⊎ ((a : A) × (o ≡ Some a))
cases_Option None = inl refl
cases_Option (Some a) = inr (a, refl)

pub unless_refused : (verdict : Verdict) (committee : List ℕ) → (verdict ≡ Yes → ⊥) → unless verdict committee ≡ Err (Judged verdict)
unless_refused Yes committee isnt = absurd (isnt refl)
unless_refused (Undecodable at why) committee isnt = refl
unless_refused (NoVoter voter) committee isnt = refl
unless_refused (NoTarget target) committee isnt = refl
unless_refused (VoterTwice voter) committee isnt = refl
unless_refused (TargetTwice target) committee isnt = refl
unless_refused (NotNominated voter target) committee isnt = refl
unless_refused (BadShare voter) committee isnt = refl
unless_refused (WrongSize found) committee isnt = refl
unless_refused (WrongScore actual) committee isnt = refl
unless_refused (Outweighed target prescore) committee isnt = refl
unless_refused (Overspent voter) committee isnt = refl

refusal_no_yes : (verdict : Verdict) → is_refusal verdict ≡ true → verdict ≡ Yes → ⊥
refusal_no_yes verdict refused is_yes = absurd (let is : is_refusal Yes ≡ true = rw is_yes at refused in cc)

abbrev pub with_edges : List ℕ → List Edge → Weights
with_edges committee edges = record { committee = committee; edges = edges }

-- whoever is feasible fills the seats with different targets
pub seats : (snapshot : Snapshot) (weights : Weights) → IsFeasible snapshot weights → IsCommittee snapshot weights.committee
seats snapshot weights good = record {
  in_range = good.follows.members_in_range;
  distinct = good.follows.members_distinct;
  seats_filled = good.seats_filled;
}

-- a solution that expands to a Yes has a committee
pub expanded_seats : (snapshot : Snapshot) (solution : List (List Entry)) → expand_verdict snapshot solution ≡ Yes
    → IsCommittee snapshot (expanded snapshot solution).committee
expanded_seats snapshot solution is_yes = seats snapshot (expanded snapshot solution) (expanded_feasible snapshot solution (yes_is_none (expand_fault snapshot solution) is_yes))

-- and its weights are those that are left
pub expanded_left : (snapshot : Snapshot) (solution : List (List Entry)) → expand_verdict snapshot solution ≡ Yes
    → weights_unless (expand_fault snapshot solution) (expanded snapshot solution) ≡ expanded snapshot solution
expanded_left snapshot solution is_yes = rw (yes_is_none (expand_fault snapshot solution) is_yes) refl

module _ (snapshot : Snapshot) where
  -- whoever gives nothing does not overspend
  nothing_spent : overspent snapshot [] ≡ None
  nothing_spent = rw (none_found (overspends snapshot []) (length snapshot.voters) (λ voter _. le-ltb (stake_of snapshot voter) (spent [] voter) (omega arith))) refl

  members_refuse : (before members : List ℕ) → (members_fault snapshot before members ≡ None) ⊎ (is_refusal (or_yes (members_fault snapshot before members)) ≡ true)
  members_refuse before [] = inl refl
  members_refuse before (m ∷ ms) = elim (cases_Bool (nat_le (length snapshot.targets) m)) [
    | inl far ↦ inr (rw far refl)
    | inr near ↦ elim (cases_Bool (has before m)) [
      | inl twice ↦ inr (rw (near, twice) refl)
      | inr new ↦ elim (members_refuse (before ++ m ∷ []) ms) [
        | inl none ↦ inl (rw (near, new, none) refl)
        | inr refused ↦ elim (cases_Option (members_fault snapshot (before ++ m ∷ []) ms)) [
          | inl none ↦ absurd (let is : is_refusal Yes ≡ true = rw none at refused in cc)
          | inr (fault, is) ↦ inr (rw (near, new, is) (rw is at refused))
        ]
      ]
    ]
  ]

  size_refuses : (weights : Weights) → (size_fault snapshot weights ≡ None) ⊎ (is_refusal (or_yes (size_fault snapshot weights)) ≡ true)
  size_refuses weights = elim (cases_Bool (not (nat_eq (length weights.committee) snapshot.seats))) [
    | inl other ↦ inr (rw other refl)
    | inr same ↦ inl (rw same refl)
  ]

  outweighing_stands : (weights : Weights) → is_refusal (or_yes (first_of (outweighed snapshot weights ∷ []))) ≡ false
  outweighing_stands weights = elim (cases_Option (find (outweighs snapshot weights) (range_with_len 0 (length snapshot.targets)))) [
    | inl none ↦ rw none refl
    | inr (target, is) ↦ rw is refl
  ]

  -- they are a committee, or refused by the verdict on their list
  data Verdicts (committee : List ℕ) : Type 0 where
    Seats : list_verdict snapshot committee ≡ Yes → IsCommittee snapshot committee
        → is_refusal (verdict_plain snapshot (without_edges committee)) ≡ false → Verdicts committee
    Refuses : is_refusal (verdict_plain snapshot (without_edges committee)) ≡ true
        → list_verdict snapshot committee ≡ verdict_plain snapshot (without_edges committee) → Verdicts committee

  verdicts : (committee : List ℕ) → Verdicts committee
  verdicts committee = elim (cases_Option (members_fault snapshot [] committee)) [
    | inr (fault, is) ↦ elim (members_refuse [] committee) [
      | inl none ↦ absurd (let both = sym none ∙ is in cc)
      | inr refused ↦ Refuses (rw is (rw is at refused)) (rw is refl)
    ]
    | inl good ↦ elim (size_refuses (without_edges committee)) [
      | inl sized ↦ Seats (rw (good, sized) refl)
          (seats snapshot (without_edges committee) (feasible snapshot (without_edges committee) good refl nothing_spent sized))
          (rw (good, nothing_spent, sized) (outweighing_stands (without_edges committee)))
      | inr refused ↦ elim (cases_Option (size_fault snapshot (without_edges committee))) [
        | inl none ↦ absurd (let is : is_refusal Yes ≡ true = rw none at refused in cc)
        | inr (fault, is) ↦ Refuses (rw (good, nothing_spent, is) (rw is at refused)) (rw (good, nothing_spent, is) refl)
      ]
    ]
  ]

  stands : (committee : List ℕ) → is_refusal (verdict_plain snapshot (without_edges committee)) ≡ false → Verdicts committee
      → (listed snapshot committee ≡ Ok committee) × IsCommittee snapshot committee
  stands committee isnt (Seats is_yes are _) = (ap (λ verdict. unless verdict committee) is_yes, are)
  stands committee isnt (Refuses refused _) = absurd (true≢false (sym refused ∙ isnt))

  refused : (committee : List ℕ) → is_refusal (verdict_plain snapshot (without_edges committee)) ≡ true → Verdicts committee
      → listed snapshot committee ≡ Err (Judged (verdict_plain snapshot (without_edges committee)))
  refused committee is_yes (Seats _ _ isnt) = absurd (true≢false (sym is_yes ∙ isnt))
  refused committee is_yes (Refuses is same) = ap (λ verdict. unless verdict committee) same
      ∙ unless_refused (verdict_plain snapshot (without_edges committee)) committee (refusal_no_yes (verdict_plain snapshot (without_edges committee)) is)

  pub list_stands : (committee : List ℕ) → is_refusal (verdict_plain snapshot (without_edges committee)) ≡ false
      → (listed snapshot committee ≡ Ok committee) × IsCommittee snapshot committee
  list_stands committee isnt = stands committee isnt (verdicts committee)

  pub list_refused : (committee : List ℕ) → is_refusal (verdict_plain snapshot (without_edges committee)) ≡ true
      → listed snapshot committee ≡ Err (Judged (verdict_plain snapshot (without_edges committee)))
  list_refused committee is_yes = refused committee is_yes (verdicts committee)
