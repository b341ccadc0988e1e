-- Votes are places of targets: no more than the choices, each of a target, and none twice where no choice is.
use Rattle.std.proofs.Common.{◌≡◌, ℕ, suc, ◌≤◌, ◌<◌, Bool, true, false, nat_eq, nat_le, List, [], ◌∷◌, length, filter_map, Option, Some, None, refl, sym, ◌∙◌, ap, arith, get_or}
use Rattle.std.proofs.lemmas.Bool.Decides.{nat_tests}
use Rattle.std.proofs.lemmas.List.Quantifiers.{position-Some}
use Rattle.std.specs.List.{list_any, cons_option}
use Rattle.std.proofs.lemmas.Bool.{or_parts}
use Rattle.npos_base.specs.declared.account.AccountId.{AccountId}
use Rattle.npos_base.specs.declared.limits.TheConstants.{MOST_NOMINATIONS}
use Rattle.npos_base.specs.Account.{same_account}
use Rattle.npos_base.proofs.AccountOrder.{same_exact, same_itself}
use Rattle.voter_lists.specs.declared.standing.Role.{Role}
use Rattle.voter_lists.specs.declared.standing.Role.TheVariants as role
use Rattle.voter_lists.specs.Roles.{RoleList, role_of, nominated_by, validators_of, has_repeated_account}
use Rattle.election_snapshot.specs.Snapshot.{has, no_account}
use Rattle.election_snapshot.specs.Draft.{place_of, has_repeat}
use Rattle.voter_lists.specs.Votes.{choices_in, choices_of, votes_of}
use Rattle.npos_runtime.specs.Live.{IsNomination}

-- no more votes than choices
pub votes_few : (targets choices : List AccountId) → length (filter_map (place_of targets) choices) ≤ length choices
votes_few targets [] = omega arith
votes_few targets (choice ∷ choices) = at (place_of targets choice) (votes_few targets choices) where
  at : (o : Option ℕ) → length (filter_map (place_of targets) choices) ≤ length choices
      → length (cons_option o (filter_map (place_of targets) choices)) ≤ suc (length choices)
  at None rest = omega (arith, rest)
  at (Some place) rest = omega (arith, rest)

-- each vote is for a target
pub votes_known : (targets choices : List AccountId) → list_any (λ target. nat_le (length targets) target) (filter_map (place_of targets) choices) ≡ false
votes_known targets [] = refl
votes_known targets (choice ∷ choices) = at (place_of targets choice) refl (votes_known targets choices) where
  at : (o : Option ℕ) → place_of targets choice ≡ o → list_any (λ target. nat_le (length targets) target) (filter_map (place_of targets) choices) ≡ false
      → list_any (λ target. nat_le (length targets) target) (cons_option o (filter_map (place_of targets) choices)) ≡ false
  at None e rest = rest
  at (Some place) e rest =
      let lt : place < length targets = (position-Some (same_account choice) targets place no_account e).0 in
      let low : nat_le (length targets) place ≡ false = grind (arith, nat_tests) in
      rw low rest

-- accounts at one place are one
one_place : (targets : List AccountId) (q who : AccountId) (place : ℕ) → place_of targets q ≡ Some place → place_of targets who ≡ Some place → q ≡ who
one_place targets q who place e f =
    same_exact q (get_or targets place no_account) (position-Some (same_account q) targets place no_account e).1
    ∙ sym (same_exact who (get_or targets place no_account) (position-Some (same_account who) targets place no_account f).1)

apart_place : (targets : List AccountId) (q who : AccountId) (i place : ℕ) → place_of targets q ≡ Some i → place_of targets who ≡ Some place
    → same_account q who ≡ false → nat_eq i place ≡ false
apart_place targets q who i place e f apart = at (nat_eq i place) refl where
  at : (b : Bool) → nat_eq i place ≡ b → b ≡ false
  at true t =
      let tie : i ≡ place = grind (arith, nat_tests) in
      let same : q ≡ who = one_place targets q who place (e ∙ ap (λ n. Some n) tie) f in
      sym (same_itself who) ∙ (ap (λ (a : AccountId). same_account a who) (sym same) ∙ apart)
  at false t = refl

-- the place of an account that is not chosen gets no vote
no_vote : (targets choices : List AccountId) (who : AccountId) (place : ℕ) → place_of targets who ≡ Some place
    → list_any (λ other. same_account other who) choices ≡ false → has (filter_map (place_of targets) choices) place ≡ false
no_vote targets [] who place f none = refl
no_vote targets (choice ∷ choices) who place f none =
    at (place_of targets choice) refl
    (no_vote targets choices who place f (or_parts (same_account choice who) (list_any (λ other. same_account other who) choices) none).1) where
      at : (o : Option ℕ) → place_of targets choice ≡ o → has (filter_map (place_of targets) choices) place ≡ false
          → has (cons_option o (filter_map (place_of targets) choices)) place ≡ false
      at None e rest = rest
      at (Some i) e rest =
          let apart : nat_eq i place ≡ false
          = apart_place targets choice who i place e f (or_parts (same_account choice who) (list_any (λ other. same_account other who) choices) none).0 in
          rw apart rest

-- no vote stands twice where no choice does
pub votes_once : (targets choices : List AccountId) → has_repeated_account choices ≡ false → has_repeat (filter_map (place_of targets) choices) ≡ false
votes_once targets [] once = refl
votes_once targets (choice ∷ choices) once =
    at (place_of targets choice) refl
    (votes_once targets choices (or_parts (list_any (λ other. same_account other choice) choices) (has_repeated_account choices) once).1) where
      at : (o : Option ℕ) → place_of targets choice ≡ o → has_repeat (filter_map (place_of targets) choices) ≡ false
          → has_repeat (cons_option o (filter_map (place_of targets) choices)) ≡ false
      at None e rest = rest
      at (Some place) e rest =
          let new : has (filter_map (place_of targets) choices) place ≡ false
          = no_vote targets choices choice place e (or_parts (list_any (λ other. same_account other choice) choices) (has_repeated_account choices) once).0 in
          rw new rest

few_choices : (r : Role) (who : AccountId) (named : List AccountId) → IsNomination named → length (choices_in r who named) ≤ MOST_NOMINATIONS
few_choices (role.Validator commission) who named is = omega arith
few_choices role.Nominator who named is = is.few
few_choices role.Nobody who named is = omega arith

distinct_choices : (r : Role) (who : AccountId) (named : List AccountId) → IsNomination named → has_repeated_account (choices_in r who named) ≡ false
distinct_choices (role.Validator commission) who named is = refl
distinct_choices role.Nominator who named is = is.distinct
distinct_choices role.Nobody who named is = refl

within : (a b : ℕ) → a ≤ b → b ≤ MOST_NOMINATIONS → a ≤ MOST_NOMINATIONS
within a b p q = omega (arith, p, q)

-- no more votes of an account than a voter can have
pub few_votes : (roles : RoleList) (who : AccountId) → IsNomination (nominated_by roles who) → length (votes_of roles who) ≤ MOST_NOMINATIONS
few_votes roles who is =
    within _ _ (votes_few (validators_of roles) (choices_of roles who)) (few_choices (role_of roles who) who (nominated_by roles who) is)

-- and none twice
pub distinct_votes : (roles : RoleList) (who : AccountId) → IsNomination (nominated_by roles who) → has_repeat (votes_of roles who) ≡ false
distinct_votes roles who is =
    votes_once (validators_of roles) (choices_of roles who) (distinct_choices (role_of roles who) who (nominated_by roles who) is)
