-- The committee of two was elected by three edges.
use Rattle.std.proofs.Common.{◌≡◌, ℕ, ◌<◌, ◌≤◌, List, [], ◌∷◌, length, get_or, refl, lit≤, arith, rules}
use Rattle.std.proofs.lemmas.List.Elements.{All-nil, All-cons}
use Rattle.std.specs.List.{IsDistinct}
use Rattle.npos_base.specs.declared.account.AccountId.{AccountId}
use Rattle.npos_base.specs.declared.figures.Edge.{Edge}
use Rattle.npos_base.specs.declared.limits.TheConstants.{WHOLE_FRACTION}
use Rattle.npos_base.specs.Edge.{support}
use Rattle.era_book.specs.Committee.{IsWithin, IsElected}
use Rattle.room_tests.proofs.eras.the_others_stand_in_the_order_of_the_voters.Goals as goal

abbrev at : ℕ → AccountId
at n = record { hi = 0; lo = n }

abbrev targets : List AccountId
targets = at 1 ∷ at 2 ∷ []

abbrev voters : List AccountId
voters = at 3 ∷ at 1 ∷ at 4 ∷ []

abbrev edge : ℕ → ℕ → Edge
edge voter amount = record { voter = voter; target = 0; amount = amount }

abbrev given : ℕ → Type 0
given member = get_or (95 ∷ 0 ∷ []) member 0 ≡ support (edge 2 5 ∷ edge 1 50 ∷ edge 0 40 ∷ []) member

elected : IsElected targets voters (7 ∷ 8 ∷ []) (95 ∷ 0 ∷ []) (edge 2 5 ∷ edge 1 50 ∷ edge 0 40 ∷ []) (0 ∷ 1 ∷ [])
unfolding IsDistinct
elected = record {
  targets_distinct = ((refl, tt), (tt, tt));
  voters_distinct = ((refl, (refl, tt)), ((refl, tt), (tt, tt)));
  commissions_within =
      All-cons (λ commission. commission ≤ WHOLE_FRACTION) 7 (8 ∷ []) (lit≤ tt)
      (All-cons (λ commission. commission ≤ WHOLE_FRACTION) 8 [] (lit≤ tt) (All-nil (λ commission. commission ≤ WHOLE_FRACTION)));
  edges_within =
      All-cons (IsWithin targets voters) (edge 2 5) (edge 1 50 ∷ edge 0 40 ∷ []) (record { target = omega arith; voter = omega arith })
      (All-cons (IsWithin targets voters) (edge 1 50) (edge 0 40 ∷ []) (record { target = omega arith; voter = omega arith })
      (All-cons (IsWithin targets voters) (edge 0 40) [] (record { target = omega arith; voter = omega arith }) (All-nil (IsWithin targets voters))));
  pairs_distinct = ((refl, (refl, tt)), ((refl, tt), (tt, tt)));
  members_within =
      All-cons (λ member. member < length targets) 0 (1 ∷ []) (omega arith)
      (All-cons (λ member. member < length targets) 1 [] (omega arith) (All-nil (λ member. member < length targets)));
  members_distinct = ((refl, tt), (tt, tt));
  supports_given =
      All-cons given 0 (1 ∷ []) refl (All-cons given 1 [] refl (All-nil given));
}

pub start_elected-requires-clause-elected : goal.start_elected-requires-clause-elected
start_elected-requires-clause-elected c later =
    let same_targets : later.at.result ∷ later.at-2.result ∷ [] ≡ targets = search rules in
    let same_voters : later.from_vec.result ≡ voters = search rules in
    rw (same_targets, same_voters) elected
