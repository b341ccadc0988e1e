-- The exposures of an elected committee are sound.
use Rattle.std.proofs.Common.{◌≡◌, ℕ, zero, suc, ◌<◌, ◌≤◌, false, nat_eq, List, [], ◌∷◌, length, map, get_or, All, sym, ◌∙◌, arith}
use Rattle.std.specs.List.{IsDistinct, AllByRecursion}
use Rattle.std.proofs.lemmas.List.Elements.{All-nil, All-cons, All-head, All-tail, All-weaker}
use Rattle.npos_base.specs.declared.account.AccountId.{AccountId}
use Rattle.npos_base.specs.declared.figures.Edge.{Edge}
use Rattle.npos_base.specs.declared.limits.TheConstants.{WHOLE_FRACTION}
use Rattle.npos_base.specs.Account.{same_account, account_at}
use Rattle.era_book.specs.declared.exposure.Exposure.{Exposure}
use Rattle.era_book.specs.Exposures.{IsSoundExposure, AreSound}
use Rattle.npos_base.specs.Edge.{same_pair, support}
use Rattle.era_book.specs.Committee.{exposure_of, edges_by_voter, IsWithin, IsElected, SoundLaw, OrderLaw}
use Rattle.era_book.proofs.CommitteeLemmas.{support_law}
use Rattle.era_book.proofs.BackerLemmas.{apart_at, backers_law}
use Rattle.era_book.proofs.OrderLemmas.{all_by_voter, pairs_by_voter, given_by_voter, spent_by_voter}

pub voters_within : (targets voters : List AccountId) (edges : List Edge) → All (IsWithin targets voters) edges → All (λ edge. edge.voter < length voters) edges
voters_within targets voters edges within = All-weaker (IsWithin targets voters) (λ edge. edge.voter < length voters) (λ edge inside. inside.voter) edges within

commission_within : (commissions : List ℕ) (m : ℕ) → All (λ commission. commission ≤ WHOLE_FRACTION) commissions → get_or commissions m 0 ≤ WHOLE_FRACTION
commission_within [] m within = omega arith
commission_within (c ∷ cs) zero within = All-head (λ commission. commission ≤ WHOLE_FRACTION) c cs within
commission_within (c ∷ cs) (suc m) within = commission_within cs m (All-tail (λ commission. commission ≤ WHOLE_FRACTION) c cs within)

module _ (targets voters : List AccountId) (commissions supports : List ℕ) (edges : List Edge) where
  abbrev exposed : ℕ → Exposure
  exposed = exposure_of targets commissions supports voters edges

  each_sound : (members : List ℕ) → IsDistinct same_account voters → All (λ commission. commission ≤ WHOLE_FRACTION) commissions → All (IsWithin targets voters) edges → IsDistinct same_pair edges
      → All (λ member. get_or supports member 0 ≡ support edges member) members → All IsSoundExposure (map exposed members)
  each_sound [] voters_are commissions_are within pairs given = All-nil IsSoundExposure
  each_sound (m ∷ ms) voters_are commissions_are within pairs given =
      All-cons IsSoundExposure (exposed m) (map exposed ms)
      (record {
        commission = commission_within commissions m commissions_are;
        support = All-head (λ member. get_or supports member 0 ≡ support edges member) m ms given ∙ sym (support_law targets voters edges m);
        distinct = backers_law targets voters edges m voters_are (voters_within targets voters edges within) pairs;
      })
      (each_sound ms voters_are commissions_are within pairs (All-tail (λ member. get_or supports member 0 ≡ support edges member) m ms given))

  others_apart : (m : ℕ) (members : List ℕ) → IsDistinct same_account targets → m < length targets
      → All (λ member. member < length targets) members → AllByRecursion (λ other. nat_eq m other ≡ false) members
      → AllByRecursion (λ who. same_account (account_at targets m) who ≡ false) (map (λ (exposure : Exposure). exposure.validator) (map exposed members))
  others_apart m [] distinct here within apart = tt
  others_apart m (n ∷ ns) distinct here within apart = (
    apart_at targets m n distinct here (All-head (λ member. member < length targets) n ns within) apart.0,
    others_apart m ns distinct here (All-tail (λ member. member < length targets) n ns within) apart.1,
  )

  validators_apart : (members : List ℕ) → IsDistinct same_account targets → All (λ member. member < length targets) members → IsDistinct nat_eq members
      → IsDistinct same_account (map (λ (exposure : Exposure). exposure.validator) (map exposed members))
  unfolding IsDistinct
  validators_apart [] distinct within members_are = tt
  validators_apart (m ∷ ms) distinct within members_are = (
    others_apart m ms distinct (All-head (λ member. member < length targets) m ms within) (All-tail (λ member. member < length targets) m ms within) members_are.0,
    validators_apart ms distinct (All-tail (λ member. member < length targets) m ms within) members_are.1,
  )

pub sound_law : SoundLaw
sound_law targets voters commissions supports edges members elected = record {
  each = each_sound targets voters commissions supports edges members elected.voters_distinct elected.commissions_within elected.edges_within elected.pairs_distinct elected.supports_given;
  distinct = validators_apart targets voters commissions supports edges members elected.targets_distinct elected.members_within elected.members_distinct;
}

given_likewise : (supports : List ℕ) (n : ℕ) (edges : List Edge) (members : List ℕ) → All (λ edge. edge.voter < n) edges
    → All (λ member. get_or supports member 0 ≡ support edges member) members → All (λ member. get_or supports member 0 ≡ support (edges_by_voter n edges) member) members
given_likewise supports n edges members within given =
    All-weaker (λ member. get_or supports member 0 ≡ support edges member) (λ member. get_or supports member 0 ≡ support (edges_by_voter n edges) member)
    (λ member is. is ∙ sym (given_by_voter member n edges within)) members given

pub order_law : OrderLaw
order_law targets voters commissions supports edges members elected = (
  record {
    targets_distinct = elected.targets_distinct;
    voters_distinct = elected.voters_distinct;
    commissions_within = elected.commissions_within;
    edges_within = all_by_voter (IsWithin targets voters) (length voters) edges elected.edges_within;
    pairs_distinct = pairs_by_voter (length voters) edges within elected.pairs_distinct;
    members_within = elected.members_within;
    members_distinct = elected.members_distinct;
    supports_given = given_likewise supports (length voters) edges members within elected.supports_given;
  },
  λ who. spent_by_voter voters who (length voters) edges within,
) where
  within : All (λ edge. edge.voter < length voters) edges
  within = voters_within targets voters edges elected.edges_within

-- so the exposures by the edges in the order of the voters are sound
pub elected_sound : (targets voters : List AccountId) (commissions supports : List ℕ) (edges : List Edge) (members : List ℕ)
    → IsElected targets voters commissions supports edges members
    → AreSound (map (exposure_of targets commissions supports voters (edges_by_voter (length voters) edges)) members)
elected_sound targets voters commissions supports edges members elected =
    sound_law targets voters commissions supports (edges_by_voter (length voters) edges) members
    (order_law targets voters commissions supports edges members elected).0
