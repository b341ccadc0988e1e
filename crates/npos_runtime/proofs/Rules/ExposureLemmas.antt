-- A committee that waits is elected, as the era book asks.
use Rattle.std.proofs.Common.{◌≡◌, ℕ, suc, ◌<◌, Bool, true, false, nat_eq, ◌||◌, All, List, [], ◌∷◌, length, get_or, refl, sym, ap, arith, true≢false}
use Rattle.std.specs.List.{IsDistinct}
use Rattle.std.proofs.lemmas.Bool.Decides.{nat_tests}
use Rattle.std.proofs.lemmas.List.Elements.{All-head, All-tail}
use Rattle.std.proofs.lemmas.List.FromFn.{get_or-map-range_with_len}
use Rattle.election_snapshot.specs.Snapshot.{Voter, IsWellFormed, has}
use Rattle.election_snapshot.specs.Draft.{accounts_of}
use Rattle.weight_book.specs.Weights.{Follows, IsFeasible, support}
use Rattle.era_book.specs.Exposures.{AreSound}
use Rattle.era_book.specs.Committee.{IsElected}
use Rattle.npos_runtime.specs.Rules.Committee.{Committee}
use Rattle.npos_runtime.specs.Rules.Exposed.{voters_in, supports_in}
use Rattle.npos_runtime.specs.Live.{AreNoted}

pub has_below : (members : List ℕ) (n target : ℕ) → All (λ member. member < n) members → has members target ≡ true → target < n
has_below [] n target all e = absurd (true≢false (sym e))
has_below (member ∷ members) n target all e =
    at (nat_eq member target) refl e (All-head (λ m. m < n) member members all) (has_below members n target (All-tail (λ m. m < n) member members all)) where
      at : (b : Bool) → nat_eq member target ≡ b → (b || has members target) ≡ true → member < n → (has members target ≡ true → target < n) → target < n
      at true is e below rest = (let same : member ≡ target = grind (arith, nat_tests) in omega (arith, same, below))
      at false is e below rest = rest e

pub same_length : (voters : List Voter) → length (accounts_of voters) ≡ length voters
same_length [] = refl
same_length (voter ∷ voters) = ap suc (same_length voters)

-- a committee whose weights follow its snapshot, with a commission noted for each target
pub elected_by : (committee : Committee) → IsWellFormed committee.snapshot → Follows committee.snapshot committee.weights
    → AreNoted committee.snapshot.targets committee.commissions
    → IsElected committee.snapshot.targets (voters_in committee) committee.commissions (supports_in committee) committee.weights.edges committee.weights.committee
elected_by committee sound follows noted = record {
  targets_distinct = sound.voters.targets_distinct;
  voters_distinct = sound.voters.accounts_distinct;
  commissions_within = noted.within;
  edges_within = λ k d few. record {
    target = has_below committee.weights.committee (length committee.snapshot.targets) (get_or committee.weights.edges k d).target
        follows.members_in_range (follows.to_members k d few);
    voter = omega (arith, same_length committee.snapshot.voters, follows.voters_in_range k d few);
  };
  pairs_distinct = follows.pairs_distinct;
  members_within = follows.members_in_range;
  members_distinct = follows.members_distinct;
  supports_given = λ k d few.
      get_or-map-range_with_len (support committee.weights.edges) 0 (length committee.snapshot.targets) (get_or committee.weights.committee k d) (get_or committee.weights.committee k d) 0
      (follows.members_in_range k d few) (omega arith);
}

-- a committee whose weights are feasible
pub elected : (committee : Committee) → IsWellFormed committee.snapshot → IsFeasible committee.snapshot committee.weights
    → AreNoted committee.snapshot.targets committee.commissions
    → IsElected committee.snapshot.targets (voters_in committee) committee.commissions (supports_in committee) committee.weights.edges committee.weights.committee
elected committee sound feasible noted = elected_by committee sound feasible.follows noted

-- nobody is exposed
pub none_sound : AreSound []
unfolding IsDistinct
none_sound = record { each = λ k d few. absurd (omega arith); distinct = tt }
