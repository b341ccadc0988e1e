-- The exposures of an elected committee are backed.
use Rattle.std.proofs.Common.{◌≡◌, ◌∙◌, ℕ, ◌<◌, Bool, true, false, cond, not, ◌&&◌, nat_eq, nat_lt, List, [], ◌∷◌, ◌++◌, map, filter, All, refl, ap, sym, arith, true≢false}
use Rattle.std.specs.List.{IsDistinct, AllByRecursion}
use Rattle.std.proofs.lemmas.Grind.{common_steps}
use Rattle.std.proofs.lemmas.List.Elements.{All-nil, All-cons, All-head, All-tail, All-append}
use Rattle.std.proofs.lemmas.Bool.{and_parts}
use Rattle.npos_base.specs.declared.account.AccountId.{AccountId}
use Rattle.npos_base.specs.declared.figures.Edge.{Edge}
use Rattle.npos_base.specs.Account.{same_account, account_at}
use Rattle.npos_base.proofs.AccountOrder.{same_exact, same_turned}
use Rattle.npos_base.proofs.NumberTests.{number_tie}
use Rattle.era_book.specs.declared.exposure.Backer.{Backer}
use Rattle.era_book.specs.declared.exposure.Exposure.{Exposure}
use Rattle.era_book.specs.Exposures.{IsSoundExposure}
use Rattle.era_book.specs.Committee.{gives_to, backer_of, is_of, backers_among, exposure_of}
use Rattle.era_book.specs.Records.{IsOwnFirst, IsBacked}
use Rattle.era_book.specs.Laws.{BackedLaw}
use Rattle.era_book.proofs.SoundLemmas.{sound_law}

turned : (b : Bool) → not b ≡ true → b ≡ false
turned false e = refl
turned true e = absurd (true≢false (sym e))

module _ (targets voters : List AccountId) (member : ℕ) where
  abbrev validator : AccountId
  validator = account_at targets member

  -- what holds of the backer of each edge that is kept holds of all
  among_all : (P : Backer → Type 0) (own : Bool) (edges : List Edge)
      → ((edge : Edge) → (gives_to member edge && is_of own targets voters edge) ≡ true → P (backer_of voters edge))
      → All P (backers_among own targets voters edges member)
  among_all P own [] each = All-nil P
  among_all P own (e ∷ es) each = at (gives_to member e && is_of own targets voters e) refl (among_all P own es each) where
    at : (b : Bool) → (gives_to member e && is_of own targets voters e) ≡ b → All P (backers_among own targets voters es member)
        → All P (map (backer_of voters) (cond b (e ∷ filter (λ edge. gives_to member edge && is_of own targets voters
        edge) es) (filter (λ edge. gives_to member edge && is_of own targets voters edge) es)))
    at true is rest = All-cons P (backer_of voters e) (backers_among own targets voters es member) (each e is) rest
    at false is rest = rest

  gives_some : (own : Bool) (edge : Edge) → (gives_to member edge && is_of own targets voters edge) ≡ true → 0 < edge.amount
  gives_some own edge is =
      let some : nat_lt 0 edge.amount ≡ true = (and_parts (nat_eq edge.target member) (nat_lt 0 edge.amount) (and_parts (gives_to member edge) (is_of own targets voters edge) is).0).1 in
      grind (arith, common_steps, some)

  to_member : (own : Bool) (edge : Edge) → (gives_to member edge && is_of own targets voters edge) ≡ true → edge.target ≡ member
  to_member own edge is =
      number_tie edge.target member (and_parts (nat_eq edge.target member) (nat_lt 0 edge.amount) (and_parts (gives_to member edge) (is_of own targets voters edge) is).0).0

  own_is : (edge : Edge) → (gives_to member edge && is_of true targets voters edge) ≡ true → same_account (account_at voters edge.voter) validator ≡ true
  own_is edge is =
      ap (λ t. same_account (account_at voters edge.voter) (account_at targets t)) (sym (to_member true edge is)) ∙ (and_parts (gives_to member edge) (is_of true targets voters edge) is).1

  other_is : (edge : Edge) → (gives_to member edge && is_of false targets voters edge) ≡ true → same_account (account_at voters edge.voter) validator ≡ false
  other_is edge is =
      ap (λ t. same_account (account_at voters edge.voter) (account_at targets t)) (sym (to_member false edge is))
      ∙ turned (same_account (account_at voters edge.voter) (account_at targets edge.target)) (and_parts (gives_to member edge) (is_of false targets voters edge) is).1

  -- behind the validator itself nobody is the validator
  behind_own : (first : AccountId) (backers : List Backer) → first ≡ validator → AllByRecursion (λ y. same_account first y ≡ false) (map (λ backer. backer.who) backers)
      → All (λ (backer : Backer). same_account backer.who validator ≡ false) backers
  behind_own first [] is apart = All-nil (λ (backer : Backer). same_account backer.who validator ≡ false)
  behind_own first (b ∷ bs) is apart =
      All-cons (λ (backer : Backer). same_account backer.who validator ≡ false) b bs
      (ap (same_account b.who) (sym is) ∙ same_turned first b.who apart.0) (behind_own first bs is apart.1)

  own_first : (own others : List Backer) → All (λ (backer : Backer). same_account backer.who validator ≡ true) own
      → All (λ (backer : Backer). same_account backer.who validator ≡ false) others → IsDistinct same_account (map (λ backer. backer.who) (own ++ others))
      → IsOwnFirst validator (own ++ others)
  unfolding IsDistinct
  own_first [] [] mine theirs distinct = tt
  own_first [] (b ∷ bs) mine theirs distinct = All-tail (λ (backer : Backer). same_account backer.who validator ≡ false) b bs theirs
  own_first (b ∷ bs) others mine theirs distinct =
      behind_own b.who (bs ++ others) (same_exact b.who validator (All-head (λ (backer : Backer). same_account backer.who validator ≡ true) b bs mine)) distinct.0

  backed : (commissions supports : List ℕ) (edges : List Edge) → IsSoundExposure (exposure_of targets commissions supports voters edges member)
      → IsBacked (exposure_of targets commissions supports voters edges member)
  backed commissions supports edges sound = record {
    amounts =
        All-append (λ (backer : Backer). 0 < backer.amount) (backers_among true targets voters edges member) (backers_among false targets voters edges member)
        (among_all (λ backer. 0 < backer.amount) true edges (gives_some true)) (among_all (λ backer. 0 < backer.amount) false edges (gives_some false));
    own =
        own_first (backers_among true targets voters edges member) (backers_among false targets voters edges member)
        (among_all (λ backer. same_account backer.who validator ≡ true) true edges own_is)
        (among_all (λ backer. same_account backer.who validator ≡ false) false edges other_is)
        sound.distinct;
  }

all_backed : (targets voters : List AccountId) (commissions supports : List ℕ) (edges : List Edge) (members : List ℕ)
    → All IsSoundExposure (map (exposure_of targets commissions supports voters edges) members)
    → All IsBacked (map (exposure_of targets commissions supports voters edges) members)
all_backed targets voters commissions supports edges [] sound = All-nil IsBacked
all_backed targets voters commissions supports edges (member ∷ members) sound =
    let exposed : ℕ → Exposure = exposure_of targets commissions supports voters edges in
    All-cons IsBacked (exposed member) (map exposed members)
    (backed targets voters member commissions supports edges (All-head IsSoundExposure (exposed member) (map exposed members) sound))
    (all_backed targets voters commissions supports edges members (All-tail IsSoundExposure (exposed member) (map exposed members) sound))

pub backed_law : BackedLaw
backed_law targets voters commissions supports edges members elected =
    all_backed targets voters commissions supports edges members (sound_law targets voters commissions supports edges members elected).each
