-- One account more of the walk for a snapshot.
use Rattle.std.proofs.Common.{◌≡◌, ℕ, zero, suc, ◌+◌, ◌-◌, ◌≤◌, ◌<◌, Bool, true, false, cond, List, [], ◌∷◌, ◌++◌, length}
use Rattle.std.proofs.Common.{take, map, filter, refl, sym, ◌∙◌, ap, ap₂, subst, arith, if◌then◌else◌, append_assoc}
use Rattle.std.proofs.lemmas.List.Sums.{sum_by-append, sum_by-cons}
use Rattle.npos_base.specs.declared.account.AccountId.{AccountId}
use Rattle.npos_base.specs.Account.{same_account}
use Rattle.voter_lists.specs.Roles.{validators_of}
use Rattle.voter_lists.specs.Bags.{walk}
use Rattle.election_snapshot.specs.Snapshot.{Voter}
use Rattle.election_snapshot.specs.Draft.{Draft, accounts_of, with_voter}
use Rattle.npos_runtime.specs.declared.chain.Chain.{Chain}
use Rattle.voter_lists.specs.Votes.{votes_of}
use Rattle.npos_runtime.specs.Rules.Ballots.{active_of, is_eligible, electorate, voter_of, ballot_of}
use Rattle.npos_runtime.specs.Live.{IsOnce, IsLive, times}
use Rattle.npos_runtime.specs.Rules.Polling.{IsPolled, polled}

mapped_more : {A B : Type 0} (f : A → B) (xs : List A) (y : A) → map f (xs ++ y ∷ []) ≡ map f xs ++ f y ∷ []
mapped_more f [] y = refl
mapped_more f (x ∷ xs) y = ap (λ zs. f x ∷ zs) (mapped_more f xs y)

length_more : {A : Type 0} (xs : List A) (y : A) → length (xs ++ y ∷ []) ≡ length xs + 1
length_more [] y = refl
length_more (x ∷ xs) y = omega (arith, length_more xs y)

times_without : (q who : AccountId) (xs ys : List AccountId) → times q (xs ++ ys) ≤ times q (xs ++ who ∷ ys)
times_without q who xs ys =
    omega (
      arith,
      sum_by-append (λ (a : AccountId). cond (same_account a q) 1 0) xs ys,
      sum_by-append (λ (a : AccountId). cond (same_account a q) 1 0) xs (who ∷ ys),
      sum_by-cons (λ (a : AccountId). cond (same_account a q) 1 0) who ys,
    )

one_less : (n : ℕ) → n < 16384 → 16384 - n ≡ suc (16384 - (n + 1))
one_less n lt = omega (arith, lt)

module _ (chain : Chain) (draft : Draft) (who : AccountId) (rest : List AccountId) (before : IsPolled chain draft (who ∷ rest)) (room : length draft.voters < 16384) where
  added : is_eligible chain who ≡ true → IsPolled chain (with_voter draft who (active_of chain who) (votes_of chain.roles who)) rest
  added eligible =
      let v : Voter = voter_of chain who in
      let accounts : accounts_of (draft.voters ++ v ∷ []) ≡ accounts_of draft.voters ++ who ∷ [] = mapped_more (λ (voter : Voter). voter.account) draft.voters v in
      record {
        targets = before.targets;
        voters = ap (λ vs. vs ++ v ∷ []) before.voters ∙ (sym (mapped_more (voter_of chain) (accounts_of draft.voters) who) ∙ ap (map (voter_of chain)) (sym accounts));
        few = omega (arith, length_more draft.voters v, room);
        once = subst IsOnce (sym (ap (λ xs. xs ++ rest) accounts ∙ append_assoc (accounts_of draft.voters) (who ∷ []) rest)) before.once;
        rest =
            ap₂ (λ xs n. xs ++ take (16384 - n) (filter (is_eligible chain) rest)) accounts (length_more draft.voters v)
            ∙ (append_assoc (accounts_of draft.voters) (who ∷ []) (take (16384 - (length draft.voters + 1)) (filter (is_eligible chain) rest))
            ∙ (ap (λ xs. accounts_of draft.voters ++ xs) (sym (ap₂ (λ n xs. take n xs) (one_less (length draft.voters) room) (first eligible))) ∙ before.rest));
      } where
        first : is_eligible chain who ≡ true → filter (is_eligible chain) (who ∷ rest) ≡ who ∷ filter (is_eligible chain) rest
        first e = rw e refl

  passed : is_eligible chain who ≡ false → IsPolled chain draft rest
  passed other = record {
    targets = before.targets;
    voters = before.voters;
    few = before.few;
    once = λ q. omega (arith, times_without q who (accounts_of draft.voters) rest, before.once q);
    rest = ap (λ xs. accounts_of draft.voters ++ take (16384 - length draft.voters) xs) (sym (skipped other)) ∙ before.rest;
  } where
    skipped : is_eligible chain who ≡ false → filter (is_eligible chain) (who ∷ rest) ≡ filter (is_eligible chain) rest
    skipped e = rw e refl

  pub polled_next : (new : Draft) → new ≡ polled chain draft who → IsPolled chain new rest
  polled_next new is = subst (λ d. IsPolled chain d rest) (sym is) (at (is_eligible chain who) refl) where
    at : (b : Bool) → is_eligible chain who ≡ b → IsPolled chain (if b then with_voter draft who (active_of chain who) (votes_of chain.roles who) else draft) rest
    at true e = added e
    at false e = passed e

-- nothing of the walk is in the draft at first
pub polled_first : (chain : Chain) (draft : Draft) (ahead : List AccountId) → IsLive chain → draft ≡ record { targets = validators_of chain.roles; voters = [] }
    → ahead ≡ walk chain.bags.order → IsPolled chain draft ahead
polled_first chain draft ahead live empty whole =
    subst (λ d. IsPolled chain d ahead) (sym empty)
    (subst (λ accounts. IsPolled chain (record { targets = validators_of chain.roles; voters = [] }) accounts) (sym whole)
    (record { targets = refl; voters = refl; few = omega arith; once = live.bags.once; rest = refl }))

-- and at last the whole electorate is
pub polled_last : (chain : Chain) (draft : Draft) (ahead : List AccountId) → IsPolled chain draft ahead
    → take (16384 - length draft.voters) (filter (is_eligible chain) ahead) ≡ [] → draft ≡ ballot_of chain
polled_last chain draft ahead is none =
    let all : accounts_of draft.voters ≡ electorate chain = sym (append_none (accounts_of draft.voters)) ∙ (ap (λ xs. accounts_of draft.voters ++ xs) (sym none) ∙ is.rest) in
    let voters : draft.voters ≡ map (voter_of chain) (electorate chain) = is.voters ∙ ap (map (voter_of chain)) all in
    λ i. record { targets = is.targets i; voters = voters i } where
      append_none : (xs : List AccountId) → xs ++ [] ≡ xs
      append_none [] = refl
      append_none (x ∷ xs) = ap (λ zs. x ∷ zs) (append_none xs)

none_left : (n : ℕ) (xs : List AccountId) → 16384 ≤ n → take (16384 - n) xs ≡ []
none_left n xs full = let z : 16384 - n ≡ 0 = omega (arith, full) in ap (λ k. take k xs) z ∙ nothing xs where
  nothing : (ys : List AccountId) → take 0 ys ≡ []
  nothing [] = refl
  nothing (y ∷ ys) = refl

pub polled_full : (chain : Chain) (draft : Draft) (ahead : List AccountId) → IsPolled chain draft ahead → 16384 ≤ length draft.voters → draft ≡ ballot_of chain
polled_full chain draft ahead is full = polled_last chain draft ahead is (none_left (length draft.voters) (filter (is_eligible chain) ahead) full)

pub polled_through : (chain : Chain) (draft : Draft) → IsPolled chain draft [] → draft ≡ ballot_of chain
polled_through chain draft is = polled_last chain draft [] is (nothing (16384 - length draft.voters)) where
  nothing : (n : ℕ) → take n (filter (is_eligible chain) []) ≡ []
  nothing zero = refl
  nothing (suc n) = refl

pub one_more : (chain : Chain) (draft new : Draft) (who : AccountId) → is_eligible chain who ≡ true → new ≡ polled chain draft who → length new.voters ≡ length draft.voters + 1
one_more chain draft new who e is = ap (λ (d : Draft). length d.voters) is ∙ rw e (length_more draft.voters (voter_of chain who))

pub no_more : (chain : Chain) (draft new : Draft) (who : AccountId) → is_eligible chain who ≡ false → new ≡ polled chain draft who → length new.voters ≡ length draft.voters
no_more chain draft new who e is = ap (λ (d : Draft). length d.voters) is ∙ rw e refl
