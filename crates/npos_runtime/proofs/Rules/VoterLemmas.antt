-- An eligible account of the walk is a voter without a fault.
use Rattle.std.proofs.Common.{◌≡◌, ℕ, ◌+◌, ◌≤◌, ◌<◌, ◌^◌, Bool, true, false, cond, nat_le, nat_lt, nat_eq, ◌||◌, List, [], ◌∷◌, ◌++◌, length, map, sum_by, None, refl, sym, ◌∙◌, ap, arith}
use Rattle.std.specs.List.{list_any}
use Rattle.std.specs.Map.{values_of}
use Rattle.std.proofs.lemmas.Bool.Decides.{nat_tests}
use Rattle.std.proofs.lemmas.List.Sums.{sum_by-append, sum_by-cons}
use Rattle.npos_base.specs.declared.account.AccountId.{AccountId}
use Rattle.npos_base.specs.declared.limits.TheConstants.{MOST_NOMINATIONS}
use Rattle.npos_base.specs.Account.{same_account}
use Rattle.npos_base.proofs.AccountOrder.{same_exact, same_itself}
use Rattle.stake_ledger.specs.declared.row.Row.{Row}
use Rattle.stake_ledger.specs.Rows.{worth}
use Rattle.stake_ledger.specs.Ledger.{row_in, IsBalanced}
use Rattle.voter_lists.specs.Roles.{validators_of}
use Rattle.election_snapshot.specs.Snapshot.{Voter, total_of}
use Rattle.election_snapshot.specs.Draft.{Draft, accounts_of, stands_in, voter_fault}
use Rattle.npos_runtime.specs.declared.chain.Chain.{Chain}
use Rattle.voter_lists.specs.Votes.{votes_of}
use Rattle.npos_runtime.specs.Rules.Ballots.{active_of, voter_of}
use Rattle.npos_runtime.specs.Live.{IsLive, IsOnce, times}
use Rattle.npos_runtime.specs.Rules.Polling.{IsPolled}
use Rattle.npos_runtime.proofs.Rules.ListLemmas.{one, times_cons}
use Rattle.npos_runtime.proofs.Kept.StakeSums.{stakes_fit}
use Rattle.npos_runtime.proofs.Rules.VoteLemmas.{votes_known, few_votes, distinct_votes}

times_append : (who : AccountId) (xs ys : List AccountId) → times who (xs ++ ys) ≡ times who xs + times who ys
times_append who xs ys = sum_by-append (λ (x : AccountId). cond (same_account x who) 1 0) xs ys

-- who stands not once stands not in the list
stands_not : (accounts : List AccountId) (who : AccountId) → times who accounts ≡ 0 → stands_in accounts who ≡ false
stands_not [] who e = refl
stands_not (a ∷ more) who e = at (same_account who a) refl (stands_not more who (omega (arith, times_cons who a more, e))) where
  at : (b : Bool) → same_account who a ≡ b → stands_in more who ≡ false → (b || stands_in more who) ≡ false
  at true f rest =
      let z : one (same_account a who) ≡ 1 = ap (λ (x : AccountId). one (same_account x who)) (sym (same_exact who a f)) ∙ ap (λ b. one b) (same_itself who) in
      absurd (omega (arith, times_cons who a more, e, z))
  at false f rest = rest

front_once : (accounts more : List AccountId) (who : AccountId) → IsOnce (accounts ++ who ∷ more) → IsOnce (accounts ++ who ∷ [])
front_once accounts more who once = λ other. omega (
  arith,
  once other,
  times_append other accounts (who ∷ more),
  times_append other accounts (who ∷ []),
  times_cons other who more,
  times_cons other who [],
)

not_yet : (accounts more : List AccountId) (who : AccountId) → IsOnce (accounts ++ who ∷ more) → stands_in accounts who ≡ false
not_yet accounts more who once =
    let z : one (same_account who who) ≡ 1 = ap (λ b. one b) (same_itself who) in
    stands_not accounts who (omega (arith, once who, times_append who accounts (who ∷ more), times_cons who who more, z))

-- the stakes of the voters are those of their accounts
voters_total : (chain : Chain) (accounts : List AccountId) → total_of (map (voter_of chain) accounts) ≡ sum_by (λ who. (row_in chain.book.rows who).active) accounts
voters_total chain [] = refl
voters_total chain (a ∷ more) =
    sum_by-cons (λ (voter : Voter). voter.stake) (voter_of chain a) (map (voter_of chain) more)
    ∙ (ap (λ n. (row_in chain.book.rows a).active + n) (voters_total chain more) ∙ sym (sum_by-cons (λ who. (row_in chain.book.rows who).active) a more))

-- what is active is a part of what all accounts are worth
active_worth : (rows : List Row) → sum_by (λ row. row.active) rows ≤ sum_by worth rows
active_worth [] = omega arith
active_worth (row ∷ rows) = omega (arith, active_worth rows, sum_by-cons (λ (r : Row). r.active) row rows, sum_by-cons worth row rows)

total_fits : (chain : Chain) (draft : Draft) (who : AccountId) → IsBalanced chain.book → draft.voters ≡ map (voter_of chain) (accounts_of draft.voters)
    → IsOnce (accounts_of draft.voters ++ who ∷ []) → total_of draft.voters + active_of chain who < 2 ^ 64
total_fits chain draft who balanced voters once =
    let sums : total_of draft.voters ≡ sum_by (λ a. (row_in chain.book.rows a).active) (accounts_of draft.voters) = ap total_of voters ∙ voters_total chain (accounts_of draft.voters) in
    omega (
      arith,
      sums,
      stakes_fit chain.book.rows (accounts_of draft.voters ++ who ∷ []) once,
      sum_by-append (λ a. (row_in chain.book.rows a).active) (accounts_of draft.voters) (who ∷ []),
      sum_by-cons (λ a. (row_in chain.book.rows a).active) who [],
      active_worth (values_of chain.book.rows),
      balanced.equation,
      balanced.capped,
    )

not_above : (a b : ℕ) → b < a → nat_le a b ≡ false
not_above a b e = grind (arith, nat_tests)

not_below : (a b : ℕ) → b ≤ a → nat_lt a b ≡ false
not_below a b e = grind (arith, nat_tests)

not_none : (a : ℕ) → 0 < a → nat_eq a 0 ≡ false
not_none a e = grind (arith, nat_tests)

pub no_fault : (chain : Chain) (draft : Draft) (who : AccountId) (more : List AccountId) → IsLive chain → length draft.voters < 16384
    → IsPolled chain draft (who ∷ more) → 0 < active_of chain who → 0 < length (votes_of chain.roles who)
    → voter_fault draft who (active_of chain who) (votes_of chain.roles who) ≡ None
no_fault chain draft who more live room polled stake votes =
    rw (
      not_above 16384 (length draft.voters) room,
      not_yet (accounts_of draft.voters) more who polled.once,
      not_none (active_of chain who) stake,
      not_none (length (votes_of chain.roles who)) votes,
      not_below MOST_NOMINATIONS (length (votes_of chain.roles who)) (few_votes chain.roles who (live.roles.nominations who)),
      ap (λ (targets : List AccountId). list_any (λ target. nat_le (length targets) target)
          (votes_of chain.roles who)) polled.targets ∙ votes_known (validators_of chain.roles)
          (Rattle.voter_lists.specs.Votes.choices_of chain.roles who),
      distinct_votes chain.roles who (live.roles.nominations who),
      not_above (2 ^ 64) (total_of draft.voters + active_of chain who)
          (total_fits chain draft who live.books.balanced polled.voters (front_once (accounts_of draft.voters) more who polled.once)),
    )
    refl
