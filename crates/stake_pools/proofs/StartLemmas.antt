-- A pool starts sound.
use Rattle.std.proofs.Common.{◌≡◌, ◌∙◌, ℕ, ◌≤◌, Bool, true, false, nat_lt, if◌then◌else◌, List, [], ◌∷◌, ◌++◌, refl, ap, arith, ltb-false, Option, Some, None}
use Rattle.std.specs.List.Sorted.{IsStrictlySortedBy}
use Rattle.npos_base.specs.declared.account.AccountId.{AccountId}
use Rattle.npos_base.specs.Account.{account_cmp, same_account}
use Rattle.stake_ledger.specs.declared.row.Row.{Row}
use Rattle.stake_ledger.specs.Rows.{gained}
use Rattle.stake_ledger.specs.Ledger.{Ledger, row_at, empty_ledger, issuance_cap, IsBalanced}
use Rattle.stake_ledger.specs.Calls.{endowed}
use Rattle.stake_ledger.proofs.KeepLemmas.{balanced_endowed}
use Rattle.stake_ledger.proofs.AccountLemmas.{row_at-changed}
use Rattle.stake_pools.specs.declared.fault.PoolFault.{PoolFault}
use Rattle.stake_pools.specs.declared.fault.PoolFault.TheVariants.{RepeatedAccount, TooMuch, PoolEndowed}
use Rattle.stake_pools.specs.Genesis.{is_endowed, endowment_sum, endowment_fault, endowed_all, bonding_fault}
use Rattle.stake_pools.specs.Laws.{PoolStartLaw}
use Rattle.stake_pools.proofs.EndowLemmas.{sum_more}
use Rattle.stake_pools.proofs.SoundLemmas.{neither}

opens : (a b c : Bool) (x y z : PoolFault) (r : Option PoolFault)
    → (if a then Some x else if b then Some y else if c then Some z else r) ≡ None → (b ≡ false) × (r ≡ None)
opens true b c x y z r none = cc
opens false true c x y z r none = cc
opens false false true x y z r none = cc
opens false false false x y z r none = (refl, none)

-- books that balance, with nothing minted, active or on its way out
record IsFresh (ledger : Ledger) : Type 0 where
  pub balanced : IsBalanced ledger
  pub unminted : ledger.minted ≡ 0
  pub unchunked : (who : AccountId) → (row_at ledger who).chunks ≡ []
  pub inactive : (who : AccountId) → (row_at ledger who).active ≡ 0

same_chunks : (old : Row) (value : ℕ) (b : Bool) → (if b then gained value old else old).chunks ≡ old.chunks
same_chunks old value true = refl
same_chunks old value false = refl

same_active : (old : Row) (value : ℕ) (b : Bool) → (if b then gained value old else old).active ≡ old.active
same_active old value true = refl
same_active old value false = refl

fresh : (pool : AccountId) (before more : List (AccountId × ℕ)) (ledger : Ledger) → IsFresh ledger → ledger.genesis ≡ endowment_sum before
    → endowment_fault pool before more ≡ None → IsFresh (endowed_all more ledger)
fresh pool before [] ledger is total none = is
fresh pool before (e ∷ more) ledger is total none =
    let n = opens (is_endowed before e.0) (nat_lt issuance_cap (endowment_sum (before ++ e ∷ []))) (same_account e.0 pool) (RepeatedAccount _) (TooMuch _) (PoolEndowed _)
    (endowment_fault pool (before ++ e ∷ []) more) none in
    let within : endowment_sum (before ++ e ∷ []) ≤ issuance_cap = ltb-false issuance_cap (endowment_sum (before ++ e ∷ [])) n.0 in
    fresh pool (before ++ e ∷ []) more (endowed e.0 e.1 ledger)
    (record {
      balanced = balanced_endowed e.0 e.1 ledger is.balanced is.unminted (omega (arith, within, sum_more before e, total));
      unminted = is.unminted;
      unchunked = λ who. ap (λ (row : Row). row.chunks) (row_at-changed e.0 (gained e.1) ledger who)
          ∙ (same_chunks (row_at ledger who) e.1 (same_account who e.0) ∙ is.unchunked who);
      inactive = λ who. ap (λ (row : Row). row.active) (row_at-changed e.0 (gained e.1) ledger who)
          ∙ (same_active (row_at ledger who) e.1 (same_account who e.0) ∙ is.inactive who);
    })
    (omega (arith, sum_more before e, total)) n.1

fresh_empty : IsFresh empty_ledger
unfolding IsStrictlySortedBy
fresh_empty = record {
  balanced = record { distinct = tt; schedules = λ k d few. absurd (omega arith); equation = refl; capped = omega arith };
  unminted = refl;
  unchunked = λ who. refl;
  inactive = λ who. refl;
}

nobody_rises : IsStrictlySortedBy account_cmp []
unfolding IsStrictlySortedBy
nobody_rises = tt

pub start_law : PoolStartLaw
start_law genesis none =
    let each = neither (endowment_fault genesis.pool [] genesis.endowments) (bonding_fault genesis.bonding_eras) none in
    let is = fresh genesis.pool [] genesis.endowments empty_ledger fresh_empty refl each.0 in
    record {
      balanced = is.balanced;
      ordered = nobody_rises;
      apart = refl;
      unchunked = is.unchunked genesis.pool;
      covered = omega arith;
      backed = omega (arith, is.inactive genesis.pool);
    }
