use Rattle.std.proofs.Common.{◌≡◌, ◌≤◌, ◌<◌, ◌-◌, ℕ, length, get_or}
use Rattle.std.specs.declared.cmp.Ordering.TheVariants.{Less, Greater}
use Rattle.npos_base.specs.declared.account.AccountId.{AccountId}
use Rattle.npos_base.specs.Account.{account_cmp}
use Rattle.voter_lists.specs.Noted.{accounts_at}
use Rattle.voter_lists.proofs.ranks.search.Given as goal

-- those before the lower rank are below the account, and those from the higher one on are above
abbrev pub invariant-loop-low : goal.invariant-loop-low
invariant-loop-low l = record {
  ordered : l.low ≤ l.high;
  within : l.high ≤ length l.validators;
  below : (j : ℕ) (d : AccountId) → j < l.low → account_cmp (get_or (accounts_at l.standings.accounts l.validators) j d) l.who ≡ Less;
  above : (j : ℕ) (d : AccountId) → l.high ≤ j → j < length (accounts_at l.standings.accounts l.validators)
      → account_cmp (get_or (accounts_at l.standings.accounts l.validators) j d) l.who ≡ Greater;
}

abbrev pub decreases-loop-low : goal.decreases-loop-low
decreases-loop-low l = l.high - l.low
