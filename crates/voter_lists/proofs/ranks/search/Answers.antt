-- The account in the middle tells on which side to search.
use Rattle.std.proofs.Common.{◌≡◌, ◌<◌, ◌≤◌, ◌+◌, ◌-◌, ◌/◌, ◌∙◌, ℕ, List, length, get_or, slice_get, Some, ap, sym, arith}
use Rattle.std.proofs.lemmas.Option.{slice_get-get_or}
use Rattle.npos_base.specs.declared.account.AccountId.{AccountId}
use Rattle.npos_base.proofs.AccountOrder.{account_exact}
use Rattle.voter_lists.specs.Noted.{AreWithin, accounts_at}
use Rattle.voter_lists.proofs.NamedLemmas.{account_at, count_at}
use Rattle.voter_lists.proofs.RankLemmas.{lower, higher}
use Rattle.voter_lists.proofs.ranks.search.Goals as goal

abbrev middle : ℕ → ℕ → ℕ
middle low high = low + (high - low) / 2

-- the account that is compared is the one in the middle
in_middle : (accounts : List AccountId) (places : List ℕ) → AreWithin accounts places → (low high : ℕ) → low < high → high ≤ length places
    → (account : AccountId) → slice_get accounts (get_or places (middle low high) 0) ≡ Some account → slice_get (accounts_at accounts places) (middle low high) ≡ Some account
in_middle accounts places within low high some most account is =
    account_at accounts places (middle low high) (get_or places (middle low high) 0) within (slice_get-get_or places (middle low high) 0 (omega (arith, some, most))) ∙ is

pub loop-low-init : goal.loop-low-init
loop-low-init c =
    let count = count_at c.args.standings.now.accounts c.args.validators.now c.requires.within in
    record {
      ordered = omega arith;
      within = omega arith;
      below = λ j d before. absurd (omega (arith, before));
      above = λ j d behind below. absurd (omega (arith, behind, below, count));
    }

pub loop-low-preserved-in-Less : goal.loop-low-preserved-in-Less
loop-low-preserved-in-Less c =
    let there = in_middle c.args.standings.now.accounts c.args.validators.now c.requires.within c.loop-low.low
    c.loop-low.high c.loop-low-test.true c.loop-low.invariant.within c.account.result c.account.ensures in
    record {
      ordered = omega (arith, c.loop-low-test.true);
      within = c.loop-low.invariant.within;
      below = lower c.args.who _ c.requires.rising _ c.account.result there (sym c.cmp.ensures ∙ c.in-Less.is);
      above = c.loop-low.invariant.above;
    }

pub returns-in-Equal-clause-found : goal.returns-in-Equal-clause-found
returns-in-Equal-clause-found c =
    in_middle c.args.standings.now.accounts c.args.validators.now c.requires.within c.loop-low.low c.loop-low.high c.loop-low-test.true c.loop-low.invariant.within c.account.result c.account.ensures
    ∙ ap (λ account. Some account) (account_exact c.account.result c.args.who (sym c.cmp.ensures ∙ c.in-Equal.is))

pub loop-low-preserved : goal.loop-low-preserved
loop-low-preserved c =
    let there = in_middle c.args.standings.now.accounts c.args.validators.now c.requires.within c.loop-low.low
    c.loop-low.high c.loop-low-test.true c.loop-low.invariant.within c.account.result c.account.ensures in
    record {
      ordered = omega arith;
      within = omega (arith, c.loop-low-test.true, c.loop-low.invariant.within);
      below = c.loop-low.invariant.below;
      above = higher c.args.who _ c.requires.rising _ c.account.result there (sym c.cmp.ensures ∙ c.in-Greater.is);
    }

pub returns-clause-range : goal.returns-clause-range
returns-clause-range c = omega (arith, c.loop-low.invariant.ordered, c.loop-low.invariant.within)

pub returns-clause-missed : goal.returns-clause-missed
returns-clause-missed c = (
  λ j d from before. c.loop-low.invariant.below j d before,
  λ j d behind below. c.loop-low.invariant.above j d (omega (arith, c.loop-low-test.false, behind)) below,
)
