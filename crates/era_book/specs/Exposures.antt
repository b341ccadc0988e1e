-- What stands behind a validator in an era.
use Rattle.std.specs.Prelude.{◌≡◌, ℕ, ◌≤◌, List, map, sum_by, filter, All}
use Rattle.std.specs.List.{IsDistinct}
use Rattle.npos_base.specs.declared.account.AccountId.{AccountId}
use Rattle.npos_base.specs.declared.limits.TheConstants.{WHOLE_FRACTION}
use Rattle.npos_base.specs.Account.{same_account}
use Rattle.era_book.specs.declared.exposure.Backer.{Backer}
use Rattle.era_book.specs.declared.exposure.Exposure.{Exposure}

-- what the lines hold together
abbrev pub amount_sum : List Backer → ℕ
amount_sum lines = sum_by (λ line. line.amount) lines

-- what the lines hold for one account
abbrev pub amount_for : AccountId → List Backer → ℕ
amount_for who lines = amount_sum (filter (λ line. same_account line.who who) lines)

-- what the exposures hold for one account
abbrev pub exposed_for : AccountId → List Exposure → ℕ
exposed_for who exposures = sum_by (λ exposure. amount_for who exposure.backers) exposures

-- no account has two of the lines
abbrev pub AreApart : List Backer → Type 0
AreApart lines = IsDistinct same_account (map (λ line. line.who) lines)

-- The commission is at most the whole, the support is what the backers give together, and no
-- account backs twice.
pub record IsSoundExposure (exposure : Exposure) : Type 0 where
  pub commission : exposure.commission ≤ WHOLE_FRACTION
  pub support : exposure.support ≡ amount_sum exposure.backers
  pub distinct : IsDistinct same_account (map (λ backer. backer.who) exposure.backers)

-- the exposures of one era: each is sound, and no validator stands twice
pub record AreSound (exposures : List Exposure) : Type 0 where
  pub each : All IsSoundExposure exposures
  pub distinct : IsDistinct same_account (map (λ exposure. exposure.validator) exposures)
