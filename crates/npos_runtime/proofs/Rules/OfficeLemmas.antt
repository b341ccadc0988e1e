-- What is paid and what is minted.
use Rattle.std.proofs.Common.{◌≡◌, ℕ, ◌≤◌, List, ◌∷◌, Option, Some, None, refl, ap, arith}
use Rattle.std.proofs.lemmas.List.Sums.{sum_by-cons}
use Rattle.npos_base.specs.declared.account.AccountId.{AccountId}
use Rattle.stake_ledger.specs.Ledger.{Ledger}
use Rattle.stake_ledger.specs.Calls.{minted_free, room_of}
use Rattle.era_book.specs.declared.exposure.Backer.{Backer}
use Rattle.era_book.specs.Members.{Member}
use Rattle.era_book.specs.Exposures.{amount_sum}
use Rattle.era_book.specs.Eras.{Eras, members_in, member_in}
use Rattle.era_book.specs.Calls.{paid_to, payout_in}

-- the lines of a payout sum to its total
pub payout_sums : (eras : Eras) (era : ℕ) (validator : AccountId) (reward : ℕ)
    → (payout_in eras era validator reward).total ≡ amount_sum (payout_in eras era validator reward).lines
payout_sums eras era validator reward = at (member_in eras era validator) where
  at : (member : Option Member) → (paid_to (members_in eras era) reward member).total ≡ amount_sum (paid_to (members_in eras era) reward member).lines
  at None = refl
  at (Some member) = refl

-- the first line fits where all do, and so do those behind it once it is minted
pub line_fits : (book : Ledger) (lines : List Backer) (line : Backer) (rest : List Backer) → lines ≡ line ∷ rest → amount_sum lines ≤ room_of book
    → line.amount ≤ room_of book
line_fits book lines line rest is fits = omega (arith, ap amount_sum is, sum_by-cons (λ (l : Backer). l.amount) line rest, fits)

pub rest_fits : (book new : Ledger) (lines : List Backer) (line : Backer) (rest : List Backer) → lines ≡ line ∷ rest → amount_sum lines ≤ room_of book
    → new ≡ minted_free line.who line.amount book → amount_sum rest ≤ room_of new
rest_fits book new lines line rest is fits minted =
    omega (arith, ap amount_sum is, sum_by-cons (λ (l : Backer). l.amount) line rest, fits, ap room_of minted)
