-- The deposits of submissions: what is held, and what becomes of it.
use Rattle.std.specs.Prelude.{◌≡◌, ℕ, true, is_some, List, map, fold, sum_by, All, if◌then◌else◌}
use Rattle.npos_base.specs.declared.account.AccountId.{AccountId}
use Rattle.npos_base.specs.Account.{same_account}
use Rattle.stake_ledger.specs.Ledger.{Ledger, row_at, row_of}
use Rattle.stake_ledger.specs.Calls.{deposit_returned, deposit_burned}
use Rattle.submission_queue.specs.declared.submission.Submission.{Submission}
use Rattle.block_receipts.specs.declared.line.Line.{Line}
use Rattle.block_receipts.specs.declared.line.Line.TheVariants as lines

-- the deposits of the account's submissions among these
abbrev pub deposits_of : AccountId → List Submission → ℕ
deposits_of who items = sum_by (λ item. if same_account who item.who then item.deposit else 0) items

-- what is held of each account is the deposits of its submissions among these, and each of their
-- accounts is known
pub record AreHeld (book : Ledger) (items : List Submission) : Type 0 where
  pub held : (who : AccountId) → (row_at book who).held ≡ deposits_of who items
  pub known : All (λ item. is_some (row_of book item.who) ≡ true) items

-- the deposit is free again
abbrev pub returned : Ledger → Submission → Ledger
returned book item = deposit_returned item.who item.deposit book

-- the deposit is gone
abbrev pub burned : Ledger → Submission → Ledger
burned book item = deposit_burned item.who item.deposit book

abbrev pub all_returned : List Submission → Ledger → Ledger
all_returned items book = fold returned book items

abbrev pub all_burned : List Submission → Ledger → Ledger
all_burned items book = fold burned book items

abbrev pub return_line : Submission → Line
return_line item = lines.Returned item.number item.deposit

abbrev pub return_lines : List Submission → List Line
return_lines items = map return_line items
