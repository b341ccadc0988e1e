-- The numbers of the reasons for which calls are refused.
use Rattle.std.specs.Prelude.{ℕ, unwrap_or}
use Rattle.stake_ledger.specs.Reasons as books
use Rattle.voter_lists.specs.Reasons as lists
use Rattle.era_book.specs.Reasons as eras
use Rattle.block_receipts.specs.declared.refusal.Refusal.{Refusal}
use Rattle.block_receipts.specs.declared.refusal.Refusal.TheVariants.{Ledger, List, Era, NotBetter, WrongPhase, WrongRound, SolutionTooLong, NotRoot}

-- want of memory is no reason to refuse a call, and no number is its own
abbrev pub code_of : Refusal → ℕ
code_of (Ledger refusal) = unwrap_or (books.reason_number refusal) 0
code_of (List refusal) = unwrap_or (lists.reason_number refusal) 0
code_of (Era refusal) = unwrap_or (eras.reason_number refusal) 0
code_of NotBetter = 20
code_of NotRoot = 27
code_of WrongPhase = 28
code_of WrongRound = 29
code_of SolutionTooLong = 30
