use Rattle.std.proofs.Common.{◌≡◌, ℕ, ◌<◌, Some, get_or, slice_get}
use Rattle.npos_base.specs.declared.account.AccountId.{AccountId}
use Rattle.voter_lists.specs.Marks.{IsMark}
use Rattle.voter_lists.proofs.marks.put_marks.Given as goal

-- the marks of the accounts so far
abbrev pub invariant-loop-i : goal.invariant-loop-i
invariant-loop-i l = (i : ℕ) (account : AccountId) → i < l.i → slice_get l.accounts i ≡ Some account
    → IsMark l.places (get_or l.marks i 0) account
