-- What becomes of submissions: each accepted one takes the next number, waits, and is settled once.
use Rattle.std.specs.Prelude.{ℕ, Bool, false, List, count_by, nat_lt, ◌==◌, if◌then◌else◌}
use Rattle.submission_queue.specs.declared.submission.Submission.{Submission}
use Rattle.block_receipts.specs.declared.line.Line.{Line}
use Rattle.block_receipts.specs.declared.line.Line.TheVariants as lines

-- the line settles the submission of this number: its deposit is burned, or free again
abbrev pub settles : ℕ → Line → Bool
settles number (lines.Forfeit other deposit verdict) = other == number
settles number (lines.Returned other deposit) = other == number
settles number other = false

-- how many lines settle it
abbrev pub fate : ℕ → List Line → ℕ
fate number told = count_by (settles number) told

-- how many with this number wait
abbrev pub waiting_with : ℕ → List Submission → ℕ
waiting_with number items = count_by (λ item. item.number == number) items

-- 1 where the number was given to a submission, from 1 on, and else 0
abbrev pub issued : ℕ → ℕ → ℕ
issued number next = if nat_lt number next then 1 else 0
