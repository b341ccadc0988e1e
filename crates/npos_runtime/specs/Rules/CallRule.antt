-- The rule of one call: why it is refused, and what it does where it is not.
-- A kind of call is a rule; the table of kinds stands in Calls.
use Rattle.std.specs.Prelude.{ℕ, List, [], Option, None, Result}
use Rattle.submission_queue.specs.declared.submission.Submission.{Submission}
use Rattle.era_book.specs.Events.{Event}
use Rattle.block_receipts.specs.declared.line.Line.{Line}
use Rattle.block_receipts.specs.declared.refusal.Refusal.{Refusal}
use Rattle.block_receipts.specs.declared.stop.Stop.{Stop}
use Rattle.npos_runtime.specs.declared.chain.Chain.{Chain}
use Rattle.npos_runtime.specs.Rules.Outcome.{Meets}

pub record CallRule : Type 0 where
  -- the first refusal that is due, if one is
  pub refusal : Option Refusal
  -- what the chain becomes where none is
  pub done : Chain
  -- the lines that are told then, besides that the call was accepted
  pub told : List Line
  -- what happens to the eras then
  pub events : List Event
  -- a submission, and the round that it names
  pub offer : Option (ℕ × Submission)

-- a call that tells nothing more, leaves the eras and offers nothing
abbrev pub plain : Option Refusal → Chain → CallRule
plain refusal done =
    record { refusal = refusal; done = done; told = []; events = []; offer = None }

-- What a call made of the chain is what its rule says. Nothing is said after want of memory.
abbrev pub Follows : {T : Type 0} → CallRule → Chain → Chain → Result T Stop → Type 0
Follows rule old new result = Meets rule.refusal rule.done old new result
