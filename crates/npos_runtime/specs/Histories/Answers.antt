-- How each call is answered.
use Rattle.std.specs.Prelude.{◌≡◌, ℕ, ◌≤◌, List, [], ◌∷◌}
use Rattle.block_wire.specs.declared.call.Call.{Call}
use Rattle.block_receipts.specs.declared.line.Line.{Line}
use Rattle.block_receipts.specs.declared.line.Line.TheVariants.{CallOk, CallRefused}
use Rattle.npos_runtime.specs.declared.chain.Chain.{Chain}
use Rattle.npos_runtime.specs.Step.{call_outcome}

-- The call at this place of its block is accepted, and then more may be told; or it is refused for the
-- reason of one of the numbers from 1 to 32, that alone is told, and the chain is as it was.
pub data IsCallAnswered (index : ℕ) (call : Call) (chain : Chain) : Type 0 where
  Accepted : (more : List Line) → (call_outcome index call chain).lines ≡ CallOk index ∷ more
      → IsCallAnswered index call chain
  Refused : (code : ℕ) → 1 ≤ code → code ≤ 32
      → (call_outcome index call chain).lines ≡ CallRefused index code ∷ []
      → (call_outcome index call chain).state ≡ chain
      → IsCallAnswered index call chain

-- whatever the chain
abbrev pub AnswersLaw : Type 0
AnswersLaw = (index : ℕ) (call : Call) (chain : Chain) → IsCallAnswered index call chain
