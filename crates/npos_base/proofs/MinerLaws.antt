-- What is known of the rounds of a miner.
use Rattle.std.proofs.Common.{ℕ, ◌≤◌, Bool, true, false, cond, List, codes, IfSome, Option, Some, None}
use Rattle.std.specs.Str.{bytes_eq}
use Rattle.npos_base.specs.declared.limits.TheConstants.{MOST_ROUNDS}
use Rattle.npos_base.specs.declared.miner.Miner.{Miner}
use Rattle.npos_base.specs.declared.miner.Miner.TheVariants.{Fill, Seq, Mms}
use Rattle.npos_base.specs.Miner.{named, HasRounds, KeepsRounds}

pub has_rounds : (miner : Miner) → KeepsRounds miner → HasRounds miner
has_rounds Fill keeps = tt
has_rounds Seq keeps = tt
has_rounds (Mms rounds) keeps = keeps.0

-- a miner that has a name keeps the rounds that it is given
pub named_keeps : (name : List ℕ) (rounds : ℕ) → 1 ≤ rounds → rounds ≤ MOST_ROUNDS → IfSome (named name rounds) KeepsRounds
named_keeps name rounds some few = by (bytes_eq name (codes "fill")) (bytes_eq name (codes "seq")) (bytes_eq name (codes "mms"))
  where
    by : (fill seq mms : Bool) → IfSome (cond fill (Some Fill) (cond seq (Some Seq) (cond mms (Some (Mms rounds)) None))) KeepsRounds
    by true seq mms = tt
    by false true mms = tt
    by false false true = (some, few)
    by false false false = tt
