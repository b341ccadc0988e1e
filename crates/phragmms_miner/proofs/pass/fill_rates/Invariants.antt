use Rattle.std.proofs.Common.{◌≡◌, ◌<◌, ℕ, length, slice_index_or}
use Rattle.phragmms_miner.specs.Passes.{IsRate}
use Rattle.phragmms_miner.proofs.pass.fill_rates.Given as goal

-- the rates so far
abbrev pub invariant-loop-target : goal.invariant-loop-target
invariant-loop-target l = ((target : ℕ) → target < l.target
    → IsRate l.price (slice_index_or l.supports target 0) (slice_index_or l.rates target 0)) × (length l.rates ≡ length l.supports)
