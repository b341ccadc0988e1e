use Rattle.std.proofs.Common.{◌≡◌, drop}
use Rattle.chain_params.specs.Faults.{threshold_fault}
use Rattle.chain_params.proofs.checks.check_thresholds.Given as goal

-- the first fault of the thresholds that are left is that of all
abbrev pub invariant-loop-place : goal.invariant-loop-place
invariant-loop-place l = threshold_fault l.place l.before (drop l.place l.thresholds) ≡ threshold_fault 0 0 l.thresholds
