use Rattle.std.proofs.Common.{◌≡◌, false, take}
use Rattle.state_rules.specs.Eras.{names_unknown}
use Rattle.state_rules.proofs.seen.names_unknown.Given as goal

abbrev pub invariant-loop-line : goal.invariant-loop-line
invariant-loop-line l = names_unknown l.rows (take l.line-index l.lines) ≡ false
