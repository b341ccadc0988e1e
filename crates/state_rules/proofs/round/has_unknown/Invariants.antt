use Rattle.std.proofs.Common.{◌≡◌, false, not, take}
use Rattle.std.specs.List.{list_any}
use Rattle.state_rules.specs.Known.{has_row}
use Rattle.state_rules.proofs.round.has_unknown.Given as goal

abbrev pub invariant-loop-voter : goal.invariant-loop-voter
invariant-loop-voter l = list_any (λ voter. not (has_row l.rows voter.account)) (take l.voter-index l.voters) ≡ false
