use Rattle.std.proofs.Common.{◌≡◌, ◌+◌, take}
use Rattle.weight_book.specs.Weights.{amount_sum}
use Rattle.support_balance.proofs.ScanLemmas.{IsScanned}
use Rattle.support_balance.proofs.turn.is_level.Given as goal

-- what is given so far, and how the edges so far lie
abbrev pub invariant-loop-edge : goal.invariant-loop-edge
invariant-loop-edge l =
    (l.unspent + amount_sum (take l.edge-index l.row) ≡ l.stake) × IsScanned l.supports l.row l.edge-index l.least l.top
