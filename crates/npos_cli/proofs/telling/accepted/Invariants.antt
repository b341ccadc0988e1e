use Rattle.std.proofs.Common.{◌≡◌, ◌+◌, take, map}
use Rattle.std.specs.List.{range_with_len}
use Rattle.block_receipts.specs.declared.line.Line.TheVariants.{CallOk}
use Rattle.npos_cli.proofs.telling.accepted.Given as goal

-- the lines so far are those of the places up to the due one
abbrev pub invariant-loop-line : goal.invariant-loop-line
invariant-loop-line l = (l.due ≡ l.first + l.line-index)
    × (take l.line-index l.rest ≡ map CallOk (range_with_len l.first l.line-index))
