use Rattle.std.proofs.Common.{◌≡◌, ◌-◌, ◌^◌, vec_len}
use Rattle.run_edges.specs.Owed.{LeftAfter, AsksOn}
use Rattle.run_edges.proofs.input.read_all.Given as goal

abbrev pub invariant-reads : goal.invariant-reads
invariant-reads g l = (vec_len l.piece ≡ 65536)
    × LeftAfter (g.S.Source.left l.fn.source) (g.S.Source.left l.source) l.bytes.items
    × (g.S.Source.faults l.source ≡ g.S.Source.faults l.fn.source)
    × AsksOn (g.S.Source.asked l.fn.source) (g.S.Source.asked l.source)

-- a list has fewer than 2^64 bytes
abbrev pub decreases-reads : goal.decreases-reads
decreases-reads g l = 2 ^ 64 - vec_len l.bytes
