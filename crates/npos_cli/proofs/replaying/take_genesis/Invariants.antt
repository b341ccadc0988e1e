use Rattle.std.proofs.Common.{◌≡◌, ◌+◌, ◌-◌, ◌^◌, ◌<◌, ◌≤◌, true, false, length}
use Rattle.run_edges.specs.Ahead.{HasSeen}
use Rattle.npos_cli.specs.Ahead.{AwaitsGenesis, AwaitsMore, CutsGenesis}
use Rattle.run_edges.specs.Owed.{AsksInTime, AsksOn}
use Rattle.run_edges.proofs.TurnLaws.{one_if_open}
use Rattle.npos_cli.proofs.replaying.take_genesis.Given as goal

-- all that was seen is held, and no read failed
abbrev pub invariant-pieces : goal.invariant-pieces
invariant-pieces g l = record {
  some : 0 < length l.piece;
  one_piece : length l.piece ≤ 65536;
  faults : g.S.Source.faults l.source ≡ g.S.Source.faults l.fn.source;
  at : l.reader.at ≡ 0;
  seen : HasSeen (g.S.Source.left l.fn.source) (g.S.Source.left l.source) l.reader.rest false l.ended;
  awaits : AwaitsGenesis l.reader.rest;
  cut : l.ended ≡ true → CutsGenesis l.reader.rest;
  wary : AwaitsMore (g.S.Source.left l.fn.source) (g.S.Source.left l.source) (g.S.Source.asked l.source).last;
  asks : AsksInTime (g.S.Source.asked l.fn.source) (g.S.Source.asked l.source);
  asks_on : l.ended ≡ false → AsksOn (g.S.Source.asked l.fn.source) (g.S.Source.asked l.source);
}

abbrev pub decreases-pieces : goal.decreases-pieces
decreases-pieces g l = 2 ^ 64 - (l.reader.at + length l.reader.rest) + one_if_open l.ended
