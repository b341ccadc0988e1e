use Rattle.std.proofs.Common.{◌≡◌, ◌+◌, ◌-◌, ◌^◌, ◌<◌, ◌≤◌, ℕ, List, Option, false, length}
use Rattle.npos_base.specs.Outside.{Told}
use Rattle.npos_runtime.specs.Kept.Savable.{IsSavable}
use Rattle.npos_cli.specs.declared.output.Output.TheVariants.{Checkpoint}
use Rattle.npos_cli.specs.Outputs.{machine_of}
use Rattle.run_edges.specs.Turning.{spot}
use Rattle.npos_cli.specs.Near.{IsNear}
use Rattle.run_edges.specs.Streaming.{Course, ReadsOnWhile}
use Rattle.run_edges.specs.Owed.{AsksInTime, AsksOn}
use Rattle.run_edges.proofs.AskLaws.{TriesOn}
use Rattle.run_edges.proofs.TurnLaws.{one_if_open}
use Rattle.npos_cli.proofs.replaying.take_all.Given as goal

-- whatever led to the start goes on to here, no read or write failed, and the place is near
abbrev pub invariant-pieces : goal.invariant-pieces
invariant-pieces g l = record {
  unspent : l.runtime.spent ≡ false;
  savable : IsSavable l.runtime.state;
  some : 0 < length l.piece;
  one_piece : length l.piece ≤ 65536;
  near : IsNear (spot l.reader l.runtime.state);
  reads : g.S.Source.faults l.source ≡ g.S.Source.faults l.fn.source;
  writes : g.K.Sink.faults l.sink ≡ g.K.Sink.faults l.fn.sink;
  asks : AsksInTime (g.S.Source.asked l.fn.source) (g.S.Source.asked l.source);
  asks_on : l.ended ≡ false → AsksOn (g.S.Source.asked l.fn.source) (g.S.Source.asked l.source);
  tries : TriesOn (g.K.Sink.tried l.fn.sink) (g.K.Sink.tried l.sink);
  wary : ReadsOnWhile (machine_of l.fn.output) (g.S.Source.left l.fn.source) (g.S.Source.left l.source) (g.S.Source.asked l.fn.source).last (g.S.Source.asked l.source).last
      (g.K.Sink.told l.fn.sink) (spot l.fn.reader l.fn.runtime.state);
  quiet : l.fn.output ≡ Checkpoint → l.sink ≡ l.fn.sink;
  course : (left : Option (List ℕ)) (old : Option Told) → Course (machine_of l.fn.output) left (g.S.Source.left l.fn.source) old (g.K.Sink.told l.fn.sink) false (spot l.fn.reader l.fn.runtime.state)
      → Course (machine_of l.fn.output) left (g.S.Source.left l.source) old (g.K.Sink.told l.sink) l.ended (spot l.reader l.runtime.state);
}

abbrev pub decreases-pieces : goal.decreases-pieces
decreases-pieces g l = 2 ^ 64 - (l.reader.at + length l.reader.rest) + one_if_open l.ended
