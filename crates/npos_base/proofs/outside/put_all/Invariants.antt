use Rattle.std.proofs.Common.{length, ◌-◌, ◌≡◌, ◌≤◌, take, false}
use Rattle.npos_base.specs.Outside.{Appends}
use Rattle.npos_base.proofs.outside.put_all.Given as goal

abbrev pub invariant-loop-put : goal.invariant-loop-put
invariant-loop-put g l = record {
  within : l.put ≤ length l.piece;
  appended : Appends (g.K.Sink.told l.initial.sink) (g.K.Sink.told l.sink) (take l.put l.piece);
  no_fault : g.K.Sink.faults l.sink ≡ g.K.Sink.faults l.initial.sink;
  in_time : (g.K.Sink.tried l.initial.sink).failed ≡ false → (g.K.Sink.tried l.sink).late ≡ (g.K.Sink.tried l.initial.sink).late;
  well : (g.K.Sink.tried l.sink).failed ≡ (g.K.Sink.tried l.initial.sink).failed;
}

abbrev pub decreases-loop-put : goal.decreases-loop-put
decreases-loop-put g l = length l.piece - l.put
