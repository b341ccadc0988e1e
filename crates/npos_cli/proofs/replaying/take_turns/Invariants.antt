use Rattle.std.proofs.Common.{◌≡◌, false, [], length}
use Rattle.npos_runtime.specs.Kept.Savable.{IsSavable}
use Rattle.npos_cli.specs.declared.output.Output.TheVariants.{Checkpoint}
use Rattle.run_edges.specs.Turning.{spot}
use Rattle.run_edges.proofs.AskLaws.{TriesOn}
use Rattle.npos_cli.proofs.WritLaws.{IsHeld}
use Rattle.npos_cli.proofs.replaying.take_turns.Given as goal

-- the blocks so far lead from the start to here, and what they write was written, or is held in the text
abbrev pub invariant-turns : goal.invariant-turns
invariant-turns g l = record {
  unspent : l.runtime.spent ≡ false;
  savable : IsSavable l.runtime.state;
  faults : g.K.Sink.faults l.sink ≡ g.K.Sink.faults l.fn.sink;
  tries : TriesOn (g.K.Sink.tried l.fn.sink) (g.K.Sink.tried l.sink);
  quiet : l.fn.output ≡ Checkpoint → (l.sink ≡ l.fn.sink) × (l.text.items ≡ []);
  held : IsHeld l.fn.output (spot l.fn.reader l.fn.runtime.state) (spot l.reader l.runtime.state) (g.K.Sink.told l.fn.sink) (g.K.Sink.told l.sink) l.text.items;
}

-- each turn leaves fewer bytes
abbrev pub decreases-turns : goal.decreases-turns
decreases-turns g l = length l.reader.rest
