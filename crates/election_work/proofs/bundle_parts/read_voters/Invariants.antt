use Rattle.scale_wire.specs.Composite.{items}
use Rattle.block_wire.specs.Bundles.{voter_form}
use Rattle.election_work.specs.Growing.{grown, WasRead}
use Rattle.election_work.proofs.bundle_parts.read_voters.Given as goal

-- as many voters as iterations were read and added
abbrev pub invariant-loop : goal.invariant-loop
invariant-loop l = WasRead (items voter_form l.counter) (grown l.initial.so_far) l.initial.here l.so_far l.here
