use Rattle.std.proofs.Common.{refl}
use Rattle.npos_base.proofs.laws.the_limits_are_these.Goals as goal

pub returns : goal.returns
returns c = record {
  nominations = refl;
  validators = refl;
  targets = refl;
  voters = refl;
  edges = refl;
  seats = refl;
  thresholds = refl;
  endowments = refl;
  solution_bytes = refl;
  rounds = refl;
  queued = refl;
  past_eras = refl;
  fraction = refl;
}
