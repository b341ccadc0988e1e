use Rattle.std.proofs.Common.{arith, sym, ◌∙◌}
use Rattle.seat_race.specs.Tables.{says}
use Rattle.seq_phragmen.proofs.RaiseLemmas.{no_burden}
use Rattle.seq_phragmen.proofs.race.Race.new.Goals as goal

pub returns : goal.returns
returns c = record {
  loads = c.in_ok-loads.ensures.zero;
  loads_size = c.in_ok-loads.ensures.count ∙ c.voter_count.ensures.count;
  lasts = c.in_ok-lasts.ensures.zero;
  lasts_size = c.in_ok-lasts.ensures.count ∙ c.voter_count-2.ensures.count;
  approvals = c.in_ok-approvals.ensures.approvals;
  approvals_size = c.in_ok-approvals.ensures.count;
  burdens = λ target h. c.in_ok-burdens.ensures.zero target ∙ sym (no_burden c.args.snapshot.now (says c.in_ok-loads.loads.items) c.in_ok-loads.ensures.zero target);
  burdens_size = c.in_ok-burdens.ensures.count ∙ c.target_count-targets.ensures.count;
  floors = λ target h f. omega (arith, c.in_ok-floors.ensures.zero target);
  floors_size = c.in_ok-floors.ensures.count ∙ c.target_count-targets.ensures.count;
  marks = c.in_ok-is_picked.ensures.none;
  marks_size = c.in_ok-is_picked.ensures.count ∙ c.target_count-targets.ensures.count;
  nominators_are = c.in_ok-nominators.ensures.nominators;
  nominators_size = c.in_ok-nominators.ensures.count;
}
