use Rattle.std.proofs.Common.{◌<◌, [], ◌∙◌, ap, sym, take, get_or, length, arith}
use Rattle.std.proofs.lemmas.Result.{err_from_is_err_and}
use Rattle.compact_solution.specs.Solution.{entries_of}
use Rattle.election_check.specs.First.{answer_of}
use Rattle.election_check.specs.Packed.{entries_fault}
use Rattle.election_check.proofs.TakingLemmas.{an_error, stops_at_group}
use Rattle.election_check.proofs.entries.take_entries.Goals as goal

pub returns-in_err-take_group-clause-fault : goal.returns-in_err-take_group-clause-fault
returns-in_err-take_group-clause-fault c =
    let p = err_from_is_err_and c.from_residual.result c.from_residual.ensures.1 in
    let solution = c.args.solution.now in
    let place = c.loop-place.place in
    let below : place < length solution = omega arith in
    let faulty = an_error (entries_fault c.args.snapshot.now (entries_of (take place solution))
    (get_or solution place [])) c.in_err-take_group.field-0.0 (sym c.take_group.ensures.fault
    ∙ c.in_err-take_group.was) in
    rw (p.1, p.2) (sym (ap answer_of (stops_at_group c.args.snapshot.now solution place c.in_err-take_group.field-0.0 below c.loop-place.invariant.taken.sound faulty)))
