use Rattle.std.proofs.Common.{◌≡◌, ◌∙◌, [], ◌∷◌, Option, None, ap, sym, length, rules, arith}
use Rattle.weight_book.specs.Weights.{Weights}
use Rattle.compact_solution.specs.Solution.{entries_of}
use Rattle.election_check.specs.declared.fault.Fault.{Fault}
use Rattle.election_check.specs.First.{answer_of, first_of}
use Rattle.election_check.specs.Packed.{expanded, entries_fault}
use Rattle.election_check.specs.Steps.{size_fault}
use Rattle.election_check.proofs.TakingLemmas.{alone, weights_are, members_few}
use Rattle.election_check.proofs.entries.fill_weights.Goals as goal

pub check_size-requires : goal.check_size-requires
check_size-requires c =
    let taken = c.in_ok-take_entries.ensures.taken in
    let new = c.push_members.new.weights.plain in
    let is : new ≡ expanded c.args.snapshot.now c.args.solution.now =
    weights_are c.args.snapshot.now (entries_of c.args.solution.now) c.take_entries.new.has_entry
    c.take_entries.new.stamps c.take_entries.new.weights new taken c.push_members.ensures.members
    c.push_members.ensures.edges in
    omega (arith, ap (λ (w : Weights). length w.committee) is, members_few c.args.snapshot.now (entries_of c.args.solution.now))

pub returns-clause-fault : goal.returns-clause-fault
returns-clause-fault c =
    let snapshot = c.args.snapshot.now in
    let new = c.push_members.new.weights.plain in
    let is : new ≡ expanded snapshot c.args.solution.now =
    weights_are snapshot (entries_of c.args.solution.now) c.take_entries.new.has_entry c.take_entries.new.stamps
    c.take_entries.new.weights new c.in_ok-take_entries.ensures.taken c.push_members.ensures.members
    c.push_members.ensures.edges in
    let sound : entries_fault snapshot [] (entries_of c.args.solution.now) ≡ None = c.in_ok-take_entries.ensures.taken.sound in
    c.check_size.ensures
    ∙ (ap (λ (w : Weights). answer_of (size_fault snapshot w)) is
    ∙ (ap answer_of (sym (alone (size_fault snapshot (expanded snapshot c.args.solution.now))))
    ∙ ap (λ (o : Option Fault). answer_of (first_of (o ∷ size_fault snapshot (expanded snapshot c.args.solution.now) ∷ []))) (sym sound)))

pub returns-clause-weights : goal.returns-clause-weights
returns-clause-weights c =
    let snapshot = c.args.snapshot.now in
    let new = c.push_members.new.weights.plain in
    let is : new ≡ expanded snapshot c.args.solution.now =
    weights_are snapshot (entries_of c.args.solution.now) c.take_entries.new.has_entry c.take_entries.new.stamps
    c.take_entries.new.weights new c.in_ok-take_entries.ensures.taken c.push_members.ensures.members
    c.push_members.ensures.edges in
    search (rules, is)
