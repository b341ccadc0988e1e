use Rattle.std.proofs.Common.{◌≡◌, ◌+◌, ◌++◌, ◌∷◌, [], None, ◌∙◌, ap, sym, subst, take, get_or, false, List, arith}
use Rattle.std.proofs.lemmas.Result.{err_from_is_err_and}
use Rattle.std.proofs.lemmas.List.{take_all}
use Rattle.compact_solution.specs.Solution.{Entry, entries_of}
use Rattle.election_check.specs.First.{answer_of}
use Rattle.election_check.specs.Packed.{entry_fault, entries_fault}
use Rattle.election_check.specs.Taking.{AreTaken}
use Rattle.election_check.proofs.TakingLemmas.{no_error, an_error, stops_in, behind_sound, room_for, taken_more, group_more, this_group, groups_more, keeps_then}
use Rattle.election_check.proofs.entries.take_group.Goals as goal

pub take_entry-requires-clause-own : goal.take_entry-requires-clause-own
take_entry-requires-clause-own c =
    λ target same. c.loop-entry.invariant.taken.marked c.entry-item.result.voter ∙ c.loop-entry.invariant.taken.own target c.entry-item.result.voter same

pub returns-in_err-take_entry-clause-fault : goal.returns-in_err-take_entry-clause-fault
returns-in_err-take_entry-clause-fault c =
    let p = err_from_is_err_and c.from_residual.result c.from_residual.ensures.1 in
    let before = entries_of (take c.args.place c.args.solution.now) in
    let items = c.group-entry-items.result.now in
    let group_is : get_or c.args.solution.now c.args.place [] ≡ items = sym (this_group c.args.solution.now c.args.place items c.group-entry-items.ensures) in
    let entry = c.entry-item.result in
    let marked = c.loop-entry.invariant.taken.marked entry.voter in
    let faulty = an_error (entry_fault c.args.snapshot.now (get_or c.loop-entry.has_entry entry.voter false) entry)
    c.in_err-take_entry.field-0.0 (sym c.take_entry.ensures.fault ∙ c.in_err-take_entry.was) in
    let stops = stops_in c.args.snapshot.now before items c.loop-entry.entry-index entry c.in_err-take_entry.field-0.0 c.loop-entry-test.true c.entry-item.is c.loop-entry.invariant.taken.sound
    (ap (λ b. entry_fault c.args.snapshot.now b entry) (sym marked) ∙ faulty) in
    rw (p.1, p.2) (sym (ap (λ group. answer_of (entries_fault c.args.snapshot.now before group)) group_is ∙ ap answer_of stops))

pub take_entry-requires-clause-spare : goal.take_entry-requires-clause-spare
take_entry-requires-clause-spare c =
    let done = entries_of (take c.args.place c.args.solution.now) ++ take c.loop-entry.entry-index c.group-entry-items.result.now in
    λ fine. room_for c.args.snapshot.now done c.entry-item.result c.loop-entry.has_entry c.loop-entry.stamps c.loop-entry.weights c.loop-entry.invariant.taken fine

pub loop-entry-preserved : goal.loop-entry-preserved
loop-entry-preserved c =
    let before = entries_of (take c.args.place c.args.solution.now) in
    let items = c.group-entry-items.result.now in
    let done = before ++ take c.loop-entry.entry-index items in
    let entry = c.entry-item.result in
    let fine = no_error (entry_fault c.args.snapshot.now (get_or c.loop-entry.has_entry entry.voter false) entry) (sym c.take_entry.ensures.fault ∙ c.in_ok-take_entry.was) in
    let next : before ++ take (c.loop-entry.entry-index + 1) items ≡ done ++ entry ∷ [] =
    group_more before items c.loop-entry.entry-index entry c.loop-entry-test.true c.entry-item.is in
    let more = c.in_ok-take_entry.ensures.taken in
    record {
      taken = subst (λ (es : List Entry). AreTaken c.args.snapshot.now es c.take_entry.new.has_entry c.take_entry.new.stamps c.take_entry.new.weights) (sym next)
          (taken_more c.args.snapshot.now done entry c.loop-entry.has_entry c.loop-entry.stamps c.loop-entry.weights c.loop-entry.invariant.taken fine
          c.take_entry.new.has_entry c.take_entry.new.stamps c.take_entry.new.weights (omega arith)
          more.marked more.stamped more.edges more.members c.take_entry.ensures.room);
      room = keeps_then c.args.weights.now c.loop-entry.weights c.take_entry.new.weights c.loop-entry.invariant.room c.take_entry.ensures.room;
    }

pub returns-clause-fault : goal.returns-clause-fault
returns-clause-fault c =
    let before = entries_of (take c.args.place c.args.solution.now) in
    let items = c.group-entry-items.result.now in
    let group_is : get_or c.args.solution.now c.args.place [] ≡ items = sym (this_group c.args.solution.now c.args.place items c.group-entry-items.ensures) in
    let all : take c.loop-entry.entry-index items ≡ items = take_all c.loop-entry.entry-index items c.loop-entry-test.false in
    let none : entries_fault c.args.snapshot.now before items ≡ None =
    sym (behind_sound c.args.snapshot.now before items c.requires.taken.sound)
    ∙ (ap (λ (es : List Entry). entries_fault c.args.snapshot.now [] (before ++ es)) (sym all) ∙ c.loop-entry.invariant.taken.sound) in
    sym (ap (λ group. answer_of (entries_fault c.args.snapshot.now before group)) group_is ∙ ap answer_of none)

pub returns-clause-taken : goal.returns-clause-taken
returns-clause-taken c =
    let before = entries_of (take c.args.place c.args.solution.now) in
    let items = c.group-entry-items.result.now in
    let group_is : get_or c.args.solution.now c.args.place [] ≡ items = sym (this_group c.args.solution.now c.args.place items c.group-entry-items.ensures) in
    let all : take c.loop-entry.entry-index items ≡ items = take_all c.loop-entry.entry-index items c.loop-entry-test.false in
    let next : entries_of (take (c.args.place + 1) c.args.solution.now) ≡ before ++ take c.loop-entry.entry-index items =
    groups_more c.args.solution.now c.args.place c.requires.place ∙ ap (λ (es : List Entry). before ++ es) (group_is ∙ sym all) in
    subst (λ (es : List Entry). AreTaken c.args.snapshot.now es c.loop-entry.has_entry c.loop-entry.stamps c.loop-entry.weights) (sym next) c.loop-entry.invariant.taken
