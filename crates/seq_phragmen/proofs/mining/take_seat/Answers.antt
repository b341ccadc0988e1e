use Rattle.std.proofs.Common.{rules, arith, ◌≡◌, ℕ, ◌*◌, ◌^◌, ◌<◌, true, ◌++◌, cond, List, Option, Some, None, length, set, map, reverse, refl, ap, sym, subst, ◌∙◌}
use Rattle.std.specs.List.{cons_option}
use Rattle.std.proofs.lemmas.List.{with_items_is}
use Rattle.std.specs.Vec.{with_items, with_item}
use Rattle.election_snapshot.specs.Snapshot.{Snapshot, nominates, total_stake}
use Rattle.weight_book.specs.Passing.{nominators}
use Rattle.seq_phragmen.specs.declared.race.Race.{Race}
use Rattle.seq_phragmen.specs.Mined.{seat_load, score, load_after, next_pick}
use Rattle.seat_race.specs.Tables.{says}
use Rattle.seq_phragmen.specs.Kept.{IsRunning, rise_of}
use Rattle.seat_race.specs.Picks.{less}
use Rattle.seat_race.proofs.PickLemmas.{less_orders, next_best_is}
use Rattle.seq_phragmen.proofs.PickLemmas.{AreRun, are_run, scores}
use Rattle.seq_phragmen.proofs.LoadLemmas.{load_low, score_most}
use Rattle.seq_phragmen.proofs.SeatLemmas.{carried_fits, score_found, next_found, floors_found, floors_told, refloored, running_more}
use Rattle.seq_phragmen.proofs.mining.take_seat.Goals as goal

pub lightest_outside-next-requires-clause-fits : goal.lightest_outside-next-requires-clause-fits
lightest_outside-next-requires-clause-fits c =
    let snapshot = c.args.snapshot.now in
    let race = c.args.race.now in
    let picks = reverse c.args.weights.now.plain.committee in
    let total : total_stake c.args.snapshot.now < 2 ^ 64 = search rules in
    λ target h. omega (
      arith,
      carried_fits snapshot picks race c.requires.state.after total target (omega (arith, h, c.requires.state.after.marks_size, ap length c.deref-3.ensures.value)),
      ap (λ ns. says ns target) c.deref.ensures.value,
      c.total.ensures.total,
    )

pub lightest_outside-next-requires-clause-floors : goal.lightest_outside-next-requires-clause-floors
lightest_outside-next-requires-clause-floors c =
    let snapshot = c.args.snapshot.now in
    let race = c.args.race.now in
    let picks = reverse c.args.weights.now.plain.committee in
    let whole : c.from-seat.result * 1048576 ≡ seat_load c.args.snapshot.now = search rules in
    floors_found snapshot picks race c.requires.state.after c.deref.result.now c.deref-2.result.now c.deref-3.result.now c.deref_mut.result.now (c.from-seat.result * 1048576)
    c.deref.ensures.value c.deref-2.ensures.value c.deref-3.ensures.value c.deref_mut.ensures.value whole

abbrev score_after : Snapshot → List ℕ → ℕ → ℕ
score_after snapshot picks target = score snapshot (load_after snapshot picks) target

pub raise_loads-requires-clause-score : goal.raise_loads-requires-clause-score
raise_loads-requires-clause-score c =
    let snapshot = c.args.snapshot.now in
    let race = c.args.race.now in
    let picks = reverse c.args.weights.now.plain.committee in
    let whole : c.from-seat.result * 1048576 ≡ seat_load c.args.snapshot.now = search rules in
    let in_range : c.in-Some.field-0.target < length c.args.snapshot.now.targets = search rules in
    let score : c.in-Some.field-0.score ≡ score_after c.args.snapshot.now (reverse c.args.weights.now.plain.committee) c.in-Some.field-0.target
    = c.in-Some.ensures.score
    ∙ score_found snapshot picks race c.requires.state.after c.deref.result.now c.deref-2.result.now
    (c.from-seat.result * 1048576) c.deref.ensures.value c.deref-2.ensures.value whole c.in-Some.field-0.target
    in_range in
    omega (arith, score, score_most snapshot picks c.in-Some.field-0.target)

pub raise_loads-requires-clause-none_falls : goal.raise_loads-requires-clause-none_falls
raise_loads-requires-clause-none_falls c =
    let snapshot = c.args.snapshot.now in
    let race = c.args.race.now in
    let picks = reverse c.args.weights.now.plain.committee in
    let whole : c.from-seat.result * 1048576 ≡ seat_load c.args.snapshot.now = search rules in
    let in_range : c.in-Some.field-0.target < length c.args.snapshot.now.targets = search rules in
    let score : c.in-Some.field-0.score ≡ score_after c.args.snapshot.now (reverse c.args.weights.now.plain.committee) c.in-Some.field-0.target
    = c.in-Some.ensures.score
    ∙ score_found snapshot picks race c.requires.state.after c.deref.result.now c.deref-2.result.now
    (c.from-seat.result * 1048576) c.deref.ensures.value c.deref-2.ensures.value whole c.in-Some.field-0.target
    in_range in
    let some : next_pick snapshot picks ≡ Some c.in-Some.field-0.target =
    sym (next_found snapshot picks race c.requires.state.after c.deref.result.now c.deref-2.result.now
    c.deref-3.result.now (c.from-seat.result * 1048576)
    c.deref.ensures.value c.deref-2.ensures.value c.deref-3.ensures.value whole)
    ∙ sym c.in-Some.ensures.lightest in
    let run = subst (AreRun snapshot) (sym c.requires.picks) (are_run snapshot (length c.args.weights.now.plain.committee)) in
    let pick = next_best_is (length snapshot.targets) less less_orders (scores snapshot) picks c.in-Some.field-0.target some in
    λ voter. omega (
      arith,
      ap (λ ns. says ns voter) c.deref_mut-2.ensures.value,
      c.requires.state.after.loads voter,
      score,
      load_low snapshot picks run voter c.in-Some.field-0.target in_range pick.is_outside,
    )

pub raise_loads-requires-clause-burdens : goal.raise_loads-requires-clause-burdens
raise_loads-requires-clause-burdens c = rw (c.deref_mut-4.ensures.value, c.deref_mut-2.ensures.value) c.requires.state.after.burdens

pub returns-in_default : goal.returns-in_default
returns-in_default c =
    let snapshot = c.args.snapshot.now in
    let race = c.args.race.now in
    let picks = reverse c.args.weights.now.plain.committee in
    let whole : c.from-seat.result * 1048576 ≡ seat_load c.args.snapshot.now = search rules in
    let none : next_pick snapshot picks ≡ None = sym (next_found snapshot picks race c.requires.state.after c.deref.result.now c.deref-2.result.now c.deref-3.result.now (c.from-seat.result * 1048576)
    c.deref.ensures.value c.deref-2.ensures.value c.deref-3.ensures.value whole)
    ∙ sym c.in_default.ensures.lightest in
    let floors_size : length c.lightest_outside-next.new.floors ≡ length race.floors.items = search rules in
    let floors_len : length c.lightest_outside-next.new.floors ≡ race.floors.len = search rules in
    let floors = floors_told snapshot picks race c.requires.state.after c.deref.result.now c.deref-2.result.now c.deref-3.result.now c.lightest_outside-next.new.floors (c.from-seat.result * 1048576)
    c.deref.ensures.value c.deref-2.ensures.value c.deref-3.ensures.value whole c.lightest_outside-next.ensures.floors in
    let next : Race = record {
      loads = race.loads;
      lasts = race.lasts;
      approvals = race.approvals;
      burdens = race.burdens;
      floors = with_items race.floors c.lightest_outside-next.new.floors;
      is_picked = race.is_picked;
      nominators = race.nominators;
    } in
    let after = refloored snapshot picks race c.requires.state.after next c.lightest_outside-next.new.floors refl refl refl refl refl refl
    (with_items_is race.floors c.lightest_outside-next.new.floors floors_len) floors floors_size in
    let state : IsRunning snapshot picks next c.args.weights.now c.args.rises.now.items = record {
      after = after;
      members = c.requires.state.members;
      edges = c.requires.state.edges;
      rises_are = c.requires.state.rises_are;
      room = c.requires.state.room;
    } in
    subst (λ (o : Option ℕ). IsRunning snapshot (cons_option o picks) next c.args.weights.now c.args.rises.now.items) (sym none) state

pub returns : goal.returns
returns c =
    let snapshot = c.args.snapshot.now in
    let race = c.args.race.now in
    let picks = reverse c.args.weights.now.plain.committee in
    let whole : c.from-seat.result * 1048576 ≡ seat_load c.args.snapshot.now = search rules in
    let in_range : c.in-Some.field-0.target < length c.args.snapshot.now.targets = search rules in
    let score : c.in-Some.field-0.score ≡ score_after c.args.snapshot.now (reverse c.args.weights.now.plain.committee) c.in-Some.field-0.target
    = c.in-Some.ensures.score
    ∙ score_found snapshot picks race c.requires.state.after c.deref.result.now c.deref-2.result.now
    (c.from-seat.result * 1048576) c.deref.ensures.value c.deref-2.ensures.value whole c.in-Some.field-0.target
    in_range in
    let some : next_pick snapshot picks ≡ Some c.in-Some.field-0.target =
    sym (next_found snapshot picks race c.requires.state.after c.deref.result.now c.deref-2.result.now
    c.deref-3.result.now (c.from-seat.result * 1048576)
    c.deref.ensures.value c.deref-2.ensures.value c.deref-3.ensures.value whole)
    ∙ sym c.in-Some.ensures.lightest in
    let floors_size : length c.lightest_outside-next.new.floors ≡ length race.floors.items = search rules in
    let floors_len : length c.lightest_outside-next.new.floors ≡ race.floors.len = search rules in
    let floors = floors_told snapshot picks race c.requires.state.after c.deref.result.now c.deref-2.result.now c.deref-3.result.now c.lightest_outside-next.new.floors (c.from-seat.result * 1048576)
    c.deref.ensures.value c.deref-2.ensures.value c.deref-3.ensures.value whole c.lightest_outside-next.ensures.floors in
    let run = subst (AreRun snapshot) (sym c.requires.picks) (are_run snapshot (length c.args.weights.now.plain.committee)) in
    let pick = next_best_is (length snapshot.targets) less less_orders (scores snapshot) picks c.in-Some.field-0.target some in
    let dropped : c.from-2.result ≡ c.in-Some.field-0.target = search rules in
    let loads : (voter : ℕ) → says c.raise_loads.new.loads voter ≡ cond (nominates snapshot voter c.in-Some.field-0.target) c.in-Some.field-0.score (says race.loads.items voter)
    = rw c.deref_mut-2.ensures.value at c.in_ok-raise_loads.ensures.loads in
    let lasts : (voter : ℕ) → says c.raise_loads.new.lasts voter ≡ cond (nominates snapshot voter c.in-Some.field-0.target) c.in-Some.field-0.target (says race.lasts.items voter)
    = rw c.deref_mut-3.ensures.value at c.in_ok-raise_loads.ensures.lasts in
    let noted : c.raise_loads.new.rises.items ≡ c.args.rises.now.items ++ map (rise_of (says race.loads.items) c.in-Some.field-0.target c.in-Some.field-0.score) c.of.result.now
    = rw c.deref_mut-2.ensures.value at c.in_ok-raise_loads.ensures.rises in
    let voters : c.of.result.now ≡ nominators snapshot c.in-Some.field-0.target = c.of.ensures ∙ c.requires.state.after.nominators_are c.in-Some.field-0.target in_range in
    let marked : c.from.result ≡ c.in-Some.field-0.target = search rules in
    let loads_size : length c.raise_loads.new.loads ≡ length race.loads.items = search rules in
    let loads_len : length c.raise_loads.new.loads ≡ race.loads.len = search rules in
    let lasts_size : length c.raise_loads.new.lasts ≡ length race.lasts.items = search rules in
    let lasts_len : length c.raise_loads.new.lasts ≡ race.lasts.len = search rules in
    let burdens_size : length c.raise_loads.new.burdens ≡ length race.burdens.items = search rules in
    let burdens_len : length c.raise_loads.new.burdens ≡ race.burdens.len = search rules in
    let next : Race = record {
      loads = with_items race.loads c.raise_loads.new.loads;
      lasts = with_items race.lasts c.raise_loads.new.lasts;
      approvals = race.approvals;
      burdens = with_items race.burdens c.raise_loads.new.burdens;
      floors = with_item (with_items race.floors c.lightest_outside-next.new.floors) c.from-2.result 18446744073709551615;
      is_picked = with_item race.is_picked c.from.result true;
      nominators = race.nominators;
    } in
    subst (λ (o : Option ℕ). IsRunning snapshot (cons_option o picks) next c.push_member.new.self c.raise_loads.new.rises.items) (sym some)
    (running_more snapshot picks race c.args.weights.now c.args.rises.now.items c.requires.state
    c.in-Some.field-0.target in_range next c.push_member.new.self c.raise_loads.new.rises.items
    c.in-Some.field-0.score
    c.raise_loads.new.loads c.raise_loads.new.lasts c.raise_loads.new.burdens c.lightest_outside-next.new.floors 18446744073709551615 (pick, run) score
    (with_items_is race.loads c.raise_loads.new.loads loads_len) (with_items_is race.lasts c.raise_loads.new.lasts lasts_len) (with_items_is race.burdens c.raise_loads.new.burdens burdens_len)
    loads loads_size lasts lasts_size c.in_ok-raise_loads.ensures.burdens burdens_size
    (ap (λ ns. set ns c.from-2.result 18446744073709551615)
    (with_items_is race.floors c.lightest_outside-next.new.floors floors_len)
    ∙ ap (λ n. set c.lightest_outside-next.new.floors n 18446744073709551615) dropped)
    floors floors_size refl (ap (λ n. set race.is_picked.items n true) marked) refl
    c.push_member.ensures.members c.push_member.ensures.edges c.push_member.ensures.room
    (noted ∙ ap (λ ns. c.args.rises.now.items ++ map (rise_of (says race.loads.items) c.in-Some.field-0.target c.in-Some.field-0.score) ns) voters))
