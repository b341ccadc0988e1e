use Rattle.std.proofs.Common.{rules, ◌≡◌, ℕ, ◌<◌, true, Option, Some, None, length, set, reverse, refl, ap, sym, subst, ◌∙◌}
use Rattle.std.specs.List.{cons_option}
use Rattle.std.proofs.lemmas.List.{with_items_is}
use Rattle.std.specs.Vec.{with_items, with_item}
use Rattle.quota_fill.specs.declared.race.Race.{Race}
use Rattle.quota_fill.specs.Filled.{next_pick}
use Rattle.seat_race.specs.Picks.{more, first_best}
use Rattle.seat_race.specs.Tables.{says, unmarked}
use Rattle.quota_fill.specs.Kept.{IsFilling, IsDrawn}
use Rattle.quota_fill.proofs.SeatLemmas.{best_is_next, filling_more}
use Rattle.quota_fill.proofs.filling.fill_seat.Goals as goal

pub returns-in_default : goal.returns-in_default
returns-in_default c =
    let snapshot = c.args.snapshot.now in
    let race = c.args.race.now in
    let picks = reverse c.args.weights.now.plain.committee in
    let best : c.best_outside.result ≡ first_best more (says c.args.race.now.backings.items) (unmarked c.args.race.now.is_picked.items (length c.args.race.now.is_picked.items)) = search rules in
    let none : next_pick snapshot picks ≡ None = sym (best_is_next snapshot picks race c.requires.state.after) ∙ sym best ∙ c.in_default.is in
    subst (λ (o : Option ℕ). IsFilling snapshot (cons_option o picks) c.args.race.now c.args.weights.now c.args.draws.now.items) (sym none) c.requires.state

pub returns : goal.returns
returns c =
    let snapshot = c.args.snapshot.now in
    let race = c.args.race.now in
    let picks = reverse c.args.weights.now.plain.committee in
    let best : c.best_outside.result ≡ first_best more (says c.args.race.now.backings.items) (unmarked c.args.race.now.is_picked.items (length c.args.race.now.is_picked.items)) = search rules in
    let some : next_pick snapshot picks ≡ Some c.in-Some.target = sym (best_is_next snapshot picks race c.requires.state.after) ∙ sym best ∙ c.in-Some.is in
    let in_range : c.in-Some.target < length c.args.snapshot.now.targets = search rules in
    let drawn : IsDrawn snapshot c.in-Some.target race.left.items c.draw_from_all.new.left c.draw_from_all.new.backings c.args.draws.now.items c.draw_from_all.new.draws.items
    = rw c.deref_mut.ensures.value at c.in_ok-draw_from_all.ensures in
    let marked : c.from.result ≡ c.in-Some.target = search rules in
    let left_size : length c.draw_from_all.new.left ≡ length race.left.items = search rules in
    let left_len : length c.draw_from_all.new.left ≡ race.left.len = search rules in
    let backings_size : length c.draw_from_all.new.backings ≡ length race.backings.items = search rules in
    let backings_len : length c.draw_from_all.new.backings ≡ race.backings.len = search rules in
    let next : Race = record {
      left = with_items race.left c.draw_from_all.new.left;
      backings = with_items race.backings c.draw_from_all.new.backings;
      is_picked = with_item race.is_picked c.from.result true;
      backers = race.backers;
    } in
    subst (λ (o : Option ℕ). IsFilling snapshot (cons_option o picks) next c.push_member.new.self c.draw_from_all.new.draws.items) (sym some)
    (filling_more snapshot picks race c.args.weights.now c.args.draws.now.items c.requires.state c.in-Some.target in_range next c.push_member.new.self c.draw_from_all.new.draws.items
    c.draw_from_all.new.left c.draw_from_all.new.backings (with_items_is race.left c.draw_from_all.new.left left_len) (with_items_is race.backings c.draw_from_all.new.backings backings_len)
    drawn left_size backings_size (ap (λ n. set race.is_picked.items n true) marked) refl
    c.push_member.ensures.members c.push_member.ensures.edges c.push_member.ensures.room)
