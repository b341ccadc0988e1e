use Rattle.std.proofs.Common.{rules, ◌≡◌, ℕ, [], ◌++◌, length, ap, sym, ◌∙◌}
use Rattle.std.proofs.lemmas.List.{with_items_is}
use Rattle.seq_phragmen.specs.Mined.{picked, load_after}
use Rattle.seat_race.specs.Tables.{says}
use Rattle.seq_phragmen.specs.Kept.{last_after, gifts_of}
use Rattle.seq_phragmen.proofs.PickLemmas.{are_run}
use Rattle.seq_phragmen.proofs.GiftLemmas.{can_split, parts_enough, gifts_are}
use Rattle.seq_phragmen.proofs.mining.split.Goals as goal

pub take_parts-requires-clause-rises : goal.take_parts-requires-clause-rises
take_parts-requires-clause-rises c = let snapshot = c.args.snapshot.now in
    can_split snapshot (picked snapshot snapshot.seats) (are_run snapshot snapshot.seats) c.deref.result.now c.deref-2.result.now c.args.rises.now
    (λ voter. ap (λ ns. says ns voter) c.deref.ensures.value ∙ c.requires.race.loads voter) (λ voter. ap (λ ns. says ns voter) c.deref-2.ensures.value ∙ c.requires.race.lasts voter) c.requires.rises

pub take_parts-requires-clause-enough : goal.take_parts-requires-clause-enough
take_parts-requires-clause-enough c = let snapshot = c.args.snapshot.now in
    parts_enough snapshot (picked snapshot snapshot.seats) (are_run snapshot snapshot.seats) c.deref.result.now c.deref-2.result.now c.args.rises.now
    (λ voter. ap (λ ns. says ns voter) c.deref.ensures.value ∙ c.requires.race.loads voter) (λ voter. ap (λ ns. says ns voter) c.deref-2.ensures.value ∙ c.requires.race.lasts voter) c.requires.rises

pub list_edges-requires-clause-rises : goal.list_edges-requires-clause-rises
list_edges-requires-clause-rises c = let snapshot = c.args.snapshot.now in
    can_split snapshot (picked snapshot snapshot.seats) (are_run snapshot snapshot.seats) c.deref-3.result.now c.deref-4.result.now c.args.rises.now
    (λ voter. ap (λ ns. says ns voter) c.deref-3.ensures.value ∙ c.requires.race.loads voter) (λ voter. ap (λ ns. says ns voter) c.deref-4.ensures.value ∙ c.requires.race.lasts voter) c.requires.rises

pub returns : goal.returns
returns c = let snapshot = c.args.snapshot.now in
    let loads : (voter : ℕ) → says c.deref.result.now voter ≡ load_after c.args.snapshot.now (picked c.args.snapshot.now c.args.snapshot.now.seats) voter
    = λ voter. ap (λ ns. says ns voter) c.deref.ensures.value ∙ c.requires.race.loads voter in
    let lasts : (voter : ℕ) → says c.deref-2.result.now voter ≡ last_after c.args.snapshot.now (picked c.args.snapshot.now c.args.snapshot.now.seats) voter
    = λ voter. ap (λ ns. says ns voter) c.deref-2.ensures.value ∙ c.requires.race.lasts voter in
    let same_loads : c.deref-3.result.now ≡ c.deref.result.now = c.deref-3.ensures.value ∙ sym c.deref.ensures.value in
    let same_lasts : c.deref-4.result.now ≡ c.deref-2.result.now = c.deref-4.ensures.value ∙ sym c.deref-2.ensures.value in
    let left_len : length c.take_parts.new.left ≡ c.copy_from_slice.new.self.len = search rules in
    let same_left : c.deref-5.result.now ≡ c.take_parts.new.left = c.deref-5.ensures.value ∙ with_items_is c.copy_from_slice.new.self c.take_parts.new.left left_len in
    let empty : c.in_ok-edges.edges.items ≡ [] = c.in_ok-edges.ensures.items in
    c.in_ok-list_edges.ensures
    ∙ ap (λ es. es ++ gifts_of snapshot (says c.deref-3.result.now) (says c.deref-4.result.now) (says c.deref-5.result.now) c.args.rises.now) empty
    ∙ ap (λ ns. gifts_of snapshot (says ns) (says c.deref-4.result.now) (says c.deref-5.result.now) c.args.rises.now) same_loads
    ∙ ap (λ ns. gifts_of snapshot (says c.deref.result.now) (says ns) (says c.deref-5.result.now) c.args.rises.now) same_lasts
    ∙ ap (λ ns. gifts_of snapshot (says c.deref.result.now) (says c.deref-2.result.now) (says ns) c.args.rises.now) same_left
    ∙ gifts_are snapshot (picked snapshot snapshot.seats) (are_run snapshot snapshot.seats) c.deref.result.now c.deref-2.result.now c.args.rises.now loads lasts c.requires.rises
    c.take_parts.new.left c.take_parts.ensures
