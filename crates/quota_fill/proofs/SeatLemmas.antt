-- One seat more: the tables tell the next pick, and what it draws makes the tables after it.
use Rattle.std.proofs.Common.{◌≡◌, ℕ, suc, ◌+◌, ◌-◌, ◌<◌, true, false, List, [], ◌∷◌, ◌++◌, length, get_or, set, reverse, ap, ap₂, sym, subst, ◌∙◌, arith}
use Rattle.std.proofs.lemmas.List.{length-set, reverse-append, reverse-reverse, length-reverse}
use Rattle.npos_base.specs.declared.figures.Edge.{Edge}
use Rattle.election_snapshot.specs.Snapshot.{Snapshot, IsWellFormed}
use Rattle.weight_book.specs.Passing.{nominators}
use Rattle.weight_book.specs.Room.{WeightBook, KeepsRoom}
use Rattle.weight_book.proofs.SumLemmas.{sum_same}
use Rattle.quota_fill.specs.declared.race.Race.{Race}
use Rattle.seat_race.specs.Picks.{more, first_best, outside}
use Rattle.seat_race.specs.Tables.{says, unmarked, AreSums}
use Rattle.seat_race.proofs.PickLemmas.{best_agree, few_picks, more_orders, outside_below}
use Rattle.seat_race.proofs.TableLemmas.{marked_more, unmarked_outside}
use Rattle.quota_fill.specs.Backers.{AreBackers}
use Rattle.quota_fill.specs.Filled.{draw, left_after, backing, next_pick, picked}
use Rattle.quota_fill.specs.Kept.{draws_of, with_next, IsAfter, IsDrawn, IsFilling}

module _ (snapshot : Snapshot) (picks : List ℕ) (race : Race) (after : IsAfter snapshot picks race) where
  lefts : says race.left.items ≡ left_after snapshot picks
  lefts = λ i voter. after.left voter i

  backings_are : (target : ℕ) → target < length snapshot.targets → says race.backings.items target ≡ backing snapshot picks target
  backings_are target h = after.tables.sums target h ∙ sum_same (says race.left.items) (left_after snapshot picks) after.left (nominators snapshot target)

  pub best_is_next : first_best more (says race.backings.items) (unmarked race.is_picked.items (length race.is_picked.items)) ≡ next_pick snapshot picks
  best_is_next =
      ap (λ n. first_best more (says race.backings.items) (unmarked race.is_picked.items n)) after.marks_size
      ∙ ap (first_best more (says race.backings.items)) (unmarked_outside race.is_picked.items picks (length snapshot.targets) after.marks)
      ∙ best_agree more (says race.backings.items) (backing snapshot picks) (outside (length snapshot.targets) picks) (λ n i. backings_are n (outside_below (length snapshot.targets) picks n i))

-- ---- one seat more
module _ (snapshot : Snapshot) (picks : List ℕ) (race : Race) (book : WeightBook) (draws : List Edge) (filling : IsFilling snapshot picks race book draws)
    (target : ℕ) (in_range : target < length snapshot.targets) where
  pub filling_more : (next : Race) (new : WeightBook) (more : List Edge) (left_now backings_now : List ℕ)
      → next.left.items ≡ left_now
      → next.backings.items ≡ backings_now
      → IsDrawn snapshot target race.left.items left_now backings_now draws more
      → length left_now ≡ length race.left.items
      → length backings_now ≡ length race.backings.items
      → next.is_picked.items ≡ set race.is_picked.items target true
      → next.backers ≡ race.backers
      → new.plain.committee ≡ book.plain.committee ++ target ∷ []
      → new.plain.edges ≡ book.plain.edges
      → KeepsRoom book new
      → IsFilling snapshot (target ∷ picks) next new more
  filling_more next new more left_now backings_now left_is backings_is drawn left_size backings_size marks backers_same members edges room = record {
    after = record {
      left = λ voter. ap (λ ns. says ns voter) left_is ∙ drawn.left voter ∙ ap (λ (f : ℕ → ℕ). f voter - draw snapshot f target voter) (lefts snapshot picks race filling.after);
      tables = record {
        left_size = ap length left_is ∙ left_size ∙ filling.after.tables.left_size;
        backings_size = ap length backings_is ∙ backings_size ∙ filling.after.tables.backings_size;
        sums = subst (λ ns. AreSums snapshot ns next.backings.items) (sym left_is) (subst (λ ns. AreSums snapshot left_now ns) (sym backings_is) drawn.backings);
      };
      marks = λ number. ap (λ ms. get_or ms number false) marks ∙ marked_more race.is_picked.items picks target filling.after.marks (omega (arith, in_range, filling.after.marks_size)) number;
      marks_size = ap length marks ∙ length-set race.is_picked.items target true ∙ filling.after.marks_size;
      backers_are = subst (AreBackers snapshot) (sym backers_same) filling.after.backers_are;
    };
    members = members ∙ ap (λ ms. ms ++ target ∷ []) filling.members ∙ sym (reverse-append (target ∷ []) picks);
    edges = edges ∙ filling.edges;
    draws_are = drawn.draws ∙ ap₂ (λ es (f : ℕ → ℕ). es ++ draws_of snapshot f target (nominators snapshot target)) filling.draws_are (lefts snapshot picks race filling.after);
    room = record {
      members = omega (arith, filling.room.members, room.members);
      edges = omega (arith, filling.room.edges, room.edges);
    };
  }

-- ---- all seats
pub picks_are : (snapshot : Snapshot) (picks : List ℕ) (race : Race) (book : WeightBook) (draws : List Edge) → IsFilling snapshot picks race book draws → picks ≡ reverse book.plain.committee
picks_are snapshot picks race book draws filling = sym (ap reverse filling.members ∙ reverse-reverse picks)

pub seats_more : (snapshot : Snapshot) (count : ℕ) (race next : Race) (book new : WeightBook) (draws more : List Edge) → IsFilling snapshot (picked snapshot count) race book draws
    → IsFilling snapshot (with_next snapshot (reverse book.plain.committee)) next new more → IsFilling snapshot (picked snapshot (count + 1)) next new more
seats_more snapshot count race next book new draws more filling then = subst (λ n. IsFilling snapshot (picked snapshot n) next new more) (one count)
    (subst (λ picks. IsFilling snapshot (with_next snapshot picks) next new more) (sym (picks_are snapshot (picked snapshot count) race book draws filling)) then)
  where
    one : (n : ℕ) → suc n ≡ n + 1
    one n = omega arith

pub has_spare : (snapshot : Snapshot) (count : ℕ) (race : Race) (book : WeightBook) (draws : List Edge) → IsWellFormed snapshot → count < snapshot.seats
    → IsFilling snapshot (picked snapshot count) race book draws → 0 < book.member_spare
has_spare snapshot count race book draws formed h filling = omega (
  arith,
  h,
  formed.targets_enough,
  filling.room.members,
  ap length filling.members,
  length-reverse (picked snapshot count),
  few_picks (length snapshot.targets) more more_orders (backing snapshot) count,
)
