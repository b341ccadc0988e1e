-- One seat more: the tables tell the next pick, and what it raises makes the tables after it.
use Rattle.std.proofs.Common.{◌≡◌, ℕ, suc, ◌+◌, ◌^◌, ◌<◌, ◌≤◌, Bool, true, false, cond, List, [], ◌∷◌, ◌++◌, length, get_or, set, map, reverse, inl, inr, ap, ap₂, sym, subst, ◌∙◌, arith}
use Rattle.std.proofs.lemmas.List.{length-set, get_or-set_same, get_or-set_other, reverse-append, reverse-reverse, length-reverse}
use Rattle.std.proofs.lemmas.Bool.{cases_eq, true≢false}
use Rattle.election_snapshot.specs.Snapshot.{Snapshot, IsWellFormed, nominates, total_stake}
use Rattle.weight_book.specs.Passing.{nominators}
use Rattle.weight_book.specs.Room.{WeightBook, KeepsRoom}
use Rattle.seq_phragmen.specs.declared.race.Race.{Race}
use Rattle.seq_phragmen.specs.declared.rise.Rise.{Rise}
use Rattle.seq_phragmen.specs.Mined.{greatest_score, seat_load, shared_load, score, load_after, next_pick, picked}
use Rattle.seat_race.specs.Tables.{says}
use Rattle.seq_phragmen.specs.Kept.{score_by, rise_of, rises_after, with_next, AreBurdens, AreFloors, IsAfter, IsRunning}
use Rattle.seat_race.specs.Picks.{less, first_best, outside}
use Rattle.seat_race.specs.Tables.{unmarked}
use Rattle.seat_race.proofs.PickLemmas.{all_picks, best_agree, few_picks, less_orders, outside_below}
use Rattle.seat_race.proofs.TableLemmas.{marked_more, unmarked_outside}
use Rattle.seq_phragmen.proofs.PickLemmas.{AreRun, scores}
use Rattle.seq_phragmen.proofs.LoadLemmas.{burden_fits, load_most, score_up}

module _ (snapshot : Snapshot) (picks : List ℕ) (race : Race) (after : IsAfter snapshot picks race) where
  loads_are : says race.loads.items ≡ load_after snapshot picks
  loads_are = λ i voter. after.loads voter i

  pub none_too_great : (voter : ℕ) → says race.loads.items voter ≤ greatest_score
  none_too_great voter = omega (arith, after.loads voter, load_most snapshot picks voter)

  pub carried_fits : total_stake snapshot < 2 ^ 64 → (target : ℕ) → target < length snapshot.targets → seat_load snapshot + says race.burdens.items target < 2 ^ 128
  carried_fits total target h = omega (arith, total, after.burdens target h, burden_fits snapshot (says race.loads.items) none_too_great target)

  pub scores_are : (target : ℕ) → target < length snapshot.targets → score_by (seat_load snapshot) race.burdens.items race.approvals.items target ≡ score snapshot (load_after snapshot picks) target
  scores_are target h = ap₂ (λ b a. shared_load (seat_load snapshot) b a) (after.burdens target h) (after.approvals target h)
      ∙ ap (λ (load : ℕ → ℕ). score snapshot load target) loads_are

  pub lightest_is_next : first_best less (score_by (seat_load snapshot) race.burdens.items race.approvals.items)
      (unmarked race.is_picked.items (length race.is_picked.items)) ≡ next_pick snapshot picks
  lightest_is_next =
      ap (λ n. first_best less value (unmarked race.is_picked.items n)) after.marks_size
      ∙ ap (first_best less value) (unmarked_outside race.is_picked.items picks (length snapshot.targets) after.marks)
      ∙ best_agree less value (score snapshot (load_after snapshot picks)) (outside (length snapshot.targets) picks) (λ n i. scores_are n (outside_below (length snapshot.targets) picks n i))
    where
      value : ℕ → ℕ
      value target = score_by (seat_load snapshot) race.burdens.items race.approvals.items target

  -- what a search by equal tables finds
  pub score_found : (burdens approvals : List ℕ) (seat : ℕ) → burdens ≡ race.burdens.items → approvals ≡ race.approvals.items → seat ≡ seat_load snapshot
      → (target : ℕ) → target < length snapshot.targets → score_by seat burdens approvals target ≡ score snapshot (load_after snapshot picks) target
  score_found burdens approvals seat burdens_are approvals_are whole target h = rw (burdens_are, approvals_are, whole) (scores_are target h)

  pub next_found : (burdens approvals : List ℕ) (marks : List Bool) (seat : ℕ) → burdens ≡ race.burdens.items
      → approvals ≡ race.approvals.items → marks ≡ race.is_picked.items → seat ≡ seat_load snapshot
      → first_best less (score_by seat burdens approvals) (unmarked marks (length marks)) ≡ next_pick snapshot picks
  next_found burdens approvals marks seat burdens_are approvals_are marks_are whole = rw (burdens_are, approvals_are, marks_are, whole) lightest_is_next

  pub floors_found : (burdens approvals : List ℕ) (marks : List Bool) (floors : List ℕ) (seat : ℕ) → burdens ≡ race.burdens.items → approvals ≡ race.approvals.items → marks ≡ race.is_picked.items
      → floors ≡ race.floors.items → seat ≡ seat_load snapshot → AreFloors (score_by seat burdens approvals) marks floors
  floors_found burdens approvals marks floors seat burdens_are approvals_are marks_are floors_are whole = rw (burdens_are, approvals_are, marks_are, floors_are, whole)
      (λ target h f. omega (arith, after.floors target h f, scores_are target (omega (arith, h, after.marks_size))))

  -- floors of the scores that the tables tell
  pub floors_told : (burdens approvals : List ℕ) (marks : List Bool) (floors : List ℕ) (seat : ℕ) → burdens ≡ race.burdens.items → approvals ≡ race.approvals.items → marks ≡ race.is_picked.items
      → seat ≡ seat_load snapshot → AreFloors (score_by seat burdens approvals) marks floors → AreFloors (score snapshot (load_after snapshot picks)) race.is_picked.items floors
  floors_told burdens approvals marks floors seat burdens_are approvals_are marks_are whole low target h f =
      omega (arith, told target h f, scores_are target (omega (arith, h, after.marks_size)))
    where
      told : AreFloors (score_by (seat_load snapshot) race.burdens.items race.approvals.items) race.is_picked.items floors
      told = rw (burdens_are, approvals_are, marks_are, whole) at low

  -- only the floors are others
  pub refloored : (next : Race) (floors : List ℕ)
      → next.loads ≡ race.loads → next.lasts ≡ race.lasts → next.approvals ≡ race.approvals → next.burdens ≡ race.burdens → next.is_picked ≡ race.is_picked → next.nominators ≡ race.nominators
      → next.floors.items ≡ floors → AreFloors (score snapshot (load_after snapshot picks)) race.is_picked.items floors → length floors ≡ length race.floors.items → IsAfter snapshot picks next
  refloored next floors loads lasts approvals burdens marks nominators floors_are low size = record {
    loads = λ voter. ap (λ v. says v.items voter) loads ∙ after.loads voter;
    loads_size = ap (λ v. length v.items) loads ∙ after.loads_size;
    lasts = λ voter. ap (λ v. says v.items voter) lasts ∙ after.lasts voter;
    lasts_size = ap (λ v. length v.items) lasts ∙ after.lasts_size;
    approvals = λ target h. ap (λ v. says v.items target) approvals ∙ after.approvals target h;
    approvals_size = ap (λ v. length v.items) approvals ∙ after.approvals_size;
    burdens = subst (λ v. AreBurdens snapshot v.items next.burdens.items) (sym loads) (subst (λ v. AreBurdens snapshot race.loads.items v.items) (sym burdens) after.burdens);
    burdens_size = ap (λ v. length v.items) burdens ∙ after.burdens_size;
    floors = subst (λ v. AreFloors (score snapshot (load_after snapshot picks)) v.items next.floors.items) (sym marks)
        (subst (λ (ns : List ℕ). AreFloors (score snapshot (load_after snapshot picks)) race.is_picked.items ns) (sym floors_are) low);
    floors_size = ap length floors_are ∙ size ∙ after.floors_size;
    marks = λ number. ap (λ v. get_or v.items number false) marks ∙ after.marks number;
    marks_size = ap (λ v. length v.items) marks ∙ after.marks_size;
    nominators_are = λ target h. ap (λ v. get_or v target []) nominators ∙ after.nominators_are target h;
    nominators_size = ap length nominators ∙ after.nominators_size;
  }

-- ---- one seat more
module _ (snapshot : Snapshot) (picks : List ℕ) (race : Race) (book : WeightBook) (rises : List Rise) (running : IsRunning snapshot picks race book rises)
    (target : ℕ) (in_range : target < length snapshot.targets) where
  -- scores only grow, and whatever stands at the pick is of no use any more
  floors_more : (floors : List ℕ) (top : ℕ) → AreRun snapshot (target ∷ picks) → AreFloors (score snapshot (load_after snapshot picks)) race.is_picked.items floors
      → AreFloors (score snapshot (load_after snapshot (target ∷ picks))) (set race.is_picked.items target true) (set floors target top)
  floors_more floors top run low other h f = elim (cases_eq target other) [
    | inl e ↦ absurd (true≢false (sym (ap (λ n. get_or (set race.is_picked.items n true) other false) e
        ∙ get_or-set_same race.is_picked.items other true false (omega (arith, in_range, e, running.after.marks_size))) ∙ f))
    | inr d ↦ omega (
      arith,
      get_or-set_other floors target other top 0 (λ e. d (sym e)),
      low other (omega (arith, h, length-set race.is_picked.items target true)) (sym (get_or-set_other race.is_picked.items target other true false (λ e. d (sym e))) ∙ f),
      score_up snapshot target picks run other,
    )
  ]

  pub running_more : (next : Race) (new : WeightBook) (more : List Rise) (height : ℕ) (loads_now lasts_now burdens_now floors_now : List ℕ) (top : ℕ)
      → AreRun snapshot (target ∷ picks)
      → height ≡ score snapshot (load_after snapshot picks) target
      → next.loads.items ≡ loads_now
      → next.lasts.items ≡ lasts_now
      → next.burdens.items ≡ burdens_now
      → ((voter : ℕ) → says loads_now voter ≡ cond (nominates snapshot voter target) height (says race.loads.items voter))
      → length loads_now ≡ length race.loads.items
      → ((voter : ℕ) → says lasts_now voter ≡ cond (nominates snapshot voter target) target (says race.lasts.items voter))
      → length lasts_now ≡ length race.lasts.items
      → AreBurdens snapshot loads_now burdens_now
      → length burdens_now ≡ length race.burdens.items
      → next.floors.items ≡ set floors_now target top
      → AreFloors (score snapshot (load_after snapshot picks)) race.is_picked.items floors_now
      → length floors_now ≡ length race.floors.items
      → next.approvals.items ≡ race.approvals.items
      → next.is_picked.items ≡ set race.is_picked.items target true
      → next.nominators ≡ race.nominators
      → new.plain.committee ≡ book.plain.committee ++ target ∷ []
      → new.plain.edges ≡ book.plain.edges
      → KeepsRoom book new
      → more ≡ rises ++ map (rise_of (says race.loads.items) target height) (nominators snapshot target)
      → IsRunning snapshot (target ∷ picks) next new more
  running_more next new more height loads_now lasts_now burdens_now floors_now top run height_is loads_is lasts_is
      burdens_is loads loads_size lasts lasts_size burdens burdens_size floors_are floors floors_size approvals_same
      marks nominators_same members edges room noted = record {
        after = record {
          loads = λ voter. ap (λ ns. says ns voter) loads_is ∙ loads voter ∙ ap₂ (λ a b. cond (nominates snapshot voter target) a b) height_is (running.after.loads voter);
          loads_size = ap length loads_is ∙ loads_size ∙ running.after.loads_size;
          lasts = λ voter. ap (λ ns. says ns voter) lasts_is ∙ lasts voter ∙ ap (λ n. cond (nominates snapshot voter target) target n) (running.after.lasts voter);
          lasts_size = ap length lasts_is ∙ lasts_size ∙ running.after.lasts_size;
          approvals = λ other h. ap (λ ns. says ns other) approvals_same ∙ running.after.approvals other h;
          approvals_size = ap length approvals_same ∙ running.after.approvals_size;
          burdens = subst (λ ns. AreBurdens snapshot ns next.burdens.items) (sym loads_is) (subst (λ ns. AreBurdens snapshot loads_now ns) (sym burdens_is) burdens);
          burdens_size = ap length burdens_is ∙ burdens_size ∙ running.after.burdens_size;
          floors = subst (λ (ms : List Bool). AreFloors (score snapshot (load_after snapshot (target ∷ picks))) ms next.floors.items) (sym marks)
              (subst (λ (ns : List ℕ). AreFloors (score snapshot (load_after snapshot (target ∷ picks)))
              (set race.is_picked.items target true) ns) (sym floors_are) (floors_more floors_now top run floors));
          floors_size = ap length floors_are ∙ length-set floors_now target top ∙ floors_size ∙ running.after.floors_size;
          marks = λ number. ap (λ ms. get_or ms number false) marks ∙ marked_more race.is_picked.items picks target running.after.marks (omega (arith, in_range, running.after.marks_size)) number;
          marks_size = ap length marks ∙ length-set race.is_picked.items target true ∙ running.after.marks_size;
          nominators_are = λ other h. ap (λ lists. get_or lists other []) nominators_same ∙ running.after.nominators_are other h;
          nominators_size = ap length nominators_same ∙ running.after.nominators_size;
        };
        members = members ∙ ap (λ ms. ms ++ target ∷ []) running.members ∙ sym (reverse-append (target ∷ []) picks);
        edges = edges ∙ running.edges;
        rises_are = noted ∙ ap₂ (λ rs (f : ℕ → ℕ). rs ++ map (rise_of f target height) (nominators snapshot target)) running.rises_are (loads_are snapshot picks race running.after)
            ∙ ap (λ n. rises_then n) height_is;
        room = record {
          members = omega (arith, running.room.members, room.members);
          edges = omega (arith, running.room.edges, room.edges);
        };
      } where
        rises_then : ℕ → List Rise
        rises_then n = rises_after snapshot picks ++ map (rise_of (load_after snapshot picks) target n) (nominators snapshot target)

-- ---- all seats
pub picks_are : (snapshot : Snapshot) (picks : List ℕ) (race : Race) (book : WeightBook) (rises : List Rise) → IsRunning snapshot picks race book rises → picks ≡ reverse book.plain.committee
picks_are snapshot picks race book rises running = sym (ap reverse running.members ∙ reverse-reverse picks)

pub seats_more : (snapshot : Snapshot) (count : ℕ) (race next : Race) (book new : WeightBook) (rises more : List Rise) → IsRunning snapshot (picked snapshot count) race book rises
    → IsRunning snapshot (with_next snapshot (reverse book.plain.committee)) next new more → IsRunning snapshot (picked snapshot (count + 1)) next new more
seats_more snapshot count race next book new rises more running then = subst (λ n. IsRunning snapshot (picked snapshot n) next new more) (one count)
    (subst (λ picks. IsRunning snapshot (with_next snapshot picks) next new more) (sym (picks_are snapshot (picked snapshot count) race book rises running)) then)
  where
    one : (n : ℕ) → suc n ≡ n + 1
    one n = omega arith

pub has_spare : (snapshot : Snapshot) (count : ℕ) (race : Race) (book : WeightBook) (rises : List Rise) → IsWellFormed snapshot → count < snapshot.seats
    → IsRunning snapshot (picked snapshot count) race book rises → 0 < book.member_spare
has_spare snapshot count race book rises formed h running = omega (
  arith,
  h,
  formed.targets_enough,
  running.room.members,
  ap length running.members,
  length-reverse (picked snapshot count),
  few_picks (length snapshot.targets) less less_orders (scores snapshot) count,
)

pub as_many : (snapshot : Snapshot) (count : ℕ) (race : Race) (book : WeightBook) (rises : List Rise) → IsWellFormed snapshot → count < snapshot.seats
    → IsRunning snapshot (picked snapshot count) race book rises → count ≡ length book.plain.committee
as_many snapshot count race book rises formed h running = sym (ap length running.members ∙ length-reverse (picked snapshot count)
    ∙ all_picks (length snapshot.targets) less less_orders (scores snapshot) count (omega (arith, h, formed.targets_enough)))
