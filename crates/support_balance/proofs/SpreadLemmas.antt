-- Notes of where slots go, and the edges that are spread by them.
use Rattle.std.proofs.Common.{◌≡◌, ℕ, ◌+◌, ◌-◌, ◌<◌, ◌≤◌, List, [], ◌∷◌, ◌++◌, length, take, drop, set, get_or, All, inl, inr, refl, ap, ap₂, sym, ◌∙◌, arith, append_assoc}
use Rattle.std.specs.List.{copy_within}
use Rattle.std.proofs.Math.Seq.{take-add}
use Rattle.std.proofs.lemmas.List.{drop-drop, drop-take, drop-set, drop_at, drop_more, get_or-drop, get_or_default, length-append}
use Rattle.std.proofs.lemmas.List.{length-drop, length-set, length-take-le, take-append-drop, take-append-le, take-set-le, take-take}
use Rattle.std.proofs.lemmas.List.Edits.{length-paste}
use Rattle.std.proofs.lemmas.List.Elements.{All-push}
use Rattle.std.proofs.lemmas.List.Quantifiers.{all_pairs_push}
use Rattle.std.proofs.lemmas.Bool.{cases_lt}
use Rattle.npos_base.specs.declared.figures.Edge.{Edge}
use Rattle.support_balance.specs.declared.laying.Joining.{Joining}
use Rattle.support_balance.specs.Slots.{AreNotes, slot_of, spread}

-- ---- from the front: what is laid out before the place of the last note
abbrev pub front : ℕ → List Joining → ℕ → List Edge → List Edge
front target [] done edges = []
front target (note ∷ notes) done edges = take (note.place - done) (drop done edges) ++ slot_of note.voter target ∷ front target notes note.place edges

-- the place of the last note
abbrev pub reached : List Joining → ℕ → ℕ
reached [] done = done
reached (note ∷ notes) done = reached notes note.place

pub spread_front : (target : ℕ) (notes : List Joining) (done : ℕ) (edges : List Edge)
    → spread target notes done edges ≡ front target notes done edges ++ drop (reached notes done) edges
spread_front target [] done edges = refl
spread_front target (note ∷ notes) done edges =
    let row = take (note.place - done) (drop done edges) in
    let slot = slot_of note.voter target in
    ap (λ es. row ++ slot ∷ es) (spread_front target notes note.place edges)
    ∙ sym (append_assoc row (slot ∷ front target notes note.place edges) (drop (reached notes note.place) edges))

pub front_push : (target : ℕ) (notes : List Joining) (note : Joining) (done : ℕ) (edges : List Edge)
    → front target (notes ++ note ∷ []) done edges
    ≡ (front target notes done edges ++ take (note.place - reached notes done) (drop (reached notes done) edges)) ++ slot_of note.voter target ∷ []
front_push target [] note done edges = refl
front_push target (first ∷ notes) note done edges =
    let row = take (first.place - done) (drop done edges) in
    let slot = slot_of first.voter target in
    let rest = front target notes first.place edges in
    let after = reached notes first.place in
    let more = take (note.place - after) (drop after edges) in
    let last = slot_of note.voter target ∷ [] in
    ap (λ es. row ++ slot ∷ es) (front_push target notes note first.place edges)
    ∙ sym (append_assoc row (slot ∷ (rest ++ more)) last)
    ∙ ap (λ es. es ++ last) (sym (append_assoc row (slot ∷ rest) more))

pub reached_push : (notes : List Joining) (note : Joining) (done : ℕ) → reached (notes ++ note ∷ []) done ≡ note.place
reached_push [] note done = refl
reached_push (first ∷ notes) note done = reached_push notes note first.place

-- a note more, at a place that none of the others is behind
pub notes_push : (edges : List Edge) (notes : List Joining) (note : Joining) (done : ℕ) → AreNotes edges notes → All (λ (other : Joining). other.place ≤ done) notes
    → done ≤ note.place → note.place ≤ length edges → AreNotes edges (notes ++ note ∷ []) × All (λ (other : Joining). other.place ≤ note.place) (notes ++ note ∷ [])
notes_push edges notes note done so passed ahead within = (
  record {
    rising = all_pairs_push (λ (one : Joining) (other : Joining). one.place ≤ other.place) notes note so.rising (λ k d h. omega (arith, passed k d h, ahead));
    within = All-push (λ (other : Joining). other.place ≤ length edges) notes note so.within within;
  },
  All-push (λ (other : Joining). other.place ≤ note.place) notes note (λ k d h. omega (arith, passed k d h, ahead)) (omega arith),
)

-- ---- from the back
-- edges in front of the first note stay in front
pub spread_later : (target : ℕ) (notes : List Joining) (place done : ℕ) (edges : List Edge) → place ≤ done → All (λ (note : Joining). done ≤ note.place) notes
    → spread target notes place edges ≡ take (done - place) (drop place edges) ++ spread target notes done edges
spread_later target [] place done edges up later =
    sym (take-append-drop (done - place) (drop place edges))
    ∙ ap (λ es. take (done - place) (drop place edges) ++ es) (drop-drop (done - place) place edges ∙ ap (λ n. drop n edges) (omega (arith, up)))
spread_later target (note ∷ notes) place done edges up later =
    let here : done ≤ note.place = later 0 note (omega arith) in
    let rest = slot_of note.voter target ∷ spread target notes note.place edges in
    let first = take (done - place) (drop place edges) in
    let sum : note.place - place ≡ (done - place) + (note.place - done) = omega (arith, up, here) in
    let next : drop (done - place) (drop place edges) ≡ drop done edges = drop-drop (done - place) place edges ∙ ap (λ n. drop n edges) (omega (arith, up)) in
    ap (λ es. es ++ rest) (ap (λ n. take n (drop place edges)) sum ∙ take-add (done - place) (note.place - done) (drop place edges) ∙ ap (λ es. first ++ take (note.place - done) es) next)
    ∙ append_assoc first (take (note.place - done) (drop done edges)) rest

-- the edges from `from` on stand where they belong, with the slots of all notes but the first ones
pub record IsSpreading (target : ℕ) (notes : List Joining) (old : List Edge) (left from : ℕ) (now : List Edge) : Type 0 where
  pub count : length now ≡ length old + length notes
  pub inside : from ≤ length old
  pub few : left ≤ length notes
  pub before : (k : ℕ) (d : Joining) → k < left → (get_or notes k d).place ≤ from
  pub behind : (k : ℕ) (d : Joining) → left ≤ k → k < length notes → from ≤ (get_or notes k d).place
  pub front : take from now ≡ take from old
  pub back : drop (from + left) now ≡ spread target (drop left notes) from old

pub all_spread : (target : ℕ) (notes : List Joining) (old : List Edge) (from : ℕ) (now : List Edge) → IsSpreading target notes old 0 from now → now ≡ spread target notes 0 old
all_spread target notes old from now so =
    sym (take-append-drop from now)
    ∙ ap₂ (λ xs ys. xs ++ ys) so.front (ap (λ n. drop n now) (omega arith) ∙ so.back)
    ∙ sym (spread_later target notes 0 from old (omega arith) (λ k d h. so.behind k d (omega arith) h) ∙ ap (λ n. take n old ++ spread target notes from old) whole)
  where
    whole : from - 0 ≡ from
    whole = omega arith

module _ (target : ℕ) (notes : List Joining) (old : List Edge) (are : AreNotes old notes) (left from : ℕ) (now : List Edge)
    (so : IsSpreading target notes old (left + 1) from now) (d : Joining) where
  abbrev note : Joining
  note = get_or notes left d

  abbrev slot : Edge
  slot = slot_of note.voter target

  abbrev moved : List Edge
  moved = copy_within now note.place from (note.place + left + 1)

  abbrev after : List Edge
  after = set moved (note.place + left) slot

  here : left < length notes
  here = omega (arith, so.few)

  up : note.place ≤ from
  up = so.before left d (omega arith)

  long : from - note.place ≤ length (drop note.place now)
  long = omega (arith, length-drop note.place now, so.count, so.inside)

  room : (note.place + left + 1) + (from - note.place) ≤ length now
  room = omega (arith, up, so.count, so.inside, so.few)

  moved_count : length moved ≡ length now
  moved_count = length-paste now (note.place + left + 1) (drop note.place now) (from - note.place) room long

  row : take (from - note.place) (drop note.place now) ≡ take (from - note.place) (drop note.place old)
  row =
      let whole : note.place + (from - note.place) ≡ from = omega (arith, up) in
      sym (drop-take note.place (from - note.place) now)
      ∙ ap (λ n. drop note.place (take n now)) whole
      ∙ ap (drop note.place) so.front
      ∙ ap (λ n. drop note.place (take n old)) (sym whole)
      ∙ drop-take note.place (from - note.place) old

  moved_front : take (note.place + left + 1) moved ≡ take (note.place + left + 1) now
  moved_front =
      let enough : note.place + left + 1 ≤ length (take (note.place + left + 1) now) = omega (arith, length-take-le (note.place + left + 1) now (omega (arith, room))) in
      let one = take (note.place + left + 1) now in
      let two = take (from - note.place) (drop note.place now) in
      let three = drop ((note.place + left + 1) + (from - note.place)) now in
      take-append-le (note.place + left + 1) (one ++ two) three (omega (arith, enough, length-append one two))
      ∙ take-append-le (note.place + left + 1) one two enough
      ∙ take-take (note.place + left + 1) (note.place + left + 1) now (omega arith)

  tail : drop (note.place + left + 1) moved ≡ take (from - note.place) (drop note.place old) ++ spread target (drop (left + 1) notes) from old
  tail =
      let one = take (note.place + left + 1) now in
      let two = take (from - note.place) (drop note.place now) in
      let three = drop ((note.place + left + 1) + (from - note.place)) now in
      ap (drop (note.place + left + 1)) (append_assoc one two three)
      ∙ drop_at one (two ++ three) (note.place + left + 1) (length-take-le (note.place + left + 1) now (omega (arith, room)))
      ∙ ap₂ (λ xs ys. xs ++ ys) row (ap (λ n. drop n now) (omega (arith, up)) ∙ so.back)

  later : All (λ (other : Joining). from ≤ other.place) (drop (left + 1) notes)
  later k e h = omega (
    arith,
    so.behind (left + 1 + k) e (omega arith) (omega (arith, h, length-drop (left + 1) notes)),
    ap (λ (other : Joining). other.place) (get_or-drop (left + 1) notes k e),
  )

  opened : spread target (drop left notes) note.place old ≡ slot ∷ (take (from - note.place) (drop note.place old) ++ spread target (drop (left + 1) notes) from old)
  opened =
      let none : note.place - note.place ≡ 0 = omega arith in
      ap (λ ns. spread target ns note.place old) (drop_more notes left d here)
      ∙ ap (λ n. take n (drop note.place old) ++ slot ∷ spread target (drop (left + 1) notes) note.place old) none
      ∙ ap (λ es. slot ∷ es) (spread_later target (drop (left + 1) notes) note.place from old up later)

  pub spread_more : IsSpreading target notes old left note.place after
  spread_more = record {
    count = length-set moved (note.place + left) slot ∙ moved_count ∙ so.count;
    inside = omega (arith, up, so.inside);
    few = omega (arith, so.few);
    before = λ k e h. omega (arith, are.rising k left e h here, same_place e);
    behind = λ k e a b. elim (cases_lt left k) [
      | inl l ↦ omega (arith, are.rising left k e l b, same_place e)
      | inr l ↦
          let same : left ≡ k = omega (arith, a, l) in
          omega (arith, same_place e, ap (λ n. (get_or notes n e).place) same)
    ];
    front = take-set-le note.place moved (note.place + left) slot (omega arith)
        ∙ sym (take-take note.place (note.place + left + 1) moved (omega arith))
        ∙ ap (take note.place) moved_front
        ∙ take-take note.place (note.place + left + 1) now (omega arith)
        ∙ sym (take-take note.place from now up)
        ∙ ap (take note.place) so.front
        ∙ take-take note.place from old up;
    back = drop-set moved (note.place + left) slot (omega (arith, moved_count, room))
        ∙ ap (λ es. slot ∷ es) tail
        ∙ sym opened;
  } where
    same_place : (e : Joining) → (get_or notes left e).place ≡ note.place
    same_place e = ap (λ (other : Joining). other.place) (get_or_default notes left e d here)
