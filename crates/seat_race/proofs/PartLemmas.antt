-- Rooms in one list: what each holds after one more item, and what they come to when all are full.
use Rattle.std.proofs.Common.{◌≡◌, ◌≢◌, ℕ, zero, suc, ◌+◌, ◌-◌, ◌^◌, ◌<◌, ◌≤◌, Bool, true, false, cond, List, [], ◌∷◌, ◌++◌, length}
use Rattle.std.proofs.Common.{take, drop, get_or, set, inl, inr, refl, ap, ap₂, sym, ◌∙◌, arith, slice_range, length-drop, length-append}
use Rattle.std.proofs.lemmas.Bool.{cases_eq, cases_lt, true≢false}
use Rattle.std.proofs.Math.ListN.{get_or-append}
use Rattle.std.proofs.Math.Seq.{get_or-append_seam}
use Rattle.std.proofs.lemmas.List.{get_or_default, get_or-take, length-take, drop-set-lt, drop-set-add, take-set-le, take_more_set, get_or-set_same, get_or-set_other, length-set}
use Rattle.election_snapshot.proofs.BallotLemmas.{cut_count, cut_voter}
use Rattle.election_snapshot.specs.Snapshot.{Snapshot, nominates}
use Rattle.weight_book.specs.Passing.{nominators}
use Rattle.seat_race.specs.Tables.{says, nominators_before, AreNominators}
use Rattle.seat_race.specs.Parts.{parted, ArePartings, held, AreRooms}
use Rattle.seat_race.proofs.NominatorLemmas.{nominates_in_range, nominators_more}

-- ---- parts
pub parted_count : (items starts : List ℕ) (count : ℕ) → length starts ≡ count + 1 → length (parted items starts) ≡ count
parted_count items [] count e = absurd (omega (arith, e))
parted_count items (start ∷ starts) count e = omega (arith, e, cut_count items start starts)

pub part_within : (items starts : List ℕ) (part : ℕ) → part < length (parted items starts) → part + 1 < length starts
part_within items [] part h = absurd (omega (arith, h))
part_within items (start ∷ starts) part h = omega (arith, h, cut_count items start starts)

pub part_is : (items starts : List ℕ) (part : ℕ) → part + 1 < length starts → get_or (parted items starts) part [] ≡ slice_range items (says starts part) (says starts (part + 1))
part_is items [] part h = absurd (omega (arith, h))
part_is items (start ∷ starts) part h = cut_voter items start starts part (omega (arith, h)) ∙ next starts part where
  next : (starts : List ℕ) (part : ℕ) → slice_range items (says (start ∷ starts) part) (says starts part) ≡ slice_range items (says (start ∷ starts) part) (says (start ∷ starts) (part + 1))
  next starts part = ap (λ n. slice_range items (says (start ∷ starts) part) (says (start ∷ starts) n)) (suc_is part) where
    suc_is : (n : ℕ) → suc n ≡ n + 1
    suc_is n = omega arith

-- ---- one item more
before_it : (items : List ℕ) (start end at item : ℕ) → start ≤ end → end ≤ at → slice_range (set items at item) start end ≡ slice_range items start end
before_it items start end at item h k =
    ap (λ n. take (end - start) (drop start (set items n item))) split
    ∙ ap (λ xs. take (end - start) xs) (drop-set-add start items (at - start) item)
    ∙ take-set-le (end - start) (drop start items) (at - start) item (omega (arith, h, k))
  where
    split : at ≡ start + (at - start)
    split = omega (arith, h, k)

behind_it : (items : List ℕ) (start end at item : ℕ) → at < start → slice_range (set items at item) start end ≡ slice_range items start end
behind_it items start end at item h = ap (λ xs. take (end - start) xs) (drop-set-lt start items at item h)

with_it : (items : List ℕ) (start at item : ℕ) → start ≤ at → at < length items → slice_range (set items at item) start (at + 1) ≡ slice_range items start at ++ item ∷ []
with_it items start at item h k =
    ap₂ (λ n m. take m (drop start (set items n item))) split one_more
    ∙ ap (λ xs. take ((at - start) + 1) xs) (drop-set-add start items (at - start) item)
    ∙ take_more_set (drop start items) (at - start) item (omega (arith, h, k, length-drop start items))
  where
    split : at ≡ start + (at - start)
    split = omega (arith, h)

    one_more : (at + 1) - start ≡ (at - start) + 1
    one_more = omega (arith, h)

module _ (items starts nexts : List ℕ) (rooms : AreRooms items starts nexts) (room item : ℕ) (there : room < length nexts) (free : says nexts room < says starts (room + 1)) where
  abbrev at : ℕ
  at = says nexts room

  abbrev items_then : List ℕ
  items_then = set items at item

  abbrev nexts_then : List ℕ
  nexts_then = set nexts room (at + 1)

  pub at_within : at < length items
  at_within = omega (arith, free, rooms.within, rooms.rise (room + 1) (length nexts) (omega (arith, there)) (omega arith))

  pub at_small : at + 1 < 2 ^ 32
  at_small = omega (arith, free, rooms.small, rooms.rise (room + 1) (length nexts) (omega (arith, there)) (omega arith))

  next_here : says nexts_then room ≡ at + 1
  next_here = get_or-set_same nexts room (at + 1) 0 there

  next_other : (other : ℕ) → other ≢ room → says nexts_then other ≡ says nexts other
  next_other other differ = get_or-set_other nexts room other (at + 1) 0 differ

  pub held_here : held items_then starts nexts_then room ≡ held items starts nexts room ++ item ∷ []
  held_here = ap (λ n. slice_range items_then (says starts room) n) next_here
      ∙ with_it items (says starts room) at item (rooms.begun room there) at_within

  pub held_other : (other : ℕ) → other < length nexts → other ≢ room → held items_then starts nexts_then other ≡ held items starts nexts other
  held_other other h differ = ap (λ n. slice_range items_then (says starts other) n) (next_other other differ) ∙ elim (cases_lt other room) [
    | inl lt ↦ before_it items (says starts other) (says nexts other) at item (rooms.begun other h)
        (omega (arith, rooms.ended other h, rooms.rise (other + 1) room (omega (arith, lt)) (omega (arith, there)), rooms.begun room there))
    | inr le ↦ behind_it items (says starts other) (says nexts other) at item
        (omega (arith, free, rooms.rise (room + 1) other (omega (arith, le, differ)) (omega (arith, h))))
  ]

  pub rooms_then : AreRooms items_then starts nexts_then
  rooms_then = record {
    starts_are = omega (arith, rooms.starts_are, same_count);
    rise = λ one other h k. rooms.rise one other h (omega (arith, k, same_count));
    within = omega (arith, rooms.within, length-set items at item, ap (λ n. says starts n) same_count);
    small = omega (arith, rooms.small, ap (λ n. says starts n) same_count);
    begun = λ other h. elim (cases_eq other room) [
      | inl same ↦ omega (arith, next_here, ap (λ n. says nexts_then n) same, ap (λ n. says starts n) same, rooms.begun room there)
      | inr differs ↦ omega (arith, next_other other differs, rooms.begun other (omega (arith, h, same_count)))
    ];
    ended = λ other h. elim (cases_eq other room) [
      | inl same ↦ omega (arith, next_here, ap (λ n. says nexts_then n) same, ap (λ n. says starts (n + 1)) same, free)
      | inr differs ↦ omega (arith, next_other other differs, rooms.ended other (omega (arith, h, same_count)))
    ];
  } where
    same_count : length nexts_then ≡ length nexts
    same_count = length-set nexts room (at + 1)

-- ---- rooms of these sizes
-- starts that lie so far apart
abbrev pub AreApart : List ℕ → List ℕ → ℕ → Type 0
AreApart starts sizes count = (room : ℕ) → room < count → says starts (room + 1) ≡ says starts room + says sizes room

pub rise_apart : (starts sizes : List ℕ) (count : ℕ) → AreApart starts sizes count → (one other : ℕ) → one ≤ other → other ≤ count → says starts one ≤ says starts other
rise_apart starts sizes count apart one zero h k = omega (arith, ap (λ n. says starts n) (zero_is one h)) where
  zero_is : (n : ℕ) → n ≤ zero → n ≡ zero
  zero_is n h = omega (arith, h)
rise_apart starts sizes count apart one (suc other) h k = elim (cases_eq one (suc other)) [
  | inl same ↦ omega (arith, ap (λ n. says starts n) same)
  | inr differs ↦ omega (arith, rise_apart starts sizes count apart one other (omega (arith, h, differs)) (omega (arith, k)), apart other (omega (arith, k)), ap (λ n. says starts n) (suc_is other))
] where
  suc_is : (n : ℕ) → suc n ≡ n + 1
  suc_is n = omega arith

pub empty_rooms : (items starts sizes nexts : List ℕ) → length starts ≡ length sizes + 1
    → AreApart starts sizes (length sizes) → length items ≡ says starts (length sizes)
    → says starts (length sizes) < 2 ^ 32
    → nexts ≡ take (length sizes) starts → AreRooms items starts nexts
empty_rooms items starts sizes nexts count apart full small are = record {
  starts_are = omega (arith, count, same_count);
  rise = λ one other h k. rise_apart starts sizes (length sizes) apart one other h (omega (arith, k, same_count));
  within = omega (arith, full, ap (λ n. says starts n) same_count);
  small = omega (arith, small, ap (λ n. says starts n) same_count);
  begun = λ room h. omega (arith, first room (omega (arith, h, same_count)));
  ended = λ room h. omega (arith, first room (omega (arith, h, same_count)), apart room (omega (arith, h, same_count)));
} where
  same_count : length nexts ≡ length sizes
  same_count = ap length are ∙ omega (arith, length-take (length sizes) starts, count)

  first : (room : ℕ) → room < length sizes → says nexts room ≡ says starts room
  first room h = ap (λ ns. says ns room) are ∙ get_or-take (length sizes) starts room 0 h

-- starts with one more
pub apart_more : (starts sizes : List ℕ) (count end next : ℕ) → length starts ≡ count + 1 → says starts count ≡ end → AreApart starts sizes count → next ≡ end + says sizes count
    → AreApart (starts ++ next ∷ []) sizes (count + 1)
apart_more starts sizes count end next long last apart is room h = elim (cases_eq room count) [
  | inl same ↦
      ap (λ n. says (starts ++ next ∷ []) (n + 1)) same ∙ ends_with ∙ is ∙ ap (λ n. n + says sizes count) (sym last ∙ sym (as_before count (omega (arith, long))))
      ∙ ap (λ n. says (starts ++ next ∷ []) n + says sizes n) (sym same)
  | inr differs ↦ as_before (room + 1) (omega (arith, long, h, differs)) ∙ apart room (omega (arith, h, differs)) ∙ ap (λ n. n + says sizes room) (sym (as_before room (omega (arith, long, h))))
] where
  as_before : (k : ℕ) → k < length starts → says (starts ++ next ∷ []) k ≡ says starts k
  as_before k l = get_or-append starts (next ∷ []) 0 k l

  ends_with : says (starts ++ next ∷ []) (count + 1) ≡ next
  ends_with = ap (λ n. says (starts ++ next ∷ []) n) (sym long) ∙ get_or-append_seam starts next [] 0

pub last_more : (starts : List ℕ) (count next : ℕ) → length starts ≡ count + 1 → says (starts ++ next ∷ []) (count + 1) ≡ next
last_more starts count next long = ap (λ n. says (starts ++ next ∷ []) n) (sym long) ∙ get_or-append_seam starts next [] 0

-- ---- the rooms of targets
held_count : (items starts nexts : List ℕ) (rooms : AreRooms items starts nexts) (room : ℕ) → room < length nexts → says starts room + length (held items starts nexts room) ≡ says nexts room
held_count items starts nexts rooms room h = omega (
  arith,
  rooms.begun room h,
  rooms.ended room h,
  rooms.within,
  rooms.rise (room + 1) (length nexts) (omega (arith, h)) (omega arith),
  length-take (says nexts room - says starts room) (drop (says starts room) items),
  length-drop (says starts room) items,
)

module _ (snapshot : Snapshot) (target : ℕ) where
  pub before_grows : (voter more : ℕ) → length (nominators_before snapshot target voter) ≤ length (nominators_before snapshot target (voter + more))
  before_grows voter zero = omega (arith, ap (λ n. length (nominators_before snapshot target n)) (none voter)) where
    none : (n : ℕ) → n + 0 ≡ n
    none n = omega arith
  before_grows voter (suc more) = omega (
    arith,
    before_grows voter more,
    ap (λ n. length (nominators_before snapshot target n)) (behind voter more),
    ap length (nominators_more snapshot target (voter + more)),
    length-append (nominators_before snapshot target (voter + more)) (cond (nominates snapshot (voter + more) target) ((voter + more) ∷ []) []),
  ) where
    behind : (voter more : ℕ) → voter + suc more ≡ (voter + more) + 1
    behind voter more = omega arith

  pub one_counted : (voter : ℕ) → length (nominators_before snapshot target (voter + 1)) ≡ length (nominators_before snapshot target voter) + cond (nominates snapshot voter target) 1 0
  one_counted voter = ap length (nominators_more snapshot target voter)
      ∙ length-append (nominators_before snapshot target voter) (cond (nominates snapshot voter target) (voter ∷ []) [])
      ∙ ap (λ n. length (nominators_before snapshot target voter) + n) (one (nominates snapshot voter target))
    where
      one : (b : Bool) → length (cond b (voter ∷ []) []) ≡ cond b 1 0
      one true = refl
      one false = refl

  one_if : (b : Bool) → b ≡ true → cond b (suc zero) zero ≡ suc zero
  one_if true t = refl
  one_if false t = absurd (true≢false (sym t))

  pub before_all : (voter : ℕ) → nominates snapshot voter target ≡ true → length (nominators_before snapshot target voter) < length (nominators snapshot target)
  before_all voter t = omega (
    arith,
    one_counted voter,
    one_if (nominates snapshot voter target) t,
    before_grows (voter + 1) (length snapshot.voters - (voter + 1)),
    ap (λ n. length (nominators_before snapshot target n)) (rest (nominates_in_range snapshot voter target t)),
  ) where
    rest : voter < length snapshot.voters → (voter + 1) + (length snapshot.voters - (voter + 1)) ≡ length snapshot.voters
    rest h = omega (arith, h)

  module _ (items starts nexts : List ℕ) (rooms : AreRooms items starts nexts) (h : target < length nexts)
      (size : says starts (target + 1) ≡ says starts target + length (nominators snapshot target)) where
    -- who nominates the target finds its room not full
    pub room_free : (voter : ℕ) → held items starts nexts target ≡ nominators_before snapshot target voter → nominates snapshot voter target ≡ true → says nexts target < says starts (target + 1)
    room_free voter so_far t = omega (arith, held_count items starts nexts rooms target h, ap length so_far, before_all voter t, size)

    -- a room that holds all nominators is full
    pub room_full : held items starts nexts target ≡ nominators snapshot target → says nexts target ≡ says starts (target + 1)
    room_full all = omega (arith, held_count items starts nexts rooms target h, ap length all, size)

-- full rooms are parts
pub parts_of : (items starts nexts : List ℕ) → AreRooms items starts nexts → ArePartings items starts
parts_of items starts nexts rooms part h = (
  rooms.rise part (part + 1) (omega arith) (omega (arith, h, rooms.starts_are)),
  omega (arith, rooms.within, rooms.rise (part + 1) (length nexts) (omega (arith, h, rooms.starts_are)) (omega arith)),
)

pub are_parted : (snapshot : Snapshot) (items starts nexts : List ℕ) → AreRooms items starts nexts → length nexts ≡ length snapshot.targets
    → ((target : ℕ) → target < length snapshot.targets → says nexts target ≡ says starts (target + 1))
    → ((target : ℕ) → target < length snapshot.targets → held items starts nexts target ≡ nominators snapshot target)
    → AreNominators snapshot (parted items starts)
are_parted snapshot items starts nexts rooms count full lists target h =
    part_is items starts target (omega (arith, h, count, rooms.starts_are))
    ∙ ap (λ n. slice_range items (says starts target) n) (sym (full target h))
    ∙ lists target h

pub part_rises : (items starts : List ℕ) (part : ℕ) → ArePartings items starts → part < length (parted items starts) → says starts part ≤ says starts (part + 1)
part_rises items starts part parts h = (parts part (part_within items starts part h)).0

-- what stands within a table is what it says
pub said : (table : List ℕ) (number value : ℕ) → number < length table → value ≡ get_or table number value → value ≡ says table number
said table number value h is = is ∙ get_or_default table number value 0 h

-- by these `nominators` goes on
pub ruleset part_steps = (at_within, at_small, rooms_then, held_here, held_other)
