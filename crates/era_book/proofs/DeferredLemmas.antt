-- The slashes that wait stay in line, and which of them is found and taken out.
use Rattle.std.proofs.Common.{◌≡◌, ◌≢◌, ℕ, zero, suc, ◌+◌, ◌<◌, ◌≤◌, Bool, true, false, not, cond, nat_eq, nat_lt}
use Rattle.std.proofs.Common.{nat_le, List, [], ◌∷◌, ◌++◌, length, length-append, map, filter, find, get_or, slice_get}
use Rattle.std.proofs.Common.{remove, position, sum_by, All, AllPairs, Option, Some, None, refl, ap, sym, ◌∙◌, arith}
use Rattle.std.specs.List.{list_any, position_or_len, IsDistinct, AllByRecursion}
use Rattle.std.specs.Option.{option_map_or}
use Rattle.std.proofs.lemmas.Bool.Decides.{nat_tests}
use Rattle.std.proofs.lemmas.List.Elements.{All-head, All-tail, All-push, All-filter, All-weaker}
use Rattle.std.proofs.lemmas.List.Filters.{length-filter_both, sum_by-filter_both}
use Rattle.std.proofs.lemmas.List.Folds.{list_any_none, list_any_at}
use Rattle.std.proofs.lemmas.List.Kept.{AllPairs-filter}
use Rattle.std.proofs.lemmas.List.Quantifiers.{all_pairs_push, position-Some}
use Rattle.std.proofs.lemmas.List.Sums.{fails_before_first, sum_by-cons, sum_by-append}
use Rattle.npos_base.specs.declared.account.AccountId.{AccountId}
use Rattle.npos_base.specs.Account.{same_account}
use Rattle.npos_base.proofs.NumberTests.{number_same, number_tie, number_test}
use Rattle.era_book.specs.declared.deferred.DeferredSlash.{DeferredSlash}
use Rattle.era_book.specs.declared.deferred.TheConstants.{MOST_SLASHES}
use Rattle.era_book.specs.declared.exposure.Backer.{Backer}
use Rattle.era_book.specs.declared.refusal.EraRefusal.TheVariants.{NoSlash, TooManySlashes}
use Rattle.era_book.specs.Exposures.{amount_for, AreApart}
use Rattle.era_book.specs.Payouts.{line}
use Rattle.era_book.specs.Slashes.{due, slash_lines}
use Rattle.era_book.specs.Eras.{Eras}
use Rattle.era_book.specs.Deferred.{has_number, without, queue_refusal, queueing, IsQueueable, cancel_refusal, next_due, without_slash, AreInLine, AreQueued}
use Rattle.era_book.specs.Events.{Event, Started, Pointed, Paid, Reported, Queued, Cancelled, Taken, IsAccepted, after, waiting_for, queues, takes}
use Rattle.era_book.specs.Laws.{WaitingLaw}

-- ---- one element of a list
-- the only element that passes is taken out where the others are kept
keeps_all : {X : Type 0} (p : X → Bool) (xs : List X) → All (λ x. p x ≡ false) xs → filter (λ x. not (p x)) xs ≡ xs
keeps_all p [] all = refl
keeps_all p (x ∷ xs) all =
    let here : p x ≡ false = All-head (λ y. p y ≡ false) x xs all in
    ap (λ b. cond (not b) (x ∷ filter (λ y. not (p y)) xs) (filter (λ y. not (p y)) xs)) here
    ∙ ap (λ ys. x ∷ ys) (keeps_all p xs (All-tail (λ y. p y ≡ false) x xs all))

remove_only : {X : Type 0} (p : X → Bool) (xs : List X) (i : ℕ) (d : X) → i < length xs → p (get_or xs i d) ≡ true
    → ((k : ℕ) → k < length xs → k ≢ i → p (get_or xs k d) ≡ false) → remove xs i ≡ filter (λ x. not (p x)) xs
remove_only p [] i d within passes others = absurd (omega (arith, within))
remove_only {X = X} p (x ∷ xs) zero d within passes others =
    sym (ap (λ b. cond (not b) (x ∷ filter (λ y. not (p y)) xs) (filter (λ y. not (p y)) xs)) passes
    ∙ keeps_all p xs (λ k e below. rest k e below)) where
      rest : (k : ℕ) (e : X) → k < length xs → p (get_or xs k e) ≡ false
      rest k e below = ap p (same k xs below) ∙ others (suc k) (omega (arith, below)) (omega arith) where
        same : (j : ℕ) (ys : List X) → j < length ys → get_or ys j e ≡ get_or ys j d
        same j [] less = absurd (omega (arith, less))
        same zero (y ∷ ys) less = refl
        same (suc j) (y ∷ ys) less = same j ys (omega (arith, less))
remove_only p (x ∷ xs) (suc i) d within passes others =
    let here : p x ≡ false = others zero (omega (arith, within)) (omega arith) in
    ap (λ ys. x ∷ ys) (remove_only p xs i d (omega (arith, within)) passes (λ k below apart. others (suc k) (omega (arith, below)) (λ same. apart (omega (arith, same)))))
    ∙ sym (ap (λ b. cond (not b) (x ∷ filter (λ y. not (p y)) xs) (filter (λ y. not (p y)) xs)) here)

-- nothing passes where no place is found
none_found : {X : Type 0} (p : X → Bool) (xs : List X) → position p xs ≡ None → list_any p xs ≡ false
none_found p xs none = list_any_none p xs (λ k d within. fails_before_first p xs k d (before k within)) where
  behind : (b : Bool) → nat_lt (position_or_len p xs) (length xs) ≡ b → cond b (Some (position_or_len p xs)) None ≡ None → length xs ≤ position_or_len p xs
  behind true e found = absurd (cc)
  behind false e found = grind (arith, nat_tests)

  before : (k : ℕ) → k < length xs → k < position_or_len p xs
  before k within = omega (arith, within, behind (nat_lt (position_or_len p xs) (length xs)) refl none)

some_found : {X : Type 0} (p : X → Bool) (xs : List X) (i : ℕ) (d : X) → position p xs ≡ Some i → list_any p xs ≡ true
some_found p xs i d found = let at = position-Some p xs i d found in list_any_at p xs i d at.0 at.1

-- ---- the slash of a number
others_apart : (slashes : List DeferredSlash) (i : ℕ) (d : DeferredSlash) (number : ℕ) → AllPairs (λ first later. first.number < later.number) slashes → i < length slashes
    → (get_or slashes i d).number ≡ number → (k : ℕ) → k < length slashes → k ≢ i → has_number number (get_or slashes k d) ≡ false
others_apart slashes i d number rise within is k below apart = number_test (get_or slashes k d).number number differ where
  differ : (get_or slashes k d).number ≢ number
  differ = at (nat_lt k i) refl where
    at : (b : Bool) → nat_lt k i ≡ b → (get_or slashes k d).number ≢ number
    at true e = let less : k < i = grind (arith, nat_tests) in λ same. absurd (omega (arith, rise k i d less within, same, is))
    at false e = let more : i < k = grind (arith, nat_tests, apart) in λ same. absurd (omega (arith, rise i k d more below, same, is))

pub left_out : (number : ℕ) (slashes : List DeferredSlash) (place : ℕ) → AllPairs (λ first later. first.number < later.number) slashes
    → position (has_number number) slashes ≡ Some place → remove slashes place ≡ without number slashes
left_out number slashes place rise found =
    let d : DeferredSlash = record { number = 0; due = 0; lines = [] } in
    let at = position-Some (has_number number) slashes place d found in
    remove_only (has_number number) slashes place d at.0 at.1
    (others_apart slashes place d number rise at.0 (number_tie (get_or slashes place d).number number at.1))

pub none_cancelled : (number : ℕ) (eras : Eras) → position (has_number number) eras.queue ≡ None → cancel_refusal number eras ≡ Some NoSlash
none_cancelled number eras none = ap (λ b. cond b None (Some NoSlash)) (none_found (has_number number) eras.queue none)

pub one_cancelled : (number : ℕ) (eras : Eras) (place : ℕ) → position (has_number number) eras.queue ≡ Some place → cancel_refusal number eras ≡ None
one_cancelled number eras place found =
    ap (λ b. cond b None (Some NoSlash)) (some_found (has_number number) eras.queue place (record { number = 0; due = 0; lines = [] }) found)

-- ---- the slash that is due next
pub none_due : (current : ℕ) (first : DeferredSlash) (slashes : List DeferredSlash) → AllPairs (λ first later. first.due ≤ later.due) slashes
    → slice_get slashes 0 ≡ Some first → current < first.due → find (λ slash. nat_le slash.due current) slashes ≡ None
none_due current first [] rise is later = absurd (cc)
none_due current first (slash ∷ slashes) rise is later = none (slash ∷ slashes) (λ k d within. over k d within) where
  same : slash ≡ first
  same = cc

  over : (k : ℕ) (d : DeferredSlash) → k < length (slash ∷ slashes) → current < (get_or (slash ∷ slashes) k d).due
  over zero d within = omega (arith, later, ap (λ (s : DeferredSlash). s.due) same)
  over (suc k) d within = omega (arith, later, ap (λ (s : DeferredSlash). s.due) same, rise zero (suc k) d (omega arith) within)

  none : (xs : List DeferredSlash) → All (λ s. current < s.due) xs → find (λ s. nat_le s.due current) xs ≡ None
  none [] all = refl
  none (x ∷ xs) all =
      ap (λ b. cond b (Some x) (find (λ s. nat_le s.due current) xs)) (not_yet (All-head (λ (s : DeferredSlash). current < s.due) x xs all))
      ∙ none xs (All-tail (λ (s : DeferredSlash). current < s.due) x xs all) where
        not_yet : current < x.due → nat_le x.due current ≡ false
        not_yet h = grind (arith, nat_tests)

pub first_due : (current : ℕ) (first : DeferredSlash) (slashes : List DeferredSlash) → slice_get slashes 0 ≡ Some first → first.due ≤ current
    → find (λ slash. nat_le slash.due current) slashes ≡ Some first
first_due current first [] is begun = absurd (cc)
first_due current first (slash ∷ slashes) is begun = ap (λ b. cond b (Some slash) (find (λ s. nat_le s.due current) slashes)) here ∙ is where
  same : slash ≡ first
  same = cc

  here : nat_le slash.due current ≡ true
  here = let now : slash.due ≤ current = omega (arith, begun, ap (λ (s : DeferredSlash). s.due) same) in grind (arith, nat_tests)

pub first_leaves : (current : ℕ) (first : DeferredSlash) (slashes : List DeferredSlash) → AllPairs (λ first later. first.number < later.number) slashes
    → slice_get slashes 0 ≡ Some first → first.due ≤ current
    → remove slashes 0 ≡ without_slash (find (λ slash. nat_le slash.due current) slashes) slashes
first_leaves current first [] rise is begun = absurd (cc)
first_leaves current first (slash ∷ slashes) rise is begun =
    remove_only (has_number first.number) (slash ∷ slashes) zero first (omega arith) (ap (λ (s : DeferredSlash). nat_eq s.number first.number) same ∙ number_same first.number)
    (others_apart (slash ∷ slashes) zero first first.number rise (omega arith) (ap (λ (s : DeferredSlash). s.number) same))
    ∙ ap (λ found. without_slash found (slash ∷ slashes)) (sym (first_due current first (slash ∷ slashes) is begun)) where
      same : slash ≡ first
      same = cc

-- ---- what waits stays in line
pub line_without : (number : ℕ) (slashes : List DeferredSlash) (next : ℕ) → AreInLine slashes next → AreInLine (without number slashes) next
line_without number slashes next line =
    let kept : DeferredSlash → Bool = λ slash. not (has_number number slash) in
    record {
      numbers = AllPairs-filter (λ first later. first.number < later.number) kept slashes line.numbers;
      given = All-filter kept (λ slash. slash.number < next) slashes line.given;
      dues = AllPairs-filter (λ first later. first.due ≤ later.due) kept slashes line.dues;
      most = omega (arith, line.most, length-filter_both kept (λ slash. not (kept slash)) (λ slash. refl) slashes);
      distinct = All-filter kept (λ slash. AreApart slash.lines) slashes line.distinct;
    }

line_push : (eras : Eras) (due : ℕ) (lines : List Backer) → queue_refusal eras ≡ None → IsQueueable due lines eras → AreQueued eras → AreQueued (queueing due lines eras)
line_push eras due lines room ok line =
    let slash : DeferredSlash = record { number = eras.next_slash; due = due; lines = lines } in
    record {
      numbers = all_pairs_push (λ first later. first.number < later.number) eras.queue slash line.numbers line.given;
      given =
          All-push (λ s. s.number < eras.next_slash + 1) eras.queue slash
          (All-weaker (λ (s : DeferredSlash). s.number < eras.next_slash) (λ s. s.number < eras.next_slash + 1) (λ s below. omega (arith, below)) eras.queue line.given) (omega arith);
      dues = all_pairs_push (λ first later. first.due ≤ later.due) eras.queue slash line.dues ok.last;
      most = at (nat_lt (length eras.queue) MOST_SLASHES) refl room;
      distinct = All-push (λ s. AreApart s.lines) eras.queue slash line.distinct ok.distinct;
    } where
      at : (b : Bool) → nat_lt (length eras.queue) MOST_SLASHES ≡ b → cond b None (Some TooManySlashes) ≡ None
          → length (eras.queue ++ record { number = eras.next_slash; due = due; lines = lines } ∷ []) ≤ MOST_SLASHES
      at true e free =
          let less : length eras.queue < MOST_SLASHES = grind (arith, nat_tests) in
          omega (arith, less, length-append eras.queue (record { number = eras.next_slash; due = due; lines = lines } ∷ []))
      at false e free = absurd (cc)

line_taken : (found : Option DeferredSlash) (slashes : List DeferredSlash) (next : ℕ) → AreInLine slashes next → AreInLine (without_slash found slashes) next
line_taken None slashes next line = line
line_taken (Some slash) slashes next line = line_without slash.number slashes next line

-- whatever happens to the eras
pub queued_after : (event : Event) (eras : Eras) → IsAccepted event eras → AreQueued eras → AreQueued (after event eras)
queued_after (Started exposures) eras ok line = line
queued_after (Pointed items) eras ok line = line
queued_after (Paid era who) eras ok line = line
queued_after (Reported era who fraction) eras ok line = line
queued_after (Queued due lines) eras ok line = line_push eras due lines ok.0 ok.1 line
queued_after (Cancelled number) eras ok line = line_without number eras.queue eras.next_slash line
queued_after Taken eras ok line = line_taken (next_due eras) eras.queue eras.next_slash line

-- ---- what waits for one account
less_kept : (f : DeferredSlash → ℕ) (p : DeferredSlash → Bool) (slashes : List DeferredSlash) → sum_by f (filter p slashes) ≤ sum_by f slashes
less_kept f p slashes = omega (arith, sum_by-filter_both p (λ slash. not (p slash)) (λ slash. refl) f slashes)

-- a slash that is found is counted, and waits no more
found_counts : (f : DeferredSlash → ℕ) (p : DeferredSlash → Bool) (slashes : List DeferredSlash) (slash : DeferredSlash) → find p slashes ≡ Some slash
    → f slash + sum_by f (without slash.number slashes) ≤ sum_by f slashes
found_counts f p [] slash found = absurd (cc)
found_counts f p (first ∷ slashes) slash found = at (p first) found (found_counts f p slashes slash) where
  kept : DeferredSlash → Bool
  kept = λ other. not (has_number slash.number other)

  here : first ≡ slash → has_number slash.number first ≡ true
  here same = ap (λ (s : DeferredSlash). nat_eq s.number slash.number) same ∙ number_same slash.number

  one : (b : Bool) → sum_by f (cond b (first ∷ filter kept slashes) (filter kept slashes)) ≤ f first + sum_by f (filter kept slashes)
  one true = omega (arith, sum_by-cons f first (filter kept slashes))
  one false = omega arith

  at : (b : Bool) → cond b (Some first) (find p slashes) ≡ Some slash → (find p slashes ≡ Some slash → f slash + sum_by f (filter kept slashes) ≤ sum_by f slashes)
      → f slash + sum_by f (cond (kept first) (first ∷ filter kept slashes) (filter kept slashes)) ≤ sum_by f (first ∷ slashes)
  at true is later =
      let same : first ≡ slash = cc in
      let gone : sum_by f (cond (kept first) (first ∷ filter kept slashes) (filter kept slashes)) ≡ sum_by f (filter kept slashes) =
      ap (λ b. sum_by f (cond (not b) (first ∷ filter kept slashes) (filter kept slashes))) (here same) in
      omega (arith, ap f same, gone, less_kept f kept slashes, sum_by-cons f first slashes)
  at false is later = omega (arith, later is, one (kept first), sum_by-cons f first slashes)

waiting_after : (who : AccountId) (event : Event) (eras : Eras)
    → takes who event eras + waiting_for who (after event eras).queue ≤ waiting_for who eras.queue + queues who event eras
waiting_after who (Started exposures) eras = omega arith
waiting_after who (Pointed items) eras = omega arith
waiting_after who (Paid era validator) eras = omega arith
waiting_after who (Reported era validator fraction) eras = omega arith
waiting_after who (Queued due lines) eras =
    let f : DeferredSlash → ℕ = λ slash. amount_for who slash.lines in
    let slash : DeferredSlash = record { number = eras.next_slash; due = due; lines = lines } in
    omega (arith, sum_by-append f eras.queue (slash ∷ []), sum_by-cons f slash [])
waiting_after who (Cancelled number) eras =
    omega (arith, less_kept (λ slash. amount_for who slash.lines) (λ slash. not (has_number number slash)) eras.queue)
waiting_after who Taken eras = at (next_due eras) refl where
  f : DeferredSlash → ℕ
  f = λ slash. amount_for who slash.lines

  at : (found : Option DeferredSlash) → next_due eras ≡ found
      → option_map_or f found 0 + sum_by f (without_slash found eras.queue) ≤ sum_by f eras.queue + 0
  at None is = omega arith
  at (Some slash) is = omega (arith, found_counts f (λ slash. nat_le slash.due eras.current) eras.queue slash is)

pub waiting_law : WaitingLaw
waiting_law who [] eras = omega arith
waiting_law who (event ∷ more) eras = omega (arith, waiting_after who event eras, waiting_law who more (after event eras))

-- ---- the lines of a report
-- lines that are left out leave the others apart
pub lines_apart : (bs : List Backer) (kept fraction : ℕ) → IsDistinct same_account (map (λ b. b.who) bs) → AreApart (slash_lines bs kept fraction)
unfolding IsDistinct
lines_apart [] kept fraction apart = tt
lines_apart (b ∷ bs) kept fraction apart = at (nat_lt 0 (due b.amount kept fraction)) (lines_apart bs kept fraction apart.1) where
  rest : (xs : List Backer) → AllByRecursion (λ other. same_account b.who other ≡ false) (map (λ x. x.who) xs)
      → AllByRecursion (λ other. same_account b.who other ≡ false) (map (λ x. x.who) (slash_lines xs kept fraction))
  rest [] all = tt
  rest (x ∷ xs) all = of (nat_lt 0 (due x.amount kept fraction)) (rest xs all.1) where
    of : (test : Bool) → AllByRecursion (λ other. same_account b.who other ≡ false) (map (λ y. y.who) (slash_lines xs kept fraction))
        → AllByRecursion (λ other. same_account b.who other ≡ false)
        (map (λ y. y.who) (cond test (line x.who (due x.amount kept fraction) ∷ slash_lines xs kept fraction) (slash_lines xs kept fraction)))
    of true later = (all.0, later)
    of false later = later

  at : (test : Bool) → IsDistinct same_account (map (λ x. x.who) (slash_lines bs kept fraction))
      → IsDistinct same_account (map (λ x. x.who) (cond test (line b.who (due b.amount kept fraction) ∷ slash_lines bs kept fraction) (slash_lines bs kept fraction)))
  at true later = (rest bs apart.0, later)
  at false later = later
