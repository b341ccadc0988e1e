-- Where a search among rising seats ends, and what a change there does to the list of accounts with their seats.
use Rattle.std.proofs.Common.{◌≡◌, ℕ, zero, suc, ◌+◌, ◌-◌, ◌<◌, ◌≤◌, List, [], ◌∷◌, length, get_or, set, Some, None, Result, Ok, Err, IfOk, IfErr, refl, ap, sym, subst, ◌∙◌, arith, inl, inr, ◌⊎◌}
use Rattle.std.specs.BTreeMap.{is_at, insert_entry}
use Rattle.std.specs.List.{insert}
use Rattle.std.specs.List.Sorted.{IsStrictlySortedBy, IsSortedBy, IsBinarySearchResult}
use Rattle.std.specs.Map.{keys_of, lookup, set_value, values_of}
use Rattle.std.specs.Ordering.{is_lt, ordering_reverse}
use Rattle.std.specs.declared.cmp.Ordering.{Ordering}
use Rattle.std.specs.declared.cmp.Ordering.TheVariants.{Less, Equal, Greater}
use Rattle.std.proofs.Math.Nat.{eq-or-lt_of_le}
use Rattle.std.proofs.lemmas.Cmp.{tied_itself}
use Rattle.std.proofs.lemmas.List.{get_or-map, length-map}
use Rattle.std.proofs.lemmas.List.Sorted.{searchable_from_sorted}
use Rattle.std.proofs.lemmas.Map.{keys-set_value}
use Rattle.std.proofs.lemmas.Map.Entries.{length-keys_of}
use Rattle.std.proofs.lemmas.Map.Keys.{Less-from_sorted, sorted_tail}
use Rattle.npos_base.specs.declared.account.AccountId.{AccountId}
use Rattle.npos_base.specs.Account.{account_cmp}
use Rattle.npos_base.proofs.AccountOrder.{account_total, account_exact}
use Rattle.npos_base.proofs.EntryLemmas.{sorted_put}
use Rattle.era_book.specs.declared.seat.Seat.{Seat}
use Rattle.era_book.specs.Members.{Member, with_member, total_points}
use Rattle.era_book.specs.Seats.{entries_of, AreRising, IsSeatOf, IsGapFor, member_seen, members_seen}
use Rattle.era_book.proofs.SeatLemmas.{seen_changed, seen_unchanged, points_rise}

turned : (x y : AccountId) (r : Ordering) → account_cmp x y ≡ r → account_cmp y x ≡ ordering_reverse r
turned x y r e = account_total.antisymm y x ∙ ap ordering_reverse e

-- ---- the list of accounts with their seats

pub none_rises : AreRising []
unfolding IsStrictlySortedBy
none_rises = tt

pub seats_back : (seats : List Seat) → values_of (entries_of seats) ≡ seats
seats_back [] = refl
seats_back (seat ∷ seats) = ap (λ l. seat ∷ l) (seats_back seats)

-- an account is below that of each later seat
below_later : (seats : List Seat) (i j : ℕ) (d : Seat) → AreRising seats → i < j → j < length seats
    → account_cmp (get_or seats i d).validator (get_or seats j d).validator ≡ Less
below_later seats i j d rising later within =
    rw (← key i (omega (arith, later, within)), ← key j within)
    (Less-from_sorted account_cmp (keys_of (entries_of seats)) i j d.validator rising later
    (omega (arith, within, length-keys_of (entries_of seats), many))) where
      entry : Seat → AccountId × Seat
      entry seat = (seat.validator, seat)

      many : length (entries_of seats) ≡ length seats
      many = length-map seats entry

      key : (k : ℕ) → k < length seats → get_or (keys_of (entries_of seats)) k d.validator ≡ (get_or seats k d).validator
      key k inside =
          get_or-map (λ (e : AccountId × Seat). e.0) (entries_of seats) k (entry d) d.validator (omega (arith, inside, many))
          ∙ ap (λ (e : AccountId × Seat). e.0) (get_or-map entry seats k d (entry d) inside)

-- ---- where a search ends

in_order : (seats : List Seat) → AreRising seats → IsSortedBy (λ (a b : Seat). is_lt (account_cmp a.validator b.validator)) seats
in_order seats rising k d low high =
    ap is_lt (turned (get_or seats k d).validator (get_or seats (k + 1) d).validator Less (below_later seats k (k + 1) d rising (omega arith) high))

pub search_found : (who : AccountId) (seats : List Seat) (r : Result ℕ ℕ) → IsBinarySearchResult (λ (seat : Seat). account_cmp seat.validator who) seats r
    → IfOk r (IsSeatOf who seats)
search_found who seats (Ok place) result_is = λ d. account_exact (get_or seats place d).validator who (result_is d)
search_found who seats (Err place) result_is = tt

pub search_missed : (who : AccountId) (seats : List Seat) (r : Result ℕ ℕ) → AreRising seats → IsBinarySearchResult (λ (seat : Seat). account_cmp seat.validator who) seats r
    → IfErr r (IsGapFor who seats)
search_missed who seats (Ok place) rising result_is = tt
search_missed who seats (Err place) rising result_is =
    result_is (searchable_from_sorted account_total (λ (seat : Seat). seat.validator) seats who (in_order seats rising))

-- behind the last seat, where that is below the account
pub gap_behind : (who : AccountId) (seats : List Seat) (last : Seat) → AreRising seats → ((d : Seat) → get_or seats (length seats - 1) d ≡ last)
    → account_cmp last.validator who ≡ Less → IsGapFor who seats (length seats)
gap_behind who seats last rising is below = (λ k d low high. by_place k d high (eq-or-lt_of_le (not_behind k high)), λ k d low high. absurd (omega (arith, low, high))) where
  not_behind : (k : ℕ) → k < length seats → k ≤ length seats - 1
  not_behind k high = omega (arith, high)

  by_place : (k : ℕ) (d : Seat) → k < length seats → (k ≡ length seats - 1) ⊎ (k < length seats - 1) → account_cmp (get_or seats k d).validator who ≡ Less
  by_place k d high (inl same) = rw (same, is d) below
  by_place k d high (inr before) =
      account_total.trans (get_or seats k d).validator last.validator who
      (rw (← is d) (below_later seats k (length seats - 1) d rising before (omega (arith, high)))) below

-- ---- the seat of an account is found

-- what a search tells of the seats as they were shown to it
pub there : (who : AccountId) (shown seats : List Seat) (place : ℕ) → shown ≡ seats → place < length shown → IsSeatOf who shown place
    → (place < length seats) × IsSeatOf who seats place
there who shown seats place same within here =
    subst (λ (l : List Seat). (place < length l) × IsSeatOf who l place) same (within, here)

-- an account is above that of a seat before its own
above_first : (who : AccountId) (first : Seat) (seats : List Seat) (i : ℕ) → AreRising (first ∷ seats) → i < length seats → IsSeatOf who seats i
    → account_cmp who first.validator ≡ Greater
above_first who first seats i rising within here =
    turned first.validator who Less
    (subst (λ account. account_cmp first.validator account ≡ Less) (here first) (below_later (first ∷ seats) 0 (suc i) first rising (omega arith) (omega (arith, within))))

tied : (who account : AccountId) → account ≡ who → account_cmp who account ≡ Equal
tied who account same = rw same (tied_itself account_total who)

pub found_at : (who : AccountId) (seats : List Seat) (i : ℕ) (d : Seat) → AreRising seats → i < length seats → IsSeatOf who seats i
    → lookup (is_at (account_cmp who)) (entries_of seats) ≡ Some (get_or seats i d)
found_at who [] i d rising within here = absurd (omega (arith, within))
found_at who (first ∷ seats) zero d rising within here = rw (tied who first.validator (here first)) refl
found_at who (first ∷ seats) (suc i) d rising within here =
    rw (above_first who first seats i rising (omega (arith, within)) here)
    (found_at who seats i d (sorted_tail account_cmp first.validator (keys_of (entries_of seats)) rising) (omega (arith, within)) here)

set_at : (who : AccountId) (seats : List Seat) (i : ℕ) (after : Seat) → AreRising seats → i < length seats → IsSeatOf who seats i → after.validator ≡ who
    → entries_of (set seats i after) ≡ set_value (is_at (account_cmp who)) (entries_of seats) after
set_at who [] i after rising within here same = absurd (omega (arith, within))
set_at who (first ∷ seats) zero after rising within here same =
    rw (tied who first.validator (here first)) (ap (λ account. (account, after) ∷ entries_of seats) (same ∙ sym (here first)))
set_at who (first ∷ seats) (suc i) after rising within here same =
    rw (above_first who first seats i rising (omega (arith, within)) here)
    (ap (λ es. (first.validator, first) ∷ es)
    (set_at who seats i after (sorted_tail account_cmp first.validator (keys_of (entries_of seats)) rising) (omega (arith, within)) here same))

-- a member changes, and no account does
module _ (who : AccountId) (seats : List Seat) (i : ℕ) (seat after : Seat) (rising : AreRising seats)
    (here : (i < length seats) × IsSeatOf who seats i) (is : seat ≡ get_or seats i seat) (same : after.validator
    ≡ seat.validator) where
  account : after.validator ≡ who
  account = same ∙ (ap (λ (s : Seat). s.validator) is ∙ here.1 seat)

  found : lookup (is_at (account_cmp who)) (entries_of seats) ≡ Some seat
  found = found_at who seats i seat rising here.0 here.1 ∙ ap (λ (s : Seat). Some s) (sym is)

  put : entries_of (set seats i after) ≡ set_value (is_at (account_cmp who)) (entries_of seats) after
  put = set_at who seats i after rising here.0 here.1 account

  pub still_rising : AreRising (set seats i after)
  still_rising = rw (ap (keys_of {K = AccountId} {X = Seat}) put ∙ keys-set_value (is_at (account_cmp who)) (entries_of seats) after) rising

  pub change_seen : (accounts : List AccountId) (change : Member → Member) (now : List (AccountId × Seat)) → entries_of seats ≡ now → member_seen accounts after ≡ change (member_seen accounts seat)
      → members_seen accounts (entries_of (set seats i after)) ≡ with_member who change (members_seen accounts now)
  change_seen accounts change now view told =
      seen_changed accounts who change (entries_of seats) (entries_of (set seats i after)) seat after found put told
      ∙ ap (λ (entries : List (AccountId × Seat)). with_member who change (members_seen accounts entries)) view

  pub points_seen : (accounts : List AccountId) (added : ℕ) (now : List (AccountId × Seat)) → entries_of seats ≡ now → seat.points + added ≡ after.points
      → total_points (members_seen accounts now) + added ≡ total_points (members_seen accounts (entries_of (set seats i after)))
  points_seen accounts added now view rises =
      ap (λ (entries : List (AccountId × Seat)). total_points (members_seen accounts entries) + added) (sym view)
      ∙ points_rise accounts who (entries_of seats) (entries_of (set seats i after)) seat after added found put rises

-- ---- the seat of an account is not found

-- an account that has a gap has no seat
pub none_at : (who : AccountId) (seats : List Seat) (i : ℕ) → IsGapFor who seats i → lookup (is_at (account_cmp who)) (entries_of seats) ≡ None
none_at who [] i gap = refl
none_at who (first ∷ seats) zero gap =
    rw (turned first.validator who Greater (gap.1 0 first (omega arith) (omega arith)))
    (none_at who seats zero (λ k d low high. absurd (omega (arith, high)), λ k d low high. gap.1 (suc k) d (omega arith) (omega (arith, high))))
none_at who (first ∷ seats) (suc i) gap =
    rw (turned first.validator who Less (gap.0 0 first (omega arith) (omega arith)))
    (none_at who seats i (λ k d low high. gap.0 (suc k) d (omega arith) (omega (arith, high)), λ k d low high. gap.1 (suc k) d (omega (arith, low)) (omega (arith, high))))

-- and no member changes
pub none_seen : (who : AccountId) (shown seats : List Seat) (i : ℕ) (now : List (AccountId × Seat)) (accounts : List AccountId) (change : Member → Member)
    → shown ≡ seats → entries_of seats ≡ now → IsGapFor who shown i → members_seen accounts now ≡ with_member who change (members_seen accounts now)
none_seen who shown seats i now accounts change same view gap =
    seen_unchanged accounts who change now
    (subst (λ (entries : List (AccountId × Seat)). lookup (is_at (account_cmp who)) entries ≡ None) (ap entries_of same ∙ view) (none_at who shown i gap))

-- ---- a seat is put in

-- at the place of another of the same account
pub put_over : (seats : List Seat) (i : ℕ) (seat : Seat) → AreRising seats → i < length seats → IsSeatOf seat.validator seats i
    → entries_of (set seats i seat) ≡ insert_entry account_cmp (entries_of seats) seat.validator seat
put_over [] i seat rising within here = absurd (omega (arith, within))
put_over (first ∷ seats) zero seat rising within here =
    rw (tied seat.validator first.validator (here first)) (ap (λ account. (account, seat) ∷ entries_of seats) (sym (here first)))
put_over (first ∷ seats) (suc i) seat rising within here =
    rw (above_first seat.validator first seats i rising (omega (arith, within)) here)
    (ap (λ es. (first.validator, first) ∷ es)
    (put_over seats i seat (sorted_tail account_cmp first.validator (keys_of (entries_of seats)) rising) (omega (arith, within)) here))

-- at its own place
put_in_gap : (seats : List Seat) (i : ℕ) (seat : Seat) → i ≤ length seats → IsGapFor seat.validator seats i
    → entries_of (insert seats i seat) ≡ insert_entry account_cmp (entries_of seats) seat.validator seat
put_in_gap [] zero seat within gap = refl
put_in_gap [] (suc i) seat within gap = absurd (omega (arith, within))
put_in_gap (first ∷ seats) zero seat within gap = rw (turned first.validator seat.validator Greater (gap.1 0 first (omega arith) (omega arith))) refl
put_in_gap (first ∷ seats) (suc i) seat within gap =
    rw (turned first.validator seat.validator Less (gap.0 0 first (omega arith) (omega arith)))
    (ap (λ es. (first.validator, first) ∷ es)
    (put_in_gap seats i seat (omega (arith, within))
    (λ k d low high. gap.0 (suc k) d (omega arith) (omega (arith, high)), λ k d low high. gap.1 (suc k) d (omega (arith, low)) (omega (arith, high)))))

pub put_between : (shown seats after : List Seat) (i : ℕ) (seat : Seat) → shown ≡ seats → i ≤ length shown → IsGapFor seat.validator shown i → after ≡ insert seats i seat
    → entries_of after ≡ insert_entry account_cmp (entries_of seats) seat.validator seat
put_between shown seats after i seat same within gap is =
    ap entries_of is
    ∙ subst (λ (l : List Seat). entries_of (insert l i seat) ≡ insert_entry account_cmp (entries_of l) seat.validator seat) same (put_in_gap shown i seat within gap)

-- the seats rise after a seat was put in
pub rising_put : (before after : List Seat) (seat : Seat) → AreRising before → entries_of after ≡ insert_entry account_cmp (entries_of before) seat.validator seat → AreRising after
rising_put before after seat rising is =
    rw is (sorted_put account_total seat.validator seat (entries_of before) rising)
