-- Members and eras as values, and the eras that are made of them.
use Rattle.std.proofs.Common.{◌≡◌, ◌∙◌, ℕ, zero, suc, ◌+◌, ◌-◌, ◌^◌, ◌<◌, ◌≤◌, min, Bool, true, false, cond, nat_lt, List, [], ◌∷◌, ◌++◌, length}
use Rattle.std.proofs.Common.{map, replicate, get_or, slice_get, slice_set, unwrap_or, All, None, refl, ap, ap₂, sym, subst, append_assoc, arith}
use Rattle.std.specs.BTreeMap.{insert_entry}
use Rattle.std.specs.List.Sorted.{IsStrictlySortedBy}
use Rattle.std.specs.Map.{keys_of, values_of}
use Rattle.std.proofs.lemmas.Bool.Decides.{nat_tests}
use Rattle.std.proofs.lemmas.List.{map-append, length-map, length-append, length-replicate, get_or-replicate, get_or_past, ext_get_or}
use Rattle.std.proofs.lemmas.List.Elements.{All-nil, All-cons, All-head, All-tail, All-push}
use Rattle.std.proofs.lemmas.List.Quantifiers.{all_pairs_push}
use Rattle.std.proofs.lemmas.List.Sums.{sum_by-cons}
use Rattle.std.proofs.lemmas.Option.{unwrap_or-slice_get}
use Rattle.npos_base.specs.declared.account.AccountId.{AccountId}
use Rattle.npos_base.specs.declared.limits.TheConstants.{MOST_PAST_ERAS}
use Rattle.npos_base.specs.Account.{account_cmp}
use Rattle.npos_base.proofs.AccountOrder.{account_total}
use Rattle.npos_base.proofs.EntryLemmas.{last_put}
use Rattle.npos_base.proofs.NumberTests.{number_same, number_test}
use Rattle.era_book.specs.declared.record.MemberRecord.{MemberRecord}
use Rattle.era_book.specs.declared.deferred.DeferredSlash.{DeferredSlash}
use Rattle.era_book.specs.declared.seat.Seat.{Seat}
use Rattle.era_book.specs.Exposures.{IsSoundExposure, AreApart}
use Rattle.era_book.specs.Members.{Member, Members, total_points, IsCounted}
use Rattle.era_book.specs.Eras.{Eras, is_unknown, members_in, AreMembers, AreKept}
use Rattle.era_book.specs.Deferred.{AreQueued}
use Rattle.era_book.specs.Records.{record_of, member_from, entry_from, members_from, bare_at, CanJoin, slash_put, IsWhole}
use Rattle.era_book.specs.Laws.{PutLaw, ValuesLaw, BareLaw, SameErasLaw}
use Rattle.era_book.specs.Seats.{Grows, members_seen, member_seen}
use Rattle.era_book.proofs.MemberLemmas.{points_fit}
use Rattle.era_book.proofs.SeatLemmas.{AreSeated, members_inserted, members_grown}
use Rattle.era_book.proofs.HistoryLemmas.{members_set}

-- ---- members one behind the other

pub rest_behind : (values before rest left : List MemberRecord) (value : MemberRecord) → before ++ left ≡ values → left ≡ value ∷ rest → (before ++ value ∷ []) ++ rest ≡ values
rest_behind values before rest left value is next = append_assoc before (value ∷ []) rest ∙ (ap (λ l. before ++ l) (sym next) ∙ is)

-- the next seat stands behind the others
pub seat_joins : (old new : List AccountId) (seats : List (AccountId × Seat)) (seat : Seat) (values before rest left : List MemberRecord) (value : MemberRecord)
    → Grows old new → AreSeated old seats → member_seen new seat ≡ member_from value → members_seen old seats ≡ members_from before
    → before ++ left ≡ values → left ≡ value ∷ rest → IsStrictlySortedBy account_cmp (keys_of (members_from values))
    → members_seen new (insert_entry account_cmp seats value.exposure.validator seat) ≡ members_from (before ++ value ∷ [])
seat_joins old new seats seat values before rest left value grows seated told seen is next rising =
    let all : members_from values ≡ members_from before ++ (value.exposure.validator, member_from value) ∷ members_from rest =
    ap members_from (sym is ∙ ap (λ l. before ++ l) next) ∙ map-append entry_from before (value ∷ rest) in
    members_inserted new value.exposure.validator seat seats
    ∙ (ap₂ (λ (members : Members) (member : Member). insert_entry account_cmp members value.exposure.validator member) (members_grown old new seats grows seated ∙ seen) told
    ∙ (last_put account_total value.exposure.validator (member_from value) (members_from before) (members_from rest)
    (subst (λ (members : Members). IsStrictlySortedBy account_cmp (keys_of members)) all rising)
    ∙ sym (map-append entry_from before (value ∷ []))))

-- its points are counted
points_more : (before : List MemberRecord) (value : MemberRecord) → total_points (members_from (before ++ value ∷ [])) ≡ total_points (members_from before) + value.points
points_more [] value = omega (arith, sum_by-cons (λ (member : Member). member.points) (member_from value) [])
points_more (first ∷ before) value =
    omega (
      arith,
      sum_by-cons (λ (member : Member). member.points) (member_from first) (values_of (members_from (before ++ value ∷ []))),
      points_more before value,
      sum_by-cons (λ (member : Member). member.points) (member_from first) (values_of (members_from before)),
    )

each_more : (before : List MemberRecord) (value : MemberRecord) → value.points < 2 ^ 32 → All (λ member. member.points < 2 ^ 32) (values_of (members_from before))
    → All (λ member. member.points < 2 ^ 32) (values_of (members_from (before ++ value ∷ [])))
each_more [] value few all = All-cons (λ (m : Member). m.points < 2 ^ 32) (member_from value) [] few (All-nil (λ (m : Member). m.points < 2 ^ 32))
each_more (first ∷ before) value few all =
    All-cons (λ (m : Member). m.points < 2 ^ 32) (member_from first) (values_of (members_from (before ++ value ∷ [])))
    (All-head (λ (m : Member). m.points < 2 ^ 32) (member_from first) (values_of (members_from before)) all)
    (each_more before value few (All-tail (λ (m : Member). m.points < 2 ^ 32) (member_from first) (values_of (members_from before)) all))

pub counted_more : (before : List MemberRecord) (value : MemberRecord) (points : ℕ) → value.points < 2 ^ 32 → IsCounted (members_from before) points
    → IsCounted (members_from (before ++ value ∷ [])) (points + value.points)
counted_more before value points few counted = record {
  total = omega (arith, counted.total, points_more before value);
  each = each_more before value few counted.each;
}

pub points_within_room : (values before rest left : List MemberRecord) (value : MemberRecord) (points : ℕ) → before ++ left ≡ values → left ≡ value ∷ rest
    → length values < 2 ^ 63 → value.points < 2 ^ 32 → IsCounted (members_from before) points → points + value.points < 2 ^ 128
points_within_room values before rest left value points is next small few counted =
    omega (
      arith,
      counted.total,
      points_more before value,
      points_fit (members_from (before ++ value ∷ [])) (each_more before value few counted.each)
          (omega (arith, small, ap length (sym is ∙ ap (λ l. before ++ l) next), length-append before (value ∷ rest), length-append before (value ∷ []), length-map (before ++ value ∷ []) entry_from)),
    )

-- ---- an era that is put

pub sound_values : (values : List MemberRecord) → All (λ value. IsSoundExposure value.exposure) values → AreMembers (members_from values)
sound_values [] sound = All-nil (λ (m : Member). IsSoundExposure m.exposure)
sound_values (value ∷ values) sound =
    All-cons (λ (m : Member). IsSoundExposure m.exposure) (member_from value) (values_of (members_from values))
    (All-head (λ (v : MemberRecord). IsSoundExposure v.exposure) value values sound)
    (sound_values values (All-tail (λ (v : MemberRecord). IsSoundExposure v.exposure) value values sound))

pub set_behind : (first other : Members) (later : List Members) (n : ℕ) → (n ≡ 0 → ⊥) → first ∷ slice_set later (n - 1) other ≡ slice_set (first ∷ later) n other
set_behind first other later zero some = absurd (some refl)
set_behind first other later (suc n) some = ap (λ k. first ∷ slice_set later k other) (omega arith)

-- ---- a slash that is put

pub line_put : (eras : Eras) (slash : DeferredSlash) → CanJoin slash eras → AreQueued eras → AreQueued (slash_put slash eras)
line_put eras slash can line = record {
  numbers = all_pairs_push (λ first later. first.number < later.number) eras.queue slash line.numbers can.above;
  given = All-push (λ s. s.number < eras.next_slash) eras.queue slash line.given can.given;
  dues = all_pairs_push (λ first later. first.due ≤ later.due) eras.queue slash line.dues can.due;
  most = omega (arith, can.room, length-append eras.queue (slash ∷ []));
  distinct = All-push (λ s. AreApart s.lines) eras.queue slash line.distinct can.distinct;
}

-- ---- a book without members

nobody_at : (n k : ℕ) → get_or (replicate {A = Members} n []) k [] ≡ []
nobody_at n k = at (nat_lt k n) refl where
  at : (b : Bool) → nat_lt k n ≡ b → get_or (replicate {A = Members} n []) k [] ≡ []
  at true is = get_or-replicate n k [] [] (grind (arith, nat_tests, is))
  at false is = get_or_past (replicate {A = Members} n []) k [] (omega (arith, length-replicate {A = Members} n [], past)) where
    past : n ≤ k
    past = grind (arith, nat_tests, is)

pub bare_law : BareLaw
bare_law current next era = at (is_unknown (bare_at current next) era) where
  at : (b : Bool) → unwrap_or (cond b None (slice_get (bare_at current next).kept (current - era))) [] ≡ []
  at true = refl
  at false = unwrap_or-slice_get (bare_at current next).kept (current - era) [] ∙ nobody_at (min (current + 1) (MOST_PAST_ERAS + 1)) (current - era)

-- ---- eras are made anew

told_again : (values : List MemberRecord) → map record_of (values_of (members_from values)) ≡ values
told_again [] = refl
told_again (value ∷ values) = ap (λ l. value ∷ l) (told_again values)

pub put_law : PutLaw
put_law eras era values kept known = (
  ap (λ (members : Members). map record_of (values_of members))
      (members_set eras era era (members_from values) kept known ∙ ap (λ b. cond b (members_from values) (members_in eras era)) (number_same era))
      ∙ told_again values,
  λ other differ. members_set eras era other (members_from values) kept known
      ∙ ap (λ b. cond b (members_from values) (members_in eras other)) (number_test era other (λ same. differ (sym same))),
)

each_anew : (members : Members) → All IsWhole members → members_from (map record_of (values_of members)) ≡ members
each_anew [] whole = refl
each_anew (entry ∷ members) whole =
    ap₂ (λ (who : AccountId) (later : Members). (who, entry.1) ∷ later) (sym (All-head IsWhole entry members whole).account)
    (each_anew members (All-tail IsWhole entry members whole))

pub values_law : ValuesLaw
values_law members whole = each_anew members whole.each

known_at : (eras : Eras) (i : ℕ) → AreKept eras → i < length eras.kept → (is_unknown eras (eras.current - i) ≡ false) × (eras.current - (eras.current - i) ≡ i)
known_at eras i kept within =
    let young : i ≤ eras.current = omega (arith, within, kept.count) in
    let late : i ≤ MOST_PAST_ERAS = omega (arith, within, kept.count) in
    (grind (arith, nat_tests, young, late), omega (arith, young))

kept_at : (eras : Eras) (i : ℕ) → AreKept eras → i < length eras.kept → members_in eras (eras.current - i) ≡ get_or eras.kept i []
kept_at eras i kept within =
    let known = known_at eras i kept within in
    ap (λ b. unwrap_or (cond b None (slice_get eras.kept (eras.current - (eras.current - i)))) []) known.0
    ∙ (ap (λ n. unwrap_or (slice_get eras.kept n) []) known.1 ∙ unwrap_or-slice_get eras.kept i [])

same_parts : (current number : ℕ) (kept others : List Members) (queue line : List DeferredSlash) (next after : ℕ) → current ≡ number → kept ≡ others → queue ≡ line → next ≡ after
    → (let one : Eras = record { current = current; kept = kept; queue = queue; next_slash = next } in
    let other : Eras = record { current = number; kept = others; queue = line; next_slash = after } in one ≡ other)
same_parts current number kept others queue line next after one two three four = cc

pub same_eras_law : SameErasLaw
same_eras_law one other kept there current queue next members =
    let many : length one.kept ≡ length other.kept = omega (arith, kept.count, there.count, current) in
    let kept_same : one.kept ≡ other.kept =
    ext_get_or [] one.kept other.kept many
    (λ i within. sym (kept_at one i kept within)
    ∙ (members (one.current - i) ∙ (ap (λ n. members_in other (n - i)) current ∙ kept_at other i there (omega (arith, within, many))))) in
    same_parts one.current other.current one.kept other.kept one.queue other.queue one.next_slash other.next_slash current kept_same queue next

-- ---- what is told of seats is told of their members
pub seats_told : (accounts : List AccountId) (seats : List (AccountId × Seat))
    → map (λ seat. record_of (member_seen accounts seat)) (values_of seats) ≡ map record_of (values_of (members_seen accounts seats))
seats_told accounts [] = refl
seats_told accounts (first ∷ seats) = ap (λ l. record_of (member_seen accounts first.1) ∷ l) (seats_told accounts seats)
