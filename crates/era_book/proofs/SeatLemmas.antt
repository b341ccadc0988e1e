-- What is kept stands for the same members as the accounts of their era grow, and after one of them changed.
use Rattle.std.proofs.Common.{◌≡◌, ℕ, suc, ◌+◌, ◌<◌, Bool, true, false, cond, ◌&&◌, List, [], ◌∷◌, ◌++◌, length, length-append}
use Rattle.std.proofs.Common.{map, filter, take, get_or, All, Option, Some, None, is_some, refl, ap, ap₂, sym, ◌∙◌, arith}
use Rattle.std.specs.BTreeMap.{is_at, insert_entry}
use Rattle.std.specs.Map.{lookup, set_value, values_of}
use Rattle.std.specs.Option.{option_map}
use Rattle.std.specs.Ordering.{match_ordering}
use Rattle.std.specs.declared.cmp.Ordering.{Ordering}
use Rattle.std.specs.declared.cmp.Ordering.TheVariants.{Less, Equal, Greater}
use Rattle.std.proofs.lemmas.List.{get_or_append_left, map-append, length-map}
use Rattle.std.proofs.lemmas.List.Elements.{All-nil, All-cons, All-append, All-head, All-tail, All-weaker}
use Rattle.std.proofs.Math.Seq.{get_or-append_seam, take-suc}
use Rattle.std.proofs.lemmas.Map.Made.{lookup-map_values}
use Rattle.std.proofs.lemmas.Map.Views.{All-values-insert_entry}
use Rattle.npos_base.specs.declared.account.AccountId.{AccountId}
use Rattle.npos_base.specs.declared.figures.Edge.{Edge}
use Rattle.npos_base.specs.Account.{account_cmp, account_at}
use Rattle.era_book.specs.declared.exposure.Backer.{Backer}
use Rattle.era_book.specs.declared.exposure.Exposure.{Exposure}
use Rattle.era_book.specs.declared.seat.Share.{Share}
use Rattle.era_book.specs.declared.seat.Seat.{Seat}
use Rattle.era_book.specs.Payouts.{line}
use Rattle.era_book.specs.Committee.{gives_to, backer_of, is_of, backers_of, exposure_of}
use Rattle.era_book.specs.Members.{Members, Member, newcomer, with_exposure, members_with, put_member, changed, with_member, total_points}
use Rattle.era_book.specs.Seats.{Grows, AreWithin, backer_seen, backers_seen, member_seen, members_seen, seat_of, edge_share, shares_among, shares_of}
use Rattle.era_book.proofs.MemberLemmas.{members_more, total_rises}

-- ---- the accounts grow

pub grows_not : (accounts : List AccountId) → Grows accounts accounts
grows_not accounts = record { count = omega arith; stays = λ place within. refl }

pub grows_twice : (old next new : List AccountId) → Grows old next → Grows next new → Grows old new
grows_twice old next new first second = record {
  count = omega (arith, first.count, second.count);
  stays = λ place within. second.stays place (omega (arith, within, first.count)) ∙ first.stays place within;
}

pub grows_by : (accounts : List AccountId) (who : AccountId) → Grows accounts (accounts ++ who ∷ [])
grows_by accounts who = record {
  count = omega (arith, length-append accounts (who ∷ []));
  stays = λ place within. get_or_append_left accounts (who ∷ []) (record { hi = 0; lo = 0 }) place within;
}

pub stands_last : (accounts : List AccountId) (who : AccountId) → get_or (accounts ++ who ∷ []) (length accounts) (record { hi = 0; lo = 0 }) ≡ who
stands_last accounts who = get_or-append_seam accounts who [] (record { hi = 0; lo = 0 })

pub within_grown : (old new : List AccountId) (shares : List Share) → Grows old new → AreWithin old shares → AreWithin new shares
within_grown old new shares grows within =
    All-weaker (λ (share : Share). share.place < length old) (λ (share : Share). share.place < length new)
    (λ share below. omega (arith, below, grows.count)) shares within

pub backers_grown : (old new : List AccountId) (shares : List Share) → Grows old new → AreWithin old shares → backers_seen new shares ≡ backers_seen old shares
backers_grown old new [] grows within = refl
backers_grown old new (s ∷ ss) grows within =
    ap₂ (λ b bs. b ∷ bs) (ap (λ who. line who s.amount) (grows.stays s.place (All-head (λ (share : Share). share.place < length old) s ss within)))
    (backers_grown old new ss grows (All-tail (λ (share : Share). share.place < length old) s ss within))

-- one more backer is named
pub named_more : (old new : List AccountId) (shares : List Share) (share : Share) (backers : List Backer) (d : Backer) (i : ℕ) → Grows old new → AreWithin old shares
    → backers_seen old shares ≡ take i backers → i < length backers → line (account_at new share.place) share.amount ≡ get_or backers i d
    → backers_seen new (shares ++ share ∷ []) ≡ take (i + 1) backers
named_more old new shares share backers d i grows within seen more is =
    let next : suc i ≡ i + 1 = omega arith in
    map-append (backer_seen new) shares (share ∷ [])
    ∙ (ap₂ (λ before last. before ++ last ∷ []) (backers_grown old new shares grows within ∙ seen) is
    ∙ (sym (take-suc backers i d more) ∙ ap (λ n. take n backers) next))

pub within_more : (old new : List AccountId) (shares : List Share) (share : Share) → Grows old new → AreWithin old shares → share.place < length new
    → AreWithin new (shares ++ share ∷ [])
within_more old new shares share grows within below =
    All-append (λ (s : Share). s.place < length new) shares (share ∷ []) (within_grown old new shares grows within)
    (All-cons (λ (s : Share). s.place < length new) share [] below (All-nil (λ (s : Share). s.place < length new)))

-- each seat's shares name accounts
abbrev pub AreSeated : List AccountId → List (AccountId × Seat) → Type 0
AreSeated accounts seats = All (λ seat. AreWithin accounts seat.shares) (values_of seats)

pub seated_grown : (old new : List AccountId) (seats : List (AccountId × Seat)) → Grows old new → AreSeated old seats → AreSeated new seats
seated_grown old new seats grows within =
    All-weaker (λ (seat : Seat). AreWithin old seat.shares) (λ (seat : Seat). AreWithin new seat.shares)
    (λ seat. within_grown old new seat.shares grows) (values_of seats) within

member_grown : (old new : List AccountId) (seat : Seat) → Grows old new → AreWithin old seat.shares → member_seen new seat ≡ member_seen old seat
member_grown old new seat grows within =
    ap (λ backers. record {
      exposure = record { validator = seat.validator; commission = seat.commission; support = seat.support; backers = backers };
      points = seat.points;
      claimed = seat.claimed;
      fraction = seat.fraction;
    }) (backers_grown old new seat.shares grows within)

pub members_grown : (old new : List AccountId) (seats : List (AccountId × Seat)) → Grows old new → AreSeated old seats
    → members_seen new seats ≡ members_seen old seats
members_grown old new [] grows within = refl
members_grown old new (e ∷ es) grows within =
    ap₂ (λ (m : Member) ms. (e.0, m) ∷ ms) (member_grown old new e.1 grows (All-head (λ (seat : Seat). AreWithin old seat.shares) e.1 (values_of es) within))
    (members_grown old new es grows (All-tail (λ (seat : Seat). AreWithin old seat.shares) e.1 (values_of es) within))

-- ---- one of them changes, or comes

inserted_at : (accounts : List AccountId) (who : AccountId) (seat : Seat) (e : AccountId × Seat) (es : List (AccountId × Seat)) (r : Ordering)
    → members_seen accounts (insert_entry account_cmp es who seat) ≡ insert_entry account_cmp (members_seen accounts es) who (member_seen accounts seat)
    → members_seen accounts (match_ordering r ((who, seat) ∷ e ∷ es) ((e.0, seat) ∷ es) (e ∷ insert_entry account_cmp es who seat))
    ≡ match_ordering r ((who, member_seen accounts seat) ∷ members_seen accounts (e ∷ es)) ((e.0, member_seen accounts seat) ∷ members_seen accounts es)
    ((e.0, member_seen accounts e.1) ∷ insert_entry account_cmp (members_seen accounts es) who (member_seen accounts seat))
inserted_at accounts who seat e es Less rest = refl
inserted_at accounts who seat e es Equal rest = refl
inserted_at accounts who seat e es Greater rest = ap (λ ms. (e.0, member_seen accounts e.1) ∷ ms) rest

pub members_inserted : (accounts : List AccountId) (who : AccountId) (seat : Seat) (seats : List (AccountId × Seat))
    → members_seen accounts (insert_entry account_cmp seats who seat) ≡ insert_entry account_cmp (members_seen accounts seats) who (member_seen accounts seat)
members_inserted accounts who seat [] = refl
members_inserted accounts who seat (e ∷ es) = inserted_at accounts who seat e es (account_cmp who e.0) (members_inserted accounts who seat es)

members_set : (accounts : List AccountId) (test : AccountId → Bool) (seats : List (AccountId × Seat)) (seat : Seat)
    → members_seen accounts (set_value test seats seat) ≡ set_value test (members_seen accounts seats) (member_seen accounts seat)
members_set accounts test [] seat = refl
members_set accounts test (e ∷ es) seat = at (test e.0) (members_set accounts test es seat) where
  at : (b : Bool) → members_seen accounts (set_value test es seat) ≡ set_value test (members_seen accounts es) (member_seen accounts seat)
      → members_seen accounts (cond b ((e.0, seat) ∷ es) (e ∷ set_value test es seat))
      ≡ cond b ((e.0, member_seen accounts seat) ∷ members_seen accounts es) ((e.0, member_seen accounts e.1) ∷ set_value test (members_seen accounts es) (member_seen accounts seat))
  at true rest = refl
  at false rest = ap (λ ms. (e.0, member_seen accounts e.1) ∷ ms) rest

-- who is found among the seats is found among the members
pub member_found : (accounts : List AccountId) (who : AccountId) (seats : List (AccountId × Seat)) (found : Option Seat)
    → lookup (is_at (account_cmp who)) seats ≡ found → lookup (is_at (account_cmp who)) (members_seen accounts seats) ≡ option_map (member_seen accounts) found
member_found accounts who seats found is =
    lookup-map_values (member_seen accounts) (is_at (account_cmp who)) seats ∙ ap (option_map (member_seen accounts)) is

pub seen_changed : (accounts : List AccountId) (who : AccountId) (change : Member → Member) (seats rows : List (AccountId × Seat)) (seat after : Seat)
    → lookup (is_at (account_cmp who)) seats ≡ Some seat → rows ≡ set_value (is_at (account_cmp who)) seats after
    → member_seen accounts after ≡ change (member_seen accounts seat)
    → members_seen accounts rows ≡ with_member who change (members_seen accounts seats)
seen_changed accounts who change seats rows seat after found put is =
    ap (members_seen accounts) put
    ∙ (members_set accounts (is_at (account_cmp who)) seats after
    ∙ (ap (λ (m : Member). set_value (is_at (account_cmp who)) (members_seen accounts seats) m) is
    ∙ sym (ap (λ (o : Option Member). put_member (changed change o) who (members_seen accounts seats)) (member_found accounts who seats (Some seat) found))))

pub seen_unchanged : (accounts : List AccountId) (who : AccountId) (change : Member → Member) (seats : List (AccountId × Seat))
    → lookup (is_at (account_cmp who)) seats ≡ None → members_seen accounts seats ≡ with_member who change (members_seen accounts seats)
seen_unchanged accounts who change seats none =
    sym (ap (λ (o : Option Member). put_member (changed change o) who (members_seen accounts seats)) (member_found accounts who seats None none))

pub points_rise : (accounts : List AccountId) (who : AccountId) (seats rows : List (AccountId × Seat)) (seat after : Seat) (added : ℕ)
    → lookup (is_at (account_cmp who)) seats ≡ Some seat → rows ≡ set_value (is_at (account_cmp who)) seats after → seat.points + added ≡ after.points
    → total_points (members_seen accounts seats) + added ≡ total_points (members_seen accounts rows)
points_rise accounts who seats rows seat after added found put rises =
    total_rises (members_seen accounts seats) who (member_seen accounts seat) (member_seen accounts after) added (members_seen accounts rows)
    (member_found accounts who seats (Some seat) found) rises (ap (members_seen accounts) put ∙ members_set accounts (is_at (account_cmp who)) seats after)

-- ---- who is seated

pub seated_is_known : (accounts : List AccountId) (who : AccountId) (seats : List (AccountId × Seat))
    → is_some (lookup (is_at (account_cmp who)) (members_seen accounts seats)) ≡ is_some (lookup (is_at (account_cmp who)) seats)
seated_is_known accounts who seats =
    ap is_some (lookup-map_values (member_seen accounts) (is_at (account_cmp who)) seats) ∙ at (lookup (is_at (account_cmp who)) seats) where
      at : (o : Option Seat) → is_some (option_map (member_seen accounts) o) ≡ is_some o
      at None = refl
      at (Some seat) = refl

pub as_many : (accounts : List AccountId) (seats : List (AccountId × Seat)) → length (members_seen accounts seats) ≡ length seats
as_many accounts seats = length-map seats (λ entry. (entry.0, member_seen accounts entry.1))

pub seat_enters : (old new : List AccountId) (seats : List (AccountId × Seat)) (exposure : Exposure) (seat : Seat) → Grows old new → AreSeated old seats
    → member_seen new seat ≡ newcomer exposure
    → members_seen new (insert_entry account_cmp seats exposure.validator seat) ≡ with_exposure (members_seen old seats) exposure
seat_enters old new seats exposure seat grows seated is =
    members_inserted new exposure.validator seat seats
    ∙ ap₂ (λ members (member : Member). insert_entry account_cmp members exposure.validator member) (members_grown old new seats grows seated) is

pub seated_more : (old new : List AccountId) (seats : List (AccountId × Seat)) (who : AccountId) (seat : Seat) → Grows old new → AreSeated old seats
    → AreWithin new seat.shares → AreSeated new (insert_entry account_cmp seats who seat)
seated_more old new seats who seat grows seated within =
    All-values-insert_entry account_cmp who seat (λ (s : Seat). AreWithin new s.shares) seats (seated_grown old new seats grows seated) within

-- ---- the shares of a committee

-- the shares of a target are its backers, by the places of the voters
among_seen : (voters : List AccountId) (edges : List Edge) → backers_seen voters (map edge_share edges) ≡ map (backer_of voters) edges
among_seen voters [] = refl
among_seen voters (e ∷ es) = ap (λ bs. backer_of voters e ∷ bs) (among_seen voters es)

pub shares_seen : (targets voters : List AccountId) (edges : List Edge) (target : ℕ)
    → backers_seen voters (shares_of targets voters edges target) ≡ backers_of targets voters edges target
shares_seen targets voters edges target =
    map-append (backer_seen voters) (shares_among true targets voters edges target) (shares_among false targets voters edges target)
    ∙ ap₂ (λ own others. own ++ others)
    (among_seen voters (filter (λ edge. gives_to target edge && is_of true targets voters edge) edges))
    (among_seen voters (filter (λ edge. gives_to target edge && is_of false targets voters edge) edges))

pub exposed_more : (exposed : ℕ → Exposure) (members : List ℕ) (i : ℕ) → i < length members
    → map exposed (take (i + 1) members) ≡ map exposed (take i members) ++ exposed (get_or members i 0) ∷ []
exposed_more exposed members i within =
    let next : i + 1 ≡ suc i = omega arith in
    ap (λ n. map exposed (take n members)) next ∙ (ap (map exposed) (take-suc members i 0 within) ∙ map-append exposed (take i members) (get_or members i 0 ∷ []))

-- one more member is seated
pub member_seated : (targets : List AccountId) (commissions supports : List ℕ) (voters : List AccountId) (edges : List Edge) (seats : List (AccountId × Seat)) (seat : Seat) (members : List ℕ) (i : ℕ)
    → i < length members → seat ≡ seat_of (account_at targets (get_or members i 0))
    (get_or commissions (get_or members i 0) 0) (get_or supports (get_or members i 0) 0)
    (shares_of targets voters edges (get_or members i 0))
    → members_seen voters seats ≡ members_with (map (exposure_of targets commissions supports voters edges) (take i members))
    → members_seen voters (insert_entry account_cmp seats (account_at targets (get_or members i 0)) seat)
    ≡ members_with (map (exposure_of targets commissions supports voters edges) (take (i + 1) members))
member_seated targets commissions supports voters edges seats seat members i within is before =
    members_inserted voters (account_at targets m) seat seats
    ∙ (ap₂ (λ (rows : Members) (member : Member). insert_entry account_cmp rows (account_at targets m) member) before seen
    ∙ (sym (members_more (map exposed (take i members)) (exposed m))
    ∙ ap members_with (sym (exposed_more exposed members i within)))) where
      m : ℕ
      m = get_or members i 0

      exposed : ℕ → Exposure
      exposed = exposure_of targets commissions supports voters edges

      seen : member_seen voters seat ≡ newcomer (exposed m)
      seen =
          ap (member_seen voters) is
          ∙ ap (λ (backers : List Backer). newcomer (record {
            validator = account_at targets m;
            commission = get_or commissions m 0;
            support = get_or supports m 0;
            backers = backers;
          })) (shares_seen targets voters edges m)
