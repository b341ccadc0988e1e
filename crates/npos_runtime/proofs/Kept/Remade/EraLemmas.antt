-- Eras and slashes that are made anew, one behind the other.
use Rattle.std.proofs.Common.{◌≡◌, ℕ, zero, suc, ◌+◌, ◌-◌, ◌≤◌, ◌<◌, Bool, true, false, cond, ◌||◌, nat_eq, nat_lt, nat_le, All, List}
use Rattle.std.proofs.Common.{[], ◌∷◌, ◌++◌, length, map, take, get_or, slice_set, replicate, refl, ap, ap₂, sym, subst, ◌∙◌, arith}
use Rattle.std.specs.List.{AllByRecursion}
use Rattle.std.specs.List.Sorted.{IsStrictlySortedBy}
use Rattle.std.specs.Map.{keys_of}
use Rattle.std.specs.Ordering.{is_lt}
use Rattle.std.specs.declared.cmp.Ordering.{Ordering}
use Rattle.std.specs.declared.cmp.Ordering.TheVariants.{Less, Equal, Greater}
use Rattle.std.proofs.lemmas.Bool.Decides.{nat_tests}
use Rattle.std.proofs.lemmas.List.Elements.{All-from_recursion}
use Rattle.std.proofs.lemmas.List.Sums.{sum_by-cons}
use Rattle.std.proofs.lemmas.Bool.{or_parts}
use Rattle.npos_base.specs.declared.account.AccountId.{AccountId}
use Rattle.npos_base.specs.declared.limits.TheConstants.{MOST_PAST_ERAS}
use Rattle.npos_base.specs.Account.{account_cmp}
use Rattle.npos_base.proofs.AccountOrder.{account_total}
use Rattle.stake_ledger.specs.declared.book_row.BookRow.{BookRow}
use Rattle.era_book.specs.declared.exposure.Backer.{Backer}
use Rattle.era_book.specs.declared.record.MemberRecord.{MemberRecord}
use Rattle.era_book.specs.declared.deferred.DeferredSlash.{DeferredSlash}
use Rattle.era_book.specs.declared.deferred.TheConstants.{MOST_SLASHES}
use Rattle.era_book.specs.Exposures.{IsSoundExposure, AreApart, amount_sum}
use Rattle.era_book.specs.Members.{Member, Members}
use Rattle.era_book.specs.Eras.{Eras}
use Rattle.era_book.specs.Records.{members_from, CanJoin}
use Rattle.state_rules.specs.declared.state.EraRow.{EraRow}
use Rattle.state_rules.specs.declared.state.MemberRow.{MemberRow}
use Rattle.state_rules.specs.Accounts.{is_below, stands_in}
use Rattle.state_rules.specs.Eras.{is_bad_line}
use Rattle.state_rules.specs.Lists.{has_bad, bad_place}
use Rattle.state_rules.specs.Sound.{EachIs, IsSoundMember, IsSoundEra, IsSoundSlash}
use Rattle.state_rules.proofs.SoundLemmas.{each_is, no_place}
use Rattle.npos_runtime.specs.Kept.Chain.{member_entry, members_at, eras_back}
use Rattle.npos_runtime.proofs.Kept.StateLemmas.{back_first}
use Rattle.npos_runtime.proofs.Kept.Remade.ItemLemmas.{each_next, each_before, built, all_put, map_put, all_behind, each_distinct}

-- ## Members

-- lines none of which is wrong are of different accounts
pub lines_apart : (lines : List Backer) → has_bad is_bad_line lines ≡ false → AreApart lines
lines_apart lines none =
    each_distinct (λ (line : Backer). line.who) lines
    (each_is is_bad_line (λ before line. stands_in (map (λ (l : Backer). l.who) before) line.who ≡ false) lines
    (λ before line e. (or_parts (nat_eq line.amount 0) (stands_in (map (λ (l : Backer). l.who) before) line.who) e).1)
    (no_place (bad_place is_bad_line lines) none))

less : (r : Ordering) → is_lt r ≡ true → r ≡ Less
less Less e = refl
less Equal e = cc
less Greater e = cc

sorted_more : (xs : List AccountId) (y : AccountId) → IsStrictlySortedBy account_cmp xs → AllByRecursion (λ x. account_cmp x y ≡ Less) xs
    → IsStrictlySortedBy account_cmp (xs ++ y ∷ [])
unfolding IsStrictlySortedBy
sorted_more [] y rise under = (tt, tt)
sorted_more (x ∷ xs) y rise under = (all_put (λ z. account_cmp x z ≡ Less) xs y rise.0 under.0, sorted_more xs y rise.1 under.1)

none_sorted : IsStrictlySortedBy account_cmp []
unfolding IsStrictlySortedBy
none_sorted = tt

keys_put : (entries : Members) (entry : AccountId × Member) → keys_of (entries ++ entry ∷ []) ≡ keys_of entries ++ entry.0 ∷ []
keys_put [] entry = refl
keys_put (e ∷ entries) entry = ap (λ l. e.0 ∷ l) (keys_put entries entry)

under_keys : (who : AccountId) (rows : List MemberRow) → AllByRecursion (λ (row : MemberRow). account_cmp row.who who ≡ Less) rows
    → AllByRecursion (λ x. account_cmp x who ≡ Less) (keys_of (map member_entry rows))
under_keys who [] all = tt
under_keys who (row ∷ rows) all = (all.0, under_keys who rows all.1)

-- the members rise by account
pub members_rise : (known : List BookRow) (rows : List MemberRow) → EachIs (IsSoundMember known) rows → IsStrictlySortedBy account_cmp (keys_of (map member_entry rows))
members_rise known rows each =
    built (IsSoundMember known) (λ (before : List MemberRow). IsStrictlySortedBy account_cmp (keys_of (map member_entry before)))
    (λ before row each_earlier rise sound.
    subst (IsStrictlySortedBy account_cmp)
    (sym (ap keys_of (map_put member_entry before row) ∙ keys_put (map member_entry before) (member_entry row)))
    (sorted_more (keys_of (map member_entry before)) row.who rise
    (under_keys row.who before
    (all_behind (λ (earlier later : MemberRow). is_below earlier.who later.who) (λ (earlier later : MemberRow). account_cmp earlier.who later.who ≡ Less)
    (λ a b e. less (account_cmp a.who b.who) e) (λ a b c x y. account_total.trans a.who b.who c.who x y) before
    (λ place d few. (each_earlier place d few).above) row sound.above))))
    rows none_sorted each

abbrev IsSoundEntry : AccountId × Member → Type 0
IsSoundEntry entry = IsSoundExposure entry.1.exposure

sound_entries : (known : List BookRow) (rows : List MemberRow) → EachIs (IsSoundMember known) rows → AllByRecursion IsSoundEntry (map member_entry rows)
sound_entries known rows each =
    built (IsSoundMember known) (λ (before : List MemberRow). AllByRecursion IsSoundEntry (map member_entry before))
    (λ before row each_earlier all sound.
    subst (AllByRecursion IsSoundEntry) (sym (map_put member_entry before row))
    (all_put IsSoundEntry (map member_entry before) (member_entry row) all
    (record { commission = sound.commission; support = refl; distinct = lines_apart row.backers sound.backers.lines })))
    rows tt each

records_sound : (records : List MemberRecord) → AllByRecursion IsSoundEntry (members_from records) → AllByRecursion (λ (value : MemberRecord). IsSoundExposure value.exposure) records
records_sound [] all = tt
records_sound (value ∷ records) all = (all.0, records_sound records all.1)

-- each of the records has a sound exposure
pub members_sound : (known : List BookRow) (rows : List MemberRow) (records : List MemberRecord) → EachIs (IsSoundMember known) rows
    → members_from records ≡ map member_entry rows → All (λ (value : MemberRecord). IsSoundExposure value.exposure) records
members_sound known rows records each same =
    All-from_recursion (λ (value : MemberRecord). IsSoundExposure value.exposure) records
    (records_sound records (subst (AllByRecursion IsSoundEntry) (sym same) (sound_entries known rows each)))

-- ## Eras

module _ (has_params : Bool) (last : ℕ) (known : List BookRow) where
  -- the eras before the next one are earlier
  pub earlier_eras : (before : List EraRow) (row : EraRow) → EachIs (IsSoundEra has_params last known) before → IsSoundEra has_params last known before row
      → AllByRecursion (λ (earlier : EraRow). earlier.era < row.era) before
  earlier_eras before row each sound =
      all_behind (λ (earlier later : EraRow). nat_lt earlier.era later.era) (λ (earlier later : EraRow). earlier.era < later.era)
      (λ a b e. within a.era b.era e) (λ a b c x y. omega (arith, x, y)) before (λ place d few. (each place d few).above) row sound.above where
        within : (a b : ℕ) → nat_lt a b ≡ true → a < b
        within a b e = grind (arith, nat_tests, e)

pub era_known : (last era : ℕ) → era ≤ last → last ≤ era + MOST_PAST_ERAS → (nat_lt last era || nat_lt (era + MOST_PAST_ERAS) last) ≡ false
era_known last era begun kept = grind (arith, nat_tests, begun, kept)

pub bare_eras : (count last : ℕ) → replicate {A = Members} count [] ≡ eras_back count last []
bare_eras zero last = refl
bare_eras (suc count) last = ap (λ (more : List Members). [] ∷ more) (bare_eras count (last - 1))

-- behind earlier eras the row of this one has its members
members_put : (rows : List EraRow) (row : EraRow) → AllByRecursion (λ (earlier : EraRow). earlier.era < row.era) rows
    → members_at row.era (rows ++ row ∷ []) ≡ map member_entry row.members
members_put [] row under =
    let test : nat_eq row.era row.era ≡ true = grind (arith, nat_tests) in
    ap (λ b. cond b (map member_entry row.members) []) test
members_put (first ∷ rows) row under =
    let test : nat_eq first.era row.era ≡ false = let lower : first.era < row.era = under.0 in grind (arith, nat_tests, lower) in
    ap (λ b. cond b (map member_entry first.members) (members_at row.era (rows ++ row ∷ []))) test ∙ members_put rows row under.1

-- and leaves other eras
members_other : (era : ℕ) (rows : List EraRow) (row : EraRow) → row.era < era → members_at era (rows ++ row ∷ []) ≡ members_at era rows
members_other era [] row lower =
    let test : nat_eq row.era era ≡ false = grind (arith, nat_tests, lower) in
    ap (λ b. cond b (map member_entry row.members) []) test
members_other era (first ∷ rows) row lower = ap (λ (more : Members). cond (nat_eq first.era era) (map member_entry first.members) more) (members_other era rows row lower)

pub era_more : (count last : ℕ) (rows : List EraRow) (row : EraRow) → AllByRecursion (λ (earlier : EraRow). earlier.era < row.era) rows
    → 1 ≤ row.era → row.era ≤ last → last < row.era + count
    → slice_set (eras_back count last rows) (last - row.era) (map member_entry row.members) ≡ eras_back count last (rows ++ row ∷ [])
era_more zero last rows row under some begun kept = absurd (omega (arith, begun, kept))
era_more (suc count) last rows row under some begun kept =
    at (nat_eq row.era last) refl (λ lower. era_more count (last - 1) rows row under some (omega (arith, lower)) (omega (arith, kept, lower))) where
      at : (b : Bool) → nat_eq row.era last ≡ b
          → (row.era < last → slice_set (eras_back count (last - 1) rows) (last - 1 - row.era) (map member_entry row.members) ≡ eras_back count (last - 1) (rows ++ row ∷ []))
          → slice_set (members_at last rows ∷ eras_back count (last - 1) rows) (last - row.era) (map member_entry row.members)
          ≡ members_at last (rows ++ row ∷ []) ∷ eras_back count (last - 1) (rows ++ row ∷ [])
      at true is rest =
          let same : row.era ≡ last = grind (arith, nat_tests, is) in
          let age : last - row.era ≡ 0 = omega (arith, same) in
          ap (λ (n : ℕ). slice_set (members_at last rows ∷ eras_back count (last - 1) rows) n (map member_entry row.members)) age
          ∙ ap₂ (λ (members : Members) (more : List Members). members ∷ more)
          (sym (members_put rows row under) ∙ ap (λ (n : ℕ). members_at n (rows ++ row ∷ [])) same)
          (sym (back_first count (last - 1) rows (row ∷ []) (omega (arith, same, some), tt)))
      at false is rest =
          let lower : row.era < last = grind (arith, nat_tests, is, begun) in
          let age : last - row.era ≡ suc (last - 1 - row.era) = omega (arith, lower) in
          ap (λ (n : ℕ). slice_set (members_at last rows ∷ eras_back count (last - 1) rows) n (map member_entry row.members)) age
          ∙ ap₂ (λ (members : Members) (more : List Members). members ∷ more)
          (sym (members_other last rows row lower))
          (rest lower)

-- ## Slashes

module _ (era defer_eras next : ℕ) (known : List BookRow) where
  below : (a b : ℕ) → nat_lt a b ≡ true → a < b
  below a b e = grind (arith, nat_tests, e)

  within : (a b : ℕ) → nat_le a b ≡ true → a ≤ b
  within a b e = grind (arith, nat_tests, e)

  -- the next slash can wait behind those before it
  pub can_join : (slashes before rest left : List DeferredSlash) (slash : DeferredSlash) (eras : Eras) → EachIs (IsSoundSlash era defer_eras next known) slashes
      → before ++ left ≡ slashes → left ≡ slash ∷ rest → eras.queue ≡ before → eras.next_slash ≡ next → length before < MOST_SLASHES → CanJoin slash eras
  can_join slashes before rest left slash eras each is more waiting numbered room =
      let whole : EachIs (IsSoundSlash era defer_eras next known) (before ++ left) = subst (EachIs (IsSoundSlash era defer_eras next known)) (sym is) each in
      let front = each_before (IsSoundSlash era defer_eras next known) before left whole in
      let sound = each_next (IsSoundSlash era defer_eras next known) slashes before rest left slash each is more in
      record {
        above = subst (All (λ (other : DeferredSlash). other.number < slash.number)) (sym waiting)
            (All-from_recursion (λ (other : DeferredSlash). other.number < slash.number) before
            (all_behind (λ (earlier later : DeferredSlash). nat_lt earlier.number later.number) (λ (earlier later : DeferredSlash). earlier.number < later.number)
            (λ a b e. below a.number b.number e) (λ a b c x y. omega (arith, x, y)) before (λ place d few. (front place d few).above) slash sound.above));
        given = omega (arith, sound.given, numbered);
        due = subst (All (λ (other : DeferredSlash). other.due ≤ slash.due)) (sym waiting)
            (All-from_recursion (λ (other : DeferredSlash). other.due ≤ slash.due) before
            (all_behind (λ (earlier later : DeferredSlash). nat_le earlier.due later.due) (λ (earlier later : DeferredSlash). earlier.due ≤ later.due)
            (λ a b e. within a.due b.due e) (λ a b c x y. omega (arith, x, y)) before (λ place d few. (front place d few).dues) slash sound.dues));
        room = omega (arith, room, ap length waiting);
        distinct = lines_apart slash.lines sound.lines;
      }

-- ## Sums

pub sum_next : (lines : List Backer) (place : ℕ) (d : Backer) → place < length lines
    → amount_sum (take place lines) + (get_or lines place d).amount ≤ amount_sum lines
sum_next [] place d few = absurd (omega (arith, few))
sum_next (line ∷ lines) zero d few = omega (arith, sum_by-cons (λ (l : Backer). l.amount) line lines)
sum_next (line ∷ lines) (suc place) d few =
    omega (
      arith,
      sum_next lines place d (omega (arith, few)),
      sum_by-cons (λ (l : Backer). l.amount) line lines,
      sum_by-cons (λ (l : Backer). l.amount) line (take place lines),
    )
