-- The eras of a chain that goes on from a state.
use Rattle.std.proofs.Common.{◌≡◌, ◌≢◌, ℕ, zero, suc, ◌+◌, ◌-◌, ◌≤◌, ◌<◌, min, Bool, true, false, cond, ◌||◌, nat_eq}
use Rattle.std.proofs.Common.{nat_lt, All, List, [], ◌∷◌, length, map, drop, get_or, refl, ap, sym, subst, ◌∙◌, arith}
use Rattle.std.specs.List.{IsDistinct}
use Rattle.std.specs.List.Sorted.{IsStrictlySortedBy}
use Rattle.std.specs.Map.{keys_of, values_of}
use Rattle.std.proofs.lemmas.Bool.{lt-ltb, or_parts}
use Rattle.std.proofs.lemmas.Bool.Decides.{nat_tests}
use Rattle.std.proofs.lemmas.List.Elements.{All-nil, All-cons, All-head, All-tail, All-map}
use Rattle.npos_base.specs.declared.account.AccountId.{AccountId}
use Rattle.npos_base.specs.declared.limits.TheConstants.{MOST_PAST_ERAS, WHOLE_FRACTION}
use Rattle.npos_base.specs.Account.{account_cmp, same_account}
use Rattle.era_book.specs.declared.exposure.Backer.{Backer}
use Rattle.era_book.specs.Exposures as exposures
use Rattle.era_book.specs.Members.{Member, Members}
use Rattle.era_book.specs.Eras.{Eras, members_in, AreMembers, AreKept}
use Rattle.era_book.proofs.HistoryLemmas.{none_unknown}
use Rattle.stake_ledger.specs.Ledger.{Ledger}
use Rattle.state_rules.specs.declared.state.State.{State}
use Rattle.state_rules.specs.declared.state.EraRow.{EraRow}
use Rattle.state_rules.specs.declared.state.MemberRow.{MemberRow}
use Rattle.state_rules.specs.Lists.{has_bad}
use Rattle.state_rules.specs.Accounts.{stands_in}
use Rattle.state_rules.specs.Eras.{is_bad_line, has_late_own}
use Rattle.state_rules.specs.Sound.{EachIs}
use Rattle.state_rules.specs.Sound as rule
use Rattle.npos_runtime.specs.Kept.State.{IsTold}
use Rattle.state_rules.specs.Terms.{era_before}
use Rattle.npos_runtime.specs.Kept.Chain.{member_entry, members_at, eras_back, chain_of, AreKeptEras}
use Rattle.npos_runtime.specs.Live.{HaveFractions}
use Rattle.npos_runtime.specs.Kept.Sound.{IsSoundMember, AreSoundMembers, AreSoundEras}
use Rattle.npos_runtime.proofs.Kept.ChainLemmas.{other_account}
use Rattle.npos_runtime.proofs.Kept.Causes.EraLemmas.{kept_at}
use Rattle.npos_runtime.proofs.Kept.Restored.ListLemmas.{none_passes, none_bad, follow_pairs, new_distinct, rows_sorted}
use Rattle.npos_runtime.proofs.Kept.Restored.BookLemmas.{is_known, none_unknown as all_known}

-- ## Lines

line_good : (lines : List Backer) → has_bad is_bad_line lines ≡ false
    → EachIs (λ before line. (nat_eq line.amount 0 ≡ false) × (stands_in (map (λ earlier. earlier.who) before) line.who ≡ false)) lines
line_good lines none place d few = or_parts _ _ (none_bad is_bad_line lines none place d few)

-- each line gives something
pub lines_given : (lines : List Backer) → has_bad is_bad_line lines ≡ false → All (λ line. 0 < line.amount) lines
lines_given lines none place d few = above (get_or lines place d).amount (line_good lines none place d few).0 where
  above : (amount : ℕ) → nat_eq amount 0 ≡ false → 0 < amount
  above amount e = grind (arith, nat_tests, e)

-- and no account has two of them
pub lines_apart : (lines : List Backer) → has_bad is_bad_line lines ≡ false → IsDistinct same_account (map (λ line. line.who) lines)
lines_apart lines none = new_distinct (λ (line : Backer). line.who) lines (λ place d few. (line_good lines none place d few).1)

others : (who : AccountId) (backers : List Backer) → has_late_own who backers ≡ false → All (λ backer. backer.who ≢ who) (drop 1 backers)
others who [] none = All-nil (λ (backer : Backer). backer.who ≢ who)
others who (first ∷ backers) none =
    λ k d few. other_account (get_or backers k d).who who (none_passes (λ (backer : Backer). same_account backer.who who) backers none k d few)

-- ## Members

keys_again : (members : List MemberRow) → map (λ (member : MemberRow). member.who) members ≡ keys_of (map member_entry members)
keys_again [] = refl
keys_again (member ∷ members) = ap (λ (more : List AccountId). member.who ∷ more) (keys_again members)

each_value : (P : Member → Type 0) (members : List MemberRow) → All (λ member. P (member_entry member).1) members → All P (values_of (map member_entry members))
each_value P [] all = All-nil P
each_value P (member ∷ members) all =
    All-cons P (member_entry member).1 (values_of (map member_entry members)) (All-head (λ (one : MemberRow). P (member_entry one).1) member members all)
    (each_value P members (All-tail (λ (one : MemberRow). P (member_entry one).1) member members all))

module _ (state : State) where
  abbrev book : Ledger
  book = (chain_of state).book

  members_sound : (members : List MemberRow) → EachIs (rule.IsSoundMember state.rows) members → AreSoundMembers book (map member_entry members)
  members_sound members sound = record {
    rising = subst (IsStrictlySortedBy account_cmp) (keys_again members)
        (rows_sorted (λ (member : MemberRow). member.who) members (λ place d few. (sound place d few).above));
    each = All-map (IsSoundMember book) member_entry members
        (λ place d few. record {
          known = is_known state (get_or members place d).who (sound place d few).known;
          backers = all_known state (λ (backer : Backer). backer.who) (get_or members place d).backers (sound place d few).backers.known;
          given = lines_given (get_or members place d).backers (sound place d few).backers.lines;
          own_first = others (get_or members place d).who (get_or members place d).backers (sound place d few).backers.own_first;
          fits = (sound place d few).backers.fits;
        });
  }

  members_exposed : (members : List MemberRow) → EachIs (rule.IsSoundMember state.rows) members → AreMembers (map member_entry members)
  members_exposed members sound =
      each_value (λ (member : Member). exposures.IsSoundExposure member.exposure) members
      (λ place d few. record {
        commission = (sound place d few).commission;
        support = refl;
        distinct = lines_apart (get_or members place d).backers (sound place d few).backers.lines;
      })

  fractions : (members : List MemberRow) → EachIs (rule.IsSoundMember state.rows) members → HaveFractions (map member_entry members)
  fractions members sound = each_value (λ (member : Member). member.fraction ≤ WHOLE_FRACTION) members (λ place d few. (sound place d few).fraction)

-- ## The eras that are kept

-- what holds of no members, and of the members of each row, holds of those of every era
module _ (P : Members → Type 0) (none : P []) where
  at_each : (era_rows : List EraRow) → All (λ row. P (map member_entry row.members)) era_rows → (era : ℕ) → P (members_at era era_rows)
  at_each [] all era = none
  at_each (row ∷ era_rows) all era =
      at (nat_eq row.era era) (at_each era_rows (All-tail (λ (one : EraRow). P (map member_entry one.members)) row era_rows all) era) where
        at : (b : Bool) → P (members_at era era_rows) → P (cond b (map member_entry row.members) (members_at era era_rows))
        at true rest = All-head (λ (one : EraRow). P (map member_entry one.members)) row era_rows all
        at false rest = rest

  all_back : (count era : ℕ) (era_rows : List EraRow) → All (λ row. P (map member_entry row.members)) era_rows → All P (eras_back count era era_rows)
  all_back zero era era_rows all = All-nil P
  all_back (suc more) era era_rows all =
      All-cons P (members_at era era_rows) (eras_back more (era - 1) era_rows) (at_each era_rows all era) (all_back more (era - 1) era_rows all)

back_at : (count era : ℕ) (era_rows : List EraRow) (place : ℕ) (d : Members) → place < count
    → get_or (eras_back count era era_rows) place d ≡ members_at (era - place) era_rows
back_at zero era era_rows place d few = absurd (omega (arith, few))
back_at (suc more) era era_rows zero d few =
    let same : era ≡ era - 0 = omega arith in ap (λ (n : ℕ). members_at n era_rows) same
back_at (suc more) era era_rows (suc place) d few =
    let same : era - 1 - place ≡ era - suc place = omega arith in
    back_at more (era - 1) era_rows place d (omega (arith, few)) ∙ ap (λ (n : ℕ). members_at n era_rows) same

none_first : (era_rows : List EraRow) → All (λ row. 1 ≤ row.era) era_rows → members_at 0 era_rows ≡ []
none_first [] begun = refl
none_first (row ∷ era_rows) begun =
    at (nat_eq row.era 0) refl (none_first era_rows (All-tail (λ (one : EraRow). 1 ≤ one.era) row era_rows begun)) where
      at : (b : Bool) → nat_eq row.era 0 ≡ b → members_at 0 era_rows ≡ [] → cond b (map member_entry row.members) (members_at 0 era_rows) ≡ []
      at true is rest = absurd (grind (arith, nat_tests, is, All-head (λ (one : EraRow). 1 ≤ one.era) row era_rows begun))
      at false is rest = rest

none_sorted : IsStrictlySortedBy account_cmp []
unfolding IsStrictlySortedBy
none_sorted = tt

module _ (state : State) (sound : rule.IsSoundState state) (told : IsTold (chain_of state)) where
  abbrev eras : Eras
  eras = (chain_of state).eras

  count : length eras.kept ≡ min (eras.current + 1) (MOST_PAST_ERAS + 1)
  count = told.eras.count

  -- the first era has no member
  first : members_in eras 0 ≡ []
  first = at (nat_lt eras.current (length eras.kept)) refl where
    at : (b : Bool) → nat_lt eras.current (length eras.kept) ≡ b → members_in eras 0 ≡ []
    at true is =
        let few : eras.current < length eras.kept = grind (arith, nat_tests, is) in
        let zeroth : eras.current - eras.current ≡ 0 = omega arith in
        ap (members_in eras) (sym zeroth)
        ∙ (kept_at eras count eras.current [] few
        ∙ (back_at (min (era_before state + 1) (MOST_PAST_ERAS + 1)) (era_before state) state.eras eras.current [] (omega (arith, few, count))
        ∙ (ap (λ (n : ℕ). members_at n state.eras) zeroth ∙ none_first state.eras (λ k d within. (sound.eras k d within).begun))))
    at false is =
        let late : 0 + MOST_PAST_ERAS < eras.current = past (grind (arith, nat_tests, is)) in
        none_unknown eras 0 (gone (nat_lt eras.current 0) (lt-ltb (0 + MOST_PAST_ERAS) eras.current late)) where
          past : length eras.kept ≤ eras.current → 0 + MOST_PAST_ERAS < eras.current
          past most = omega (arith, most, count)

          gone : (b : Bool) → nat_lt (0 + MOST_PAST_ERAS) eras.current ≡ true → (b || nat_lt (0 + MOST_PAST_ERAS) eras.current) ≡ true
          gone true e = refl
          gone false e = e

  each_kept : (P : Members → Type 0) → P [] → ((members : List MemberRow) → EachIs (rule.IsSoundMember state.rows) members → P (map member_entry members))
      → All P eras.kept
  each_kept P none good =
      all_back P none (min (era_before state + 1) (MOST_PAST_ERAS + 1)) (era_before state) state.eras
      (λ place d few. good (get_or state.eras place d).members (sound.eras place d few).members)

  pub restored_kept : AreKept eras
  restored_kept = record {
    count = count;
    sound = each_kept AreMembers (All-nil (λ (member : Member). exposures.IsSoundExposure member.exposure)) (members_exposed state);
  }

  pub restored_fractions : All HaveFractions eras.kept
  restored_fractions = each_kept HaveFractions (All-nil (λ (member : Member). member.fraction ≤ WHOLE_FRACTION)) (fractions state)

  pub restored_eras : AreSoundEras (chain_of state)
  restored_eras = record {
    first = first;
    members = each_kept (AreSoundMembers (chain_of state).book) (record { rising = none_sorted; each = All-nil (IsSoundMember (chain_of state).book) })
        (members_sound state);
  }

-- the rows of eras are in form
pub eras_in_form : (state : State) → rule.IsSoundState state → AreKeptEras (era_before state) state.eras
eras_in_form state sound = record {
  rising = follow_pairs (λ (first later : EraRow). first.era < later.era) (λ first next later one two. omega (arith, one, two))
      (λ earlier later. nat_lt earlier.era later.era) (λ first later is. lower first.era later.era is) state.eras (λ place d few. (sound.eras place d few).above);
  each = λ place d few. record {
    begun = (sound.eras place d few).reached;
    recent = (sound.eras place d few).kept;
    peopled = λ none. omega (arith, (sound.eras place d few).some, ap length none);
  };
} where
  lower : (a b : ℕ) → nat_lt a b ≡ true → a < b
  lower a b e = grind (arith, nat_tests, e)
