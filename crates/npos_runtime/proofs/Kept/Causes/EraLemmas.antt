-- No cause stands against the eras of a sound chain.
use Rattle.std.proofs.Common.{◌≡◌, ◌≢◌, ℕ, zero, suc, ◌+◌, ◌-◌, ◌≤◌, ◌<◌, min, Bool, true, false, not, cond, ◌||◌}
use Rattle.std.proofs.Common.{nat_eq, nat_lt, is_some, unwrap_or, All, List, [], ◌∷◌, length, map, drop, take}
use Rattle.std.proofs.Common.{slice_get, get_or, Option, Some, None, option_map, refl, ap, ap₂, sym, subst, ◌∙◌, arith}
use Rattle.std.specs.List.{IsDistinct}
use Rattle.std.specs.List.Sorted.{IsStrictlySortedBy}
use Rattle.std.specs.Map.{keys_of, values_of}
use Rattle.std.specs.Ordering.{is_lt}
use Rattle.std.specs.declared.cmp.Ordering.TheVariants.{Less}
use Rattle.std.proofs.lemmas.Bool.Decides.{nat_tests}
use Rattle.std.proofs.lemmas.List.Elements.{All-nil, All-cons, All-head, All-tail, All-append, All-map}
use Rattle.std.proofs.lemmas.List.Folds.{list_any_none}
use Rattle.std.proofs.lemmas.Option.{unwrap_or-slice_get}
use Rattle.npos_base.specs.declared.account.AccountId.{AccountId}
use Rattle.npos_base.specs.declared.limits.TheConstants.{MOST_PAST_ERAS, WHOLE_FRACTION}
use Rattle.npos_base.specs.Account.{account_cmp, same_account}
use Rattle.npos_base.proofs.AccountOrder.{same_exact}
use Rattle.block_wire.specs.declared.genesis.Params.{Params}
use Rattle.stake_ledger.specs.declared.book_row.BookRow.{BookRow}
use Rattle.stake_ledger.specs.Ledger.{Ledger, row_of}
use Rattle.era_book.specs.declared.exposure.Backer.{Backer}
use Rattle.era_book.specs.Exposures as exposures
use Rattle.era_book.specs.Members.{Member, Members}
use Rattle.era_book.specs.Eras.{Eras, members_in, AreMembers}
use Rattle.era_book.proofs.HistoryLemmas.{numbers_known}
use Rattle.chain_params.specs.Rules.{era_of}
use Rattle.state_rules.specs.declared.state.EraRow.{EraRow}
use Rattle.state_rules.specs.declared.state.MemberRow.{MemberRow}
use Rattle.state_rules.specs.Lists.{has_bad, bad_place, follows}
use Rattle.state_rules.specs.Accounts.{stands_in, is_below}
use Rattle.state_rules.specs.Known.{has_row}
use Rattle.state_rules.specs.Terms.{era_before}
use Rattle.state_rules.specs.Eras.{is_bad_line, names_unknown, has_late_own}
use Rattle.state_rules.specs.Sound.{EachIs, AreSoundBackers, IsSoundEra}
use Rattle.state_rules.specs.Sound as rule
use Rattle.state_rules.proofs.SoundLemmas.{none_is, no_some, none_of}
use Rattle.npos_runtime.specs.declared.chain.Chain.{Chain}
use Rattle.npos_runtime.specs.Live.{HaveFractions, IsReady}
use Rattle.npos_runtime.specs.Kept.State.{book_row, member_row, era_row, era_rows, kept, IsTrueMember, AreTrueMembers, IsTold}
use Rattle.npos_runtime.specs.Kept.Chain.{IsInForm, AreKeptEras}
use Rattle.npos_runtime.specs.Kept.Sound.{AreKnown, IsSoundMember, IsSoundChain}
use Rattle.npos_runtime.proofs.Kept.FormLemmas.{kept_form}
use Rattle.npos_runtime.proofs.Kept.RowLemmas.{row_known, pairs_follow, pairs_map, sorted_pairs}
use Rattle.npos_runtime.proofs.Kept.Causes.RowLemmas.{era_kept}
use Rattle.npos_runtime.proofs.Kept.Causes.RoleLemmas.{none_again}

-- ## Lines

-- accounts that have rows in the books have them in the state
pub lines_known : (book : Ledger) (lines : List Backer) → AreKnown book (map (λ line. line.who) lines) → names_unknown (map book_row book.rows) lines ≡ false
lines_known book [] known = refl
lines_known book (line ∷ lines) known =
    ap (λ b. not b || names_unknown (map book_row book.rows) lines)
    (row_known book line.who ∙ All-head (λ who. is_some (row_of book who) ≡ true) line.who (map (λ (each : Backer). each.who) lines) known)
    ∙ lines_known book lines (All-tail (λ who. is_some (row_of book who) ≡ true) line.who (map (λ (each : Backer). each.who) lines) known)

-- lines that each give something, of different accounts, are in form
pub lines_good : (lines : List Backer) → All (λ line. 0 < line.amount) lines → IsDistinct same_account (map (λ line. line.who) lines)
    → has_bad is_bad_line lines ≡ false
lines_good lines given apart =
    no_some (bad_place is_bad_line lines)
    (none_is is_bad_line (λ before line. is_bad_line before line ≡ false) lines (λ before line e. e)
    (λ place d few.
    none_of (nat_eq (get_or lines place d).amount 0) (stands_in (map (λ (earlier : Backer). earlier.who) (take place lines)) (get_or lines place d).who)
    (some (get_or lines place d).amount (given place d few)) (none_again (λ (line : Backer). line.who) lines apart place d few))) where
      some : (amount : ℕ) → 0 < amount → nat_eq amount 0 ≡ false
      some amount above = grind (arith, nat_tests, above)

own_first : (who : AccountId) (backers : List Backer) → All (λ backer. backer.who ≢ who) (drop 1 backers) → has_late_own who backers ≡ false
own_first who [] others = refl
own_first who (first ∷ backers) others =
    list_any_none (λ (backer : Backer). same_account backer.who who) backers (λ k d few. differ (get_or backers k d).who (others k d few)) where
      differ : (other : AccountId) → other ≢ who → same_account other who ≡ false
      differ other apart = at (same_account other who) refl where
        at : (b : Bool) → same_account other who ≡ b → b ≡ false
        at true is = absurd (apart (same_exact other who is))
        at false is = refl

-- ## Members

-- what holds of a member in the books, of its exposure, and of its kept fraction
record IsFitMember (book : Ledger) (entry : AccountId × Member) : Type 0 where
  sound : IsSoundMember book entry
  exposed : exposures.IsSoundExposure entry.1.exposure
  fraction : entry.1.fraction ≤ WHOLE_FRACTION

abbrev AreRightMembers : List BookRow → List MemberRow → Type 0
AreRightMembers rows members = EachIs (rule.IsSoundMember rows) members

-- what holds of a member by itself
abbrev IsRight : Ledger → MemberRow → Type 0
IsRight book member =
    (has_row (map book_row book.rows) member.who ≡ true) × (member.commission ≤ WHOLE_FRACTION) × (member.fraction ≤ WHOLE_FRACTION)
    × AreSoundBackers (map book_row book.rows) member.who member.backers

-- a member's row under the account that it stands under
abbrev keyed_row : AccountId × Member → MemberRow
keyed_row entry = record (member_row entry) { who = entry.0 }

rows_keyed : (members : Members) → AreTrueMembers members → map keyed_row members ≡ map member_row members
rows_keyed [] own = refl
rows_keyed (entry ∷ members) own =
    ap₂ (λ (row : MemberRow) (rows : List MemberRow). row ∷ rows)
    (ap (λ (who : AccountId). record (member_row entry) { who = who }) (sym (All-head IsTrueMember entry members own).own))
    (rows_keyed members (All-tail IsTrueMember entry members own))

members_right : (book : Ledger) (members : Members) → IsStrictlySortedBy account_cmp (keys_of members) → All (IsFitMember book) members
    → AreRightMembers (map book_row book.rows) (map keyed_row members)
members_right book members rising fit place d few = record {
  above = above place d few;
  known = (each place d few).0;
  commission = (each place d few).1;
  fraction = (each place d few).2;
  backers = (each place d few).3;
} where
  above : EachIs (λ (before : List MemberRow) (member : MemberRow). follows (λ earlier later. is_below earlier.who later.who) before member ≡ true) (map keyed_row members)
  above =
      pairs_follow (λ (first later : MemberRow). account_cmp first.who later.who ≡ Less) (λ (earlier later : MemberRow). is_below earlier.who later.who)
      (λ first later lower. ap is_lt lower) (map keyed_row members)
      (pairs_map keyed_row (λ (first later : MemberRow). account_cmp first.who later.who ≡ Less) members
      (sorted_pairs (λ (entry : AccountId × Member). entry.0) members rising))

  right : {entry : AccountId × Member} → IsFitMember book entry → IsRight book (keyed_row entry)
  right {entry} is = (
    row_known book entry.0 ∙ is.sound.known,
    is.exposed.commission,
    is.fraction,
    record {
      own_first = own_first entry.0 entry.1.exposure.backers is.sound.own_first;
      fits = is.sound.fits;
      known = lines_known book entry.1.exposure.backers is.sound.backers;
      lines = lines_good entry.1.exposure.backers is.sound.given is.exposed.distinct;
    },
  )

  each : All (IsRight book) (map keyed_row members)
  each = All-map (IsRight book) keyed_row members (λ k e within. right (fit k e within))

-- ## The eras that are kept

-- the members of each era that is kept stand at its place
pub kept_at : (eras : Eras) → length eras.kept ≡ min (eras.current + 1) (MOST_PAST_ERAS + 1) → (place : ℕ) (d : Members) → place < length eras.kept
    → members_in eras (eras.current - place) ≡ get_or eras.kept place d
kept_at eras count place d few =
    ap (λ b. unwrap_or (cond b None (slice_get eras.kept (eras.current - (eras.current - place)))) [])
    (numbers_known eras (eras.current - place) (omega arith) (omega (arith, count, few)))
    ∙ (unwrap_or-slice_get eras.kept (eras.current - (eras.current - place)) []
    ∙ (ap (λ n. get_or eras.kept n []) back ∙ any_default eras.kept place few)) where
      back : eras.current - (eras.current - place) ≡ place
      back = omega (arith, count, few)

      any_default : (all : List Members) (k : ℕ) → k < length all → get_or all k [] ≡ get_or all k d
      any_default [] k within = absurd (omega (arith, within))
      any_default (members ∷ all) zero within = refl
      any_default (members ∷ all) (suc k) within = any_default all k (omega (arith, within))

-- no row is of era 0, where that era has no member
rows_later : (era : ℕ) (kept_members : List Members) → length kept_members ≤ era + 1
    → ((place : ℕ) (d : Members) → place < length kept_members → place ≡ era → get_or kept_members place d ≡ [])
    → All (λ (row : EraRow). 1 ≤ row.era) (era_rows era kept_members)
rows_later era [] few none = All-nil (λ (row : EraRow). 1 ≤ row.era)
rows_later zero (members ∷ []) few none =
    subst (λ (each : Members). All (λ (row : EraRow). 1 ≤ row.era) (era_row zero each)) (sym (none 0 members (omega arith) refl)) (All-nil (λ (row : EraRow). 1 ≤ row.era))
rows_later zero (members ∷ next ∷ before) few none = absurd (omega (arith, few))
rows_later (suc era) (members ∷ before) few none =
    All-append (λ (row : EraRow). 1 ≤ row.era) (era_rows (suc era - 1) before) (era_row (suc era) members)
    (rows_later (suc era - 1) before (omega (arith, few))
    (λ place d within is. none (suc place) d (omega (arith, within)) (omega (arith, is))))
    (here members) where
      here : (members : Members) → All (λ (row : EraRow). 1 ≤ row.era) (era_row (suc era) members)
      here [] = All-nil (λ (row : EraRow). 1 ≤ row.era)
      here (member ∷ more) =
          All-cons (λ (row : EraRow). 1 ≤ row.era) (record { era = suc era; members = map member_row (member ∷ more) }) [] (omega arith)
          (All-nil (λ (row : EraRow). 1 ≤ row.era))

-- what holds of the members of each era holds of those of its row
pub rows_members : (Right : List MemberRow → Type 0) (era : ℕ) (kept_members : List Members) → All (λ members. Right (map member_row members)) kept_members
    → All (λ (row : EraRow). Right row.members) (era_rows era kept_members)
rows_members Right era [] all = All-nil (λ (row : EraRow). Right row.members)
rows_members Right era (members ∷ before) all =
    All-append (λ (row : EraRow). Right row.members) (era_rows (era - 1) before) (era_row era members)
    (rows_members Right (era - 1) before (All-tail (λ (each : Members). Right (map member_row each)) members before all))
    (here members (All-head (λ (each : Members). Right (map member_row each)) members before all)) where
      here : (members : Members) → Right (map member_row members) → All (λ (row : EraRow). Right row.members) (era_row era members)
      here [] right = All-nil (λ (row : EraRow). Right row.members)
      here (member ∷ more) right =
          All-cons (λ (row : EraRow). Right row.members) (record { era = era; members = map member_row (member ∷ more) }) [] right
          (All-nil (λ (row : EraRow). Right row.members))

-- ## The eras of a chain

module _ (chain : Chain) (ready : IsReady chain) (told : IsTold chain) (sound : IsSoundChain chain) where
  abbrev all_rows : List EraRow
  all_rows = era_rows chain.eras.current chain.eras.kept

  form : AreKeptEras chain.eras.current all_rows
  form =
      let whole : IsInForm (kept chain) = kept_form chain ready.between told in
      subst (λ (last : ℕ). AreKeptEras last all_rows) (era_kept chain told) whole.eras

  later : All (λ (row : EraRow). 1 ≤ row.era) all_rows
  later =
      rows_later chain.eras.current chain.eras.kept (omega (arith, told.eras.count))
      (λ place d few is.
      let zeroth : chain.eras.current - place ≡ 0 = omega (arith, is) in
      sym (kept_at chain.eras told.eras.count place d few) ∙ (ap (members_in chain.eras) zeroth ∙ sound.eras.first))

  fit : (place : ℕ) (d : Members) → place < length chain.eras.kept → AreRightMembers (kept chain).rows (map member_row (get_or chain.eras.kept place d))
  fit place d few =
      subst (AreRightMembers (kept chain).rows) (rows_keyed (get_or chain.eras.kept place d) (told.eras.members place d few))
      (members_right chain.book (get_or chain.eras.kept place d) (sound.eras.members place d few).rising
      (parts (get_or chain.eras.kept place d) (sound.eras.members place d few).each (ready.between.slashes.order.kept.sound place d few)
      (ready.between.slashes.order.fractions place d few))) where
        parts : (members : Members) → All (IsSoundMember chain.book) members → AreMembers members
            → HaveFractions members → All (IsFitMember chain.book) members
        parts [] each exposed whole = All-nil (IsFitMember chain.book)
        parts (entry ∷ members) each exposed whole =
            All-cons (IsFitMember chain.book) entry members
            record {
              sound = All-head (IsSoundMember chain.book) entry members each;
              exposed = All-head (λ (member : Member). exposures.IsSoundExposure member.exposure) entry.1 (values_of members) exposed;
              fraction = All-head (λ (member : Member). member.fraction ≤ WHOLE_FRACTION) entry.1 (values_of members) whole;
            }
            (parts members (All-tail (IsSoundMember chain.book) entry members each)
            (All-tail (λ (member : Member). exposures.IsSoundExposure member.exposure) entry.1 (values_of members) exposed)
            (All-tail (λ (member : Member). member.fraction ≤ WHOLE_FRACTION) entry.1 (values_of members) whole))

  right : All (λ (row : EraRow). AreRightMembers (kept chain).rows row.members) all_rows
  right = rows_members (AreRightMembers (kept chain).rows) chain.eras.current chain.eras.kept (λ place d few. fit place d few)

  -- an era above 0 needs params
  with_params : 1 ≤ chain.eras.current → is_some (kept chain).params ≡ true
  with_params above = at chain.params told.eras.era where
    at : (params : Option Params) → chain.eras.current ≡ era_of params (chain.due - 1)
        → is_some {T = Params × ℕ} (option_map (λ (terms : Params). (terms, chain.defer)) params) ≡ true
    at None is = absurd (omega (arith, above, is))
    at (Some params) is = refl

  risen : EachIs (λ (before : List EraRow) (row : EraRow). follows (λ earlier later. nat_lt earlier.era later.era) before row ≡ true) all_rows
  risen =
      pairs_follow (λ (first later : EraRow). first.era < later.era) (λ (earlier later : EraRow). nat_lt earlier.era later.era)
      (λ first later lower. under first.era later.era lower) all_rows form.rising where
        under : (a b : ℕ) → a < b → nat_lt a b ≡ true
        under a b lower = grind (arith, nat_tests, lower)

  peopled : (members : List MemberRow) → members ≢ [] → 1 ≤ length members
  peopled [] some = absurd (some refl)
  peopled (member ∷ more) some = omega arith

  each_era : EachIs (IsSoundEra (is_some (kept chain).params) chain.eras.current (kept chain).rows) all_rows
  each_era place d few =
      let kept_era = form.each place d few in
      let from_one : 1 ≤ (get_or all_rows place d).era = later place d few in
      let begun : (get_or all_rows place d).era ≤ chain.eras.current = kept_era.begun in
      record {
        params = with_params (omega (arith, from_one, begun));
        begun = from_one;
        reached = begun;
        kept = kept_era.recent;
        above = risen place d few;
        some = peopled (get_or all_rows place d).members kept_era.peopled;
        members = right place d few;
      }

  pub sound_eras : EachIs (IsSoundEra (is_some (kept chain).params) (era_before (kept chain)) (kept chain).rows) (kept chain).eras
  sound_eras =
      subst (λ (current : ℕ). EachIs (IsSoundEra (is_some (kept chain).params) current (kept chain).rows) all_rows) (sym (era_kept chain told)) each_era
