-- The chain of the state that a chain keeps is that chain, but for what no later block goes by: a lemma a part.
use Rattle.std.proofs.Common.{◌≡◌, ℕ, zero, suc, ◌+◌, ◌-◌, ◌≤◌, ◌<◌, min, Bool, true, false, cond, nat_eq, is_some, All, List, [], ◌∷◌}
use Rattle.std.proofs.Common.{◌++◌, length, map, fold, Option, Some, None, option_map, refl, ap, ap₂, sym, ◌∙◌, arith, if◌then◌else◌}
use Rattle.std.specs.List.{AllByRecursion}
use Rattle.std.specs.List.Sorted.{IsStrictlySortedBy}
use Rattle.std.specs.Map.{keys_of}
use Rattle.std.proofs.lemmas.List.Elements.{All-head, All-tail}
use Rattle.std.proofs.lemmas.Slice.Zip.{firsts-zip, seconds-zip}
use Rattle.npos_base.specs.declared.account.AccountId.{AccountId}
use Rattle.npos_base.specs.declared.limits.TheConstants.{MOST_PAST_ERAS}
use Rattle.npos_base.specs.Account.{account_cmp, same_account}
use Rattle.npos_base.proofs.AccountOrder.{account_total, account_exact, same_exact, same_ordered}
use Rattle.npos_base.proofs.EntryLemmas.{sorted_put, lookup_put, lookup_other}
use Rattle.npos_base.proofs.NumberTests.{number_same, number_test}
use Rattle.block_wire.specs.declared.genesis.Params.{Params}
use Rattle.voter_lists.specs.declared.standing.Standing.{Standing}
use Rattle.voter_lists.specs.declared.standing.Standing.TheVariants as standing
use Rattle.voter_lists.specs.Roles.{RoleList, standing_of}
use Rattle.voter_lists.specs.Bags.{Order, number_of, is_listed}
use Rattle.election_snapshot.specs.Snapshot.{Snapshot}
use Rattle.submission_queue.specs.declared.submission.Submission.{Submission}
use Rattle.era_book.specs.Members.{Member, Members}
use Rattle.chain_params.specs.Rules.{era_of, thresholds_in, places_of, deposit_of}
use Rattle.state_rules.specs.declared.state.RoleRow.{RoleRow}
use Rattle.state_rules.specs.declared.state.EraRow.{EraRow}
use Rattle.npos_runtime.specs.declared.chain.Chain.{Chain}
use Rattle.npos_runtime.specs.declared.round.Round.{Round}
use Rattle.npos_runtime.specs.declared.round.Round.TheVariants as rounds
use Rattle.npos_runtime.specs.Rules.Committee.{Committee}
use Rattle.npos_runtime.specs.Rules.Lists.{has_role}
use Rattle.npos_runtime.specs.Kept.Parts.{open_of, kept_committee, as_kept, AreAlike}
use Rattle.npos_runtime.specs.Kept.State.{book_row, kind_in, role_row, member_row, era_row, era_rows, voter_row, round_row, open_row, queue_row}
use Rattle.npos_runtime.specs.Kept.State.{waiting_row, state_of, kept, IsTrueMember, AreTrueMembers, IsTrueSnapshot, IsTrueRound, IsTrueCommittee, IsTold}
use Rattle.state_rules.specs.Terms.{params_of, defer_in, era_before}
use Rattle.npos_runtime.specs.Kept.Chain.{book_entry, standing_in, with_role, roles_in, bag_entry, member_entry, members_at, eras_back}
use Rattle.npos_runtime.specs.Kept.Chain.{voter_in, snapshot_in, commissions_in, round_in, submission_in, committee_in, chain_of}
use Rattle.npos_runtime.specs.Kept.Laws.{SameKeptLaw}
use Rattle.npos_runtime.proofs.Kept.SameEntryLemmas.{entries_same}
use Rattle.npos_runtime.proofs.Kept.AlikeLemmas.{step_alike}

-- ## Rows one by one

-- rows that are read as they were written give the list again
pub back_all : {X Y : Type 0} (P : X → Type 0) (f : X → Y) (g : Y → X) → ((x : X) → P x → g (f x) ≡ x) → (xs : List X) → All P xs → map g (map f xs) ≡ xs
back_all P f g each [] all = refl
back_all P f g each (x ∷ xs) all =
    ap₂ (λ y ys. y ∷ ys) (each x (All-head P x xs all)) (back_all P f g each xs (All-tail P x xs all))

pub back : {X Y : Type 0} (f : X → Y) (g : Y → X) → ((x : X) → g (f x) ≡ x) → (xs : List X) → map g (map f xs) ≡ xs
back f g each [] = refl
back f g each (x ∷ xs) = ap₂ (λ y ys. y ∷ ys) (each x) (back f g each xs)

-- ## Params

pub params_back : (params : Option Params) (defer : ℕ) → option_map (λ (terms : Params × ℕ). terms.0) (option_map (λ (ps : Params). (ps, defer)) params) ≡ params
params_back None defer = refl
params_back (Some params) defer = refl

defer_back : (params : Option Params) (defer : ℕ) → (params ≡ None → defer ≡ 0) → defer_in (option_map (λ (ps : Params). (ps, defer)) params) ≡ defer
defer_back None defer none = sym (none refl)
defer_back (Some params) defer none = refl

-- ## Roles

standing_back : (standing : Standing) → standing_in (kind_in (Some standing)) ≡ standing
standing_back (standing.Nominator targets) = refl
standing_back (standing.Validator commission) = refl

module _ (roles : RoleList) where
  abbrev stands : AccountId → Standing
  stands who = standing_in (kind_in (standing_of roles who))

  -- who stands in the bags has the standing of its row, and nobody else has one
  read_roles : (order : Order) (old : RoleList) (who : AccountId)
      → standing_of (fold with_role old (map (role_row roles) order)) who ≡ cond (is_listed order who) (Some (stands who)) (standing_of old who)
  read_roles [] old who = refl
  read_roles (entry ∷ order) old who = read_roles order next who ∙ at (same_account entry.0 who) refl where
    next : RoleList
    next = with_role old (role_row roles entry)

    here : same_account entry.0 who ≡ true → standing_of next who ≡ Some (stands who)
    here is =
        let same : entry.0 ≡ who = same_exact entry.0 who is in
        ap (λ (q : AccountId). standing_of next q) (sym same)
        ∙ lookup_put account_total entry.0 (stands entry.0) old
        ∙ ap (λ (q : AccountId). Some (stands q)) same

    first : (listed : Bool) → cond listed (Some (stands who)) (Some (stands who)) ≡ Some (stands who)
    first true = refl
    first false = refl

    at : (b : Bool) → same_account entry.0 who ≡ b
        → cond (is_listed order who) (Some (stands who)) (standing_of next who)
        ≡ cond (is_some (cond b (Some entry.1) (number_of order who))) (Some (stands who)) (standing_of old who)
    at true is = ap (λ (found : Option Standing). cond (is_listed order who) (Some (stands who)) found) (here is) ∙ first (is_listed order who)
    at false is =
        ap (λ (found : Option Standing). cond (is_listed order who) (Some (stands who)) found)
        (lookup_other account_total entry.0 (stands entry.0) who old (same_ordered entry.0 who is))

  pub sorted_roles : (rows : List RoleRow) (old : RoleList) → IsStrictlySortedBy account_cmp (keys_of old) → IsStrictlySortedBy account_cmp (keys_of (fold with_role old rows))
  sorted_roles [] old s = s
  sorted_roles (row ∷ rows) old s = sorted_roles rows (with_role old row) (sorted_put account_total row.who (standing_in row.role) old s)

  roles_found : (order : Order) (who : AccountId) → is_listed order who ≡ has_role roles who → standing_of (roles_in (map (role_row roles) order)) who ≡ standing_of roles who
  roles_found order who joined =
      read_roles order [] who
      ∙ (ap (λ (b : Bool). cond b (Some (stands who)) None) joined
      ∙ at (standing_of roles who)) where
        at : (found : Option Standing) → cond (is_some found) (Some (standing_in (kind_in found))) None ≡ found
        at None = refl
        at (Some standing) = ap Some (standing_back standing)

  pub roles_back : (order : Order) → IsStrictlySortedBy account_cmp (keys_of roles) → ((who : AccountId) → is_listed order who ≡ has_role roles who)
      → roles_in (map (role_row roles) order) ≡ roles
  unfolding IsStrictlySortedBy
  roles_back order rising joined =
      entries_same account_total account_exact (roles_in (map (role_row roles) order)) roles
      (sorted_roles (map (role_row roles) order) [] tt) rising (λ who. roles_found order who (joined who))

-- ## Eras

pub all_both : {X : Type 0} (P : X → Type 0) (xs ys : List X) → AllByRecursion P xs → AllByRecursion P ys → AllByRecursion P (xs ++ ys)
all_both P [] ys first second = second
all_both P (x ∷ xs) ys first second = (first.0, all_both P xs ys first.1 second)

member_back : (entry : AccountId × Member) → IsTrueMember entry → member_entry (member_row entry) ≡ entry
member_back entry true_is = λ i. (
  true_is.own i,
  record entry.1 { exposure = record entry.1.exposure { support = sym true_is.support i } },
)

-- rows are of the era of this number and of those before it
pub rows_until : (most era : ℕ) (kept_members : List Members) → era ≤ most → AllByRecursion (λ (row : EraRow). row.era ≤ most) (era_rows era kept_members)
rows_until most era [] within = tt
rows_until most era (members ∷ before) within =
    all_both (λ (row : EraRow). row.era ≤ most) (era_rows (era - 1) before) (era_row era members)
    (rows_until most (era - 1) before (omega (arith, within))) (here members) where
      here : (members : Members) → AllByRecursion (λ (row : EraRow). row.era ≤ most) (era_row era members)
      here [] = tt
      here (member ∷ more) = (within, tt)

-- rows of other eras are passed by
members_behind : (era : ℕ) (first rows : List EraRow) → AllByRecursion (λ (row : EraRow). row.era < era) first → members_at era (first ++ rows) ≡ members_at era rows
members_behind era [] rows other = refl
members_behind era (row ∷ first) rows other =
    let below : row.era < era = other.0 in
    let apart : nat_eq row.era era ≡ false = number_test row.era era (λ same. omega (arith, same, below)) in
    rw apart (members_behind era first rows other.1)

members_first : (era : ℕ) (first rows : List EraRow) → AllByRecursion (λ (row : EraRow). era < row.era) rows → members_at era (first ++ rows) ≡ members_at era first
members_first era [] [] other = refl
members_first era [] (row ∷ rows) other =
    let above : era < row.era = other.0 in
    let apart : nat_eq row.era era ≡ false = number_test row.era era (λ same. omega (arith, same, above)) in
    rw apart (members_first era [] rows other.1)
members_first era (row ∷ first) rows other =
    ap (λ (members : Members). if nat_eq row.era era then map member_entry row.members else members) (members_first era first rows other)

pub back_first : (count era : ℕ) (first rows : List EraRow) → AllByRecursion (λ (row : EraRow). era < row.era) rows → eras_back count era (first ++ rows) ≡ eras_back count era first
back_first zero era first rows other = refl
back_first (suc more) era first rows other =
    ap₂ (λ (members : Members) (before : List Members). members ∷ before) (members_first era first rows other)
    (back_first more (era - 1) first rows (lower rows other)) where
      lower : (rows : List EraRow) → AllByRecursion (λ (row : EraRow). era < row.era) rows → AllByRecursion (λ (row : EraRow). era - 1 < row.era) rows
      lower [] all = tt
      lower (row ∷ rows) all = let above : era < row.era = all.0 in (omega (arith, above), lower rows all.1)

members_back : (era : ℕ) (members : Members) → AreTrueMembers members → members_at era (era_row era members) ≡ members
members_back era [] all = refl
members_back era (member ∷ more) all =
    rw (number_same era) (back_all IsTrueMember member_row member_entry member_back (member ∷ more) all)

pub eras_are_back : (era : ℕ) (kept_members : List Members) → length kept_members ≤ era + 1 → All AreTrueMembers kept_members
    → eras_back (length kept_members) era (era_rows era kept_members) ≡ kept_members
eras_are_back era [] few all = refl
eras_are_back era (members ∷ before) few all =
    ap₂ (λ (first : Members) (rest : List Members). first ∷ rest)
    (members_behind era (era_rows (era - 1) before) (era_row era members) (under before few)
    ∙ members_back era members (All-head AreTrueMembers members before all))
    (rest before few (eras_are_back (era - 1) before) (All-tail AreTrueMembers members before all)) where
      strictly : (least : ℕ) → least < era → (rows : List EraRow) → AllByRecursion (λ (row : EraRow). row.era ≤ least) rows → AllByRecursion (λ (row : EraRow). row.era < era) rows
      strictly least lt [] all = tt
      strictly least lt (row ∷ rows) all = let within : row.era ≤ least = all.0 in (omega (arith, within, lt), strictly least lt rows all.1)

      under : (before : List Members) → suc (length before) ≤ era + 1 → AllByRecursion (λ (row : EraRow). row.era < era) (era_rows (era - 1) before)
      under [] few = tt
      under (next ∷ before) few =
          strictly (era - 1) (omega (arith, few)) (era_rows (era - 1) (next ∷ before)) (rows_until (era - 1) (era - 1) (next ∷ before) (omega arith))

      above : 1 ≤ era → (members : Members) → AllByRecursion (λ (row : EraRow). era - 1 < row.era) (era_row era members)
      above from [] = tt
      above from (member ∷ more) = (omega (arith, from), tt)

      rest : (before : List Members) → suc (length before) ≤ era + 1
          → (length before ≤ era - 1 + 1 → All AreTrueMembers before → eras_back (length before) (era - 1) (era_rows (era - 1) before) ≡ before)
          → All AreTrueMembers before
          → eras_back (length before) (era - 1) (era_rows (era - 1) before ++ era_row era members) ≡ before
      rest [] few later all = refl
      rest (next ∷ before) few later all =
          back_first (suc (length before)) (era - 1) (era_rows (era - 1) (next ∷ before)) (era_row era members) (above (omega (arith, few)) members)
          ∙ later (omega (arith, few)) all

-- ## The round and who waits

snapshot_back : (params : Option Params) (snapshot : Snapshot) (commissions : List ℕ) → IsTrueSnapshot params snapshot commissions
    → snapshot_in params (round_row snapshot commissions) ≡ snapshot
snapshot_back params snapshot commissions is = λ i. record {
  targets = firsts-zip snapshot.targets commissions is.count i;
  voters = back voter_row voter_in (λ voter. refl) snapshot.voters i;
  seats = sym is.seats i;
}

commissions_back : (params : Option Params) (snapshot : Snapshot) (commissions : List ℕ) → IsTrueSnapshot params snapshot commissions
    → commissions_in (round_row snapshot commissions) ≡ commissions
commissions_back params snapshot commissions is = seconds-zip snapshot.targets commissions is.count

round_back : (params : Option Params) (due : ℕ) (round : Option Round) → IsTrueRound params due round
    → option_map (round_in params due) (open_row (open_of round)) ≡ open_of round
round_back params due None is = refl
round_back params due (Some (rounds.Void number)) is = refl
round_back params due (Some (rounds.Open number snapshot commissions)) is = λ i. Some (rounds.Open (sym is.0 i)
    (snapshot_back params snapshot commissions is.1 i) (commissions_back params snapshot commissions is.1 i))

waiting_back : (params : Option Params) (waiting : Option Committee) → IsTrueCommittee params waiting
    → option_map (committee_in params) (option_map waiting_row (option_map kept_committee waiting)) ≡ option_map kept_committee waiting
waiting_back params None is = refl
waiting_back params (Some committee) is = λ i. Some (record (kept_committee committee) {
  snapshot = snapshot_back params committee.snapshot committee.commissions is i;
  commissions = commissions_back params committee.snapshot committee.commissions is i;
})

-- ## The chain

pub kept_back : (chain : Chain) → IsTold chain → chain_of (kept chain) ≡ as_kept chain
kept_back chain told = λ i. record {
  params = params i;
  defer = defer_back chain.params chain.defer told.params.defer i;
  book = record chain.book { rows = back book_row book_entry (λ entry. refl) chain.book.rows i };
  roles = roles_back chain.roles chain.bags.order told.rising told.listed i;
  bags = record {
    thresholds = (ap thresholds_in params ∙ sym told.params.thresholds) i;
    order = back (role_row chain.roles) bag_entry (λ entry. refl) chain.bags.order i;
  };
  round = (ap (λ (ps : Option Params). option_map (round_in ps chain.due) (open_row (open_of chain.round))) params
      ∙ round_back chain.params chain.due chain.round told.round) i;
  queue = record {
    items = (ap (λ (ps : Option Params). map (submission_in ps) (map queue_row chain.queue.items)) params
        ∙ back_all (λ (item : Submission). item.deposit ≡ deposit_of chain.params) queue_row (submission_in chain.params)
        (λ item is. λ j. record item { deposit = sym is j }) chain.queue.items told.params.deposits) i;
    places = (ap places_of params ∙ sym told.params.places) i;
  };
  next = chain.next;
  waiting = (ap (λ (ps : Option Params). option_map (committee_in ps) (option_map waiting_row (option_map kept_committee chain.waiting))) params
      ∙ waiting_back chain.params chain.waiting told.waiting) i;
  eras = record {
    current = era i;
    kept = (ap (λ (current : ℕ). eras_back (min (current + 1) (MOST_PAST_ERAS + 1)) current (era_rows chain.eras.current chain.eras.kept)) era
        ∙ (ap (λ (count : ℕ). eras_back count chain.eras.current (era_rows chain.eras.current chain.eras.kept)) (sym told.eras.count)
        ∙ eras_are_back chain.eras.current chain.eras.kept few told.eras.members)) i;
    queue = chain.eras.queue;
    next_slash = chain.eras.next_slash;
  };
  due = chain.due;
} where
  params : params_of (kept chain) ≡ chain.params
  params = params_back chain.params chain.defer

  era : era_before (kept chain) ≡ chain.eras.current
  era = ap (λ (ps : Option Params). era_of ps (chain.due - 1)) params ∙ sym told.eras.era

  few : length chain.eras.kept ≤ chain.eras.current + 1
  few = omega (arith, told.eras.count)

-- chains that keep the same state are alike
pub kept_alike : (one other : Chain) → IsTold one → IsTold other → kept one ≡ kept other → AreAlike one other
kept_alike one other first second same = sym (kept_back one first) ∙ (ap chain_of same ∙ kept_back other second)

pub same_kept : SameKeptLaw
same_kept one other block first second same =
    let goes = step_alike one other block (kept_alike one other first second same) in
    record { told = goes.lines; seated = goes.seated; kept = ap state_of goes.states }
