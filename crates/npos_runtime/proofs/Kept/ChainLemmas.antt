-- A state in form is led back to a chain that keeps it: a lemma a part.
use Rattle.std.proofs.Common.{◌≡◌, ◌≢◌, ℕ, zero, suc, ◌+◌, ◌-◌, ◌≤◌, ◌<◌, min, Bool, true, false, cond, ◌||◌}
use Rattle.std.proofs.Common.{IsTrue, nat_eq, nat_lt, is_some, All, List, [], ◌∷◌, ◌++◌, length, map, filter, fold}
use Rattle.std.proofs.Common.{Option, Some, None, option_map, refl, ap, ap₂, sym, subst, ◌∙◌, true≢false, arith}
use Rattle.std.specs.List.{AllByRecursion, AllPairs, IsDistinct, zip}
use Rattle.std.specs.List.Sorted.{IsStrictlySortedBy}
use Rattle.std.proofs.lemmas.Bool.Decides.{nat_tests}
use Rattle.std.proofs.lemmas.List.Elements.{All-nil, All-cons, recursion_from_All}
use Rattle.npos_base.specs.declared.account.AccountId.{AccountId}
use Rattle.npos_base.specs.declared.figures.Edge.{Edge}
use Rattle.npos_base.specs.declared.limits.TheConstants.{MOST_PAST_ERAS}
use Rattle.npos_base.specs.Account.{same_account}
use Rattle.npos_base.proofs.AccountOrder.{account_total, account_apart, same_exact, same_itself, same_ordered}
use Rattle.npos_base.proofs.EntryLemmas.{lookup_put, lookup_other}
use Rattle.block_wire.specs.declared.genesis.Params.{Params}
use Rattle.voter_lists.specs.Roles.{RoleList, standing_of}
use Rattle.voter_lists.specs.Bags.{is_listed, number_of}
use Rattle.weight_book.specs.GivenEdges.{gives, is_before, in_order, kept_edges}
use Rattle.submission_queue.specs.declared.submission.Submission.{Submission}
use Rattle.era_book.specs.Members.{Members}
use Rattle.chain_params.specs.Rules.{deposit_of}
use Rattle.state_rules.specs.declared.state.State.{State}
use Rattle.state_rules.specs.declared.state.RoleRow.{RoleRow}
use Rattle.state_rules.specs.declared.state.RoleKind.{RoleKind}
use Rattle.state_rules.specs.declared.state.RoleKind.TheVariants as kinds
use Rattle.state_rules.specs.declared.state.EraRow.{EraRow}
use Rattle.state_rules.specs.declared.state.MemberRow.{MemberRow}
use Rattle.state_rules.specs.declared.state.RoundRow.{RoundRow}
use Rattle.state_rules.specs.declared.state.QueueRow.{QueueRow}
use Rattle.state_rules.specs.declared.state.WaitingRow.{WaitingRow}
use Rattle.npos_runtime.specs.Kept.Parts.{open_of, kept_committee}
use Rattle.npos_runtime.specs.Kept.State.{book_row, kind_in, role_row, member_row, era_row, era_rows, voter_row, round_row, open_row, queue_row}
use Rattle.npos_runtime.specs.Kept.State.{waiting_row, kept, IsTrueMember, AreTrueMembers, IsTrueSnapshot, IsTrueRound, IsTrueCommittee, IsTold}
use Rattle.state_rules.specs.Terms.{params_of, defer_in, era_before}
use Rattle.npos_runtime.specs.Kept.Chain.{book_entry, standing_in, with_role, roles_in, bag_entry, member_entry, members_at}
use Rattle.npos_runtime.specs.Kept.Chain.{eras_back, voter_in, snapshot_in, commissions_in, round_in, submission_in}
use Rattle.npos_runtime.specs.Kept.Chain.{committee_in, chain_of, IsKeptEra, AreInOrder, IsWaitingInOrder, IsInForm}
use Rattle.npos_runtime.specs.Kept.Laws.{RestoreLaw}
use Rattle.weight_book.proofs.GivenEdgeLemmas.{Rise, in_order_risen, given_whole}
use Rattle.npos_runtime.proofs.Kept.StateLemmas.{back, sorted_roles, back_first}

-- ## Params

terms_back : (terms : Option (Params × ℕ)) → option_map (λ (ps : Params). (ps, defer_in terms)) (option_map (λ (t : Params × ℕ). t.0) terms) ≡ terms
terms_back None = refl
terms_back (Some terms) = refl

no_terms : (terms : Option (Params × ℕ)) → option_map (λ (t : Params × ℕ). t.0) terms ≡ None → defer_in terms ≡ 0
no_terms None none = refl
no_terms (Some terms) none = cc

-- ## Roles

kind_back : (kind : RoleKind) → kind_in (Some (standing_in kind)) ≡ kind
kind_back (kinds.Nominator targets) = refl
kind_back (kinds.Validator commission) = refl

pub other_account : (one other : AccountId) → same_account one other ≡ false → one ≢ other
other_account one other apart same =
    true≢false (sym (same_itself one) ∙ (ap (λ (who : AccountId). same_account one who) same ∙ apart))

-- the rows of others leave what stands of an account
standing_kept : (who : AccountId) (rows : List RoleRow) (old : RoleList) → AllByRecursion (λ (row : RoleRow). same_account who row.who ≡ false) rows
    → standing_of (fold with_role old rows) who ≡ standing_of old who
standing_kept who [] old apart = refl
standing_kept who (row ∷ rows) old apart =
    standing_kept who rows (with_role old row) apart.1
    ∙ lookup_other account_total row.who (standing_in row.role) who old (account_apart who row.who (other_account who row.who apart.0))

abbrev HasRole : RoleList → RoleRow → Type 0
HasRole roles row = standing_of roles row.who ≡ Some (standing_in row.role)

of_rows : (P : AccountId → Type 0) (rows : List RoleRow) → AllByRecursion P (map (λ (row : RoleRow). row.who) rows) → AllByRecursion (λ (row : RoleRow). P row.who) rows
of_rows P [] all = tt
of_rows P (row ∷ rows) all = (all.0, of_rows P rows all.1)

standings_read : (rows : List RoleRow) (old : RoleList) → IsDistinct same_account (map (λ (row : RoleRow). row.who) rows)
    → AllByRecursion (HasRole (fold with_role old rows)) rows
unfolding IsDistinct
standings_read [] old distinct = tt
standings_read (row ∷ rows) old distinct = (
  standing_kept row.who rows (with_role old row) (of_rows (λ who. same_account row.who who ≡ false) rows distinct.0)
      ∙ lookup_put account_total row.who (standing_in row.role) old,
  standings_read rows (with_role old row) distinct.1,
)

rows_again : (roles : RoleList) (rows : List RoleRow) → AllByRecursion (HasRole roles) rows → map (role_row roles) (map bag_entry rows) ≡ rows
rows_again roles [] all = refl
rows_again roles (row ∷ rows) all =
    ap₂ (λ (first : RoleRow) (more : List RoleRow). first ∷ more)
    (λ i. record row { role = (ap kind_in all.0 ∙ kind_back row.role) i }) (rows_again roles rows all.1)

-- who has a row has a role, and stands in the bags
listed_read : (rows : List RoleRow) (old : RoleList) (who : AccountId)
    → is_some (standing_of (fold with_role old rows) who) ≡ (is_listed (map bag_entry rows) who || is_some (standing_of old who))
listed_read [] old who = refl
listed_read (row ∷ rows) old who = listed_read rows (with_role old row) who ∙ at (same_account row.who who) refl where
  either_true : (b : Bool) → (b || true) ≡ true
  either_true true = refl
  either_true false = refl

  at : (b : Bool) → same_account row.who who ≡ b
      → (is_listed (map bag_entry rows) who || is_some (standing_of (with_role old row) who))
      ≡ (is_some (cond b (Some row.bag) (number_of (map bag_entry rows) who)) || is_some (standing_of old who))
  at true is =
      ap (λ (b : Bool). is_listed (map bag_entry rows) who || b)
      (ap (λ (q : AccountId). is_some (standing_of (with_role old row) q)) (sym (same_exact row.who who is))
      ∙ ap is_some (lookup_put account_total row.who (standing_in row.role) old))
      ∙ either_true (is_listed (map bag_entry rows) who)
  at false is =
      ap (λ (b : Bool). is_listed (map bag_entry rows) who || b)
      (ap is_some (lookup_other account_total row.who (standing_in row.role) who old (same_ordered row.who who is)))

listed_back : (rows : List RoleRow) (who : AccountId) → is_listed (map bag_entry rows) who ≡ is_some (standing_of (roles_in rows) who)
listed_back rows who = sym (listed_read rows [] who ∙ none (is_listed (map bag_entry rows) who)) where
  none : (b : Bool) → (b || false) ≡ b
  none true = refl
  none false = refl

-- ## Eras

-- rows rise by era
abbrev pub EraRise : List EraRow → Type 0
EraRise [] = Unit {0}
EraRise (row ∷ rows) = AllByRecursion (λ (later : EraRow). row.era < later.era) rows × EraRise rows

era_rise : (rows : List EraRow) → AllPairs (λ (first later : EraRow). first.era < later.era) rows → EraRise rows
era_rise [] up = tt
era_rise (row ∷ rows) up = (
  recursion_from_All (λ (later : EraRow). row.era < later.era) rows (λ k d few. up 0 (suc k) d (omega arith) (omega (arith, few))),
  era_rise rows (λ i j d lt few. up (suc i) (suc j) d (omega (arith, lt)) (omega (arith, few))),
)

-- the era began by the one, less than so many before it, and has a member
pub record IsRecent (era count : ℕ) (row : EraRow) : Type 0 where
  pub begun : row.era ≤ era
  pub recent : era < row.era + count
  pub peopled : row.members ≢ []

abbrev is_earlier : ℕ → EraRow → Bool
is_earlier era row = nat_lt row.era era

row_again : (era : ℕ) (row : EraRow) → row.era ≡ era → row.members ≢ [] → era_row era (map member_entry row.members) ≡ row ∷ []
row_again era row is some = at row.members refl some where
  at : (members : List MemberRow) → row.members ≡ members → members ≢ [] → era_row era (map member_entry members) ≡ row ∷ []
  at [] same some = absurd (some refl)
  at (member ∷ more) same some =
      (λ i. record { era = sym is i; members = back member_entry member_row (λ m. refl) (member ∷ more) i } ∷ [])
      ∙ (λ i. record { era = row.era; members = sym same i } ∷ [])

none_past : (era : ℕ) (count : ℕ) (rows : List EraRow) → AllByRecursion (λ (later : EraRow). era < later.era) rows → AllByRecursion (IsRecent era count) rows → rows ≡ []
none_past era count [] past all = refl
none_past era count (row ∷ rows) past all =
    let after : era < row.era = past.0 in
    let before : row.era ≤ era = all.0.begun in
    absurd (omega (arith, after, before))

-- the row of the era stands last
split : (era count : ℕ) (rows : List EraRow) → EraRise rows → AllByRecursion (IsRecent era count) rows
    → filter (is_earlier era) rows ++ era_row era (members_at era rows) ≡ rows
split era count [] up all = refl
split era count (row ∷ rows) up all = at (nat_lt row.era era) (nat_eq row.era era) refl refl (split era count rows up.1 all.1) where
  at : (b c : Bool) → nat_lt row.era era ≡ b → nat_eq row.era era ≡ c → filter (is_earlier era) rows ++ era_row era (members_at era rows) ≡ rows
      → cond b (row ∷ filter (is_earlier era) rows) (filter (is_earlier era) rows) ++ era_row era (cond c (map member_entry row.members) (members_at era rows))
      ≡ row ∷ rows
  at true true before same rest = absurd (grind (arith, nat_tests, before, same))
  at true false before same rest = ap (λ (more : List EraRow). row ∷ more) rest
  at false true before same rest =
      let is : row.era ≡ era = grind (arith, nat_tests, same) in
      let past : AllByRecursion (λ (later : EraRow). era < later.era) rows =
      subst (λ (n : ℕ). AllByRecursion (λ (later : EraRow). n < later.era) rows) is up.0 in
      let none : rows ≡ [] = none_past era count rows past all.1 in
      ap (λ (more : List EraRow). filter (is_earlier era) more ++ era_row era (map member_entry row.members)) none
      ∙ (row_again era row is all.0.peopled
      ∙ ap (λ (more : List EraRow). row ∷ more) (sym none))
  at false false before same rest =
      let within : row.era ≤ era = all.0.begun in
      absurd (grind (arith, nat_tests, before, same, within))

module _ (P Q : EraRow → Type 0) (test : EraRow → Bool) (each : (row : EraRow) → test row ≡ true → P row → Q row) where
  some_filter : (rows : List EraRow) → AllByRecursion P rows → AllByRecursion Q (filter test rows)
  some_filter [] all = tt
  some_filter (row ∷ rows) all = at (test row) refl (some_filter rows all.1) where
    at : (b : Bool) → test row ≡ b → AllByRecursion Q (filter test rows) → AllByRecursion Q (cond b (row ∷ filter test rows) (filter test rows))
    at true is rest = (each row is all.0, rest)
    at false is rest = rest

rise_filter : (test : EraRow → Bool) (rows : List EraRow) → EraRise rows → EraRise (filter test rows)
rise_filter test [] up = tt
rise_filter test (row ∷ rows) up = at (test row) (rise_filter test rows up.1) where
  at : (b : Bool) → EraRise (filter test rows) → EraRise (cond b (row ∷ filter test rows) (filter test rows))
  at true rest = (
    some_filter (λ (later : EraRow). row.era < later.era) (λ (later : EraRow). row.era < later.era) test (λ later is past. past) rows up.0,
    rest,
  )
  at false rest = rest

eras_again : (count era : ℕ) (rows : List EraRow) → count ≤ era + 1 → EraRise rows → AllByRecursion (IsRecent era count) rows
    → era_rows era (eras_back count era rows) ≡ rows
eras_again zero era [] few up all = refl
eras_again zero era (row ∷ rows) few up all =
    let before : row.era ≤ era = all.0.begun in
    let after : era < row.era + 0 = all.0.recent in
    absurd (omega (arith, before, after))
eras_again (suc more) era rows few up all =
    ap (λ (before : List Members). era_rows (era - 1) before ++ era_row era (members_at era rows)) (earlier more few)
    ∙ (ap (λ (first : List EraRow). first ++ era_row era (members_at era rows))
    (eras_again more (era - 1) front (omega (arith, few)) (rise_filter (is_earlier era) rows up) recent)
    ∙ split era (suc more) rows up all) where
      front : List EraRow
      front = filter (is_earlier era) rows

      above : 1 ≤ era → (members : Members) → AllByRecursion (λ (row : EraRow). era - 1 < row.era) (era_row era members)
      above from [] = tt
      above from (member ∷ rest) = (omega (arith, from), tt)

      earlier : (n : ℕ) → suc n ≤ era + 1 → eras_back n (era - 1) rows ≡ eras_back n (era - 1) front
      earlier zero few = refl
      earlier (suc n) few =
          ap (eras_back (suc n) (era - 1)) (sym (split era (suc more) rows up all))
          ∙ back_first (suc n) (era - 1) front (era_row era (members_at era rows)) (above (omega (arith, few)) (members_at era rows))

      recent : AllByRecursion (IsRecent (era - 1) more) front
      recent =
          some_filter (IsRecent era (suc more)) (IsRecent (era - 1) more) (is_earlier era) (λ row lower h. by row (grind (arith, nat_tests, lower)) h) rows all where
            by : (row : EraRow) → row.era < era → IsRecent era (suc more) row → IsRecent (era - 1) more row
            by row below h = record {
              begun = omega (arith, below);
              recent = omega (arith, h.recent, below);
              peopled = h.peopled;
            }

-- as many as the params ask for
count_back : (count era : ℕ) (rows : List EraRow) → length (eras_back count era rows) ≡ count
count_back zero era rows = refl
count_back (suc more) era rows = ap suc (count_back more (era - 1) rows)

true_rows : (rows : List MemberRow) → AreTrueMembers (map member_entry rows)
true_rows [] = All-nil IsTrueMember
true_rows (row ∷ rows) = All-cons IsTrueMember (member_entry row) (map member_entry rows) (record { own = refl; support = refl }) (true_rows rows)

true_at : (era : ℕ) (rows : List EraRow) → AreTrueMembers (members_at era rows)
true_at era [] = All-nil IsTrueMember
true_at era (row ∷ rows) = at (nat_eq row.era era) (true_at era rows) where
  at : (b : Bool) → AreTrueMembers (members_at era rows) → AreTrueMembers (cond b (map member_entry row.members) (members_at era rows))
  at true rest = true_rows row.members
  at false rest = rest

true_back : (count era : ℕ) (rows : List EraRow) → All AreTrueMembers (eras_back count era rows)
true_back zero era rows = All-nil AreTrueMembers
true_back (suc more) era rows =
    All-cons AreTrueMembers (members_at era rows) (eras_back more (era - 1) rows) (true_at era rows) (true_back more (era - 1) rows)

recent_rows : (last : ℕ) (rows : List EraRow) → All (IsKeptEra last) rows → AllByRecursion (IsRecent last (min (last + 1) (MOST_PAST_ERAS + 1))) rows
recent_rows last rows all = recursion_from_All (IsRecent last (min (last + 1) (MOST_PAST_ERAS + 1))) rows (λ k d few. by (all k d few)) where
  by : {row : EraRow} → IsKeptEra last row → IsRecent last (min (last + 1) (MOST_PAST_ERAS + 1)) row
  by h = record { begun = h.begun; recent = omega (arith, h.recent); peopled = h.peopled }

-- ## The round and who waits

pairs_again : (pairs : List (AccountId × ℕ)) → zip (map (λ (p : AccountId × ℕ). p.0) pairs) (map (λ (p : AccountId × ℕ). p.1) pairs) ≡ pairs
pairs_again [] = refl
pairs_again (pair ∷ pairs) = ap (λ (more : List (AccountId × ℕ)). pair ∷ more) (pairs_again pairs)

pub pairs_count : (pairs : List (AccountId × ℕ)) → length (map (λ (p : AccountId × ℕ). p.1) pairs) ≡ length (map (λ (p : AccountId × ℕ). p.0) pairs)
pairs_count [] = refl
pairs_count (pair ∷ pairs) = ap suc (pairs_count pairs)

row_back : (params : Option Params) (row : RoundRow) → round_row (snapshot_in params row) (commissions_in row) ≡ row
row_back params row = λ i. record {
  targets = pairs_again row.targets i;
  voters = back voter_in voter_row (λ voter. refl) row.voters i;
}

true_snapshot : (params : Option Params) (row : RoundRow) → IsTrueSnapshot params (snapshot_in params row) (commissions_in row)
true_snapshot params row = record { seats = refl; count = pairs_count row.targets }

round_again : (params : Option Params) (due : ℕ) (row : Option RoundRow) → open_row (open_of (option_map (round_in params due) row)) ≡ row
round_again params due None = refl
round_again params due (Some row) = ap Some (row_back params row)

round_told : (params : Option Params) (due : ℕ) (row : Option RoundRow) → IsTrueRound params due (option_map (round_in params due) row)
round_told params due None = tt
round_told params due (Some row) = (refl, true_snapshot params row)

edge_rise : (edges : List Edge) → AllPairs (λ (first later : Edge). IsTrue (is_before first later)) edges → Rise edges
edge_rise [] up = tt
edge_rise (edge ∷ edges) up = (
  recursion_from_All (λ (later : Edge). is_before edge later ≡ true) edges (λ k d few. up 0 (suc k) d (omega arith) (omega (arith, few))),
  edge_rise edges (λ i j d lt few. up (suc i) (suc j) d (omega (arith, lt)) (omega (arith, few))),
)

edges_again : (edges : List Edge) → AreInOrder edges → kept_edges edges ≡ edges
edges_again edges form =
    ap in_order (given_whole edges (recursion_from_All (λ (edge : Edge). gives edge ≡ true) edges form.given))
    ∙ in_order_risen edges (edge_rise edges form.rising)

waiting_again : (params : Option Params) (row : Option WaitingRow) → IsWaitingInOrder row
    → option_map waiting_row (option_map kept_committee (option_map (committee_in params) row)) ≡ row
waiting_again params None form = refl
waiting_again params (Some row) form = λ i. Some (record row { round = row_back params row.round i; edges = edges_again row.edges form i })

waiting_told : (params : Option Params) (row : Option WaitingRow) → IsTrueCommittee params (option_map (committee_in params) row)
waiting_told params None = tt
waiting_told params (Some row) = true_snapshot params row.round

-- ## The state

held_back : (params : Option Params) (rows : List QueueRow) → All (λ (item : Submission). item.deposit ≡ deposit_of params) (map (submission_in params) rows)
held_back params [] = All-nil (λ (item : Submission). item.deposit ≡ deposit_of params)
held_back params (row ∷ rows) =
    All-cons (λ (item : Submission). item.deposit ≡ deposit_of params) (submission_in params row) (map (submission_in params) rows) refl (held_back params rows)

state_back : (state : State) → IsInForm state → kept (chain_of state) ≡ state
state_back state form = λ i. record {
  params = terms_back state.params i;
  due = state.due;
  genesis = state.genesis;
  minted = state.minted;
  burned = state.burned;
  rows = back book_entry book_row (λ row. refl) state.rows i;
  roles = rows_again (roles_in state.roles) state.roles (standings_read state.roles [] form.roles) i;
  eras = eras_again (min (era_before state + 1) (MOST_PAST_ERAS + 1)) (era_before state) state.eras (omega arith)
      (era_rise state.eras form.eras.rising) (recent_rows (era_before state) state.eras form.eras.each) i;
  round = round_again (params_of state) state.due state.round i;
  next_submission = state.next_submission;
  queue = back (submission_in (params_of state)) queue_row (λ row. refl) state.queue i;
  waiting = waiting_again (params_of state) state.waiting form.waiting i;
  next_slash = state.next_slash;
  slashes = state.slashes;
}

state_told : (state : State) → IsTold (chain_of state)
unfolding IsStrictlySortedBy
state_told state = record {
  params = record {
    defer = no_terms state.params;
    thresholds = refl;
    places = refl;
    deposits = held_back (params_of state) state.queue;
  };
  rising = sorted_roles [] state.roles [] tt;
  listed = listed_back state.roles;
  eras = record {
    era = refl;
    count = count_back (min (era_before state + 1) (MOST_PAST_ERAS + 1)) (era_before state) state.eras;
    members = true_back (min (era_before state + 1) (MOST_PAST_ERAS + 1)) (era_before state) state.eras;
  };
  round = round_told (params_of state) state.due state.round;
  waiting = waiting_told (params_of state) state.waiting;
}

pub restore : RestoreLaw
restore state form = (state_back state form, state_told state)
