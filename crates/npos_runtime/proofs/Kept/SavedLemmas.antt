-- What a chain keeps, row by row.
use Rattle.std.proofs.Common.{◌≡◌, ℕ, zero, suc, ◌+◌, ◌-◌, ◌≤◌, ◌<◌, Bool, true, false, cond, nat_lt, nat_eq, ◌||◌}
use Rattle.std.proofs.Common.{◌&&◌, IsTrue, All, List, [], ◌∷◌, ◌++◌, length, drop, map, filter, Some, is_some}
use Rattle.std.proofs.Common.{slice_get, unwrap_or, get_or, IsPermutation, refl, ap, ap₂, sym, ◌∙◌, true≢false, arith}
use Rattle.std.specs.List.{AllByRecursion, IsDistinct, zip}
use Rattle.std.specs.List.Sorted.{IsNonDecreasingBy}
use Rattle.std.specs.Map.{values_of}
use Rattle.std.proofs.lemmas.Bool.Decides.{nat_tests}
use Rattle.std.proofs.lemmas.List.Elements.{All-filter}
use Rattle.std.proofs.lemmas.List.Kept.{AllPairs-filter}
use Rattle.std.proofs.lemmas.List.Sorted.{All-permutation}
use Rattle.std.proofs.lemmas.Map.Keys.{IsDistinct-IsPermutation, IsDistinct-from_apart, apart_from_distinct}
use Rattle.npos_base.specs.declared.account.AccountId.{AccountId}
use Rattle.npos_base.specs.declared.figures.Edge.{Edge}
use Rattle.npos_base.specs.declared.limits.TheConstants.{MOST_PAST_ERAS}
use Rattle.npos_base.specs.Account.{same_account}
use Rattle.npos_base.specs.Edge.{place_of, same_pair}
use Rattle.npos_base.proofs.AccountOrder.{same_itself}
use Rattle.voter_lists.specs.Roles.{RoleList}
use Rattle.election_snapshot.specs.Snapshot.{Snapshot, IsWellFormed}
use Rattle.weight_book.specs.Weights.{Weights, Follows}
use Rattle.npos_runtime.proofs.Rules.ExposureLemmas.{has_below}
use Rattle.voter_lists.specs.Bags.{Order, number_of, number_at, is_listed, walk}
use Rattle.weight_book.specs.GivenEdges.{gives, is_before, kept_edges, AreRising}
use Rattle.weight_book.proofs.OneOrderLemmas.{one_order}
use Rattle.weight_book.proofs.SumLemmas.{eqb_turned}
use Rattle.era_book.specs.Members.{Members}
use Rattle.era_book.specs.Eras.{Eras, members_in}
use Rattle.era_book.specs.Records.{record_of, entry_from}
use Rattle.state_rules.specs.declared.state.RoleRow.{RoleRow}
use Rattle.state_rules.specs.declared.state.MemberRow.{MemberRow}
use Rattle.npos_runtime.specs.Kept.State.{role_row, member_row, era_row, era_rows}

-- ## Roles

-- the row of an account in the bags
abbrev pub row_in : RoleList → Order → AccountId → RoleRow
row_in roles order who = role_row roles (who, number_at (number_of order who))

-- an entry ahead of accounts that are others is nothing to their rows
rows_behind : (roles : RoleList) (first : AccountId × ℕ) (order : Order) (accounts : List AccountId) → AllByRecursion (λ other. same_account first.0 other ≡ false) accounts
    → map (row_in roles (first ∷ order)) accounts ≡ map (row_in roles order) accounts
rows_behind roles first order [] others = refl
rows_behind roles first order (who ∷ accounts) others =
    ap₂ (λ (row : RoleRow) (rows : List RoleRow). row ∷ rows)
    (ap (λ (here : Bool). role_row roles (who, number_at (cond here (Some first.1) (number_of order who)))) others.0)
    (rows_behind roles first order accounts others.1)

-- where no account stands twice, the rows of the walk are those of the order
pub rows_walked : (roles : RoleList) (order : Order) → IsDistinct same_account (walk order) → map (row_in roles order) (walk order) ≡ map (role_row roles) order
unfolding IsDistinct
rows_walked roles [] once = refl
rows_walked roles (entry ∷ order) once =
    ap₂ (λ (row : RoleRow) (rows : List RoleRow). row ∷ rows)
    (ap (λ (here : Bool). role_row roles (entry.0, number_at (cond here (Some entry.1) (number_of order entry.0)))) (same_itself entry.0))
    (rows_behind roles entry order (walk order) once.0 ∙ rows_walked roles order once.1)

-- whoever stands in the walk is listed
stands_listed : (order : Order) (before : List AccountId) (who : AccountId) (behind : List AccountId) → before ++ who ∷ behind ≡ walk order → is_listed order who ≡ true
stands_listed [] [] who behind is = absurd (omega (arith, ap length is))
stands_listed [] (first ∷ before) who behind is = absurd (omega (arith, ap length is))
stands_listed (entry ∷ order) [] who behind is =
    let same : same_account entry.0 who ≡ true = ap (same_account entry.0) (ap (λ accounts. get_or accounts 0 entry.0) is) ∙ same_itself entry.0 in
    rw same refl
stands_listed (entry ∷ order) (first ∷ before) who behind is =
    at (same_account entry.0 who) (stands_listed order before who behind (ap (drop 1) is)) where
      at : (b : Bool) → is_listed order who ≡ true → is_some (cond b (Some entry.1) (number_of order who)) ≡ true
      at true listed = refl
      at false listed = listed

pub walked_listed : (order : Order) (before left rest : List AccountId) (who : AccountId) → before ++ left ≡ walk order → left ≡ who ∷ rest → is_listed order who ≡ true
walked_listed order before left rest who is next = stands_listed order before who rest (ap (λ (accounts : List AccountId). before ++ accounts) (sym next) ∙ is)

-- ## Eras

-- the members of an era make their rows anew
pub members_told : (members : Members) → map member_row (map entry_from (map record_of (values_of members))) ≡ map member_row members
members_told [] = refl
members_told (member ∷ members) = ap (λ (rows : List MemberRow). member_row member ∷ rows) (members_told members)

pub none_told : (era : ℕ) (members : Members) → map record_of (values_of members) ≡ [] → era_row era members ≡ []
none_told era [] none = refl
none_told era (member ∷ members) none = absurd (omega (arith, ap length none))

pub some_told : (era : ℕ) (members : Members) → (map record_of (values_of members) ≡ [] → ⊥)
    → era_row era members ≡ record { era = era; members = map member_row (map entry_from (map record_of (values_of members))) } ∷ []
some_told era [] some = absurd (some refl)
some_told era (member ∷ members) some = ap (λ (rows : List MemberRow). record { era = era; members = rows } ∷ []) (sym (members_told (member ∷ members)))

next_row : (kept_members : List Members) (era place : ℕ) → place < length kept_members
    → era_rows (era - 1) (drop (suc place) kept_members) ++ era_row era (unwrap_or (slice_get kept_members place) []) ≡ era_rows era (drop place kept_members)
next_row [] era place within = absurd (omega (arith, within))
next_row (members ∷ before) era zero within = refl
next_row (members ∷ before) era (suc place) within = next_row before era place (omega (arith, within))

-- the members of an era that is kept stand at its place
members_at_place : (eras : Eras) (era : ℕ) → era ≤ eras.current → eras.current ≤ era + MOST_PAST_ERAS
    → members_in eras era ≡ unwrap_or (slice_get eras.kept (eras.current - era)) []
members_at_place eras era begun recent =
    let not_late : nat_lt eras.current era ≡ false = grind (arith, nat_tests, begun) in
    let not_early : nat_lt (era + MOST_PAST_ERAS) eras.current ≡ false = grind (arith, nat_tests, recent) in
    rw (not_late, not_early) refl

-- the rows so far and that of the next era are the rows up to it
pub eras_next : (eras : Eras) (current past i : ℕ) → current ≡ eras.current → length eras.kept ≡ past + 1 → past ≤ current → past ≤ MOST_PAST_ERAS → i < past + 1
    → era_rows (current - past + i - 1) (drop (past + 1 - i) eras.kept) ++ era_row (current - past + i) (members_in eras (current - past + i))
    ≡ era_rows (current - past + (i + 1) - 1) (drop (past + 1 - (i + 1)) eras.kept)
eras_next eras current past i is count begun most within =
    let era : ℕ = current - past + i in
    let place : eras.current - era ≡ past - i = omega (arith, is, begun, within) in
    let here : members_in eras era ≡ unwrap_or (slice_get eras.kept (past - i)) [] =
    members_at_place eras era (omega (arith, is, begun, within)) (omega (arith, is, begun, most)) ∙ ap (λ n. unwrap_or (slice_get eras.kept n) []) place in
    let later : past + 1 - i ≡ suc (past - i) = omega (arith, within) in
    let now : past - i ≡ past + 1 - (i + 1) = omega (arith, within) in
    let this : era ≡ current - past + (i + 1) - 1 = omega arith in
    ap₂ (λ (n : ℕ) (members : Members). era_rows (era - 1) (drop n eras.kept) ++ era_row era members) later here
    ∙ (next_row eras.kept era (past - i) (omega (arith, count, within))
    ∙ ap₂ (λ (n m : ℕ). era_rows n (drop m eras.kept)) this now)

-- ## Edges

pair_turned : (one other : Edge) → same_pair one other ≡ same_pair other one
pair_turned one other = rw (eqb_turned one.voter other.voter, eqb_turned one.target other.target) refl

-- edges of different pairs that do not fall rise
sorted_rise : (edges : List Edge) → IsDistinct same_pair edges → IsNonDecreasingBy place_of edges → All (λ (e : Edge). e.target < 65536) edges → AreRising edges
sorted_rise edges distinct up few i j d a b =
    let one = get_or edges i d in
    let other = get_or edges j d in
    before one other (up i j d (omega (arith, a)) b) (few i d (omega (arith, a, b))) (few j d b) (apart_from_distinct same_pair edges i j d distinct a b) where
      before : (one other : Edge) → place_of one ≤ place_of other → one.target < 65536 → other.target < 65536 → same_pair one other ≡ false → IsTrue (is_before one other)
      before one other l s t apart =
          at (nat_lt one.voter other.voter) (nat_eq one.voter other.voter) (nat_lt one.target other.target) (nat_eq one.target other.target) refl refl refl refl apart where
            at : (p q r u : Bool) → nat_lt one.voter other.voter ≡ p → nat_eq one.voter other.voter ≡ q → nat_lt one.target other.target ≡ r → nat_eq one.target other.target ≡ u
                → (q && u) ≡ false → (p || (q && r)) ≡ true
            at true q r u e1 e2 e3 e4 not_same = refl
            at false true true u e1 e2 e3 e4 not_same = refl
            at false true false true e1 e2 e3 e4 not_same = absurd (true≢false not_same)
            at false true false false e1 e2 e3 e4 not_same =
                let voters : one.voter ≡ other.voter = grind (arith, nat_tests, e2) in
                let not_below : other.target ≤ one.target = grind (arith, nat_tests, e3) in
                let differ : (one.target ≡ other.target) → ⊥ = λ same. true≢false (sym (grind (arith, nat_tests, same)) ∙ e4) in
                absurd (differ (omega (arith, l, voters, not_below)))
            at false false r u e1 e2 e3 e4 not_same =
                let not_below : other.voter ≤ one.voter = grind (arith, nat_tests, e1) in
                let differ : (one.voter ≡ other.voter) → ⊥ = λ same. true≢false (sym (grind (arith, nat_tests, same)) ∙ e2) in
                absurd (differ (omega (arith, l, s, t, not_below)))

distinct_given : (edges : List Edge) → IsDistinct same_pair edges → IsDistinct same_pair (filter gives edges)
distinct_given edges distinct =
    IsDistinct-from_apart same_pair (filter gives edges)
    (AllPairs-filter (λ (one other : Edge). same_pair one other ≡ false) gives edges (λ i j d a b. apart_from_distinct same_pair edges i j d distinct a b))

-- the edges of weights that follow, without those that give nothing, once they are sorted
pub edges_sorted : (snapshot : Snapshot) (weights : Weights) (sorted : List Edge) → IsWellFormed snapshot → Follows snapshot weights
    → IsPermutation (filter gives weights.edges) sorted → IsNonDecreasingBy place_of sorted → sorted ≡ kept_edges weights.edges
edges_sorted snapshot weights sorted sound follows moved up =
    (one_order weights.edges follows.pairs_distinct).only sorted moved
    (sorted_rise sorted
    (IsDistinct-IsPermutation same_pair pair_turned (filter gives weights.edges) sorted moved (distinct_given weights.edges follows.pairs_distinct)) up
    (All-permutation (λ (e : Edge). e.target < 65536) (filter gives weights.edges) sorted moved few)) where
      few : All (λ (e : Edge). e.target < 65536) (filter gives weights.edges)
      few =
          All-filter gives (λ (e : Edge). e.target < 65536) weights.edges
          (λ k d within. omega (
            arith,
            sound.voters.targets_few,
            has_below weights.committee (length snapshot.targets) (get_or weights.edges k d).target follows.members_in_range (follows.to_members k d within),
          ))

-- ## Rows one by one

pub zip_at : {X Y : Type 0} (xs : List X) (ys : List Y) (i : ℕ) (x : X) (y : Y) → slice_get xs i ≡ Some x → slice_get ys i ≡ Some y → slice_get (zip xs ys) i ≡ Some (x, y)
zip_at [] ys i x y first second = absurd (true≢false (sym (ap is_some first)))
zip_at (a ∷ xs) [] i x y first second = absurd (true≢false (sym (ap is_some second)))
zip_at (a ∷ xs) (b ∷ ys) zero x y first second =
    ap₂ (λ one other. Some (one, other)) (ap (λ found. unwrap_or found a) first) (ap (λ found. unwrap_or found b) second)
zip_at (a ∷ xs) (b ∷ ys) (suc i) x y first second = zip_at xs ys i x y first second
