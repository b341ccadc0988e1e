-- The members, after one of them is put in, changed or taken out.
use Rattle.std.proofs.Common.{◌≡◌, ◌≢◌, ◌∙◌, ℕ, ◌+◌, ◌-◌, ◌^◌, ◌<◌, ◌≤◌, Bool, true, false, cond, not, ◌&&◌, nat_eq, nat_lt, if◌then◌else◌, List, []}
use Rattle.std.proofs.Common.{◌∷◌, refl, ap, sym, subst, arith, Option, Some, None, unwrap_or, option_map, is_some, Result, Ok, Err, sum_by, true≢false}
use Rattle.std.specs.BTreeMap.{insert_entry, is_at}
use Rattle.std.specs.Cmp.{IsTotalOrder}
use Rattle.std.specs.List.{AllByRecursion}
use Rattle.std.specs.List.Sorted.{IsStrictlySortedBy}
use Rattle.std.specs.Map.{keys_of, values_of, lookup, remove_entry, set_value}
use Rattle.std.specs.declared.cmp.Ordering.{Ordering}
use Rattle.std.specs.declared.cmp.Ordering.TheVariants.{Less, Equal, Greater}
use Rattle.std.proofs.lemmas.Map.{lookup-none}
use Rattle.std.proofs.lemmas.Map.Steps.{set_value_same}
use Rattle.std.proofs.lemmas.Map.Entries.{none_below_head, sum_by-insert_entry, sum_by-remove_entry}
use Rattle.std.proofs.lemmas.List.Sums.{sum_by-cons}
use Rattle.std.proofs.lemmas.Map.Keys.{sorted_tail}
use Rattle.std.proofs.lemmas.Grind.{common_steps}
use Rattle.std.proofs.lemmas.Bool.{and_parts}
use Rattle.npos_base.specs.declared.account.AccountId.{AccountId}
use Rattle.npos_base.specs.Account.{account_cmp}
use Rattle.npos_base.specs.Refusal.{Meets, MeetsAlways}
use Rattle.npos_base.proofs.AccountOrder.{account_total, account_apart}
use Rattle.npos_base.proofs.EntryLemmas.{sorted_put, lookup_other}
use Rattle.stake_pools.specs.declared.leaves.Leave.{Leave}
use Rattle.stake_pools.specs.declared.member.Member.{Member}
use Rattle.stake_pools.specs.declared.refusal.PoolRefusal.{PoolRefusal}
use Rattle.stake_pools.specs.declared.refusal.PoolRefusal.TheVariants.{NotMember, LowPoints}
use Rattle.stake_pools.specs.declared.stop.Stop.{Stop}
use Rattle.stake_pools.specs.declared.stop.Stop.TheVariants as stops
use Rattle.stake_pools.specs.Asking.{points_refusal, parting_refusal, undue_refusal, redeem_refusal, uncredited_refusal, claim_refusal}
use Rattle.stake_pools.specs.Leaves.{leaving, is_empty, with_leave, due_leaves}
use Rattle.stake_pools.specs.Members.{points_of, no_member, member_of, member_at, total, all_points, all_staying, has_nothing, with_member, changed, joined, left, redeemed, claimed}
use Rattle.stake_pools.specs.Kept.{AreSummed}
use Rattle.stake_pools.proofs.LeaveLemmas.{leaving-with_leave, leaving-parts}

-- ---- entries by rising key

module _ {K X : Type 0} {R : K → K → Ordering} (o : IsTotalOrder R) (k : K) (w : X) where
  set_at : (e : K × X) (es : List (K × X)) (old : X) (r : Ordering) → R k e.0 ≡ r → IsStrictlySortedBy R (keys_of (e ∷ es)) → lookup (is_at (R k)) (e ∷ es) ≡ Some old
      → (lookup (is_at (R k)) es ≡ Some old → set_value (is_at (R k)) es w ≡ insert_entry R es k w)
      → set_value (is_at (R k)) (e ∷ es) w ≡ insert_entry R (e ∷ es) k w
  set_at e es old Less is s found rest =
      let none : lookup (is_at (R k)) (e ∷ es) ≡ None = lookup-none (is_at (R k)) (e ∷ es) (none_below_head o k e es s is) in cc
  set_at e es old Equal is s found rest = rw is refl
  set_at e es old Greater is s found rest = rw is (ap (λ l. e ∷ l) (rest (rw is at found)))

  -- a value written over another is one put in
  pub set_is_put : (es : List (K × X)) (old : X) → IsStrictlySortedBy R (keys_of es) → lookup (is_at (R k)) es ≡ Some old
      → set_value (is_at (R k)) es w ≡ insert_entry R es k w
  set_is_put [] old s found = cc
  set_is_put (e ∷ es) old s found = set_at e es old (R k e.0) refl s found (λ there. set_is_put es old (sorted_tail R e.0 (keys_of es) s) there)

module _ {K X : Type 0} (test : K → Bool) where
  removed_at : (e : K × X) (es : List (K × X)) (w : X) (b : Bool) → test e.0 ≡ b → remove_entry test (set_value test es w) ≡ remove_entry test es
      → remove_entry test (cond b ((e.0, w) ∷ es) (e ∷ set_value test es w)) ≡ cond b es (e ∷ remove_entry test es)
  removed_at e es w true is rest = rw is refl
  removed_at e es w false is rest = rw is (ap (λ l. e ∷ l) rest)

  -- a value written over another, and then taken out
  pub remove_set : (es : List (K × X)) (w : X) → remove_entry test (set_value test es w) ≡ remove_entry test es
  remove_set [] w = refl
  remove_set (e ∷ es) w = removed_at e es w (test e.0) refl (remove_set es w)

  all_at : (P : K → Type 0) (e : K × X) (es : List (K × X)) (b : Bool) → AllByRecursion P (keys_of (e ∷ es)) → AllByRecursion P (keys_of (remove_entry test es))
      → AllByRecursion P (keys_of (cond b es (e ∷ remove_entry test es)))
  all_at P e es true all rest = all.1
  all_at P e es false all rest = (all.0, rest)

  all_left : (P : K → Type 0) (es : List (K × X)) → AllByRecursion P (keys_of es) → AllByRecursion P (keys_of (remove_entry test es))
  all_left P [] all = all
  all_left P (e ∷ es) all = all_at P e es (test e.0) all (all_left P es all.1)

  sorted_at : (R : K → K → Ordering) (e : K × X) (es : List (K × X)) (b : Bool) → IsStrictlySortedBy R (keys_of (e ∷ es)) → IsStrictlySortedBy R (keys_of (remove_entry test es))
      → IsStrictlySortedBy R (keys_of (cond b es (e ∷ remove_entry test es)))
  unfolding IsStrictlySortedBy
  sorted_at R e es true s rest = s.1
  sorted_at R e es false s rest = (all_left (λ y. R e.0 y ≡ Less) es s.0, rest)

  -- the keys stay in order
  pub sorted_left : (R : K → K → Ordering) (es : List (K × X)) → IsStrictlySortedBy R (keys_of es) → IsStrictlySortedBy R (keys_of (remove_entry test es))
  unfolding IsStrictlySortedBy
  sorted_left R [] s = s
  sorted_left R (e ∷ es) s = sorted_at R e es (test e.0) s (sorted_left R es s.1)

  none_at : (other : K → Bool) (e : K × X) (es : List (K × X)) (b : Bool) → lookup other (e ∷ es) ≡ None → (lookup other es ≡ None → lookup other (remove_entry test es) ≡ None)
      → (c : Bool) → other e.0 ≡ c → lookup other (cond b es (e ∷ remove_entry test es)) ≡ None
  none_at other e es b none rest true is = let found : Some e.1 ≡ None = rw is at none in cc
  none_at other e es true none rest false is = rw is at none
  none_at other e es false none rest false is = rw is (rest (rw is at none))

  -- what was not there is not there then
  pub none_left : (other : K → Bool) (es : List (K × X)) → lookup other es ≡ None → lookup other (remove_entry test es) ≡ None
  none_left other [] none = refl
  none_left other (e ∷ es) none = none_at other e es (test e.0) none (none_left other es) (other e.0) refl

-- ---- members

none_leaving : (leaves : List Leave) → is_empty leaves ≡ true → leaving leaves ≡ 0
none_leaving [] empty = refl
none_leaving (leave ∷ later) empty = absurd (true≢false (sym empty))

-- who has nothing has no points and no credit
pub record HasNothing (member : Member) : Type 0 where
  pub points : points_of member ≡ 0
  pub staying : member.staying ≡ 0
  pub credit : member.credit ≡ 0

pub nothing_there : (member : Member) → has_nothing member ≡ true → HasNothing member
nothing_there member e =
    let outer = and_parts (nat_eq member.staying 0 && is_empty member.leaves) (nat_eq member.credit 0) e in
    let inner = and_parts (nat_eq member.staying 0) (is_empty member.leaves) outer.0 in
    let staying : member.staying ≡ 0 = grind (arith, common_steps, inner.0) in
    record {
      points = omega (arith, staying, none_leaving member.leaves inner.1);
      staying = staying;
      credit = grind (arith, common_steps, outer.1);
    }

part_at : (part : Member → ℕ) (found : Option Member) → part no_member ≡ 0 → unwrap_or (option_map part found) 0 ≡ part (unwrap_or found no_member)
part_at part None none = sym none
part_at part (Some member) none = refl

total_at : (part : Member → ℕ) → part no_member ≡ 0 → (who : AccountId) (member : Member) (members : List (AccountId × Member)) → IsStrictlySortedBy account_cmp (keys_of members)
    → (b : Bool) → (b ≡ true → part member ≡ 0)
    → total part (cond b (remove_entry (is_at (account_cmp who)) members) (insert_entry account_cmp members who member)) + part (member_at members who) ≡ total part members + part member
total_at part none who member members ordered true nothing =
    omega (arith, sum_by-remove_entry part (is_at (account_cmp who)) members, part_at part (member_of members who) none, nothing refl)
total_at part none who member members ordered false nothing =
    omega (arith, sum_by-insert_entry part account_total members who member ordered, part_at part (member_of members who) none)

-- a sum over all members, after one is put in its place
pub total-with_member : (part : Member → ℕ) → part no_member ≡ 0 → (who : AccountId) (member : Member) (members : List (AccountId × Member)) → IsStrictlySortedBy account_cmp (keys_of members)
    → (has_nothing member ≡ true → part member ≡ 0)
    → total part (with_member who member members) + part (member_at members who) ≡ total part members + part member
total-with_member part none who member members ordered nothing = total_at part none who member members ordered (has_nothing member) nothing

-- no member has more than all together
pub part_within : (part : Member → ℕ) → part no_member ≡ 0 → (who : AccountId) (members : List (AccountId × Member)) → part (member_at members who) ≤ total part members
part_within part none who members =
    omega (arith, sum_by-remove_entry part (is_at (account_cmp who)) members, part_at part (member_of members who) none)

-- nor one that is found
pub found_within : (who : AccountId) (members : List (AccountId × Member)) (member : Member) → member_of members who ≡ Some member → points_of member ≤ all_points members
found_within who members member found =
    omega (arith, part_within points_of refl who members, ap points_of (ap (λ (o : Option Member). unwrap_or o no_member) found))

ordered_at : (who : AccountId) (member : Member) (members : List (AccountId × Member)) (b : Bool) → IsStrictlySortedBy account_cmp (keys_of members)
    → IsStrictlySortedBy account_cmp (keys_of (cond b (remove_entry (is_at (account_cmp who)) members) (insert_entry account_cmp members who member)))
ordered_at who member members true ordered = sorted_left (is_at (account_cmp who)) account_cmp members ordered
ordered_at who member members false ordered = sorted_put account_total who member members ordered

pub ordered-with_member : (who : AccountId) (member : Member) (members : List (AccountId × Member)) → IsStrictlySortedBy account_cmp (keys_of members)
    → IsStrictlySortedBy account_cmp (keys_of (with_member who member members))
ordered-with_member who member members ordered = ordered_at who member members (has_nothing member) ordered

absent_at : (who other : AccountId) (member : Member) (members : List (AccountId × Member)) (b : Bool) → other ≢ who → member_of members other ≡ None
    → member_of (cond b (remove_entry (is_at (account_cmp who)) members) (insert_entry account_cmp members who member)) other ≡ None
absent_at who other member members true differ none = none_left (is_at (account_cmp who)) (is_at (account_cmp other)) members none
absent_at who other member members false differ none = lookup_other account_total who member other members (account_apart other who differ) ∙ none

-- another who is none stays none
pub absent-with_member : (who other : AccountId) (member : Member) (members : List (AccountId × Member)) → other ≢ who → member_of members other ≡ None
    → member_of (with_member who member members) other ≡ None
absent-with_member who other member members differ none = absent_at who other member members (has_nothing member) differ none

-- a member written over what it was is one put in its place
pub set_is_with : (who : AccountId) (member old : Member) (members : List (AccountId × Member)) → IsStrictlySortedBy account_cmp (keys_of members) → member_of members who ≡ Some old
    → has_nothing member ≡ false → set_value (is_at (account_cmp who)) members member ≡ with_member who member members
set_is_with who member old members ordered found some = rw some (set_is_put account_total who member members old ordered found)

-- one that has nothing is taken out
pub remove_is_with : (who : AccountId) (member : Member) (members : List (AccountId × Member)) → has_nothing member ≡ true
    → remove_entry (is_at (account_cmp who)) (set_value (is_at (account_cmp who)) members member) ≡ with_member who member members
remove_is_with who member members nothing = rw nothing (remove_set (is_at (account_cmp who)) members member)

-- the member of an account that is found
pub member_found : (who : AccountId) (member : Member) (members : List (AccountId × Member)) → member_of members who ≡ Some member → member_at members who ≡ member
member_found who member members found = ap (λ (o : Option Member). unwrap_or o no_member) found

-- the running sums, after one is put in its place
pub summed-with_member : (who : AccountId) (member : Member) (members : List (AccountId × Member)) (points staying new_points new_staying : ℕ) → AreSummed members points staying
    → new_points + points_of (member_at members who) ≡ points + points_of member → new_staying + (member_at members who).staying ≡ staying + member.staying
    → new_points < 2 ^ 64 → member.credit ≤ (member_at members who).credit → AreSummed (with_member who member members) new_points new_staying
summed-with_member who member members points staying new_points new_staying summed points_are staying_are fits credit = record {
  ordered = ordered-with_member who member members summed.ordered;
  points_are = omega (arith, total-with_member points_of refl who member members summed.ordered (λ e. (nothing_there member e).points), summed.points_are, points_are);
  staying_are = omega (arith, total-with_member (λ m. m.staying) refl who member members summed.ordered (λ e. (nothing_there member e).staying), summed.staying_are, staying_are);
  points_fit = omega (arith, total-with_member points_of refl who member members summed.ordered (λ e. (nothing_there member e).points), summed.points_are, points_are, fits);
  credits_fit = omega (arith, total-with_member (λ m. m.credit) refl who member members summed.ordered (λ e. (nothing_there member e).credit), summed.credits_fit, credit);
}

-- ---- who has something

no_zero : (n : ℕ) → 0 < n → nat_eq n 0 ≡ false
no_zero n some = grind (arith, common_steps)

pub stays : (member : Member) → 0 < member.staying → has_nothing member ≡ false
stays member some = rw (no_zero member.staying some) refl

and_middle : (b c d : Bool) → c ≡ false → ((b && c) && d) ≡ false
and_middle true c d e = rw e refl
and_middle false c d e = refl

joined_leave : (b : Bool) (x y : Leave) (later : List Leave) → is_empty (cond b (x ∷ []) (y ∷ later)) ≡ false
joined_leave true x y later = refl
joined_leave false x y later = refl

with_leave_some : (points release : ℕ) (leaves : List Leave) → is_empty (with_leave points release leaves) ≡ false
with_leave_some points release [] = refl
with_leave_some points release (c ∷ later) =
    joined_leave (is_empty later && nat_eq c.release release) (record c { points = c.points + points }) c (with_leave points release later)

pub leaves_stay : (points release : ℕ) (member : Member) → has_nothing (left points release member) ≡ false
leaves_stay points release member =
    and_middle (nat_eq (member.staying - points) 0) (is_empty (with_leave points release member.leaves)) (nat_eq member.credit 0) (with_leave_some points release member.leaves)

pub staying_within : (members : List (AccountId × Member)) (points staying : ℕ) → AreSummed members points staying → (who : AccountId) → (member_at members who).staying ≤ points
staying_within members points staying summed who =
    omega (arith, part_within points_of refl who members, summed.points_are)

sums_ordered : (members : List (AccountId × Member)) → all_staying members ≤ all_points members
sums_ordered members = by_values (values_of members) where
  by_values : (all : List Member) → sum_by (λ m. m.staying) all ≤ sum_by points_of all
  by_values [] = omega arith
  by_values (m ∷ all) = omega (arith, sum_by-cons (λ (m : Member). m.staying) m all, sum_by-cons points_of m all, by_values all)

pub fewer_stay : (members : List (AccountId × Member)) (points staying : ℕ) → AreSummed members points staying → staying ≤ points
fewer_stay members points staying summed = omega (arith, sums_ordered members, summed.points_are, summed.staying_are)

-- ---- the changes

-- one that is changed goes where it has nothing then
pub settled : (who : AccountId) (old new : Member) (members : List (AccountId × Member)) → IsStrictlySortedBy account_cmp (keys_of members) → member_of members who ≡ Some old
    → (done : Bool) → has_nothing new ≡ done
    → cond done (remove_entry (is_at (account_cmp who)) (set_value (is_at (account_cmp who)) members new)) (set_value (is_at (account_cmp who)) members new) ≡ with_member who new members
settled who old new members ordered found true nothing = remove_is_with who new members nothing
settled who old new members ordered found false some = set_is_with who new old members ordered found some

-- what is known of the entries is known of the list that is seen
pub summed_seen : (inner seen : List (AccountId × Member)) (points staying : ℕ) → inner ≡ seen → AreSummed inner points staying → AreSummed seen points staying
summed_seen inner seen points staying is summed = subst (λ (es : List (AccountId × Member)). AreSummed es points staying) is summed

pub summed_joined : (who : AccountId) (more : ℕ) (members : List (AccountId × Member)) (points staying : ℕ) → AreSummed members points staying → points + more < 2 ^ 64
    → AreSummed (changed who (joined more) members) (points + more) (staying + more)
summed_joined who more members points staying summed fits =
    summed-with_member who (joined more (member_at members who)) members points staying (points + more) (staying + more) summed (omega arith) (omega arith) fits (omega arith)

pub summed_left : (who : AccountId) (less release : ℕ) (members : List (AccountId × Member)) (points staying : ℕ) → AreSummed members points staying
    → less ≤ (member_at members who).staying → AreSummed (changed who (left less release) members) points (staying - less)
summed_left who less release members points staying summed within =
    let whole = part_within (λ m. m.staying) refl who members in
    summed-with_member who (left less release (member_at members who)) members points staying points (staying - less) summed
    (omega (arith, within, leaving-with_leave less release (member_at members who).leaves))
    (omega (arith, within, whole, summed.staying_are)) (omega (arith, summed.points_fit, summed.points_are))
    (omega arith)

pub due_within : (who : AccountId) (era : ℕ) (members : List (AccountId × Member)) (points staying : ℕ) → AreSummed members points staying
    → leaving (due_leaves era (member_at members who).leaves) ≤ points
due_within who era members points staying summed =
    omega (arith, part_within points_of refl who members, leaving-parts era (member_at members who).leaves, summed.points_are)

pub summed_redeemed : (who : AccountId) (era : ℕ) (members : List (AccountId × Member)) (points staying : ℕ) → AreSummed members points staying
    → AreSummed (changed who (redeemed era) members) (points - leaving (due_leaves era (member_at members who).leaves)) staying
summed_redeemed who era members points staying summed =
    let parts = leaving-parts era (member_at members who).leaves in
    let within = due_within who era members points staying summed in
    summed-with_member who (redeemed era (member_at members who)) members points staying (points - leaving (due_leaves era (member_at members who).leaves)) staying summed
    (omega (arith, parts, within)) (omega arith) (omega (arith, summed.points_fit, summed.points_are)) (omega arith)

pub summed_claimed : (who : AccountId) (members : List (AccountId × Member)) (points staying : ℕ) → AreSummed members points staying
    → AreSummed (changed who claimed members) points staying
summed_claimed who members points staying summed =
    summed-with_member who (claimed (member_at members who)) members points staying points staying summed
    (omega arith) (omega arith) (omega (arith, summed.points_fit, summed.points_are)) (omega arith)

pub settled_with : (who : AccountId) (change : Member → Member) (old new : Member) (members : List (AccountId
    × Member)) → IsStrictlySortedBy account_cmp (keys_of members) → member_of members who ≡ Some old
    → new ≡ change old → (done : Bool) → done ≡ has_nothing new
    → cond done (remove_entry (is_at (account_cmp who)) (set_value (is_at (account_cmp who)) members new)) (set_value (is_at (account_cmp who)) members new) ≡ changed who change members
settled_with who change old new members ordered found is done nothing =
    settled who old new members ordered found done (sym nothing)
    ∙ ap (λ m. with_member who m members) (is ∙ ap change (sym (member_found who old members found)))

pub joined_found : (who : AccountId) (points : ℕ) (member : Member) (members : List (AccountId × Member)) → IsStrictlySortedBy account_cmp (keys_of members) → 0 < points
    → member_of members who ≡ Some member → set_value (is_at (account_cmp who)) members (joined points member) ≡ changed who (joined points) members
joined_found who points member members ordered some found =
    set_is_with who (joined points member) member members ordered found (stays (joined points member) (omega (arith, some)))
    ∙ ap (λ m. with_member who (joined points m) members) (sym (member_found who member members found))

pub joined_anew : (who : AccountId) (points : ℕ) (members : List (AccountId × Member)) → 0 < points → member_of members who ≡ None
    → insert_entry account_cmp members who (joined points no_member) ≡ changed who (joined points) members
joined_anew who points members some none =
    rw (ap (λ (o : Option Member). unwrap_or o no_member) none, stays (joined points no_member) (omega (arith, some))) refl

pub left_found : (who : AccountId) (points release : ℕ) (member : Member) (members : List (AccountId × Member)) → IsStrictlySortedBy account_cmp (keys_of members)
    → member_of members who ≡ Some member → set_value (is_at (account_cmp who)) members (left points release member) ≡ changed who (left points release) members
left_found who points release member members ordered found =
    set_is_with who (left points release member) member members ordered found (leaves_stay points release member)
    ∙ ap (λ m. with_member who (left points release m) members) (sym (member_found who member members found))

-- ---- what is asked of a member that is found

unmapped : (due : Option PoolRefusal) → option_map stops.Refused due ≡ None → due ≡ None
unmapped None none = refl
unmapped (Some refusal) none = cc

second_false : (a b : Bool) (x y : PoolRefusal) (rest : Option PoolRefusal) → (if a then Some x else if b then Some y else rest) ≡ None → b ≡ false
second_false true b x y rest none = cc
second_false false true x y rest none = cc
second_false false false x y rest none = refl

-- points that may leave stay until then
pub parting_there : (who : AccountId) (points release : ℕ) (members : List (AccountId × Member)) → option_map stops.Refused (parting_refusal members who points release) ≡ None
    → points ≤ (member_at members who).staying
parting_there who points release members none =
    let enough : nat_lt (member_at members who).staying points ≡ false =
    second_false (not (is_some (member_of members who))) (nat_lt (member_at members who).staying points) NotMember LowPoints _ (unmapped (parting_refusal members who points release) none) in
    grind (arith, common_steps, enough)

module _ (who : AccountId) (member : Member) (members : List (AccountId × Member)) (found : member_of members who ≡ Some member) where
  parting_is : (points release : ℕ) → parting_refusal members who points release ≡ points_refusal points release member
  parting_is points release = rw found refl

  pub redeem_is : (era : ℕ) → redeem_refusal members who era ≡ undue_refusal era member
  redeem_is era = rw found refl

  pub claim_is : claim_refusal members who ≡ uncredited_refusal member
  claim_is = rw found refl

  -- what the member answers is the answer of the members
  pub leave_found : (points release : ℕ) (new : Member) (result : Result (Unit {0}) Stop) → IsStrictlySortedBy account_cmp (keys_of members)
      → Meets stops.NoMemory (option_map stops.Refused (points_refusal points release member)) (left points release member) member new result
      → Meets stops.NoMemory (option_map stops.Refused (parting_refusal members who points release))
      (changed who (left points release) members) members (set_value (is_at (account_cmp who)) members new) result
  leave_found points release new (Ok done) ordered meets = record {
    ok = (
      ap (option_map stops.Refused) (parting_is points release) ∙ meets.ok.0,
      ap (set_value (is_at (account_cmp who)) members) meets.ok.1 ∙ left_found who points release member members ordered found,
    );
    refused = tt;
    unchanged = tt;
  }
  leave_found points release new (Err error) ordered meets = record {
    ok = tt;
    refused = λ other. ap (option_map stops.Refused) (parting_is points release) ∙ meets.refused other;
    unchanged = ap (set_value (is_at (account_cmp who)) members) meets.unchanged ∙ set_value_same (is_at (account_cmp who)) members member found;
  }

  pub refused_found : {T : Type 0} (due : Option PoolRefusal) (effect : List (AccountId × Member)) (new : Member) (refusal : PoolRefusal) → due ≡ Some refusal → new ≡ member
      → MeetsAlways {T = T} due effect members (set_value (is_at (account_cmp who)) members new) (Err refusal)
  refused_found due effect new refusal is same = record {
    ok = tt;
    refused = is;
    unchanged = ap (set_value (is_at (account_cmp who)) members) same ∙ set_value_same (is_at (account_cmp who)) members member found;
  }

  pub settled_found : {T : Type 0} (change : Member → Member) (due : Option PoolRefusal) (new : Member) (value : T)
      → IsStrictlySortedBy account_cmp (keys_of members) → due ≡ None → new ≡ change member
      → (done : Bool) → done ≡ has_nothing new
      → MeetsAlways due (changed who change members) members
      (cond done (remove_entry (is_at (account_cmp who)) (set_value (is_at (account_cmp who)) members new))
      (set_value (is_at (account_cmp who)) members new)) (Ok value)
  settled_found change due new value ordered none is done nothing = record {
    ok = (none, settled_with who change member new members ordered found is done nothing);
    refused = tt;
    unchanged = tt;
  }

-- a claim keeps the sums, and so does one that is refused
pub summed_claim : {T : Type 0} (who : AccountId) (members new : List (AccountId × Member)) (points staying : ℕ)
    (due : Option PoolRefusal) (result : Result T PoolRefusal) → AreSummed members points staying
    → MeetsAlways due (changed who claimed members) members new result → AreSummed new points staying
summed_claim who members new points staying due (Ok value) summed meets =
    subst (λ (es : List (AccountId × Member)). AreSummed es points staying) (sym meets.ok.1) (summed_claimed who members points staying summed)
summed_claim who members new points staying due (Err refusal) summed meets =
    subst (λ (es : List (AccountId × Member)). AreSummed es points staying) (sym meets.unchanged) summed
