-- Standings that stand at places are standings by account.
use Rattle.std.proofs.Common.{◌≡◌, ◌∙◌, ℕ, suc, ◌<◌, ◌≤◌, Bool, true, false, cond, List, [], ◌∷◌, ◌++◌, length, get_or, slice_get, slice_set}
use Rattle.std.proofs.Common.{Option, Some, None, is_some, refl, ap, ap₂, sym, subst, arith, true≢false, get_or-set_same, get_or-set_other}
use Rattle.std.specs.BTreeMap.{insert_entry, is_at}
use Rattle.std.specs.List.{AllByRecursion}
use Rattle.std.specs.List.Sorted.{IsStrictlySortedBy}
use Rattle.std.specs.Map.{keys_of, remove_entry}
use Rattle.std.specs.Ordering.{is_eq, ordering_reverse}
use Rattle.std.specs.declared.cmp.Ordering.{Ordering}
use Rattle.std.specs.declared.cmp.Ordering.TheVariants.{Less, Equal, Greater}
use Rattle.std.proofs.Math.Seq.{get_or-append_seam}
use Rattle.std.proofs.lemmas.List.{get_or_append_left}
use Rattle.std.proofs.lemmas.Option.{none-some, same_Some, slice_get_within}
use Rattle.std.proofs.lemmas.Cmp.{tied_itself, eq_by_cmp_equiv}
use Rattle.std.proofs.lemmas.Map.{lookup-none, lookup-remove_entry}
use Rattle.std.proofs.lemmas.Map.Keys.{sorted_tail, IsDistinct-from_sorted}
use Rattle.std.proofs.lemmas.Map.Entries.{none_below_head}
use Rattle.npos_base.specs.declared.account.AccountId.{AccountId}
use Rattle.npos_base.specs.Account.{account_cmp}
use Rattle.npos_base.proofs.AccountOrder.{account_total, account_exact, account_apart}
use Rattle.npos_base.proofs.EntryLemmas.{sorted_put, lookup_put, lookup_other}
use Rattle.account_places.specs.Places.{place_in, by_account, Stand}
use Rattle.account_places.proofs.StandLemmas.{tied, not_again, by_account_ordered, by_account_more, place_last}
use Rattle.voter_lists.specs.declared.standing.Standing.{Standing}
use Rattle.voter_lists.specs.Roles.{RoleList, standing_of, with_standing, without_role}
use Rattle.voter_lists.specs.Standings.{with_some, standings_placed}

-- what stands at a place, where there is one
abbrev pub at_place : List (Option Standing) → Option ℕ → Option Standing
at_place standings None = None
at_place standings (Some place) = get_or standings place None

-- the standing of an account is the one at its place
pub standing_placed : (standings : List (Option Standing)) (places : List (AccountId × ℕ)) (who : AccountId) → IsStrictlySortedBy account_cmp (keys_of places)
    → standing_of (standings_placed standings places) who ≡ at_place standings (place_in places who)
standing_placed standings [] who ordered = refl
standing_placed standings (first ∷ later) who ordered =
    at (is_eq (account_cmp who first.0)) refl (get_or standings first.1 None) refl (standing_placed standings later who (sorted_tail account_cmp first.0 (keys_of later) ordered)) where
      at : (b : Bool) → is_eq (account_cmp who first.0) ≡ b → (o : Option Standing) → get_or standings first.1 None ≡ o
          → standing_of (standings_placed standings later) who ≡ at_place standings (place_in later who)
          → standing_of (with_some first.0 o (standings_placed standings later)) who ≡ at_place standings (cond b (Some first.1) (place_in later who))
      at true e None is rest = rest ∙ ap (at_place standings) (ap (place_in later) (tied who first.0 e) ∙ not_again first later ordered) ∙ sym is
      at true e (Some standing) is rest = rw e (sym is)
      at false e None is rest = rest
      at false e (Some standing) is rest = rw e rest

-- no more accounts have a standing than have a place
pub few_placed : (standings : List (Option Standing)) (places : List (AccountId × ℕ)) → length (standings_placed standings places) ≤ length places
few_placed standings [] = omega (arith)
few_placed standings (first ∷ later) = at (get_or standings first.1 None) (few_placed standings later) where
  at : (o : Option Standing) → length (standings_placed standings later) ≤ length later → length (with_some first.0 o (standings_placed standings later)) ≤ suc (length later)
  at None few = omega (arith, few)
  at (Some standing) few = omega (arith, few)

-- accounts that have a standing are in order
placed_all : (P : AccountId → Type 0) (standings : List (Option Standing)) (places : List (AccountId × ℕ))
    → AllByRecursion P (keys_of places) → AllByRecursion P (keys_of (standings_placed standings places))
placed_all P standings [] all = all
placed_all P standings (first ∷ later) all = at (get_or standings first.1 None) (placed_all P standings later all.1) where
  at : (o : Option Standing) → AllByRecursion P (keys_of (standings_placed standings later)) → AllByRecursion P (keys_of (with_some first.0 o (standings_placed standings later)))
  at None rest = rest
  at (Some standing) rest = (all.0, rest)

pub placed_ordered : (standings : List (Option Standing)) (places : List (AccountId × ℕ))
    → IsStrictlySortedBy account_cmp (keys_of places) → IsStrictlySortedBy account_cmp
    (keys_of (standings_placed standings places))
unfolding IsStrictlySortedBy
placed_ordered standings [] ordered = ordered
placed_ordered standings (first ∷ later) ordered = at (get_or standings first.1 None) (placed_ordered standings later ordered.1) where
  at : (o : Option Standing) → IsStrictlySortedBy account_cmp (keys_of (standings_placed standings later))
      → IsStrictlySortedBy account_cmp (keys_of (with_some first.0 o (standings_placed standings later)))
  at None rest = rest
  at (Some standing) rest = (placed_all (λ y. account_cmp first.0 y ≡ Less) standings later ordered.0, rest)

-- what is left is in order
left_all : (P : AccountId → Type 0) (test : AccountId → Bool) (roles : RoleList) → AllByRecursion P (keys_of roles) → AllByRecursion P (keys_of (remove_entry test roles))
left_all P test [] all = all
left_all P test (role ∷ roles) all = at (test role.0) (left_all P test roles all.1) where
  at : (b : Bool) → AllByRecursion P (keys_of (remove_entry test roles)) → AllByRecursion P (keys_of (cond b roles (role ∷ remove_entry test roles)))
  at true rest = all.1
  at false rest = (all.0, rest)

pub left_ordered : (test : AccountId → Bool) (roles : RoleList) → IsStrictlySortedBy account_cmp (keys_of roles) → IsStrictlySortedBy account_cmp (keys_of (remove_entry test roles))
unfolding IsStrictlySortedBy
left_ordered test [] ordered = ordered
left_ordered test (role ∷ roles) ordered = at (test role.0) (left_ordered test roles ordered.1) where
  at : (b : Bool) → IsStrictlySortedBy account_cmp (keys_of (remove_entry test roles)) → IsStrictlySortedBy account_cmp (keys_of (cond b roles (role ∷ remove_entry test roles)))
  at true rest = ordered.1
  at false rest = (left_all (λ y. account_cmp role.0 y ≡ Less) test roles ordered.0, rest)

-- who leaves has no standing, and the others keep theirs
pub standing_left : (roles : RoleList) (who q : AccountId) → IsStrictlySortedBy account_cmp (keys_of roles)
    → standing_of (without_role roles who) q ≡ cond (is_eq (account_cmp who q)) None (standing_of roles q)
standing_left roles who q ordered =
    lookup-remove_entry (eq_by_cmp_equiv account_total) (is_at (account_cmp who))
    (λ x y e. ap (λ z. is_eq (account_cmp z y)) (tied who x e)) q roles (IsDistinct-from_sorted account_cmp
    (keys_of roles) ordered)

-- who has no standing leaves nothing
pub left_absent : (roles : RoleList) (who : AccountId) → is_some (standing_of roles who) ≡ false → without_role roles who ≡ roles
left_absent [] who none = refl
left_absent (role ∷ roles) who none = at (is_eq (account_cmp who role.0)) none (left_absent roles who) where
  at : (b : Bool) → is_some (cond b (Some role.1) (standing_of roles who)) ≡ false
      → (is_some (standing_of roles who) ≡ false → without_role roles who ≡ roles)
      → cond b roles (role ∷ without_role roles who) ≡ role ∷ roles
  at true e rest = absurd (true≢false e)
  at false e rest = ap (λ rs. role ∷ rs) (rest e)

-- an account is this one, or the order tells it apart
by_test : {P : Type 0} (q who : AccountId) → (q ≡ who → P) → (is_eq (account_cmp q who) ≡ false → P) → P
by_test {P} q who one other = at (is_eq (account_cmp q who)) refl where
  at : (b : Bool) → is_eq (account_cmp q who) ≡ b → P
  at true e = one (tied q who e)
  at false e = other e

-- roles in order that say the same of each account are the same
at_head : (role : AccountId × Standing) (roles : RoleList) → standing_of (role ∷ roles) role.0 ≡ Some role.1
at_head role roles = rw (tied_itself account_total role.0) refl

below : (role other : AccountId × Standing) (roles : RoleList)
    → IsStrictlySortedBy account_cmp (keys_of (role ∷ roles)) → account_cmp other.0 role.0 ≡ Less
    → standing_of (role ∷ roles) other.0 ≡ Some other.1 → ⊥
below role other roles ordered is there = none-some other.1 (sym (lookup-none (is_at (account_cmp other.0)) (role ∷ roles) (none_below_head account_total other.0 role roles ordered is)) ∙ there)

same_roles : (roles others : RoleList) → IsStrictlySortedBy account_cmp (keys_of roles)
    → IsStrictlySortedBy account_cmp (keys_of others) → ((q : AccountId) → standing_of roles q ≡ standing_of others q)
    → roles ≡ others
same_roles [] [] ordered also same = refl
same_roles [] (other ∷ others) ordered also same = absurd (none-some other.1 (same other.0 ∙ at_head other others))
same_roles (role ∷ roles) [] ordered also same = absurd (none-some role.1 (sym (same role.0) ∙ at_head role roles))
same_roles (role ∷ roles) (other ∷ others) ordered also same =
    at (account_cmp role.0 other.0) refl (same_roles roles others (sorted_tail account_cmp role.0 (keys_of roles) ordered) (sorted_tail account_cmp other.0 (keys_of others) also)) where
      tails : role.0 ≡ other.0 → (q : AccountId) → standing_of roles q ≡ standing_of others q
      tails is q = by_test q role.0
          (λ one. ap (standing_of roles) one ∙ not_again role roles ordered ∙ sym (ap (standing_of others) (one ∙ is) ∙ not_again other others also))
          (λ apart. let apart_too : is_eq (account_cmp q other.0) ≡ false = ap (λ a. is_eq (account_cmp q a)) (sym is) ∙ apart in
          let said : standing_of (role ∷ roles) q ≡ standing_of (other ∷ others) q = same q in rw (apart, apart_too) at said)

      values : role.0 ≡ other.0 → role.1 ≡ other.1
      values is = same_Some role.1 other.1 (sym (at_head role roles) ∙ same role.0 ∙ ap (standing_of (other ∷ others)) is ∙ at_head other others)

      at : (r : Ordering) → account_cmp role.0 other.0 ≡ r → (((q : AccountId) → standing_of roles q ≡ standing_of others q) → roles ≡ others) → role ∷ roles ≡ other ∷ others
      at Less is rest = absurd (below other role others also is (sym (same role.0) ∙ at_head role roles))
      at Equal is rest =
          let one : role.0 ≡ other.0 = account_exact role.0 other.0 is in
          ap₂ (λ (r : AccountId × Standing) rs. r ∷ rs) (ap₂ (λ account standing. (account, standing)) one (values one)) (rest (tails one))
      at Greater is rest = absurd (below role other roles ordered (account_total.antisymm other.0 role.0 ∙ ap ordering_reverse is) (same other.0 ∙ at_head other others))

module _ (standings now : List (Option Standing)) (places places_now : List (AccountId × ℕ)) (who : AccountId)
    (ordered : IsStrictlySortedBy account_cmp (keys_of places)) (ordered_now : IsStrictlySortedBy account_cmp
    (keys_of places_now))
    (others : (q : AccountId) → is_eq (account_cmp q who) ≡ false → at_place now (place_in places_now q) ≡ at_place standings (place_in places q)) where
  -- an account takes a standing
  pub placed_with : (standing : Standing) → at_place now (place_in places_now who) ≡ Some standing → standings_placed now places_now ≡ with_standing (standings_placed standings places) who standing
  placed_with standing here =
      let roles = standings_placed standings places in
      same_roles (standings_placed now places_now) (insert_entry account_cmp roles who standing)
      (placed_ordered now places_now ordered_now) (sorted_put account_total who standing roles
      (placed_ordered standings places ordered))
      (λ q. by_test q who
      (λ one. subst (λ a. standing_of (standings_placed now places_now) a ≡ standing_of (insert_entry account_cmp roles who standing) a) (sym one)
      (standing_placed now places_now who ordered_now ∙ here ∙ sym (lookup_put account_total who standing roles)))
      (λ apart. standing_placed now places_now q ordered_now ∙ others q apart ∙ sym (lookup_other account_total who standing q roles apart ∙ standing_placed standings places q ordered)))

  -- an account has no standing any more
  pub placed_without : at_place now (place_in places_now who) ≡ None → standings_placed now places_now ≡ without_role (standings_placed standings places) who
  placed_without here =
      let roles = standings_placed standings places in
      let test = is_at (account_cmp who) in
      let rise = placed_ordered standings places ordered in
      same_roles (standings_placed now places_now) (remove_entry test roles) (placed_ordered now places_now ordered_now) (left_ordered test roles rise)
      (λ q. by_test q who
      (λ one. subst (λ a. standing_of (standings_placed now places_now) a ≡ standing_of (remove_entry test roles) a) (sym one)
      (standing_placed now places_now who ordered_now ∙ here ∙ sym (standing_left roles who who rise ∙ rw (tied_itself account_total who) refl)))
      (λ apart. standing_placed now places_now q ordered_now ∙ others q apart ∙ sym (standing_placed standings places q ordered)
      ∙ sym (standing_left roles who q rise ∙ rw (account_apart who q (λ e. true≢false (sym (ap is_eq (ap (account_cmp q) e ∙ tied_itself account_total q)) ∙ apart))) refl)))

-- a standing changes at the place of its account
module _ (standings : List (Option Standing)) (accounts : List AccountId) (who : AccountId) (place : ℕ)
    (stand : Stand accounts (by_account accounts)) (beside : length standings ≡ length accounts)
    (there : place_in (by_account accounts) who ≡ Some place) where
  pub place_within : place < length standings
  place_within = omega (arith, beside, slice_get_within accounts place who (stand.standing who place there))

  set_others : (o : Option Standing) (q : AccountId) → is_eq (account_cmp q who) ≡ false
      → at_place (slice_set standings place o) (place_in (by_account accounts) q)
      ≡ at_place standings (place_in (by_account accounts) q)
  set_others o q apart = at (place_in (by_account accounts) q) refl where
    at : (p : Option ℕ) → place_in (by_account accounts) q ≡ p → at_place (slice_set standings place o) p ≡ at_place standings p
    at None e = refl
    at (Some p) e = get_or-set_other standings place p o None
        (λ same. let one : q ≡ who = same_Some q who (sym (stand.standing q p e) ∙ ap (slice_get accounts) same ∙ stand.standing who place there) in
        true≢false (sym (ap is_eq (ap (account_cmp q) (sym one) ∙ tied_itself account_total q)) ∙ apart))

  set_here : (o : Option Standing) → at_place (slice_set standings place o) (place_in (by_account accounts) who) ≡ o
  set_here o = ap (at_place (slice_set standings place o)) there ∙ get_or-set_same standings place o None place_within

  pub placed_set : (standing : Standing) → standings_placed (slice_set standings place (Some standing))
      (by_account accounts) ≡ with_standing (standings_placed standings (by_account accounts)) who standing
  placed_set standing = placed_with standings (slice_set standings place (Some standing)) (by_account accounts)
      (by_account accounts) who (by_account_ordered accounts) (by_account_ordered accounts)
      (set_others (Some standing)) standing (set_here (Some standing))

  pub placed_unset : standings_placed (slice_set standings place None) (by_account accounts) ≡ without_role (standings_placed standings (by_account accounts)) who
  placed_unset = placed_without standings (slice_set standings place None) (by_account accounts) (by_account accounts)
      who (by_account_ordered accounts) (by_account_ordered accounts) (set_others None) (set_here None)

  pub standing_there : standing_of (standings_placed standings (by_account accounts)) who ≡ get_or standings place None
  standing_there = standing_placed standings (by_account accounts) who (by_account_ordered accounts) ∙ ap (at_place standings) there

-- an account without a place has no standing, and nothing is lost with it
module _ (standings : List (Option Standing)) (accounts : List AccountId) (who : AccountId) (absent : place_in (by_account accounts) who ≡ None) where
  pub standing_nowhere : standing_of (standings_placed standings (by_account accounts)) who ≡ None
  standing_nowhere = standing_placed standings (by_account accounts) who (by_account_ordered accounts) ∙ ap (at_place standings) absent

  pub placed_absent : standings_placed standings (by_account accounts) ≡ without_role (standings_placed standings (by_account accounts)) who
  placed_absent = placed_without standings standings (by_account accounts) (by_account accounts) who
      (by_account_ordered accounts) (by_account_ordered accounts) (λ q apart. refl) (ap (at_place standings) absent)

  -- an account that gets a place has no standing for that
  pub placed_more : Stand accounts (by_account accounts) → length standings ≡ length accounts
      → standings_placed (standings ++ None ∷ []) (by_account (accounts ++ who ∷ [])) ≡ standings_placed standings (by_account accounts)
  placed_more stand beside =
      let longer = standings ++ None ∷ [] in
      let now = accounts ++ who ∷ [] in
      let seam : length accounts ≡ length standings = sym beside in
      let here : at_place longer (place_in (by_account now) who) ≡ None =
      ap (at_place longer) (place_last accounts who) ∙ ap (λ n. get_or longer n None) seam ∙ get_or-append_seam standings None [] None in
      let others : (q : AccountId) → is_eq (account_cmp q who) ≡ false → at_place longer (place_in (by_account now) q) ≡ at_place standings (place_in (by_account accounts) q) =
      λ q apart. ap (λ places. at_place longer (place_in places q)) (by_account_more accounts who)
      ∙ ap (at_place longer) (lookup_other account_total who (length accounts) q (by_account accounts) apart)
      ∙ kept q in
      placed_without standings longer (by_account accounts) (by_account now) who (by_account_ordered accounts) (by_account_ordered now) others here
      ∙ left_absent (standings_placed standings (by_account accounts)) who (ap is_some standing_nowhere) where
        kept : (q : AccountId) → at_place (standings ++ None ∷ []) (place_in (by_account accounts) q) ≡ at_place standings (place_in (by_account accounts) q)
        kept q = at (place_in (by_account accounts) q) refl where
          at : (p : Option ℕ) → place_in (by_account accounts) q ≡ p → at_place (standings ++ None ∷ []) p ≡ at_place standings p
          at None e = refl
          at (Some p) e = get_or_append_left standings (None ∷ []) None p (omega (arith, beside, slice_get_within accounts p q (stand.standing q p e)))
