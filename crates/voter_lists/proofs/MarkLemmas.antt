-- Marks stay right while accounts get places.
use Rattle.std.proofs.Common.{◌≡◌, ◌∙◌, ℕ, zero, suc, ◌<◌, Bool, true, false, nat_eq, ◌||◌, List, [], ◌∷◌, ◌++◌, length, get_or, slice_get}
use Rattle.std.proofs.Common.{slice_set, Option, Some, None, IfSome, IfNone, refl, ap, ap₂, sym, subst, true≢false, arith, length-append}
use Rattle.std.specs.List.{list_any}
use Rattle.std.proofs.lemmas.Bool.{or_parts, false_from_ne_true}
use Rattle.std.proofs.lemmas.List.{get_or-map, length-map, length-set, map-set}
use Rattle.std.proofs.lemmas.List.Elements.{All-nil}
use Rattle.std.proofs.lemmas.Option.{none-some, same_Some, slice_get_within}
use Rattle.npos_base.specs.declared.account.AccountId.{AccountId}
use Rattle.npos_base.specs.Account.{same_account}
use Rattle.npos_base.proofs.AccountOrder.{same_itself, same_exact}
use Rattle.npos_base.proofs.NumberTests.{number_same, number_tie}
use Rattle.account_places.specs.Index.{StandOnce}
use Rattle.account_places.specs.Places.{place_in, by_account, Stand}
use Rattle.account_places.proofs.StandLemmas.{slice_left, slice_cases, stand_more}
use Rattle.voter_lists.specs.declared.standing.Standing.{Standing}
use Rattle.voter_lists.specs.Noted.{Noted, Idle, IsPlaced, standing_noted}
use Rattle.voter_lists.specs.Marks.{unknown, AreMarks, KeepPlaces, RepeatAlike}
use Rattle.voter_lists.specs.Roles.{standing_of, with_standing, without_role}
use Rattle.voter_lists.specs.Standings.{AreBeside, standings_in, standings_placed}
use Rattle.voter_lists.proofs.NamedLemmas.{kept_placed, kept_standing}
use Rattle.voter_lists.proofs.StandingLemmas.{placed_set, placed_unset, placed_more, standing_there, standing_nowhere}

pub kept_more : (accounts : List AccountId) (who : AccountId) → KeepPlaces accounts (accounts ++ who ∷ [])
kept_more accounts who place account there = slice_left accounts who place account there

-- known marks are the same exactly where their accounts are
module _ (accounts : List AccountId) (once : StandOnce accounts) where
  known_test : (mark other : ℕ) (who account : AccountId) → slice_get accounts mark ≡ Some who → slice_get accounts other ≡ Some account → nat_eq other mark ≡ same_account account who
  known_test mark other who account here there = at (nat_eq other mark) refl where
    at : (b : Bool) → nat_eq other mark ≡ b → b ≡ same_account account who
    at true e =
        let one : account ≡ who = same_Some account who (sym there ∙ ap (slice_get accounts) (number_tie other mark e) ∙ here) in
        sym (ap (λ a. same_account a who) one ∙ same_itself who)
    at false e = sym (false_from_ne_true (same_account account who) (λ same.
        let place : other ≡ mark = once who other mark (there ∙ ap (λ a. Some a) (same_exact account who same)) here in
        true≢false (sym (number_same mark) ∙ ap (λ n. nat_eq n mark) (sym place) ∙ e)))

  head_known : (mark : ℕ) (marks : List ℕ) (target : AccountId) (targets : List AccountId)
      → AreMarks accounts (mark ∷ marks) (target ∷ targets) → nat_eq mark unknown ≡ false
      → slice_get accounts mark ≡ Some target
  head_known mark marks target targets are known = are.each 0 mark target refl refl (λ same. true≢false (sym (number_same unknown) ∙ ap (λ n. nat_eq n unknown) (sym same) ∙ known))

  later_marks : (mark : ℕ) (marks : List ℕ) (target : AccountId) (targets : List AccountId) → AreMarks accounts (mark ∷ marks) (target ∷ targets) → AreMarks accounts marks targets
  later_marks mark marks target targets are = record { count = omega (arith, are.count); each = λ i other account there named. are.each (suc i) other account there named }

  same_any : (mark : ℕ) (who : AccountId) → slice_get accounts mark ≡ Some who
      → (marks : List ℕ) (targets : List AccountId) → AreMarks accounts marks targets
      → list_any (λ m. nat_eq m unknown) marks ≡ false
      → list_any (λ other. nat_eq other mark) marks ≡ list_any (λ other. same_account other who) targets
  same_any mark who here [] [] are known = refl
  same_any mark who here [] (target ∷ targets) are known = absurd (omega (arith, are.count))
  same_any mark who here (other ∷ marks) [] are known = absurd (omega (arith, are.count))
  same_any mark who here (other ∷ marks) (target ∷ targets) are known =
      let parts = or_parts (nat_eq other unknown) (list_any (λ m. nat_eq m unknown) marks) known in
      ap₂ (λ a b. a || b) (known_test mark other who target here (head_known other marks target targets are parts.0))
      (same_any mark who here marks targets (later_marks other marks target targets are) parts.1)

  pub repeat_alike : (marks : List ℕ) (targets : List AccountId) → AreMarks accounts marks targets → RepeatAlike marks targets
  repeat_alike [] [] are known = refl
  repeat_alike [] (target ∷ targets) are known = absurd (omega (arith, are.count))
  repeat_alike (mark ∷ marks) [] are known = absurd (omega (arith, are.count))
  repeat_alike (mark ∷ marks) (target ∷ targets) are known =
      let parts = or_parts (nat_eq mark unknown) (list_any (λ m. nat_eq m unknown) marks) known in
      let later = later_marks mark marks target targets are in
      ap₂ (λ a b. a || b) (same_any mark target (head_known mark marks target targets are parts.0) marks targets later parts.1) (repeat_alike marks targets later parts.1)

-- a row that is set at a place, or comes behind the others
set_cases : (rows : List Noted) (place at : ℕ) (row other : Noted) → slice_get (slice_set rows place row) at ≡ Some other → (P : Type 0) → (other ≡ row → P) → (slice_get rows at ≡ Some other → P) → P
set_cases [] place at row other there P here before = before there
set_cases (r ∷ rows) zero zero row other there P here before = here (same_Some other row (sym there))
set_cases (r ∷ rows) zero (suc at) row other there P here before = before there
set_cases (r ∷ rows) (suc place) zero row other there P here before = before there
set_cases (r ∷ rows) (suc place) (suc at) row other there P here before = set_cases rows place at row other there P here before

pub beside_set : (rows : List Noted) (accounts : List AccountId) (place : ℕ) (row : Noted) → AreBeside rows accounts → IsPlaced accounts row → AreBeside (slice_set rows place row) accounts
beside_set rows accounts place row beside placed = record {
  stand = beside.stand;
  count = length-set rows place row ∙ beside.count;
  placed = λ at other there. set_cases rows place at row other there (IsPlaced accounts other) (λ same. subst (IsPlaced accounts) (sym same) placed) (λ before. beside.placed at other before);
}

nobody_placed : (accounts : List AccountId) → IsPlaced accounts Idle
nobody_placed accounts = All-nil (λ place. place < length accounts)

pub beside_idle : (rows : List Noted) (accounts : List AccountId) (place : ℕ) → AreBeside rows accounts → AreBeside (slice_set rows place Idle) accounts
beside_idle rows accounts place beside = beside_set rows accounts place Idle beside (nobody_placed accounts)

pub beside_more : (rows : List Noted) (accounts : List AccountId) (who : AccountId) → AreBeside rows accounts → place_in (by_account accounts) who ≡ None
    → AreBeside (rows ++ Idle ∷ []) (accounts ++ who ∷ [])
beside_more rows accounts who beside nowhere = record {
  stand = stand_more accounts who beside.stand nowhere;
  count = omega (arith, length-append rows (Idle ∷ []), length-append accounts (who ∷ []), beside.count);
  placed = λ place other there. kept_placed accounts (accounts ++ who ∷ []) other (kept_more accounts who)
      (slice_cases rows Idle place other there (IsPlaced accounts other) (λ before. beside.placed place other before) (λ same last. subst (IsPlaced accounts) (sym same) (nobody_placed accounts)));
}

pub beside_none : AreBeside [] []
beside_none = record {
  stand = record { count = refl; standing = λ who place there. absurd (none-some place there); placed = λ who place there. absurd (none-some who there) };
  count = refl;
  placed = λ place row there. absurd (none-some row there);
}

-- one more account has no standing, and the others name whom they named
standings_more : (accounts : List AccountId) (who : AccountId) (rows : List Noted) → ((place : ℕ) (row : Noted) → slice_get rows place ≡ Some row → IsPlaced accounts row)
    → standings_in (accounts ++ who ∷ []) (rows ++ Idle ∷ []) ≡ standings_in accounts rows ++ None ∷ []
standings_more accounts who [] placed = refl
standings_more accounts who (row ∷ rows) placed =
    ap₂ (λ (o : Option Standing) (ss : List (Option Standing)). o ∷ ss) (kept_standing accounts (accounts ++ who ∷ []) row (kept_more accounts who) (placed 0 row refl))
    (standings_more accounts who rows (λ place other there. placed (suc place) other there))

counted : (rows : List Noted) (accounts : List AccountId) → AreBeside rows accounts → length (standings_in accounts rows) ≡ length accounts
counted rows accounts beside = length-map rows (standing_noted accounts) ∙ beside.count

-- who has a place has the row that stands there
module _ (rows : List Noted) (accounts : List AccountId) (who : AccountId) (place : ℕ) (beside : AreBeside rows accounts) (there : place_in (by_account accounts) who ≡ Some place) where
  pub row_within : place < length rows
  row_within = omega (arith, beside.count, slice_get_within accounts place who (beside.stand.standing who place there))

  pub row_standing : (row : Noted) → row ≡ get_or rows place row → standing_noted accounts row ≡ standing_of (standings_placed (standings_in accounts rows) (by_account accounts)) who
  row_standing row is =
      ap (standing_noted accounts) is ∙ sym (get_or-map (standing_noted accounts) rows place row None row_within)
      ∙ sym (standing_there (standings_in accounts rows) accounts who place beside.stand (counted rows accounts beside) there)

  pub row_set : (row : Noted) (standing : Standing) → standing_noted accounts row ≡ Some standing
      → standings_placed (standings_in accounts (slice_set rows place row)) (by_account accounts) ≡ with_standing (standings_placed (standings_in accounts rows) (by_account accounts)) who standing
  row_set row standing is =
      ap (λ (ss : List (Option Standing)). standings_placed ss (by_account accounts)) (map-set (standing_noted accounts) rows place row)
      ∙ ap (λ (o : Option Standing). standings_placed (slice_set (standings_in accounts rows) place o) (by_account accounts)) is
      ∙ placed_set (standings_in accounts rows) accounts who place beside.stand (counted rows accounts beside) there standing

  pub row_unset : standings_placed (standings_in accounts (slice_set rows place Idle)) (by_account accounts) ≡ without_role (standings_placed (standings_in accounts rows) (by_account accounts)) who
  row_unset =
      ap (λ (ss : List (Option Standing)). standings_placed ss (by_account accounts)) (map-set (standing_noted accounts) rows place Idle)
      ∙ placed_unset (standings_in accounts rows) accounts who place beside.stand (counted rows accounts beside) there

-- an account that gets a place has no standing for that
pub row_more : (rows : List Noted) (accounts : List AccountId) (who : AccountId) → AreBeside rows accounts → place_in (by_account accounts) who ≡ None
    → standings_placed (standings_in (accounts ++ who ∷ []) (rows ++ Idle ∷ [])) (by_account (accounts ++ who ∷ [])) ≡ standings_placed (standings_in accounts rows) (by_account accounts)
row_more rows accounts who beside nowhere =
    ap (λ (ss : List (Option Standing)). standings_placed ss (by_account (accounts ++ who ∷ []))) (standings_more accounts who rows beside.placed)
    ∙ placed_more (standings_in accounts rows) accounts who nowhere beside.stand (counted rows accounts beside)

-- who has no place has no standing
pub nowhere_standing : (rows : List Noted) (accounts : List AccountId) (who : AccountId) (found : Option ℕ) → found ≡ place_in (by_account accounts) who
    → IfNone found (standing_of (standings_placed (standings_in accounts rows) (by_account accounts)) who ≡ None)
nowhere_standing rows accounts who None is = standing_nowhere (standings_in accounts rows) accounts who (sym is)
nowhere_standing rows accounts who (Some place) is = tt

-- a place that was found is one of those that there are
pub found_within : (accounts : List AccountId) (who : AccountId) (found : Option ℕ)
    → found ≡ place_in (by_account accounts) who → Stand accounts (by_account accounts)
    → IfSome found (λ place. place < length accounts)
found_within accounts who None is stand = tt
found_within accounts who (Some place) is stand = slice_get_within accounts place who (stand.standing who place (sym is))
