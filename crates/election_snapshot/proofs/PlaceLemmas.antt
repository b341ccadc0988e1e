-- An account has a place exactly where it stands among the accounts.
use Rattle.std.proofs.Common.{◌≡◌, ◌∙◌, ℕ, ◌<◌, false, List, length, get_or, Option, Some, None, is_some, refl, sym, ap, inl, inr}
use Rattle.std.proofs.lemmas.Bool.{cases_Bool}
use Rattle.std.proofs.lemmas.List.Folds.{list_any_none}
use Rattle.std.proofs.lemmas.Map.Keys.{any_passes_from_place}
use Rattle.std.proofs.lemmas.Option.{none-some, slice_get-get_or}
use Rattle.npos_base.specs.declared.account.AccountId.{AccountId}
use Rattle.npos_base.specs.Account.{same_account}
use Rattle.npos_base.proofs.AccountOrder.{same_exact, same_itself}
use Rattle.account_places.specs.Places.{place_in, by_account, Stand}
use Rattle.election_snapshot.specs.Draft.{stands_in}

pub has_place : (accounts : List AccountId) (who : AccountId) → Stand accounts (by_account accounts) → is_some (place_in (by_account accounts) who) ≡ stands_in accounts who
has_place accounts who stand = at (place_in (by_account accounts) who) refl where
  at : (o : Option ℕ) → place_in (by_account accounts) who ≡ o → is_some o ≡ stands_in accounts who
  at (Some place) there = sym (any_passes_from_place (same_account who) accounts place who (stand.standing who place there) (same_itself who))
  at None nowhere = sym (list_any_none (same_account who) accounts differs) where
    differs : (k : ℕ) (d : AccountId) → k < length accounts → same_account who (get_or accounts k d) ≡ false
    differs k d within = elim (cases_Bool (same_account who (get_or accounts k d))) [
      | inl same ↦
          let there = stand.placed who k (slice_get-get_or accounts k d within ∙ ap (λ a. Some a) (sym (same_exact who (get_or accounts k d) same))) in
          absurd (none-some k (sym nowhere ∙ there))
      | inr differ ↦ differ
    ]
