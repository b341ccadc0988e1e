-- The validators, by the places of their accounts.
use Rattle.std.proofs.Common.{◌≡◌, ◌∙◌, ℕ, zero, suc, ◌<◌, List, [], ◌∷◌, length, get_or, slice_get, Option, Some, None, is_some, true, true≢false, refl, ap, ap₂, sym, subst}
use Rattle.std.specs.BTreeSet.{insert_key}
use Rattle.std.specs.List.{cons_option, insert, remove}
use Rattle.std.proofs.lemmas.List.Elements.{All-cons, All-nil, All-head, All-tail}
use Rattle.std.proofs.lemmas.List.Quantifiers.{position-Some}
use Rattle.std.proofs.lemmas.Option.{slice_get-get_or}
use Rattle.npos_base.specs.declared.account.AccountId.{AccountId}
use Rattle.npos_base.specs.Account.{account_cmp, same_account}
use Rattle.npos_base.proofs.AccountOrder.{same_exact}
use Rattle.voter_lists.specs.Marks.{KeepPlaces}
use Rattle.voter_lists.specs.Noted.{accounts_at, AreWithin}
use Rattle.voter_lists.specs.Ranked.{AreRanked}
use Rattle.voter_lists.specs.RankedAt.{AreRankedAt, RiseAt}
use Rattle.voter_lists.specs.Roles.{RoleList, validators_of, is_validator}
use Rattle.voter_lists.specs.Standings.{PlacedRoles}
use Rattle.voter_lists.specs.Votes.{rank_of}
use Rattle.voter_lists.proofs.NamedLemmas.{count_at, kept_accounts, kept_within}
use Rattle.voter_lists.proofs.PlaceLemmas.{rank_tells}
use Rattle.voter_lists.proofs.RankLemmas.{hit_same}
use Rattle.voter_lists.proofs.ValidatorLemmas.{ranked_none, ranked_rise}

-- ---- one place more or less

module _ (accounts : List AccountId) where
  abbrev IsWithin : ℕ → Type 0
  IsWithin place = place < length accounts

  pub within_inserted : (places : List ℕ) (rank place : ℕ) → AreWithin accounts places → place < length accounts → AreWithin accounts (insert places rank place)
  within_inserted places zero place within below = All-cons IsWithin place places below within
  within_inserted [] (suc rank) place within below = All-cons IsWithin place [] below within
  within_inserted (first ∷ places) (suc rank) place within below =
      All-cons IsWithin first (insert places rank place) (All-head IsWithin first places within) (within_inserted places rank place (All-tail IsWithin first places within) below)

  nobody : AccountId
  nobody = record { hi = 0; lo = 0 }

  -- there is an account at the first place
  at_first : (first : ℕ) (places : List ℕ) → AreWithin accounts (first ∷ places) → slice_get accounts first ≡ Some (get_or accounts first nobody)
  at_first first places within = slice_get-get_or accounts first nobody (All-head IsWithin first places within)

  pub accounts_inserted : (places : List ℕ) (rank place : ℕ) (who : AccountId) → AreWithin accounts places → slice_get accounts place ≡ Some who
      → accounts_at accounts (insert places rank place) ≡ insert (accounts_at accounts places) rank who
  accounts_inserted places zero place who within there = ap (λ o. cons_option o (accounts_at accounts places)) there
  accounts_inserted [] (suc rank) place who within there = ap (λ o. cons_option o []) there
  accounts_inserted (first ∷ places) (suc rank) place who within there =
      ap₂ cons_option (at_first first places within) (accounts_inserted places rank place who (All-tail IsWithin first places within) there)
      ∙ sym (ap (λ o. insert (cons_option o (accounts_at accounts places)) (suc rank) who) (at_first first places within))

  pub accounts_removed : (places : List ℕ) (rank : ℕ) → AreWithin accounts places → accounts_at accounts (remove places rank) ≡ remove (accounts_at accounts places) rank
  accounts_removed [] zero within = refl
  accounts_removed [] (suc rank) within = refl
  accounts_removed (first ∷ places) zero within = sym (ap (λ o. remove (cons_option o (accounts_at accounts places)) 0) (at_first first places within))
  accounts_removed (first ∷ places) (suc rank) within =
      ap₂ cons_option (at_first first places within) (accounts_removed places rank (All-tail IsWithin first places within))
      ∙ sym (ap (λ o. remove (cons_option o (accounts_at accounts places)) (suc rank)) (at_first first places within))

-- ---- the places of the validators

module _ (standings : PlacedRoles) (places : List ℕ) (ranked : AreRankedAt standings places) where
  -- they are as many
  pub ranked_count : length places ≡ length (validators_of standings.roles)
  ranked_count = sym (count_at standings.accounts places ranked.within) ∙ ap length ranked.ranked.ranked

  -- while accounts come
  module _ (accounts : List AccountId) (kept : KeepPlaces standings.accounts accounts) where
    pub ranked_kept : AreRanked standings.roles (accounts_at accounts places)
    ranked_kept = subst (AreRanked standings.roles) (sym (kept_accounts standings.accounts accounts places kept ranked.within)) ranked.ranked

    pub rise_kept : RiseAt accounts places
    rise_kept = record {
      within = kept_within standings.accounts accounts places kept ranked.within;
      rising = ranked_rise standings.roles (accounts_at accounts places) ranked_kept;
    }

  -- and where the roles stay
  pub still_ranked : (now : PlacedRoles) → KeepPlaces standings.accounts now.accounts → now.roles ≡ standings.roles → AreRankedAt now places
  still_ranked now kept same = record {
    within = kept_within standings.accounts now.accounts places kept ranked.within;
    ranked = subst (λ roles. AreRanked roles (accounts_at now.accounts places)) (sym same) (ranked_kept now.accounts kept);
  }

-- a validator does not come again
pub ranked_again : (who : AccountId) (roles : RoleList) (accounts : List AccountId) → AreRanked roles accounts → is_validator roles who ≡ true → insert_key account_cmp accounts who ≡ accounts
ranked_again who roles accounts ranked valid = at (rank_of accounts who) refl where
  found : is_some (rank_of accounts who) ≡ true
  found = ap (λ xs. is_some (rank_of xs who)) ranked.ranked ∙ rank_tells who roles ranked.rising ∙ valid

  at : (o : Option ℕ) → rank_of accounts who ≡ o → insert_key account_cmp accounts who ≡ accounts
  at None e = absurd (true≢false (sym found ∙ ap is_some e))
  at (Some rank) e =
      let stands = position-Some (same_account who) accounts rank who e in
      hit_same who accounts rank (ranked_rise roles accounts ranked)
      (slice_get-get_or accounts rank who stands.0 ∙ ap (λ account. Some account) (sym (same_exact who (get_or accounts rank who) stands.1)))

-- nobody has a role
pub ranked_nowhere : AreRankedAt (record { roles = []; accounts = [] }) []
ranked_nowhere = record { within = All-nil (λ place. place < 0); ranked = ranked_none }
