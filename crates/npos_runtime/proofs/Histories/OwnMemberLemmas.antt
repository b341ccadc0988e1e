-- The members of each era stand under their own accounts, whatever happens to the eras.
use Rattle.std.proofs.Common.{◌≡◌, ℕ, ◌+◌, ◌-◌, Bool, true, false, cond, List, [], ◌∷◌, fold, slice_get, slice_set, unwrap_or, All, IfSome, Option, Some, None, refl, ap, sym, ◌∙◌}
use Rattle.std.specs.BTreeMap.{is_at}
use Rattle.std.specs.Map.{lookup, set_value}
use Rattle.std.specs.Ordering.{match_ordering}
use Rattle.std.specs.declared.cmp.Ordering.{Ordering}
use Rattle.std.specs.declared.cmp.Ordering.TheVariants.{Less, Equal, Greater}
use Rattle.std.proofs.lemmas.List.Elements.{All-nil, All-cons, All-head, All-tail, All-take, All-set}
use Rattle.npos_base.specs.declared.account.AccountId.{AccountId}
use Rattle.npos_base.specs.declared.limits.TheConstants.{MOST_PAST_ERAS}
use Rattle.npos_base.specs.Account.{account_cmp}
use Rattle.npos_base.proofs.AccountOrder.{account_exact}
use Rattle.era_book.specs.declared.exposure.Exposure.{Exposure}
use Rattle.era_book.specs.Members.{Member, Members, member_of, newcomer, with_exposure, members_with, put_member, changed, with_member, gaining, with_points}
use Rattle.era_book.specs.Eras.{Eras, is_unknown, members_in}
use Rattle.era_book.specs.Calls.{claiming, keeping}
use Rattle.era_book.specs.Events.{Event, Started, Pointed, Paid, Reported, Queued, Cancelled, Taken, after, after_all}
use Rattle.era_book.proofs.EraLemmas.{all_at}

abbrev pub IsOwn : AccountId × Member → Type 0
IsOwn entry = entry.1.exposure.validator ≡ entry.0

abbrev pub AreOwn : Members → Type 0
AreOwn members = All IsOwn members

-- ## A member that changes, and newcomers

module _ (test : AccountId → Bool) where
  own_set : (members : Members) (old new : Member) → lookup test members ≡ Some old → new.exposure ≡ old.exposure → AreOwn members → AreOwn (set_value test members new)
  own_set [] old new is same own = own
  own_set (entry ∷ members) old new is same own =
      at (test entry.0) is (λ later. own_set members old new later same (All-tail IsOwn entry members own)) where
        here : IsOwn entry
        here = All-head IsOwn entry members own

        at : (b : Bool) → cond b (Some entry.1) (lookup test members) ≡ Some old
            → (lookup test members ≡ Some old → AreOwn (set_value test members new))
            → AreOwn (cond b ((entry.0, new) ∷ members) (entry ∷ set_value test members new))
        at true found rest =
            let value : entry.1 ≡ old = cc in
            All-cons IsOwn (entry.0, new) members
            (ap (λ (exposure : Exposure). exposure.validator) (same ∙ ap (λ (member : Member). member.exposure) (sym value)) ∙ here)
            (All-tail IsOwn entry members own)
        at false found rest = All-cons IsOwn entry (set_value test members new) here (rest found)

own_changed : (who : AccountId) (change : Member → Member) → ((member : Member) → (change member).exposure ≡ member.exposure)
    → (members : Members) → AreOwn members → AreOwn (with_member who change members)
own_changed who change same members own = at (member_of members who) refl where
  at : (found : Option Member) → member_of members who ≡ found → AreOwn (put_member (changed change found) who members)
  at None is = own
  at (Some member) is = own_set (is_at (account_cmp who)) members member (change member) is (same member) own

own_pointed : (items : List (AccountId × ℕ)) (members : Members) → AreOwn members → AreOwn (fold with_points members items)
own_pointed [] members own = own
own_pointed (item ∷ items) members own =
    own_pointed items (with_points members item) (own_changed item.0 (gaining item.1) (λ member. refl) members own)

own_entered : (exposure : Exposure) (members : Members) → AreOwn members → AreOwn (with_exposure members exposure)
own_entered exposure [] own = All-cons IsOwn (exposure.validator, newcomer exposure) [] refl (All-nil IsOwn)
own_entered exposure (entry ∷ members) own = at (account_cmp exposure.validator entry.0) refl (own_entered exposure members (All-tail IsOwn entry members own)) where
  at : (r : Ordering) → account_cmp exposure.validator entry.0 ≡ r → AreOwn (with_exposure members exposure)
      → AreOwn (match_ordering r ((exposure.validator, newcomer exposure) ∷ entry ∷ members) ((entry.0, newcomer exposure) ∷ members) (entry ∷ with_exposure members exposure))
  at Less is rest = All-cons IsOwn (exposure.validator, newcomer exposure) (entry ∷ members) refl own
  at Equal is rest =
      All-cons IsOwn (entry.0, newcomer exposure) members (account_exact exposure.validator entry.0 is) (All-tail IsOwn entry members own)
  at Greater is rest = All-cons IsOwn entry (with_exposure members exposure) (All-head IsOwn entry members own) rest

own_newcomers : (exposures : List Exposure) (members : Members) → AreOwn members → AreOwn (fold with_exposure members exposures)
own_newcomers [] members own = own
own_newcomers (exposure ∷ exposures) members own = own_newcomers exposures (with_exposure members exposure) (own_entered exposure members own)

-- ## Eras

own_at : (eras : Eras) (era : ℕ) → All AreOwn eras.kept → AreOwn (members_in eras era)
own_at eras era own = at (is_unknown eras era) where
  found : (o : Option Members) → IfSome o AreOwn → AreOwn (unwrap_or o [])
  found None all = All-nil IsOwn
  found (Some members) all = all

  at : (b : Bool) → AreOwn (unwrap_or (cond b None (slice_get eras.kept (eras.current - era))) [])
  at true = All-nil IsOwn
  at false = found (slice_get eras.kept (eras.current - era)) (all_at AreOwn eras.kept (eras.current - era) own)

own_put : (eras : Eras) (era : ℕ) (members : Members) → AreOwn members → All AreOwn eras.kept → All AreOwn (slice_set eras.kept (eras.current - era) members)
own_put eras era members here own = All-set AreOwn eras.kept (eras.current - era) members here own

own_after : (event : Event) (eras : Eras) → All AreOwn eras.kept → All AreOwn (after event eras).kept
own_after (Started exposures) eras own =
    All-take AreOwn (MOST_PAST_ERAS + 1) (members_with exposures ∷ eras.kept)
    (All-cons AreOwn (members_with exposures) eras.kept (own_newcomers exposures [] (All-nil IsOwn)) own)
own_after (Pointed items) eras own =
    own_put eras eras.current (fold with_points (members_in eras eras.current) items) (own_pointed items (members_in eras eras.current) (own_at eras eras.current own)) own
own_after (Paid era validator) eras own =
    own_put eras era (with_member validator claiming (members_in eras era))
    (own_changed validator claiming (λ member. refl) (members_in eras era) (own_at eras era own)) own
own_after (Reported era validator fraction) eras own =
    own_put eras era (with_member validator (keeping fraction) (members_in eras era))
    (own_changed validator (keeping fraction) (λ member. refl) (members_in eras era) (own_at eras era own)) own
own_after (Queued due lines) eras own = own
own_after (Cancelled number) eras own = own
own_after Taken eras own = own

pub own_after_all : (events : List Event) (eras : Eras) → All AreOwn eras.kept → All AreOwn (after_all events eras).kept
own_after_all [] eras own = own
own_after_all (event ∷ more) eras own = own_after_all more (after event eras) (own_after event eras own)
