-- The members of an era after one of them changed, and what is counted over all of them.
use Rattle.std.proofs.Common.{◌≡◌, ℕ, ◌+◌, ◌-◌, ◌<◌, ◌≤◌, ◌^◌, List, [], ◌∷◌, ◌++◌, length, fold, sum_by, All, IfSome, Option, Some, None, refl, ap, sym, subst, ◌∙◌, arith}
use Rattle.std.specs.BTreeMap.{is_at}
use Rattle.std.specs.Map.{values_of, set_value}
use Rattle.std.proofs.lemmas.Map.{length-set_value}
use Rattle.std.proofs.lemmas.Map.Entries.{sum_by-set_value, length-values_of}
use Rattle.std.proofs.lemmas.Map.Views.{All-values-insert_entry, All-values-set_value, IfSome-lookup_from_All}
use Rattle.std.proofs.lemmas.List.Elements.{All-nil, All-head, All-tail}
use Rattle.std.proofs.lemmas.List.Sums.{fold-append, sum_by-cons, sum_by-le}
use Rattle.std.specs.Ordering.{match_ordering}
use Rattle.std.specs.declared.cmp.Ordering.{Ordering}
use Rattle.std.specs.declared.cmp.Ordering.TheVariants.{Less, Equal, Greater}
use Rattle.npos_base.specs.declared.account.AccountId.{AccountId}
use Rattle.npos_base.specs.Account.{account_cmp}
use Rattle.era_book.specs.declared.exposure.Exposure.{Exposure}
use Rattle.era_book.specs.Members.{Member, Members, IsCounted, member_of, newcomer, with_exposure, members_with, total_points, put_member, changed, with_member, gaining, with_points}

-- a sum over the members, after one of them changed
pub sum_changed : (f : Member → ℕ) (who : AccountId) (change : Member → Member) (members : Members) (member : Member)
    → member_of members who ≡ Some member
    → sum_by f (values_of (with_member who change members)) + f member ≡ sum_by f (values_of members) + f (change member)
sum_changed f who change members member is =
    ap (λ found. sum_by f (values_of (put_member (changed change found) who members)) + f member) is
    ∙ sum_by-set_value f (is_at (account_cmp who)) members member (change member) is

-- where the change leaves what is summed, the sum stays
pub sum_stays : (f : Member → ℕ) (who : AccountId) (change : Member → Member) → ((member : Member) → f (change member) ≡ f member)
    → (members : Members) → sum_by f (values_of (with_member who change members)) ≡ sum_by f (values_of members)
sum_stays f who change same members = at (member_of members who) refl where
  at : (found : Option Member) → member_of members who ≡ found → sum_by f (values_of (put_member (changed change found) who members)) ≡ sum_by f (values_of members)
  at None is = refl
  at (Some member) is = omega (arith, sum_by-set_value f (is_at (account_cmp who)) members member (change member) is, same member)

-- what holds of all members, and of one of them after its change, still holds of all
pub all_changed : (P : Member → Type 0) (who : AccountId) (change : Member → Member) → ((member : Member) → P member → P (change member))
    → (members : Members) → All P (values_of members) → All P (values_of (with_member who change members))
all_changed P who change keeps members all = at (member_of members who) refl where
  at : (found : Option Member) → member_of members who ≡ found → All P (values_of (put_member (changed change found) who members))
  at None is = all
  at (Some member) is =
      All-values-set_value (is_at (account_cmp who)) P members (change member) all
      (keeps member (subst (λ o. IfSome o P) is (IfSome-lookup_from_All P (is_at (account_cmp who)) members all)))

pub length_changed : (who : AccountId) (change : Member → Member) (members : Members) → length (with_member who change members) ≡ length members
length_changed who change members = at (member_of members who) where
  at : (found : Option Member) → length (put_member (changed change found) who members) ≡ length members
  at None = refl
  at (Some member) = length-set_value (is_at (account_cmp who)) members (change member)

-- ---- newcomers
pub all_with : (P : Member → Type 0) (members : Members) (exposures : List Exposure) → All (λ exposure. P (newcomer exposure)) exposures
    → All P (values_of members) → All P (values_of (fold with_exposure members exposures))
all_with P members [] fine all = all
all_with P members (exposure ∷ exposures) fine all =
    all_with P (with_exposure members exposure) exposures (All-tail (λ e. P (newcomer e)) exposure exposures fine)
    (All-values-insert_entry account_cmp exposure.validator (newcomer exposure) P members all (All-head (λ e. P (newcomer e)) exposure exposures fine))

pub members_more : (exposures : List Exposure) (exposure : Exposure) → members_with (exposures ++ exposure ∷ []) ≡ with_exposure (members_with exposures) exposure
members_more exposures exposure = fold-append with_exposure [] exposures (exposure ∷ [])

-- a newcomer adds at most what it has itself to a sum
entered_at : (f : Member → ℕ) (exposure : Exposure) (row : AccountId × Member) (rows : Members) (r : Ordering)
    → sum_by f (values_of (with_exposure rows exposure)) ≤ sum_by f (values_of rows) + f (newcomer exposure)
    → sum_by f (values_of (match_ordering r ((exposure.validator, newcomer exposure) ∷ row ∷ rows) ((row.0, newcomer exposure) ∷ rows) (row ∷ with_exposure rows exposure)))
    ≤ sum_by f (values_of (row ∷ rows)) + f (newcomer exposure)
entered_at f exposure row rows Less rest = omega (arith, sum_by-cons f (newcomer exposure) (values_of (row ∷ rows)))
entered_at f exposure row rows Equal rest = omega (arith, sum_by-cons f (newcomer exposure) (values_of rows), sum_by-cons f row.1 (values_of rows))
entered_at f exposure row rows Greater rest =
    omega (arith, rest, sum_by-cons f row.1 (values_of rows), sum_by-cons f row.1 (values_of (with_exposure rows exposure)))

pub sum_entered : (f : Member → ℕ) (members : Members) (exposure : Exposure)
    → sum_by f (values_of (with_exposure members exposure)) ≤ sum_by f (values_of members) + f (newcomer exposure)
sum_entered f [] exposure = omega (arith, sum_by-cons f (newcomer exposure) [])
sum_entered f (row ∷ rows) exposure =
    entered_at f exposure row rows (account_cmp exposure.validator row.0) (sum_entered f rows exposure)

pub sum_with : (f : Member → ℕ) (members : Members) (exposures : List Exposure)
    → sum_by f (values_of (fold with_exposure members exposures)) ≤ sum_by f (values_of members) + sum_by (λ exposure. f (newcomer exposure)) exposures
sum_with f members [] = omega arith
sum_with f members (exposure ∷ exposures) =
    omega (
      arith,
      sum_with f (with_exposure members exposure) exposures,
      sum_entered f members exposure,
      sum_by-cons (λ (e : Exposure). f (newcomer e)) exposure exposures,
    )

-- newcomers bring nothing to what a newcomer has not
pub nothing_with : (f : Member → ℕ) → ((exposure : Exposure) → f (newcomer exposure) ≡ 0) → (exposures : List Exposure) → sum_by f (values_of (members_with exposures)) ≡ 0
nothing_with f none exposures = omega (arith, sum_with f [] exposures, zeros exposures) where
  zeros : (es : List Exposure) → sum_by (λ exposure. f (newcomer exposure)) es ≡ 0
  zeros [] = refl
  zeros (e ∷ es) = omega (arith, sum_by-cons (λ (x : Exposure). f (newcomer x)) e es, none e, zeros es)

-- ---- points
pub counted_none : IsCounted [] 0
counted_none = record { total = refl; each = All-nil (λ (member : Member). member.points < 2 ^ 32) }

pub counted_newcomers : (exposures : List Exposure) → IsCounted (members_with exposures) 0
counted_newcomers exposures =
    record {
      total = sym (nothing_with (λ member. member.points) (λ exposure. refl) exposures);
      each =
          all_with (λ member. member.points < 2 ^ 32) [] exposures (λ k d within. omega arith) (All-nil (λ (member : Member). member.points < 2 ^ 32));
    }

pub counted_same : (who : AccountId) (change : Member → Member) → ((member : Member) → (change member).points ≡ member.points)
    → (members : Members) (points : ℕ) → IsCounted members points → IsCounted (with_member who change members) points
counted_same who change same members points counted =
    record {
      total = counted.total ∙ sym (sum_stays (λ member. member.points) who change same members);
      each = all_changed (λ member. member.points < 2 ^ 32) who change (λ member few. omega (arith, few, same member)) members counted.each;
    }

pub each_gaining : (members : Members) (who : AccountId) (points : ℕ) → All (λ member. member.points < 2 ^ 32) (values_of members)
    → All (λ member. member.points < 2 ^ 32) (values_of (with_points members (who, points)))
each_gaining members who points each =
    all_changed (λ member. member.points < 2 ^ 32) who (gaining points) (λ member few. omega arith) members each

pub points_fit : (members : Members) → All (λ member. member.points < 2 ^ 32) (values_of members) → length members < 2 ^ 63 → total_points members < 2 ^ 128
points_fit members each few =
    omega (
      arith,
      few,
      sum_by-le (λ (member : Member). member.points) (2 ^ 32 - 1) (values_of members) (λ k d within. omega (arith, each k d within)),
      length-values_of members,
    )

-- one member's points rise, and so do all points together
pub total_rises : (members : Members) (who : AccountId) (before after : Member) (added : ℕ) (rows : Members) → member_of members who ≡ Some before
    → before.points + added ≡ after.points → rows ≡ set_value (is_at (account_cmp who)) members after → total_points members + added ≡ total_points rows
total_rises members who before after added rows is rises put =
    omega (arith, sum_by-set_value (λ (member : Member). member.points) (is_at (account_cmp who)) members before after is, rises, ap total_points put)

-- no member has more points than all together
pub points_within : (members : Members) (who : AccountId) (member : Member) → member_of members who ≡ Some member → member.points ≤ total_points members
points_within members who member is =
    omega (arith, sum_by-set_value (λ (m : Member). m.points) (is_at (account_cmp who)) members member (record member { points = 0 }) is)
