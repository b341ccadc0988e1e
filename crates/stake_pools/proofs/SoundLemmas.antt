-- What each kind of item does to the figures of a pool, and that the pool stays sound.
use Rattle.std.proofs.Common.{◌≡◌, ◌≢◌, ◌∙◌, ℕ, ◌+◌, ◌-◌, ◌*◌, ◌/◌, ◌^◌, ◌<◌, ◌≤◌, Bool, true, false, not, nat_eq, nat_lt, nat_le}
use Rattle.std.proofs.Common.{◌&&◌, if◌then◌else◌, List, length, refl, ap, sym, subst, arith, Option, Some, None, is_some, true≢false}
use Rattle.std.specs.Option.{option_or}
use Rattle.std.proofs.lemmas.Grind.{common_steps}
use Rattle.npos_base.specs.declared.account.AccountId.{AccountId}
use Rattle.npos_base.specs.Account.{same_account}
use Rattle.npos_base.proofs.AccountOrder.{same_itself}
use Rattle.stake_ledger.specs.declared.row.Row.{Row}
use Rattle.stake_ledger.specs.declared.chunks.Chunk.{Chunk}
use Rattle.stake_ledger.specs.Chunks.{IsSchedule}
use Rattle.stake_ledger.specs.Rows.{worth, gained, paid}
use Rattle.stake_ledger.specs.Ledger.{Ledger, row_at, changed, issuance_cap, IsBalanced}
use Rattle.stake_ledger.specs.Calls.{transferred}
use Rattle.stake_ledger.proofs.LedgerLemmas.{total-changed, part_within as row_within, ordered-changed, schedules-changed, schedule_at, row_in_put, row_in_other}
use Rattle.stake_pools.specs.declared.member.Member.{Member}
use Rattle.stake_pools.specs.declared.chain.PoolChain.{PoolChain}
use Rattle.stake_pools.specs.declared.input.PoolKind.{PoolKind}
use Rattle.stake_pools.specs.declared.input.PoolKind.TheVariants as kinds
use Rattle.stake_pools.specs.declared.refusal.PoolRefusal.{PoolRefusal}
use Rattle.stake_pools.specs.declared.refusal.PoolRefusal.TheVariants.{LowFunds, ZeroValue, SameAccount, NotMember, LowPoints, TooManyMembers, PoolWiped, TooManyPoints, NoStayer}
use Rattle.stake_pools.specs.Members as members
use Rattle.stake_pools.specs.Members.{points_of, member_of, member_at, total, all_points, all_staying, all_credits, joined, left, redeemed, rewarded, all_rewarded, claimed}
use Rattle.stake_pools.specs.Moves.{raised, lowered, invested, paid_out, burned}
use Rattle.stake_pools.specs.Chain.{active_of, pot_of, all_points_of, worth_of}
use Rattle.stake_pools.specs.Rules.{ItemRule, rule_of, is_member, payment_refusal, member_refusal, points_for, entry_refusal, join_rule, release_of}
use Rattle.stake_pools.specs.Rules.{leave_rule, due_points, redeem_rule, reward_rule, credit_of, claim_rule, slash_of, slash_rule, next_era_rule}
use Rattle.stake_pools.specs.Step.{outcome_by, item_outcome}
use Rattle.stake_pools.specs.Sound.{IsSoundPool}
use Rattle.stake_pools.proofs.Quotients.{no_fewer, part_within, payout_within}
use Rattle.stake_pools.proofs.LeaveLemmas.{leaving-with_leave, leaving-parts}
use Rattle.stake_pools.proofs.MemberLemmas.{nothing_there, total-with_member, part_within as member_within, ordered-with_member, absent-with_member}
use Rattle.stake_pools.proofs.RewardLemmas.{total-rewarded, credited_within, ordered-rewarded, absent-rewarded}

-- ---- what it means that no refusal is due

pub neither : {A : Type 0} (first second : Option A) → option_or first second ≡ None → (first ≡ None) × (second ≡ None)
neither None second none = (refl, none)
neither (Some x) second none = cc

passed : (a b c : Bool) (x y z : PoolRefusal) (rest : Option PoolRefusal) → (if a then Some x else if b then Some y else if c then Some z else rest) ≡ None
    → (a ≡ false) × (b ≡ false) × (c ≡ false)
passed true b c x y z rest none = cc
passed false true c x y z rest none = cc
passed false false true x y z rest none = cc
passed false false false x y z rest none = (refl, refl, refl)

above_zero : (n : ℕ) → nat_eq n 0 ≡ false → 0 < n
above_zero n e = grind (arith, common_steps, e)

differ : (x y : AccountId) → same_account x y ≡ false → x ≢ y
differ x y e is = true≢false (sym (same_itself x) ∙ ap (same_account x) is ∙ e)

-- the account can pay
pub record CanPay (chain : PoolChain) (who : AccountId) (value : ℕ) : Type 0 where
  pub some : 0 < value
  pub apart : who ≢ chain.account
  pub there : value ≤ (row_at chain.book who).free

pub can_pay : (chain : PoolChain) (who : AccountId) (value : ℕ) → payment_refusal chain who value ≡ None → CanPay chain who value
can_pay chain who value none =
    let all = passed (nat_eq value 0) (same_account who chain.account) (nat_lt (row_at chain.book who).free value) ZeroValue SameAccount LowFunds None none in
    record {
      some = above_zero value all.0;
      apart = differ who chain.account all.1;
      there = grind (arith, common_steps, all.2);
    }

known_by : (b : Bool) → (if b then None else Some NotMember) ≡ None → b ≡ true
known_by true none = refl
known_by false none = cc

-- a member is not the pool
pub member_apart : (chain : PoolChain) (who : AccountId) → IsSoundPool chain → is_member chain who ≡ true → who ≢ chain.account
member_apart chain who sound known is =
    true≢false (sym known ∙ (ap (λ (a : AccountId). is_some (member_of chain.members a)) is ∙ ap is_some sound.apart))

-- the price of a point is known
priced : (q a : ℕ) → (nat_lt 0 q && nat_eq a 0) ≡ false → 0 < q → 0 < a
priced q a e some = grind (arith, common_steps, e)

-- ---- books

-- one account loses of its worth what another gains
balanced_moved : (first second : AccountId) (loss gain : Row → Row) (value : ℕ) (book : Ledger) → IsBalanced book
    → worth (loss (row_at book first)) + value ≡ worth (row_at book first) → ((row : Row) → worth (gain row) ≡ worth row + value)
    → ((row : Row) → (loss row).chunks ≡ row.chunks) → ((row : Row) → (gain row).chunks ≡ row.chunks) → IsBalanced (changed second gain (changed first loss book))
balanced_moved first second loss gain value book balanced loses gains lost gained_same =
    let after : Ledger = changed first loss book in
    let schedules = schedules-changed first loss book balanced.schedules
    (subst (λ (chunks : List Chunk). IsSchedule chunks) (sym (lost (row_at book first))) (schedule_at first book balanced.schedules)) in
    let ordered = ordered-changed first loss book balanced.distinct in
    record {
      distinct = ordered-changed second gain after ordered;
      schedules = schedules-changed second gain after schedules
          (subst (λ (chunks : List Chunk). IsSchedule chunks) (sym (gained_same (row_at after second))) (schedule_at second after schedules));
      equation = omega (
        arith,
        total-changed worth refl first loss book balanced.distinct,
        loses,
        total-changed worth refl second gain after ordered,
        gains (row_at after second),
        balanced.equation,
      );
      capped = balanced.capped;
    }

balanced_burned : (pool : AccountId) (amount : ℕ) (book : Ledger) → IsBalanced book → amount ≤ (row_at book pool).active
    → IsBalanced (record (changed pool (lowered amount) book) { burned = book.burned + amount })
balanced_burned pool amount book balanced within = record {
  distinct = ordered-changed pool (lowered amount) book balanced.distinct;
  schedules = schedules-changed pool (lowered amount) book balanced.schedules (schedule_at pool book balanced.schedules);
  equation = omega (arith, total-changed worth refl pool (lowered amount) book balanced.distinct, balanced.equation, within);
  capped = balanced.capped;
}

-- ---- a join

pub row_invested : (who pool : AccountId) (value : ℕ) (book : Ledger) → who ≢ pool → row_at (invested who pool value book) pool ≡ raised value (row_at book pool)
row_invested who pool value book apart =
    row_in_put pool (raised value) (changed who (paid value) book).rows
    ∙ ap (raised value) (row_in_other who (paid value) book.rows pool (λ is. apart (sym is)))

-- a part of a pool's members, after one of them is put in its place
module _ (chain : PoolChain) (sound : IsSoundPool chain) (who : AccountId) (change : Member → Member) where
  pub points_put : all_points (members.changed who change chain.members) + points_of (member_at chain.members who) ≡ all_points chain.members + points_of (change (member_at chain.members who))
  points_put = total-with_member points_of refl who (change (member_at chain.members who)) chain.members sound.ordered (λ e. (nothing_there (change (member_at chain.members who)) e).points)

  pub credits_put : all_credits (members.changed who change chain.members) + (member_at chain.members who).credit ≡ all_credits chain.members + (change (member_at chain.members who)).credit
  credits_put = total-with_member (λ m. m.credit) refl who (change (member_at chain.members who)) chain.members sound.ordered (λ e. (nothing_there (change (member_at chain.members who)) e).credit)

-- the points of a join are at least its value
pub entry_points_some : (chain : PoolChain) (who : AccountId) (value : ℕ) → IsSoundPool chain → entry_refusal chain who value ≡ None → value ≤ points_for chain value
entry_points_some chain who value sound none =
    let q : ℕ = all_points_of chain in
    let a : ℕ = active_of chain in
    let all = passed (not (is_member chain who) && nat_le 4096 (length_of chain)) (nat_lt 0 q && nat_eq a 0)
    (nat_le (2 ^ 64) (q + points_for chain value)) TooManyMembers PoolWiped TooManyPoints None none in
    at (nat_eq q 0) refl (priced q a all.1) where
      length_of : PoolChain → ℕ
      length_of c = length c.members

      at : (b : Bool) → nat_eq (all_points_of chain) 0 ≡ b → (0 < all_points_of chain → 0 < active_of chain)
          → value ≤ (if b then value else value * all_points_of chain / active_of chain)
      at true e some = omega arith
      at false e some = no_fewer value (all_points_of chain) (active_of chain) (some (above_zero (all_points_of chain) e)) sound.backed

-- ---- what there is to pay

free_within : (who : AccountId) (book : Ledger) → IsBalanced book → (row_at book who).free ≤ issuance_cap
free_within who book balanced = omega (arith, row_within worth refl who book balanced.distinct, balanced.equation, balanced.capped)

pub claim_there : (chain : PoolChain) (who : AccountId) → IsSoundPool chain → credit_of chain who ≤ pot_of chain
claim_there chain who sound = omega (arith, member_within (λ m. m.credit) refl who chain.members, sound.covered)

pub reward_fits : (chain : PoolChain) (who : AccountId) (value : ℕ) → IsSoundPool chain → payment_refusal chain who value ≡ None → all_credits chain.members + value < 2 ^ 64
reward_fits chain who value sound none =
    omega (
      arith,
      (can_pay chain who value none).there,
      free_within who chain.book sound.balanced,
      free_within chain.account chain.book sound.balanced,
      sound.covered,
    )

-- ---- the pool's row after each move

moved_row : (pool who : AccountId) (loss gain : Row → Row) (book : Ledger) → who ≢ pool → row_at (changed who gain (changed pool loss book)) pool ≡ loss (row_at book pool)
moved_row pool who loss gain book apart =
    row_in_other who gain (changed pool loss book).rows pool (λ is. apart (sym is)) ∙ row_in_put pool loss book.rows

row_kept : (row : Row) → lowered 0 row ≡ row
row_kept row = let same : row.active - 0 ≡ row.active = omega arith in ap (λ active. record row { active = active }) same

none_lowered : (amount : ℕ) (row : Row) → nat_eq amount 0 ≡ true → row ≡ lowered amount row
none_lowered amount row e =
    let none : amount ≡ 0 = grind (arith, common_steps, e) in sym (ap (λ n. lowered n row) none ∙ row_kept row)

pub row_paid_out : (pool who : AccountId) (amount : ℕ) (book : Ledger) → who ≢ pool → row_at (paid_out pool who amount book) pool ≡ lowered amount (row_at book pool)
row_paid_out pool who amount book apart = at (nat_eq amount 0) refl where
  at : (b : Bool) → nat_eq amount 0 ≡ b → row_at (if b then book else changed who (gained amount) (changed pool (lowered amount) book)) pool ≡ lowered amount (row_at book pool)
  at true e = none_lowered amount (row_at book pool) e
  at false e = moved_row pool who (lowered amount) (gained amount) book apart

pub row_burned : (pool : AccountId) (amount : ℕ) (book : Ledger) → row_at (burned pool amount book) pool ≡ lowered amount (row_at book pool)
row_burned pool amount book = at (nat_eq amount 0) refl where
  at : (b : Bool) → nat_eq amount 0 ≡ b
      → row_at (if b then book else record (changed pool (lowered amount) book) { burned = book.burned + amount }) pool ≡ lowered amount (row_at book pool)
  at true e = none_lowered amount (row_at book pool) e
  at false e = row_in_put pool (lowered amount) book.rows

row_rewarded : (who pool : AccountId) (value : ℕ) (book : Ledger) → who ≢ pool → row_at (transferred who pool value book) pool ≡ gained value (row_at book pool)
row_rewarded who pool value book apart =
    row_in_put pool (gained value) (changed who (paid value) book).rows
    ∙ ap (gained value) (row_in_other who (paid value) book.rows pool (λ is. apart (sym is)))

balanced_paid_out : (pool who : AccountId) (amount : ℕ) (book : Ledger) → IsBalanced book → amount ≤ (row_at book pool).active → IsBalanced (paid_out pool who amount book)
balanced_paid_out pool who amount book balanced there = at (nat_eq amount 0) where
  at : (b : Bool) → IsBalanced (if b then book else changed who (gained amount) (changed pool (lowered amount) book))
  at true = balanced
  at false = balanced_moved pool who (lowered amount) (gained amount) amount book balanced (omega (arith, there)) (λ row. omega arith) (λ row. refl) (λ row. refl)

balanced_slashed : (pool : AccountId) (amount : ℕ) (book : Ledger) → IsBalanced book → amount ≤ (row_at book pool).active → IsBalanced (burned pool amount book)
balanced_slashed pool amount book balanced there = at (nat_eq amount 0) where
  at : (b : Bool) → IsBalanced (if b then book else record (changed pool (lowered amount) book) { burned = book.burned + amount })
  at true = balanced
  at false = balanced_burned pool amount book balanced there

-- ---- each kind keeps a pool sound

pub join_active : (chain : PoolChain) (who : AccountId) (value : ℕ) → who ≢ chain.account → active_of (join_rule chain who value).done ≡ active_of chain + value
join_active chain who value apart = ap (λ (row : Row). row.active) (row_invested who chain.account value chain.book apart)

pub join_points : (chain : PoolChain) (who : AccountId) (value : ℕ) → IsSoundPool chain → all_points_of (join_rule chain who value).done ≡ all_points_of chain + points_for chain value
join_points chain who value sound = omega (arith, points_put chain sound who (joined (points_for chain value)))

sound_join : (chain : PoolChain) (who : AccountId) (value : ℕ) → IsSoundPool chain → (join_rule chain who value).refusal ≡ None → IsSoundPool (join_rule chain who value).done
sound_join chain who value sound none =
    let each = neither (payment_refusal chain who value) (entry_refusal chain who value) none in
    let pays = can_pay chain who value each.0 in
    let row = row_invested who chain.account value chain.book pays.apart in
    let change = joined (points_for chain value) in
    record {
      balanced = balanced_moved who chain.account (paid value) (raised value) value chain.book sound.balanced (omega (arith, pays.there)) (λ r. omega arith) (λ r. refl) (λ r. refl);
      ordered = ordered-with_member who (change (member_at chain.members who)) chain.members sound.ordered;
      apart = absent-with_member who chain.account (change (member_at chain.members who)) chain.members (λ is. pays.apart (sym is)) sound.apart;
      unchunked = ap (λ (r : Row). r.chunks) row ∙ sound.unchunked;
      covered = omega (arith, credits_put chain sound who change, ap (λ (r : Row). r.free) row, sound.covered);
      backed = omega (arith, join_active chain who value pays.apart, join_points chain who value sound, entry_points_some chain who value sound each.1, sound.backed);
    }

leaves_within : (chain : PoolChain) (who : AccountId) (points : ℕ) → (leave_rule chain who points).refusal ≡ None → points ≤ (member_at chain.members who).staying
leaves_within chain who points none =
    let all = passed (nat_eq points 0) (not (is_member chain who)) (nat_lt (member_at chain.members who).staying points) ZeroValue NotMember LowPoints _ none in
    grind (arith, common_steps, all.2)

pub leaves_points : (chain : PoolChain) (who : AccountId) (points : ℕ) → IsSoundPool chain → (leave_rule chain who points).refusal ≡ None
    → all_points_of (leave_rule chain who points).done ≡ all_points_of chain
leaves_points chain who points sound none =
    omega (
      arith,
      points_put chain sound who (left points (release_of chain)),
      leaving-with_leave points (release_of chain) (member_at chain.members who).leaves,
      leaves_within chain who points none,
    )

sound_leave : (chain : PoolChain) (who : AccountId) (points : ℕ) → IsSoundPool chain → (leave_rule chain who points).refusal ≡ None → IsSoundPool (leave_rule chain who points).done
sound_leave chain who points sound none =
    let all = passed (nat_eq points 0) (not (is_member chain who)) (nat_lt (member_at chain.members who).staying points) ZeroValue NotMember LowPoints _ none in
    let known : is_member chain who ≡ true = grind (arith, common_steps, all.1) in
    let change = left points (release_of chain) in
    record {
      balanced = sound.balanced;
      ordered = ordered-with_member who (change (member_at chain.members who)) chain.members sound.ordered;
      apart = absent-with_member who chain.account (change (member_at chain.members who)) chain.members (λ is. member_apart chain who sound known (sym is)) sound.apart;
      unchunked = sound.unchunked;
      covered = omega (arith, credits_put chain sound who change, sound.covered);
      backed = omega (arith, leaves_points chain who points sound none, sound.backed);
    }

-- a member that redeems
pub record Redeems (chain : PoolChain) (who : AccountId) : Type 0 where
  pub apart : who ≢ chain.account
  pub within : due_points chain who ≤ all_points_of chain
  pub active : active_of (redeem_rule chain who).done ≡ active_of chain - worth_of chain (due_points chain who)
  pub points : all_points_of (redeem_rule chain who).done ≡ all_points_of chain - due_points chain who

pub redeems : (chain : PoolChain) (who : AccountId) → IsSoundPool chain → (redeem_rule chain who).refusal ≡ None → Redeems chain who
redeems chain who sound none =
    let known = known_by (is_member chain who) (neither (member_refusal chain who) _ none).0 in
    let apart = member_apart chain who sound known in
    let parts = leaving-parts chain.era (member_at chain.members who).leaves in
    let within : due_points chain who ≤ all_points_of chain = omega (arith, member_within points_of refl who chain.members, parts) in
    record {
      apart = apart;
      within = within;
      active = ap (λ (r : Row). r.active) (row_paid_out chain.account who (worth_of chain (due_points chain who)) chain.book apart);
      points = omega (arith, points_put chain sound who (redeemed chain.era), parts, within);
    }

sound_redeem : (chain : PoolChain) (who : AccountId) → IsSoundPool chain → (redeem_rule chain who).refusal ≡ None → IsSoundPool (redeem_rule chain who).done
sound_redeem chain who sound none =
    let is = redeems chain who sound none in
    let amount : ℕ = worth_of chain (due_points chain who) in
    let row = row_paid_out chain.account who amount chain.book is.apart in
    let change = redeemed chain.era in
    record {
      balanced = balanced_paid_out chain.account who amount chain.book sound.balanced (part_within (active_of chain) (due_points chain who) (all_points_of chain) is.within);
      ordered = ordered-with_member who (change (member_at chain.members who)) chain.members sound.ordered;
      apart = absent-with_member who chain.account (change (member_at chain.members who)) chain.members (λ same. is.apart (sym same)) sound.apart;
      unchunked = ap (λ (r : Row). r.chunks) row ∙ sound.unchunked;
      covered = omega (arith, credits_put chain sound who change, ap (λ (r : Row). r.free) row, sound.covered);
      backed = omega (arith, is.active, is.points, payout_within (active_of chain) (all_points_of chain) (due_points chain who) sound.backed is.within);
    }

stays_by : (n : ℕ) → (if nat_eq n 0 then Some NoStayer else None) ≡ None → 0 < n
stays_by n none = at (nat_eq n 0) refl none where
  at : (b : Bool) → nat_eq n 0 ≡ b → (if b then Some NoStayer else None) ≡ None → 0 < n
  at true e stays = cc
  at false e stays = above_zero n e

-- neither the active stake nor the points
pub reward_figures : (chain : PoolChain) (who : AccountId) (value : ℕ) → IsSoundPool chain → (reward_rule chain who value).refusal ≡ None
    → (active_of (reward_rule chain who value).done ≡ active_of chain) × (all_points_of (reward_rule chain who value).done ≡ all_points_of chain)
reward_figures chain who value sound none =
    let pays = can_pay chain who value (neither (payment_refusal chain who value) _ none).0 in (
      ap (λ (r : Row). r.active) (row_rewarded who chain.account value chain.book pays.apart),
      total-rewarded points_of value (all_staying chain.members) (λ m. refl) chain.members,
    )

sound_reward : (chain : PoolChain) (who : AccountId) (value : ℕ) → IsSoundPool chain → (reward_rule chain who value).refusal ≡ None → IsSoundPool (reward_rule chain who value).done
sound_reward chain who value sound none =
    let each = neither (payment_refusal chain who value) _ none in
    let pays = can_pay chain who value each.0 in
    let some = stays_by (all_staying chain.members) each.1 in
    let row = row_rewarded who chain.account value chain.book pays.apart in
    record {
      balanced = balanced_moved who chain.account (paid value) (gained value) value chain.book sound.balanced (omega (arith, pays.there)) (λ r. omega arith) (λ r. refl) (λ r. refl);
      ordered = ordered-rewarded value chain.members sound.ordered;
      apart = absent-rewarded value chain.members chain.account sound.apart;
      unchunked = ap (λ (r : Row). r.chunks) row ∙ sound.unchunked;
      covered = omega (arith, credited_within value chain.members some, ap (λ (r : Row). r.free) row, sound.covered);
      backed = let figures = reward_figures chain who value sound none in omega (arith, figures.0, figures.1, sound.backed);
    }

pub claim_figures : (chain : PoolChain) (who : AccountId) → IsSoundPool chain → (claim_rule chain who).refusal ≡ None
    → (active_of (claim_rule chain who).done ≡ active_of chain) × (all_points_of (claim_rule chain who).done ≡ all_points_of chain)
claim_figures chain who sound none =
    let known = known_by (is_member chain who) (neither (member_refusal chain who) _ none).0 in (
      ap (λ (r : Row). r.active) (moved_row chain.account who (paid (credit_of chain who)) (gained (credit_of chain who)) chain.book (member_apart chain who sound known)),
      omega (arith, points_put chain sound who claimed),
    )

sound_claim : (chain : PoolChain) (who : AccountId) → IsSoundPool chain → (claim_rule chain who).refusal ≡ None → IsSoundPool (claim_rule chain who).done
sound_claim chain who sound none =
    let known = known_by (is_member chain who) (neither (member_refusal chain who) _ none).0 in
    let apart = member_apart chain who sound known in
    let credit : ℕ = credit_of chain who in
    let there = claim_there chain who sound in
    let row = moved_row chain.account who (paid credit) (gained credit) chain.book apart in
    record {
      balanced = balanced_moved chain.account who (paid credit) (gained credit) credit chain.book sound.balanced (omega (arith, there)) (λ r. omega arith) (λ r. refl) (λ r. refl);
      ordered = ordered-with_member who (claimed (member_at chain.members who)) chain.members sound.ordered;
      apart = absent-with_member who chain.account (claimed (member_at chain.members who)) chain.members (λ is. apart (sym is)) sound.apart;
      unchunked = ap (λ (r : Row). r.chunks) row ∙ sound.unchunked;
      covered = omega (arith, credits_put chain sound who claimed, ap (λ (r : Row). r.free) row, there, sound.covered);
      backed = let figures = claim_figures chain who sound none in omega (arith, figures.0, figures.1, sound.backed);
    }

sound_slash : (chain : PoolChain) (who : AccountId) (amount : ℕ) → IsSoundPool chain → IsSoundPool (slash_rule chain who amount).done
sound_slash chain who amount sound =
    let row = row_burned chain.account (slash_of chain amount) chain.book in
    record {
      balanced = balanced_slashed chain.account (slash_of chain amount) chain.book sound.balanced (omega arith);
      ordered = sound.ordered;
      apart = sound.apart;
      unchunked = ap (λ (r : Row). r.chunks) row ∙ sound.unchunked;
      covered = omega (arith, ap (λ (r : Row). r.free) row, sound.covered);
      backed = omega (arith, ap (λ (r : Row). r.active) row, sound.backed);
    }

sound_era : (chain : PoolChain) (who : AccountId) → IsSoundPool chain → IsSoundPool (next_era_rule chain who).done
sound_era chain who sound = record {
  balanced = sound.balanced;
  ordered = sound.ordered;
  apart = sound.apart;
  unchunked = sound.unchunked;
  covered = sound.covered;
  backed = sound.backed;
}

pub sound_done : (chain : PoolChain) (who : AccountId) (kind : PoolKind) → IsSoundPool chain → (rule_of chain who kind).refusal ≡ None → IsSoundPool (rule_of chain who kind).done
unfolding rule_of
sound_done chain who (kinds.Join value) sound none = sound_join chain who value sound none
sound_done chain who (kinds.Leave points) sound none = sound_leave chain who points sound none
sound_done chain who kinds.Redeem sound none = sound_redeem chain who sound none
sound_done chain who (kinds.Reward value) sound none = sound_reward chain who value sound none
sound_done chain who kinds.Claim sound none = sound_claim chain who sound none
sound_done chain who (kinds.Slash amount) sound none = sound_slash chain who amount sound
sound_done chain who kinds.NextEra sound none = sound_era chain who sound

outcome_sound : (refusal : Option PoolRefusal) (rule : ItemRule) (chain : PoolChain) → IsSoundPool chain → (refusal ≡ None → IsSoundPool rule.done) → IsSoundPool (outcome_by refusal rule chain).state
outcome_sound None rule chain sound done = done refl
outcome_sound (Some refusal) rule chain sound done = sound

-- each item keeps a pool sound
pub sound_after : (chain : PoolChain) (who : AccountId) (kind : PoolKind) → IsSoundPool chain → IsSoundPool (item_outcome chain who kind).state
sound_after chain who kind sound =
    outcome_sound (rule_of chain who kind).refusal (rule_of chain who kind) chain sound (sound_done chain who kind sound)
