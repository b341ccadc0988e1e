-- What each account has after a call, for the crates above: one equation on its row says what is free, active, on its way out
-- and held, and one on the row's being there says whether the account is known.
use Rattle.std.proofs.Common.{◌≡◌, ℕ, ◌+◌, ◌-◌, ◌≤◌, ◌<◌, Bool, true, false, refl, ap, ap₂, sym, ◌∙◌, subst, arith, Option}
use Rattle.std.proofs.Common.{Some, None, is_some, not, ◌==◌, List, [], ◌∷◌, All, ◌||◌, if◌then◌else◌, true≢false, unwrap_or}
use Rattle.std.proofs.lemmas.Grind.{common_steps}
use Rattle.std.proofs.lemmas.List.Sums.{sum_by-cons}
use Rattle.npos_base.specs.declared.account.AccountId.{AccountId}
use Rattle.npos_base.specs.Account.{same_account}
use Rattle.npos_base.proofs.AccountOrder.{same_exact, same_itself}
use Rattle.stake_ledger.specs.declared.row.Row.{Row}
use Rattle.stake_ledger.specs.declared.chunks.Chunk.{Chunk}
use Rattle.stake_ledger.specs.Chunks.{chunk_sum, without_first, IsSchedule}
use Rattle.stake_ledger.specs.Rows.{empty_row, is_bonded, gained, returned, forfeited, slashed_row}
use Rattle.stake_ledger.specs.Ledger.{Ledger, row_of, row_at, changed, IsBalanced}
use Rattle.stake_ledger.specs.Calls.{deposit_returned, deposit_burned, minted_free, slash_amount, slashed}
use Rattle.stake_ledger.proofs.LedgerLemmas.{others_stay, row_of-changed, row_in_put, row_in_other, schedule_at}

unlike : (x y : AccountId) → same_account x y ≡ false → x ≡ y → ⊥
unlike x y e is = true≢false (sym (same_itself x) ∙ ap (same_account x) is ∙ e)

-- of the accounts, only the one whose row is changed has another row
pub row_at-changed : (owner : AccountId) (change : Row → Row) (ledger : Ledger) (who : AccountId)
    → row_at (changed owner change ledger) who ≡ (if same_account who owner then change (row_at ledger who) else row_at ledger who)
row_at-changed owner change ledger who = at (same_account who owner) refl where
  at : (b : Bool) → same_account who owner ≡ b → row_at (changed owner change ledger) who ≡ (if b then change (row_at ledger who) else row_at ledger who)
  at true e = rw (same_exact who owner e) (row_in_put owner change ledger.rows)
  at false e = row_in_other owner change ledger.rows who (unlike who owner e)

-- and that one is known then
pub known-changed : (owner : AccountId) (change : Row → Row) (ledger : Ledger) (who : AccountId)
    → is_some (row_of (changed owner change ledger) who) ≡ (same_account who owner || is_some (row_of ledger who))
known-changed owner change ledger who = at (same_account who owner) refl where
  at : (b : Bool) → same_account who owner ≡ b → is_some (row_of (changed owner change ledger) who) ≡ (b || is_some (row_of ledger who))
  at true e = rw (same_exact who owner e) (ap is_some (row_of-changed owner change ledger))
  at false e = ap is_some (others_stay owner change ledger who (unlike who owner e))

-- an account that has something is known
pub known_by : (part : Row → ℕ) → part empty_row ≡ 0 → (ledger : Ledger) (who : AccountId) → 0 < part (row_at ledger who) → is_some (row_of ledger who) ≡ true
known_by part none ledger who some = at (row_of ledger who) some where
  at : (o : Option Row) → 0 < part (unwrap_or o empty_row) → is_some o ≡ true
  at None below = absurd (omega (arith, none, below))
  at (Some row) below = refl

-- a change of a row that is there opens none
known_still : (owner : AccountId) (change : Row → Row) (ledger : Ledger) (who : AccountId) → is_some (row_of ledger owner) ≡ true
    → is_some (row_of (changed owner change ledger) who) ≡ is_some (row_of ledger who)
known_still owner change ledger who there = known-changed owner change ledger who ∙ at (same_account who owner) refl where
  at : (b : Bool) → same_account who owner ≡ b → (b || is_some (row_of ledger who)) ≡ is_some (row_of ledger who)
  at true e = sym (ap (λ a. is_some (row_of ledger a)) (same_exact who owner e) ∙ there)
  at false e = refl

-- where nothing moves, the change may be left out
as_it_was : (change : Row → Row) (owner : AccountId) (ledger : Ledger) (who : AccountId) → change (row_at ledger owner) ≡ row_at ledger owner
    → row_at ledger who ≡ (if same_account who owner then change (row_at ledger who) else row_at ledger who)
as_it_was change owner ledger who stays = at (same_account who owner) refl where
  at : (b : Bool) → same_account who owner ≡ b → row_at ledger who ≡ (if b then change (row_at ledger who) else row_at ledger who)
  at true e = subst (λ a. row_at ledger a ≡ change (row_at ledger a)) (sym (same_exact who owner e)) (sym stays)
  at false e = refl

either : (owner : AccountId) (change : Row → Row) (ledger : Ledger) (burned : ℕ) (who : AccountId) (b : Bool)
    → (b ≡ true → change (row_at ledger owner) ≡ row_at ledger owner)
    → row_at (if b then ledger else record (changed owner change ledger) { burned = burned }) who
    ≡ (if same_account who owner then change (row_at ledger who) else row_at ledger who)
either owner change ledger burned who true stays = as_it_was change owner ledger who (stays refl)
either owner change ledger burned who false stays = row_at-changed owner change ledger who

known_either : (owner : AccountId) (change : Row → Row) (ledger : Ledger) (burned : ℕ) (who : AccountId) (b : Bool)
    → (b ≡ false → is_some (row_of ledger owner) ≡ true)
    → is_some (row_of (if b then ledger else record (changed owner change ledger) { burned = burned }) who) ≡ is_some (row_of ledger who)
known_either owner change ledger burned who true there = refl
known_either owner change ledger burned who false there = known_still owner change ledger who (there refl)

-- ---- deposits

returned_none : (value : ℕ) (row : Row) → (value == 0) ≡ true → returned value row ≡ row
returned_none value row none =
    let free : row.free + value ≡ row.free = grind (arith, common_steps, none) in
    let held : row.held - value ≡ row.held = grind (arith, common_steps, none) in ap₂ (λ f h. record row { free = f; held = h }) free held

forfeited_none : (value : ℕ) (row : Row) → (value == 0) ≡ true → forfeited value row ≡ row
forfeited_none value row none = let held : row.held - value ≡ row.held = grind (arith, common_steps, none) in ap (λ h. record row { held = h }) held

holder_known : (owner : AccountId) (value : ℕ) (ledger : Ledger) → value ≤ (row_at ledger owner).held → (value == 0) ≡ false → is_some (row_of ledger owner) ≡ true
holder_known owner value ledger within some =
    let positive : 0 < value = grind (arith, common_steps, some) in known_by (λ row. row.held) refl ledger owner (omega (arith, within, positive))

pub row_at-returned : (owner : AccountId) (value : ℕ) (ledger : Ledger) (who : AccountId)
    → row_at (deposit_returned owner value ledger) who ≡ (if same_account who owner then returned value (row_at ledger who) else row_at ledger who)
row_at-returned owner value ledger who = either owner (returned value) ledger ledger.burned who (value == 0) (returned_none value (row_at ledger owner))

pub row_at-burned : (owner : AccountId) (value : ℕ) (ledger : Ledger) (who : AccountId)
    → row_at (deposit_burned owner value ledger) who ≡ (if same_account who owner then forfeited value (row_at ledger who) else row_at ledger who)
row_at-burned owner value ledger who =
    either owner (forfeited value) ledger (ledger.burned + value) who (value == 0) (forfeited_none value (row_at ledger owner))

pub known-returned : (owner : AccountId) (value : ℕ) (ledger : Ledger) (who : AccountId) → value ≤ (row_at ledger owner).held
    → is_some (row_of (deposit_returned owner value ledger) who) ≡ is_some (row_of ledger who)
known-returned owner value ledger who within =
    known_either owner (returned value) ledger ledger.burned who (value == 0) (holder_known owner value ledger within)

pub known-burned : (owner : AccountId) (value : ℕ) (ledger : Ledger) (who : AccountId) → value ≤ (row_at ledger owner).held
    → is_some (row_of (deposit_burned owner value ledger) who) ≡ is_some (row_of ledger who)
known-burned owner value ledger who within =
    known_either owner (forfeited value) ledger (ledger.burned + value) who (value == 0) (holder_known owner value ledger within)

-- ---- what is minted

pub row_at-minted : (owner : AccountId) (value : ℕ) (ledger : Ledger) (who : AccountId)
    → row_at (minted_free owner value ledger) who ≡ (if same_account who owner then gained value (row_at ledger who) else row_at ledger who)
row_at-minted owner value ledger who = row_at-changed owner (gained value) ledger who

pub known-minted : (owner : AccountId) (value : ℕ) (ledger : Ledger) (who : AccountId) → is_some (row_of ledger owner) ≡ true
    → is_some (row_of (minted_free owner value ledger) who) ≡ is_some (row_of ledger who)
known-minted owner value ledger who there = known_still owner (gained value) ledger who there

-- ---- a slash

nothing_left : (n : ℕ) (chunks : List Chunk) → All (λ c. 0 < c.value) chunks → chunk_sum chunks ≡ 0 → without_first n chunks ≡ chunks
nothing_left n [] whole none = refl
nothing_left n (c ∷ later) whole none = absurd (omega (arith, whole 0 c (omega arith), sum_by-cons (λ (x : Chunk). x.value) c later, none))

unbonded_same : (n : ℕ) (row : Row) → IsSchedule row.chunks → not (is_bonded row) ≡ true → slashed_row n row ≡ row
unbonded_same n row s apart =
    let none : row.active + chunk_sum row.chunks ≡ 0 = grind (arith, common_steps, apart) in
    let active : row.active - n ≡ row.active = omega (arith, none) in
    ap₂ (λ a c. record row { active = a; chunks = c }) active (nothing_left (n - row.active) row.chunks s.whole (omega (arith, none)))

pub row_at-slashed : (owner : AccountId) (amount : ℕ) (ledger : Ledger) (who : AccountId) → IsBalanced ledger
    → row_at (slashed owner amount ledger) who ≡ (if same_account who owner then slashed_row amount (row_at ledger who) else row_at ledger who)
row_at-slashed owner amount ledger who balanced =
    either owner (slashed_row amount) ledger (ledger.burned + slash_amount (row_at ledger owner) amount) who (not (is_bonded (row_at ledger owner)))
    (unbonded_same amount (row_at ledger owner) (schedule_at owner ledger balanced.schedules))

pub known-slashed : (owner : AccountId) (amount : ℕ) (ledger : Ledger) (who : AccountId)
    → is_some (row_of (slashed owner amount ledger) who) ≡ is_some (row_of ledger who)
known-slashed owner amount ledger who =
    known_either owner (slashed_row amount) ledger (ledger.burned + slash_amount (row_at ledger owner) amount) who (not (is_bonded (row_at ledger owner)))
    (λ some. known_by (λ row. row.active + chunk_sum row.chunks) refl ledger owner (grind (arith, common_steps, some)))
