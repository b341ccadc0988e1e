-- The books stay balanced, and the running totals the sums.
use Rattle.std.proofs.Common.{◌≡◌, ℕ, ◌+◌, ◌-◌, ◌≤◌, min, refl, ap, sym, ◌∙◌, subst, arith, None, []}
use Rattle.std.specs.Map.{values_of}
use Rattle.std.specs.List.Sorted.{IsStrictlySortedBy}
use Rattle.npos_base.specs.declared.account.AccountId.{AccountId}
use Rattle.stake_ledger.specs.declared.row.Row.{Row}
use Rattle.stake_ledger.specs.declared.totals.Totals.{Totals}
use Rattle.stake_ledger.specs.declared.call.RowCall.{RowCall}
use Rattle.stake_ledger.specs.declared.call.RowCall.TheVariants.{Bond, BondExtra, Unbond, Rebond, Withdraw, Hold, Return, Burn}
use Rattle.stake_ledger.specs.Chunks.{chunk_sum}
use Rattle.stake_ledger.specs.Rows.{empty_row, worth, gained, paid, slashed_row}
use Rattle.stake_ledger.specs.Parts.{parts_of, Covers, replaced}
use Rattle.stake_ledger.specs.Ledger.{Ledger, row_at, changed, total, totals_of, IsBalanced, issuance_cap}
use Rattle.stake_ledger.specs.Kept.{IsKept}
use Rattle.stake_ledger.specs.Calls.{endowed, transferred, room_of, minted_free, slash_amount}
use Rattle.stake_ledger.specs.RowCalls.{row_refusal, row_after, burned_by, called, IsTimely}
use Rattle.stake_ledger.proofs.ScheduleLemmas.{sum_first}
use Rattle.stake_ledger.proofs.CallLemmas.{worth_after, schedule_after, worth_slashed, schedule_slashed}
use Rattle.stake_ledger.proofs.LedgerLemmas.{total-changed, part_within, ordered-changed, schedules-changed, schedule_at, total_worth}

same_parts : (f g a b u v d e m n p q i j : ℕ) → f ≡ g → a ≡ b → u ≡ v → d ≡ e → m ≡ n → p ≡ q → i ≡ j
    → (let left : Totals = record { free = f; active = a; unlocking = u; deposits = d; minted = m; burned = p; issuance = i } in
    let right : Totals = record { free = g; active = b; unlocking = v; deposits = e; minted = n; burned = q; issuance = j } in left ≡ right)
same_parts f g a b u v d e m n p q i j free active unlocking deposits minted burned issuance = cc

totals_same : (a b : Totals) → a.free ≡ b.free → a.active ≡ b.active → a.unlocking ≡ b.unlocking → a.deposits ≡ b.deposits
    → a.minted ≡ b.minted → a.burned ≡ b.burned → a.issuance ≡ b.issuance → a ≡ b
totals_same a b free active unlocking deposits minted burned issuance =
    same_parts a.free b.free a.active b.active a.unlocking b.unlocking a.deposits b.deposits a.minted b.minted a.burned b.burned a.issuance b.issuance
    free active unlocking deposits minted burned issuance

-- nothing is in order
pub kept_nothing : IsKept (record { rows = []; genesis = 0; minted = 0; burned = 0 }) (record { free = 0; active = 0; unlocking = 0; deposits = 0; minted = 0; burned = 0; issuance = 0 })
unfolding IsStrictlySortedBy
kept_nothing = record {
  balanced = record { distinct = tt; schedules = λ k d below. absurd (omega (arith, below)); equation = refl; capped = omega arith };
  running = refl;
}

-- ---- bounds

pub worth_within : (who : AccountId) (ledger : Ledger) (totals : Totals) → IsKept ledger totals → worth (row_at ledger who) ≤ issuance_cap
worth_within who ledger totals kept =
    omega (arith, part_within worth refl who ledger kept.balanced.distinct, kept.balanced.equation, kept.balanced.capped)

pub totals_within : (ledger : Ledger) (totals : Totals) → IsKept ledger totals
    → totals.free + totals.active + totals.unlocking + totals.deposits + totals.burned ≤ issuance_cap
totals_within ledger totals kept =
    rw kept.running (omega (arith, total_worth (values_of ledger.rows), kept.balanced.equation, kept.balanced.capped))

pub covered : (who : AccountId) (ledger : Ledger) (totals : Totals) → IsKept ledger totals → Covers totals (parts_of (row_at ledger who))
covered who ledger totals kept =
    let ordered = kept.balanced.distinct in
    record {
      free = rw kept.running (part_within (λ row. row.free) refl who ledger ordered);
      active = rw kept.running (part_within (λ row. row.active) refl who ledger ordered);
      unlocking = rw kept.running (part_within (λ row. chunk_sum row.chunks) refl who ledger ordered);
      held = rw kept.running (part_within (λ row. row.held) refl who ledger ordered);
    }

-- what a call burns was issued
pub burned_within : (who : AccountId) (call : RowCall) (ledger : Ledger) (totals : Totals) → IsKept ledger totals → row_refusal call (row_at ledger who) ≡ None
    → burned_by call (row_at ledger who) ≤ totals.issuance
burned_within who call ledger totals kept allowed =
    omega (
      arith,
      part_within worth refl who ledger kept.balanced.distinct,
      worth_after call (row_at ledger who) allowed,
      kept.balanced.equation,
      ap (λ (t : Totals). t.issuance) kept.running,
    )

-- ---- a call on a row

more_none : (ledger : Ledger) → record ledger { burned = ledger.burned + 0 } ≡ ledger
more_none ledger = let same : ledger.burned + 0 ≡ ledger.burned = omega arith in ap (λ n. record ledger { burned = n }) same

-- a call that burns nothing changes the account's row alone
pub called_is : (who : AccountId) (call : RowCall) (ledger : Ledger)
    → record (changed who (row_after call) ledger) { burned = ledger.burned + burned_by call (row_at ledger who) }
    ≡ called who call ledger
called_is who (Burn value) ledger = refl
called_is who (Bond value minimum) ledger = more_none (changed who (row_after (Bond value minimum)) ledger)
called_is who (BondExtra value) ledger = more_none (changed who (row_after (BondExtra value)) ledger)
called_is who (Unbond value release least) ledger = more_none (changed who (row_after (Unbond value release least)) ledger)
called_is who (Rebond value) ledger = more_none (changed who (row_after (Rebond value)) ledger)
called_is who (Withdraw era) ledger = more_none (changed who (row_after (Withdraw era)) ledger)
called_is who (Hold value) ledger = more_none (changed who (row_after (Hold value)) ledger)
called_is who (Return value) ledger = more_none (changed who (row_after (Return value)) ledger)

burned_called : (who : AccountId) (call : RowCall) (ledger : Ledger) (burned : ℕ) → IsBalanced ledger → IsTimely call (row_at ledger who)
    → row_refusal call (row_at ledger who) ≡ None → burned ≡ burned_by call (row_at ledger who)
    → IsBalanced (record (changed who (row_after call) ledger) { burned = ledger.burned + burned })
burned_called who call ledger burned balanced timely allowed is = record {
  distinct = ordered-changed who (row_after call) ledger balanced.distinct;
  schedules = schedules-changed who (row_after call) ledger balanced.schedules (schedule_after call (row_at ledger who) (schedule_at who ledger balanced.schedules) timely allowed);
  equation = omega (arith, total-changed worth refl who (row_after call) ledger balanced.distinct, worth_after call (row_at ledger who) allowed, balanced.equation, is);
  capped = balanced.capped;
}

pub balanced_called : (who : AccountId) (call : RowCall) (ledger : Ledger) → IsBalanced ledger → IsTimely call (row_at ledger who)
    → row_refusal call (row_at ledger who) ≡ None → IsBalanced (called who call ledger)
balanced_called who call ledger balanced timely allowed =
    subst IsBalanced (called_is who call ledger) (burned_called who call ledger (burned_by call (row_at ledger who)) balanced timely allowed refl)

-- a sum with the new part in the place of the old one
sum_replaced : (part : Row → ℕ) → part empty_row ≡ 0 → (who : AccountId) (change : Row → Row) (ledger : Ledger) (sum : ℕ) → IsBalanced ledger → sum ≡ total part ledger
    → sum - part (row_at ledger who) + part (change (row_at ledger who)) ≡ total part (changed who change ledger)
sum_replaced part none who change ledger sum balanced is =
    omega (arith, total-changed part none who change ledger balanced.distinct, part_within part none who ledger balanced.distinct, is)

pub kept_called : (who : AccountId) (call : RowCall) (ledger : Ledger) (totals : Totals) (burned : ℕ) → IsKept ledger totals → IsTimely call (row_at ledger who)
    → row_refusal call (row_at ledger who) ≡ None → burned ≡ burned_by call (row_at ledger who)
    → IsKept (record (changed who (row_after call) ledger) { burned = ledger.burned + burned })
    (record (replaced (parts_of (row_at ledger who)) (parts_of (row_after call (row_at ledger who))) totals) { burned = totals.burned + burned; issuance = totals.issuance - burned })
kept_called who call ledger totals burned kept timely allowed is =
    let left = record (replaced (parts_of (row_at ledger who)) (parts_of (row_after call (row_at ledger who))) totals) { burned = totals.burned + burned; issuance = totals.issuance - burned } in
    let right = record (changed who (row_after call) ledger) { burned = ledger.burned + burned } in
    record {
      balanced = burned_called who call ledger burned kept.balanced timely allowed is;
      running = totals_same left (totals_of right)
          (sum_replaced (λ row. row.free) refl who (row_after call) ledger totals.free kept.balanced (ap (λ (t : Totals). t.free) kept.running))
          (sum_replaced (λ row. row.active) refl who (row_after call) ledger totals.active kept.balanced (ap (λ (t : Totals). t.active) kept.running))
          (sum_replaced (λ row. chunk_sum row.chunks) refl who (row_after call) ledger totals.unlocking kept.balanced (ap (λ (t : Totals). t.unlocking) kept.running))
          (sum_replaced (λ row. row.held) refl who (row_after call) ledger totals.deposits kept.balanced (ap (λ (t : Totals). t.deposits) kept.running))
          (ap (λ (t : Totals). t.minted) kept.running)
          (ap (λ (t : Totals). t.burned + burned) kept.running)
          (omega (arith, ap (λ (t : Totals). t.issuance) kept.running));
    }

-- ---- a slash

-- what a slash burns was issued
pub slash_within : (who : AccountId) (amount : ℕ) (ledger : Ledger) (totals : Totals) → IsKept ledger totals → slash_amount (row_at ledger who) amount ≤ totals.issuance
slash_within who amount ledger totals kept =
    omega (
      arith,
      part_within worth refl who ledger kept.balanced.distinct,
      kept.balanced.equation,
      ap (λ (t : Totals). t.issuance) kept.running,
    )

pub balanced_slashed : (who : AccountId) (amount : ℕ) (ledger : Ledger) → IsBalanced ledger
    → IsBalanced (record (changed who (slashed_row amount) ledger) { burned = ledger.burned + slash_amount (row_at ledger who) amount })
balanced_slashed who amount ledger balanced = record {
  distinct = ordered-changed who (slashed_row amount) ledger balanced.distinct;
  schedules = schedules-changed who (slashed_row amount) ledger balanced.schedules (schedule_slashed amount (row_at ledger who) (schedule_at who ledger balanced.schedules));
  equation = omega (arith, total-changed worth refl who (slashed_row amount) ledger balanced.distinct, worth_slashed amount (row_at ledger who), balanced.equation);
  capped = balanced.capped;
}

-- a sum less what was taken of the account's part
sum_lessened : (part : Row → ℕ) → part empty_row ≡ 0 → (who : AccountId) (change : Row → Row) (ledger : Ledger) (sum taken : ℕ) → IsBalanced ledger → sum ≡ total part ledger
    → part (change (row_at ledger who)) + taken ≡ part (row_at ledger who) → sum - taken ≡ total part (changed who change ledger)
sum_lessened part none who change ledger sum taken balanced is less =
    omega (arith, total-changed part none who change ledger balanced.distinct, is, less)

pub kept_slashed : (who : AccountId) (amount : ℕ) (ledger : Ledger) (totals : Totals) (burned : ℕ) → IsKept ledger totals → burned ≡ slash_amount (row_at ledger who) amount
    → IsKept (record (changed who (slashed_row amount) ledger) { burned = ledger.burned + burned })
    (record totals {
      active = totals.active - min amount (row_at ledger who).active;
      unlocking = totals.unlocking - min (amount - (row_at ledger who).active) (chunk_sum (row_at ledger who).chunks);
      burned = totals.burned + burned;
      issuance = totals.issuance - burned;
    })
kept_slashed who amount ledger totals burned kept is =
    let row : Row = row_at ledger who in
    let left : Totals = record totals {
      active = totals.active - min amount row.active;
      unlocking = totals.unlocking - min (amount - row.active) (chunk_sum row.chunks);
      burned = totals.burned + burned;
      issuance = totals.issuance - burned;
    } in
    let right : Ledger = record (changed who (slashed_row amount) ledger) { burned = ledger.burned + burned } in
    record {
      balanced = subst (λ n. IsBalanced (record (changed who (slashed_row amount) ledger) { burned = ledger.burned + n })) (sym is) (balanced_slashed who amount ledger kept.balanced);
      running = totals_same left (totals_of right)
          (omega (arith, total-changed (λ row. row.free) refl who (slashed_row amount) ledger kept.balanced.distinct, ap (λ (t : Totals). t.free) kept.running))
          (sum_lessened (λ row. row.active) refl who (slashed_row amount) ledger totals.active (min amount row.active) kept.balanced (ap (λ (t : Totals). t.active) kept.running) (omega arith))
          (sum_lessened (λ row. chunk_sum row.chunks) refl who (slashed_row amount) ledger totals.unlocking (min (amount - row.active) (chunk_sum row.chunks)) kept.balanced
          (ap (λ (t : Totals). t.unlocking) kept.running) (sum_first (amount - row.active) row.chunks))
          (omega (arith, total-changed (λ row. row.held) refl who (slashed_row amount) ledger kept.balanced.distinct, ap (λ (t : Totals). t.deposits) kept.running))
          (ap (λ (t : Totals). t.minted) kept.running)
          (ap (λ (t : Totals). t.burned + burned) kept.running)
          (omega (arith, ap (λ (t : Totals). t.issuance) kept.running));
    }

-- ---- an endowment, and what is minted

balanced_gained : (who : AccountId) (value genesis minted : ℕ) (ledger : Ledger) → IsBalanced ledger → genesis + minted ≡ ledger.genesis + ledger.minted + value
    → genesis + minted ≤ issuance_cap → IsBalanced (record (changed who (gained value) ledger) { genesis = genesis; minted = minted })
balanced_gained who value genesis minted ledger balanced is within = record {
  distinct = ordered-changed who (gained value) ledger balanced.distinct;
  schedules = schedules-changed who (gained value) ledger balanced.schedules (schedule_at who ledger balanced.schedules);
  equation = omega (arith, total-changed worth refl who (gained value) ledger balanced.distinct, balanced.equation, is);
  capped = within;
}

kept_gained : (who : AccountId) (value genesis minted : ℕ) (ledger : Ledger) (totals : Totals) → IsKept ledger totals → genesis + minted ≡ ledger.genesis + ledger.minted + value
    → genesis + minted ≤ issuance_cap
    → IsKept (record (changed who (gained value) ledger) { genesis = genesis; minted = minted }) (record totals { free = totals.free + value; minted = minted; issuance = totals.issuance + value })
kept_gained who value genesis minted ledger totals kept is within =
    let ordered = kept.balanced.distinct in
    record {
      balanced = balanced_gained who value genesis minted ledger kept.balanced is within;
      running = totals_same (record totals {
        free = totals.free + value;
        minted = minted;
        issuance =
            totals.issuance + value;
      }) (totals_of (record (changed who (gained value) ledger) {
        genesis = genesis;
        minted = minted;
      }))
          (omega (arith, total-changed (λ row. row.free) refl who (gained value) ledger ordered, ap (λ (t : Totals). t.free) kept.running))
          (omega (arith, total-changed (λ row. row.active) refl who (gained value) ledger ordered, ap (λ (t : Totals). t.active) kept.running))
          (omega (arith, total-changed (λ row. chunk_sum row.chunks) refl who (gained value) ledger ordered, ap (λ (t : Totals). t.unlocking) kept.running))
          (omega (arith, total-changed (λ row. row.held) refl who (gained value) ledger ordered, ap (λ (t : Totals). t.deposits) kept.running))
          refl
          (ap (λ (t : Totals). t.burned) kept.running)
          (omega (arith, kept.balanced.equation, ap (λ (t : Totals). t.issuance) kept.running, is));
    }

pub balanced_endowed : (who : AccountId) (value : ℕ) (ledger : Ledger) → IsBalanced ledger → ledger.minted ≡ 0 → ledger.genesis + value ≤ issuance_cap
    → IsBalanced (endowed who value ledger)
balanced_endowed who value ledger balanced unminted within =
    balanced_gained who value (ledger.genesis + value) ledger.minted ledger balanced (omega arith) (omega (arith, unminted))

pub kept_endowed : (who : AccountId) (value : ℕ) (ledger : Ledger) (totals : Totals) → IsKept ledger totals → ledger.minted ≡ 0 → ledger.genesis + value ≤ issuance_cap
    → IsKept (endowed who value ledger) (record totals { free = totals.free + value; minted = ledger.minted; issuance = totals.issuance + value })
kept_endowed who value ledger totals kept unminted within =
    kept_gained who value (ledger.genesis + value) ledger.minted ledger totals kept (omega arith) (omega (arith, unminted))

pub balanced_minted : (who : AccountId) (value : ℕ) (ledger : Ledger) → IsBalanced ledger → value ≤ room_of ledger → IsBalanced (minted_free who value ledger)
balanced_minted who value ledger balanced within =
    balanced_gained who value ledger.genesis (ledger.minted + value) ledger balanced (omega arith) (omega (arith, within, balanced.capped))

pub kept_minted : (who : AccountId) (value : ℕ) (ledger : Ledger) (totals : Totals) → IsKept ledger totals → value ≤ room_of ledger
    → IsKept (minted_free who value ledger) (record totals { free = totals.free + value; minted = ledger.minted + value; issuance = totals.issuance + value })
kept_minted who value ledger totals kept within =
    kept_gained who value ledger.genesis (ledger.minted + value) ledger totals kept (omega arith) (omega (arith, within, kept.balanced.capped))

-- the row opens where there is none, and nothing else changes
pub kept_opened : (who : AccountId) (ledger : Ledger) (totals : Totals) → IsKept ledger totals → IsKept (changed who (gained 0) ledger) totals
kept_opened who ledger totals kept =
    let same : record totals { free = totals.free + 0; minted = ledger.minted; issuance = totals.issuance + 0 } ≡ totals =
    totals_same (record totals { free = totals.free + 0; minted = ledger.minted; issuance = totals.issuance + 0 }) totals
    (omega arith) refl refl refl (sym (ap (λ (t : Totals). t.minted) kept.running)) refl (omega arith) in
    subst (IsKept (changed who (gained 0) ledger)) same
    (kept_gained who 0 ledger.genesis ledger.minted ledger totals kept (omega arith) kept.balanced.capped)

-- ---- a transfer

-- what one account loses of a part, the other gains
total_transferred : (part : Row → ℕ) → part empty_row ≡ 0 → (from to : AccountId) (value moves : ℕ) (ledger : Ledger) → IsBalanced ledger
    → part (paid value (row_at ledger from)) + moves ≡ part (row_at ledger from) → ((row : Row) → part (gained value row) ≡ part row + moves)
    → total part (transferred from to value ledger) ≡ total part ledger
total_transferred part none from to value moves ledger balanced loses gains =
    omega (
      arith,
      total-changed part none from (paid value) ledger balanced.distinct,
      loses,
      total-changed part none to (gained value) (changed from (paid value) ledger) (ordered-changed from (paid value) ledger balanced.distinct),
      gains (row_at (changed from (paid value) ledger) to),
    )

pub balanced_transferred : (from to : AccountId) (value : ℕ) (ledger : Ledger) → IsBalanced ledger → value ≤ (row_at ledger from).free
    → IsBalanced (transferred from to value ledger)
balanced_transferred from to value ledger balanced within =
    let first = schedules-changed from (paid value) ledger balanced.schedules (schedule_at from ledger balanced.schedules) in
    record {
      distinct = ordered-changed to (gained value) (changed from (paid value) ledger) (ordered-changed from (paid value) ledger balanced.distinct);
      schedules = schedules-changed to (gained value) (changed from (paid value) ledger) first (schedule_at to (changed from (paid value) ledger) first);
      equation = omega (arith, total_transferred worth refl from to value value ledger balanced (omega (arith, within)) (λ row. omega arith), balanced.equation);
      capped = balanced.capped;
    }

pub kept_transferred : (from to : AccountId) (value : ℕ) (ledger : Ledger) (totals : Totals) → IsKept ledger totals → value ≤ (row_at ledger from).free
    → IsKept (transferred from to value ledger) totals
kept_transferred from to value ledger totals kept within =
    let balanced = kept.balanced in
    record {
      balanced = balanced_transferred from to value ledger balanced within;
      running = totals_same totals (totals_of (transferred from to value ledger))
          (ap (λ (t : Totals). t.free) kept.running ∙ sym (total_transferred (λ row. row.free) refl from to value value ledger balanced (omega (arith, within)) (λ row. refl)))
          (ap (λ (t : Totals). t.active) kept.running ∙ sym (total_transferred (λ row. row.active) refl from to value 0 ledger balanced (omega arith) (λ row. omega arith)))
          (ap (λ (t : Totals). t.unlocking) kept.running ∙ sym (total_transferred (λ row. chunk_sum row.chunks) refl from to value 0 ledger balanced (omega arith) (λ row. omega arith)))
          (ap (λ (t : Totals). t.deposits) kept.running ∙ sym (total_transferred (λ row. row.held) refl from to value 0 ledger balanced (omega arith) (λ row. omega arith)))
          (ap (λ (t : Totals). t.minted) kept.running)
          (ap (λ (t : Totals). t.burned) kept.running)
          (ap (λ (t : Totals). t.issuance) kept.running);
    }
