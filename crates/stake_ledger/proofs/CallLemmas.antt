-- What the calls on a row keep.
use Rattle.std.proofs.Common.{◌≡◌, ℕ, ◌+◌, ◌-◌, ◌<◌, ◌≤◌, arith, None, length}
use Rattle.std.proofs.lemmas.Grind.{common_steps}
use Rattle.stake_ledger.specs.declared.row.Row.{Row}
use Rattle.stake_ledger.specs.declared.call.RowCall.{RowCall}
use Rattle.stake_ledger.specs.declared.call.RowCall.TheVariants.{Bond, BondExtra, Unbond, Rebond, Withdraw, Hold, Return, Burn}
use Rattle.stake_ledger.specs.Chunks.{with_chunk, IsSchedule}
use Rattle.stake_ledger.specs.Rows.{worth, slashed_row}
use Rattle.stake_ledger.specs.Calls.{unbond_amount, rebond_amount, slash_amount}
use Rattle.stake_ledger.specs.RowCalls.{row_refusal, row_after, burned_by, IsTimely}
use Rattle.stake_ledger.proofs.ChunkLemmas.{released_sum}
use Rattle.stake_ledger.proofs.ScheduleLemmas.{schedule_with, schedule_without, schedule_first, schedule_unreleased, sum_with, sum_without, sum_first}

-- what the account has and what was burned is what it had
pub worth_after : (call : RowCall) (row : Row) → row_refusal call row ≡ None → worth (row_after call row) + burned_by call row ≡ worth row
worth_after (Bond value minimum) row allowed = let within : value ≤ row.free = grind (arith, common_steps, allowed) in omega (arith, within)
worth_after (BondExtra value) row allowed = let within : value ≤ row.free = grind (arith, common_steps, allowed) in omega (arith, within)
worth_after (Unbond value release least) row allowed = omega (arith, sum_with (unbond_amount row value) release row.chunks)
worth_after (Rebond value) row allowed = omega (arith, sum_without (rebond_amount row value) row.chunks (omega arith))
worth_after (Withdraw era) row allowed = omega (arith, released_sum era row.chunks)
worth_after (Hold value) row allowed = let within : value ≤ row.free = grind (arith, common_steps, allowed) in omega (arith, within)
worth_after (Return value) row allowed = let within : value ≤ row.held = grind (arith, common_steps, allowed) in omega (arith, within)
worth_after (Burn value) row allowed = let within : value ≤ row.held = grind (arith, common_steps, allowed) in omega (arith, within)

-- the chunks stay in order
pub schedule_after : (call : RowCall) (row : Row) → IsSchedule row.chunks → IsTimely call row → row_refusal call row ≡ None → IsSchedule (row_after call row).chunks
schedule_after (Bond value minimum) row s timely allowed = s
schedule_after (BondExtra value) row s timely allowed = s
schedule_after (Unbond value release least) row s timely allowed =
    let some : 0 < unbond_amount row value = grind (arith, common_steps, allowed) in
    let few : length (with_chunk (unbond_amount row value) release row.chunks) ≤ 32 = grind (arith, common_steps, allowed) in
    schedule_with (unbond_amount row value) release row.chunks s some timely few
schedule_after (Rebond value) row s timely allowed = schedule_without (rebond_amount row value) row.chunks s
schedule_after (Withdraw era) row s timely allowed = schedule_unreleased era row.chunks s
schedule_after (Hold value) row s timely allowed = s
schedule_after (Return value) row s timely allowed = s
schedule_after (Burn value) row s timely allowed = s

-- a slash keeps both too
pub worth_slashed : (amount : ℕ) (row : Row) → worth (slashed_row amount row) + slash_amount row amount ≡ worth row
worth_slashed amount row = omega (arith, sum_first (amount - row.active) row.chunks)

pub schedule_slashed : (amount : ℕ) (row : Row) → IsSchedule row.chunks → IsSchedule (slashed_row amount row).chunks
schedule_slashed amount row s = schedule_first (amount - row.active) row.chunks s
