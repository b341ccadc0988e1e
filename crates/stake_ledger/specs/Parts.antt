-- What an account has, part by part, and its place in the sums over all accounts.
use Rattle.std.specs.Prelude.{ℕ, ◌+◌, ◌-◌, ◌≤◌, min}
use Rattle.stake_ledger.specs.declared.row.Row.{Row}
use Rattle.stake_ledger.specs.declared.parts.Parts.{Parts}
use Rattle.stake_ledger.specs.declared.parts.Cut.{Cut}
use Rattle.stake_ledger.specs.declared.totals.Totals.{Totals}
use Rattle.stake_ledger.specs.Chunks.{chunk_sum}
use Rattle.stake_ledger.specs.Rows.{is_bonded, slashed_row}

abbrev pub parts_of : Row → Parts
parts_of row = record {
  free = row.free;
  active = row.active;
  unlocking = chunk_sum row.chunks;
  held = row.held;
}

-- the sums are no less than what one account has
pub record Covers (totals : Totals) (parts : Parts) : Type 0 where
  pub free : parts.free ≤ totals.free
  pub active : parts.active ≤ totals.active
  pub unlocking : parts.unlocking ≤ totals.unlocking
  pub held : parts.held ≤ totals.deposits

-- the sums with what an account has now in the place of what it had
abbrev pub replaced : Parts → Parts → Totals → Totals
replaced before after totals = record totals {
  free = totals.free - before.free + after.free;
  active = totals.active - before.active + after.active;
  unlocking = totals.unlocking - before.unlocking + after.unlocking;
  deposits = totals.deposits - before.held + after.held;
}

-- what a slash takes of each part, and whether anything is bonded then
abbrev pub cut_of : ℕ → Row → Cut
cut_of amount row = record {
  active = min amount row.active;
  unlocking = min (amount - row.active) (chunk_sum row.chunks);
  bonded = is_bonded (slashed_row amount row);
}
