-- The tables of a checker. What they hold between two checks says nothing.
use Rattle.std.specs.Prelude.{◌≡◌, ℕ, ◌*◌, ◌≤◌, Bool, false, not, ◌&&◌, nat_le, List, length, sum_by, slice_index_or, Option, option_map, find}
use Rattle.std.specs.List.{range_with_len}
use Rattle.std.specs.Vec.{vec_capacity}
use Rattle.npos_base.specs.declared.limits.TheConstants.{MOST_NOMINATIONS}
use Rattle.election_snapshot.specs.Snapshot.{Snapshot}
use Rattle.weight_book.specs.Passing.{nominators}
pub use Rattle.seat_race.specs.Tables.{AreMarks}
use Rattle.election_check.specs.declared.fault.Fault.{Fault}
use Rattle.election_check.specs.declared.fault.Fault.TheVariants.{Outweighed}
use Rattle.election_check.specs.declared.tables.Tables.{Tables}

pub record AreTablesOf (snapshot : Snapshot) (tables : Tables) : Type 0 where
  pub members : length tables.is_member.items ≡ length snapshot.targets
  pub pairs : length snapshot.voters * MOST_NOMINATIONS ≤ vec_capacity tables.is_seen
  pub stakes : length tables.left.items ≡ length snapshot.voters
  pub prescores : length tables.prescores.items ≡ length snapshot.targets
  pub entries : length tables.has_entry.items ≡ length snapshot.voters
  pub stamps : length tables.stamps.items ≡ length snapshot.targets

-- by what the table says, what the target's nominators have left
abbrev pub left_of : List ℕ → Snapshot → ℕ → ℕ
left_of slacks snapshot target = sum_by (λ voter. slice_index_or slacks voter 0) (nominators snapshot target)

-- by what the tables say, the target is outside and has the price
abbrev pub reaches : ℕ → List Bool → List ℕ → ℕ → Bool
reaches price marks prescores target =
    not (slice_index_or marks target false) && nat_le price (slice_index_or prescores target 0)

-- the lowest such target, with its prescore
abbrev pub reached : ℕ → List Bool → List ℕ → Option Fault
reached price marks prescores = option_map (λ target. Outweighed target (slice_index_or prescores target 0))
    (find (reaches price marks prescores) (range_with_len 0 (length prescores)))
