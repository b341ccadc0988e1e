-- The spelling of a solution is a list of bytes.
use Rattle.std.proofs.Common.{ℕ, suc, ◌+◌, ◌-◌, ◌*◌, ◌^◌, ◌≤◌, Bool, true, false, nat_lt, if◌then◌else◌, List, [], ◌∷◌, ◌++◌, length, arith}
use Rattle.std.specs.List.{flat_map}
use Rattle.scale_wire.specs.Form.{IsBytes}
use Rattle.scale_wire.specs.LittleEndian.{little_endian}
use Rattle.scale_wire.specs.LittleEndianLaws.{are_bytes-little_endian}
use Rattle.scale_wire.specs.Compact.{compact_bytes, least_bytes}
use Rattle.scale_wire.specs.Composite.{row_bytes}
use Rattle.scale_wire.specs.FormLaws.{IsBytes-append}
use Rattle.scale_wire.specs.Marked.{marked_bytes}
use Rattle.compact_solution.specs.declared.entry.Share.{Share}
use Rattle.compact_solution.specs.Solution.{Entry, plain_groups, wide_groups, is_wide, share_form, entry_form, group_form, groups_form, solution_form}

few_bytes : (number : ℕ) → least_bytes number ≤ 8
unfolding least_bytes
few_bytes number = by4 (nat_lt number (256 ^ 4)) (nat_lt number (256 ^ 5)) (nat_lt number (256 ^ 6)) (nat_lt number (256 ^ 7)) where
  by4 : (a b c d : Bool) → (if a then 4 else if b then 5 else if c then 6 else if d then 7 else 8) ≤ 8
  by4 true b c d = omega arith
  by4 false true c d = omega arith
  by4 false false true d = omega arith
  by4 false false false true = omega arith
  by4 false false false false = omega arith

bytes_compact : (number : ℕ) → IsBytes (compact_bytes number)
unfolding compact_bytes
bytes_compact number = by3 (nat_lt number 64) (nat_lt number (2 ^ 14)) (nat_lt number (2 ^ 30)) where
  by3 : (a b c : Bool) → IsBytes (
      if a then little_endian 1 (4 * number)
      else if b then little_endian 2 (4 * number + 1)
      else if c then little_endian 4 (4 * number + 2)
      else (4 * (least_bytes number - 4) + 3) ∷ little_endian (least_bytes number) number)
  by3 true b c = are_bytes-little_endian 1 (4 * number)
  by3 false true c = are_bytes-little_endian 2 (4 * number + 1)
  by3 false false true = are_bytes-little_endian 4 (4 * number + 2)
  by3 false false false = (omega (arith, few_bytes number), are_bytes-little_endian (least_bytes number) number)

bytes_all : {A : Type 0} (spelling : A → List ℕ) → ((x : A) → IsBytes (spelling x)) → (xs : List A) → IsBytes (flat_map spelling xs)
bytes_all spelling each [] = tt
bytes_all spelling each (x ∷ xs) = IsBytes-append (spelling x) (flat_map spelling xs) (each x) (bytes_all spelling each xs)

bytes_share : (share : Share) → IsBytes (share_form.spelling share)
bytes_share share = IsBytes-append (compact_bytes share.target) (compact_bytes share.parts) (bytes_compact share.target) (bytes_compact share.parts)

bytes_entry : (shares : ℕ) (entry : Entry) → IsBytes ((entry_form shares).spelling entry)
bytes_entry shares entry =
    IsBytes-append (compact_bytes entry.voter) (flat_map share_form.spelling entry.shares ++ compact_bytes entry.last) (bytes_compact entry.voter)
    (IsBytes-append (flat_map share_form.spelling entry.shares) (compact_bytes entry.last) (bytes_all share_form.spelling bytes_share entry.shares) (bytes_compact entry.last))

bytes_group : (shares : ℕ) (group : List Entry) → IsBytes ((group_form shares).spelling group)
bytes_group shares group = IsBytes-append (compact_bytes (length group)) (flat_map (entry_form shares).spelling group) (bytes_compact (length group))
    (bytes_all (entry_form shares).spelling (bytes_entry shares) group)

bytes_groups : (first : ℕ) (groups : List (List Entry)) → IsBytes (row_bytes group_form first groups)
bytes_groups first [] = tt
bytes_groups first (group ∷ groups) =
    IsBytes-append ((group_form first).spelling group) (row_bytes group_form (suc first) groups) (bytes_group first group) (bytes_groups (suc first) groups)

pub bytes_solution : (solution : List (List Entry)) → IsBytes (solution_form.spelling solution)
bytes_solution solution = at (is_wide solution) where
  at : (wide : Bool) → IsBytes (marked_bytes 255 (groups_form plain_groups) (groups_form wide_groups) wide solution)
  at true = (omega arith, bytes_groups 0 solution)
  at false = bytes_groups 0 solution
