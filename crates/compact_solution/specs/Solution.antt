-- Compact solutions, after Substrate: who backs whom with which part of its stake, in groups of
-- entries. An entry of the first group names one target, one of the second group two, and so on. A
-- plain solution has 16 groups, and a wide one 24; these are numbers of the form and no limits of a
-- chain.
use Rattle.std.specs.Prelude.{ℕ, Bool, true, false, nat_eq, List, [], ◌∷◌, ◌++◌, length, map}
use Rattle.std.specs.List.{flat_map}
use Rattle.scale_wire.specs.Form.{Form}
use Rattle.scale_wire.specs.Parts.{compact_u16, compact_u32}
use Rattle.scale_wire.specs.Composite.{pair, triple, seen, items, list, row}
use Rattle.scale_wire.specs.Marked.{marked}
use Rattle.npos_base.specs.declared.limits.TheConstants.{MOST_VOTERS}
use Rattle.compact_solution.specs.declared.entry.Share.{Share}
use Rattle.compact_solution.specs.declared.entry.TheConstants.{PLAIN_GROUPS, WIDE_GROUPS, WIDE_MARK}

unfoldable pub plain_groups : ℕ
plain_groups = PLAIN_GROUPS

unfoldable pub wide_groups : ℕ
wide_groups = WIDE_GROUPS

-- how many groups a wide or a plain solution has
abbrev pub groups_in : Bool → ℕ
groups_in true = wide_groups
groups_in false = plain_groups

-- A voter and its targets. Each target but the last is listed with its share, and the last one gets
-- the rest of the voter's stake.
pub record Entry : Type 0 where
  pub voter : ℕ
  pub shares : List Share
  pub last : ℕ

-- the whole of a voter's stake, of which its shares are parts
abbrev pub whole_stake : ℕ
whole_stake = 65535

-- the targets of an entry, in order
abbrev pub targets_of : Entry → List ℕ
targets_of entry = map (λ share. share.target) entry.shares ++ entry.last ∷ []

-- the shares of its targets but the last, in parts of whole_stake
abbrev pub parts_of : Entry → List ℕ
parts_of entry = map (λ share. share.parts) entry.shares

-- a solution is wide where it has the groups of a wide one, whether there are entries in them or not
abbrev pub is_wide : List (List Entry) → Bool
is_wide solution = nat_eq (length solution) wide_groups

-- the entries of all groups, in listed order
abbrev pub entries_of : List (List Entry) → List Entry
entries_of solution = flat_map (λ group. group) solution

-- ## In SCALE

abbrev pub share_form : Form Share
share_form = seen (pair compact_u16 compact_u16) (λ share. (share.target, share.parts))

-- an entry with this many shares: the voter, the shares and the last target
abbrev pub entry_form : ℕ → Form Entry
entry_form shares =
    seen (triple compact_u32 (items share_form shares) compact_u16)
    (λ entry. (entry.voter, entry.shares, entry.last))

-- the group whose entries have this many shares: at most as many entries as an election has voters
abbrev pub group_form : ℕ → Form (List Entry)
group_form shares = list (entry_form shares) MOST_VOTERS

-- a solution in so many groups is these, one behind the other; the entries of the first have no share
abbrev pub groups_form : ℕ → Form (List (List Entry))
groups_form groups = row group_form 0 groups

-- The byte ff stands before the groups of a wide solution. Bytes that begin with it are read as a wide
-- solution, and all others as a plain one.
abbrev pub solution_form : Form (List (List Entry))
solution_form = marked WIDE_MARK is_wide (groups_form plain_groups) (groups_form wide_groups)
