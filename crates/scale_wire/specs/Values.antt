-- Truth values in SCALE, and the structs of npos_base: their fields in order.
use Rattle.std.specs.Prelude.{ℕ, Bool, true, false}
use Rattle.npos_base.specs.declared.figures.Score.{Score}
use Rattle.npos_base.specs.declared.figures.Edge.{Edge}
use Rattle.scale_wire.specs.Form.{Form}
use Rattle.scale_wire.specs.Composite.{seen, triple}
use Rattle.scale_wire.specs.Parts.{tag_form, fixed_u128, compact_u16, compact_u32, compact_u64}

abbrev pub flag_tag : Bool → ℕ
flag_tag false = 0
flag_tag true = 1

-- the tag 1 where it is so, and else 0
abbrev pub flag_form : Form Bool
flag_form = seen (tag_form 2) flag_tag

abbrev pub score_fields : Score → ℕ × ℕ × ℕ
score_fields score = (score.minimal, score.sum, score.squares)

-- the squares pass the range of compact integers
abbrev pub score_form : Form Score
score_form = seen (triple compact_u64 compact_u64 fixed_u128) score_fields

abbrev pub edge_fields : Edge → ℕ × ℕ × ℕ
edge_fields edge = (edge.voter, edge.target, edge.amount)

abbrev pub edge_form : Form Edge
edge_form = seen (triple compact_u32 compact_u16 compact_u64) edge_fields
