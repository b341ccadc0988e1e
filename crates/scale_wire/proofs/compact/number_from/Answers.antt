use Rattle.std.proofs.Common.{◌≡◌, List, [], ◌∷◌, ◌++◌, ℕ, length, drop, ap, ◌∙◌}
use Rattle.std.specs.Int.{w64, from_le_bytes}
use Rattle.scale_wire.proofs.Modes.{wide_number}
use Rattle.scale_wire.proofs.compact.number_from.Goals as goal

pub returns : goal.returns
returns c =
    let after : c.copy_from_slice.new.self ≡ c.args.bytes.now = c.copy_from_slice.ensures.after in
    c.from_le_bytes.ensures
    ∙ (ap (λ (bytes : List ℕ). from_le_bytes w64 (bytes ++ drop (length c.args.bytes.now) (0 ∷ 0 ∷ 0 ∷ 0 ∷ 0 ∷ 0 ∷ 0 ∷ 0 ∷ []))) after
    ∙ wide_number c.args.bytes.now c.requires)
