use Rattle.std.proofs.Common.{ℕ, sym, subst}
use Rattle.scale_wire.specs.Composite.{items}
use Rattle.scale_wire.specs.Reading.{Reads}
use Rattle.compact_solution.specs.Solution.{entry_form}
use Rattle.compact_solution.proofs.reading.read_entries.Goals as goal

pub returns-then-shares-eq0 : goal.returns-then-shares-eq0
returns-then-shares-eq0 c =
    subst (λ (n : ℕ). Reads (items (entry_form n) c.args.count) c.args.cursor.now c.read_singles.result c.read_singles.new.cursor) (sym c.if-shares-eq0.true) c.read_singles.ensures
