use Rattle.std.proofs.Common.{◌∙◌, map}
use Rattle.state_rules.proofs.KnownLemmas.{has_row_stands}
use Rattle.state_rules.proofs.seen.is_known.Goals as goal

pub returns : goal.returns
returns c =
    c.has.ensures (map (λ row. row.who) c.args.rows.now) c.requires ∙ has_row_stands c.args.rows.now c.args.who
