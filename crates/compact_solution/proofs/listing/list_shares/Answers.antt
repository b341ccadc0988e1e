use Rattle.std.proofs.Common.{rules}
use Rattle.std.proofs.lemmas.List.Elements.{All-get_or}
use Rattle.compact_solution.specs.Choosing.{Fits}
use Rattle.compact_solution.proofs.listing.list_shares.Goals as goal

pub parts_in-requires : goal.parts_in-requires
parts_in-requires c = All-get_or (Fits c.args.stake) c.args.edges.now c.loop-edge.edge-index (record { voter = 0; target = 0; amount = 0 }) (search rules) c.requires
