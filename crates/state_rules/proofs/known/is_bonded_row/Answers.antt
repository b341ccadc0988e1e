use Rattle.std.proofs.Common.{arith}
use Rattle.std.proofs.lemmas.Bool.Decides.{nat_tests}
use Rattle.state_rules.proofs.KnownLemmas.{chunk_above}
use Rattle.state_rules.proofs.known.is_bonded_row.Goals as goal

pub returns-else-row-gt0 : goal.returns-else-row-gt0
returns-else-row-gt0 c = grind (arith, nat_tests, c.has_chunk.ensures, chunk_above c.args.row.now.chunks)
