use Rattle.std.proofs.Common.{map, string_bytes}
use Rattle.npos_words.proofs.WordLemmas.{result_keeps}
use Rattle.npos_words.proofs.words.command_of.Goals as goal

pub returns-in-Some-clause-bounds : goal.returns-in-Some-clause-bounds
returns-in-Some-clause-bounds c = result_keeps (map string_bytes c.in-Some.words.now) c.command_after.result c.command_after.ensures.found
