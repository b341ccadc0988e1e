use Rattle.npos_words.proofs.SpellLemmas.{names_are_names, reads_what_is_spelled}
use Rattle.npos_words.proofs.laws.options_are_read_where_they_are_spelled.Goals as goal

pub returns-clause-read : goal.returns-clause-read
returns-clause-read c = reads_what_is_spelled

pub returns-clause-names : goal.returns-clause-names
returns-clause-names c = names_are_names
