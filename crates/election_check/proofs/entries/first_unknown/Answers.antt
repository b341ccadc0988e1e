-- Where no target is a stray one, none is unknown.
use Rattle.std.proofs.Common.{◌∙◌, sym}
use Rattle.election_check.proofs.TakingLemmas.{none_unknown}
use Rattle.election_check.proofs.entries.first_unknown.Goals as goal

pub returns-in-None : goal.returns-in-None
returns-in-None c =
    sym (none_unknown c.args.snapshot.now c.args.entry.now c.requires.well_formed c.requires.voter (sym c.requires.stray ∙ c.in-None.is))
