use Rattle.npos_cli.proofs.RewriteLaws.{packs_back}
use Rattle.npos_cli.proofs.laws.what_is_shown_packs_back.Goals as goal

pub returns : goal.returns
returns c = packs_back
