use Rattle.stake_ledger.proofs.AnewLemmas.{saved_law, restored_law, releases_law, row_releases_law}
use Rattle.stake_ledger.proofs.laws.books_are_made_anew_from_their_rows.Goals as goal

pub returns : goal.returns
returns c = record { saved = saved_law; restored = restored_law; releases = releases_law; rows = row_releases_law }
