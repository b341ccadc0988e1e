use Rattle.era_book.proofs.RecordLemmas.{put_law, values_law, bare_law, same_eras_law}
use Rattle.era_book.proofs.laws.eras_are_made_anew_from_their_members.Goals as goal

pub returns : goal.returns
returns c = record { put = put_law; values = values_law; bare = bare_law; same = same_eras_law }
