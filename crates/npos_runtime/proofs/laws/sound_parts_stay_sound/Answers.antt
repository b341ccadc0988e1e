use Rattle.npos_runtime.proofs.Kept.Sound.BooksLemmas.{books_stay}
use Rattle.npos_runtime.proofs.Kept.Sound.RolesLemmas.{roles_stay}
use Rattle.npos_runtime.proofs.Kept.Sound.ErasLemmas.{eras_stay, slashes_stay}
use Rattle.npos_runtime.proofs.Kept.Sound.PollLemmas.{round_stays, waiting_stays}
use Rattle.npos_runtime.proofs.Kept.Sound.SubmissionLemmas.{submissions_stay}
use Rattle.npos_runtime.proofs.laws.sound_parts_stay_sound.Goals as goal

pub returns-clause-books : goal.returns-clause-books
returns-clause-books c = books_stay

pub returns-clause-roles : goal.returns-clause-roles
returns-clause-roles c = roles_stay

pub returns-clause-eras : goal.returns-clause-eras
returns-clause-eras c = eras_stay

pub returns-clause-round : goal.returns-clause-round
returns-clause-round c = round_stays

pub returns-clause-submissions : goal.returns-clause-submissions
returns-clause-submissions c = submissions_stay

pub returns-clause-waiting : goal.returns-clause-waiting
returns-clause-waiting c =
    waiting_stays c.a_packed_yes_is_a_plain_yes.ensures c.a_plain_yes_is_passing.ensures c.every_fill_passes.ensures

pub returns-clause-slashes : goal.returns-clause-slashes
returns-clause-slashes c = slashes_stay
