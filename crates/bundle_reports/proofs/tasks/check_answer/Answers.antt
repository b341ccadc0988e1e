use Rattle.bundle_reports.proofs.SoundLaws.{check_done, done_sound}
use Rattle.bundle_reports.proofs.tasks.check_answer.Goals as goal

pub returns-clause-sound : goal.returns-clause-sound
returns-clause-sound c = done_sound c.finding_answer.result (check_done c.in_ok-found.found c.finding_answer.result c.finding_answer.ensures) c.in_ok-found.ensures.sound
