use Rattle.election_work.specs.Mining.{due_of}
use Rattle.bundle_reports.proofs.SoundLaws.{mining_done, done_sound, yes_is_no_no, mine_reported}
use Rattle.bundle_reports.proofs.tasks.mine_answer.Goals as goal

pub returns-clause-report : goal.returns-clause-report
returns-clause-report c = mine_reported c.args.miner c.args.election.snapshot (due_of c.in_ok-mining.mining) c.mining_answer.result c.in_ok-mining.ensures.mined c.mining_answer.ensures

pub returns-clause-sound : goal.returns-clause-sound
returns-clause-sound c = done_sound c.mining_answer.result (mining_done (due_of c.in_ok-mining.mining) c.mining_answer.result c.mining_answer.ensures) c.in_ok-mining.ensures.sound

pub returns-clause-passes : goal.returns-clause-passes
returns-clause-passes c = λ asked. yes_is_no_no (due_of c.in_ok-mining.mining) c.mining_answer.result c.mining_answer.ensures (c.in_ok-mining.ensures.passes asked)
