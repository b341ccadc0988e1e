use Rattle.election_work.specs.Mining.{outcome_of}
use Rattle.bundle_reports.proofs.MineLaws.{outcome_told}
use Rattle.bundle_reports.proofs.mining.mined_answer.Goals as goal

pub returns : goal.returns
returns c = outcome_told (outcome_of c.args.mined.now) c.told.result c.new-lines.result.items c.tell_members.new.text.items c.tell_score.new.text.items c.tell_packed.new.text.items
    c.new-lines.ensures.items c.in_ok-tell_members.ensures c.in_ok-tell_score.ensures c.in_ok-tell_packed.ensures c.told.ensures
