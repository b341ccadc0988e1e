use Rattle.std.proofs.Common.{length}
use Rattle.election_work.proofs.JudgedLaws.{rising_members}
use Rattle.election_work.proofs.MiningLaws.{mined_is}
use Rattle.election_work.proofs.mining.as_mined.Goals as goal

pub returns : goal.returns
returns c = mined_is c.args.snapshot c.args.weights.plain c.sort_members.new.self.plain c.args.score c.args.solution c.args.verdict
    (rising_members (length c.args.snapshot.targets) c.args.weights.plain.committee c.sort_members.new.self.plain.committee
    c.sort_members.ensures.same c.sort_members.ensures.rising c.requires.feasible.follows.members_distinct
    c.requires.feasible.follows.members_in_range)
    c.sort_members.ensures.edges c.requires.score
