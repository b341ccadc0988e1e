use Rattle.voter_lists.proofs.OneAnswerLemmas.{same_number, same_home, same_rebag, same_front}
use Rattle.voter_lists.proofs.laws.one_walk_gives_the_same_answers.Goals as goal

pub returns-clause-bags : goal.returns-clause-bags
returns-clause-bags c thresholds list arranged who one = same_number thresholds list arranged one who

pub returns-clause-homes : goal.returns-clause-homes
returns-clause-homes c = same_home

pub returns-clause-rebags : goal.returns-clause-rebags
returns-clause-rebags c = same_rebag

pub returns-clause-fronts : goal.returns-clause-fronts
returns-clause-fronts c = same_front
