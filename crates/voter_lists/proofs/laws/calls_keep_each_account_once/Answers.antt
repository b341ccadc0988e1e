use Rattle.voter_lists.proofs.OneAnswerLemmas.{inserted_once, removed_once, moved_once, fronted_once}
use Rattle.voter_lists.proofs.laws.calls_keep_each_account_once.Goals as goal

pub returns-clause-inserts : goal.returns-clause-inserts
returns-clause-inserts c thresholds list arranged who score one absent = inserted_once thresholds list arranged one who score absent

pub returns-clause-removes : goal.returns-clause-removes
returns-clause-removes c thresholds list arranged who one = removed_once thresholds list arranged one who

pub returns-clause-moves : goal.returns-clause-moves
returns-clause-moves c thresholds list arranged who score one = moved_once thresholds list arranged one who score

pub returns-clause-fronts : goal.returns-clause-fronts
returns-clause-fronts c thresholds list arranged who score lighter lighter_score one none =
    fronted_once thresholds list arranged one who score lighter lighter_score none
