use Rattle.voter_lists.proofs.OneWalkLemmas.{insert_one, remove_one, move_one, front_one}
use Rattle.voter_lists.proofs.laws.calls_end_with_one_walk.Goals as goal

pub returns-clause-inserts : goal.returns-clause-inserts
returns-clause-inserts c = insert_one

pub returns-clause-removes : goal.returns-clause-removes
returns-clause-removes c = remove_one

pub returns-clause-moves : goal.returns-clause-moves
returns-clause-moves c = move_one

pub returns-clause-fronts : goal.returns-clause-fronts
returns-clause-fronts c = front_one
