use Rattle.std.proofs.Common.{rules}
use Rattle.election_snapshot.specs.Snapshot.{IsWellFormed}
use Rattle.weight_book.specs.Passing.{Passes}
use Rattle.weight_book.proofs.AveragingLemmas.{averaging, passing}
use Rattle.election_check.proofs.elected.Elected.committee.Goals as goal

pub returns-clause-answered : goal.returns-clause-answered
returns-clause-answered c =
    let formed : IsWellFormed c.args.self.now.snapshot = search rules in
    let passes : Passes c.args.self.now.snapshot c.args.self.now.weights.plain = search rules in
    passing c.args.self.now.snapshot c.args.self.now.weights.plain formed passes

pub returns-clause-proportional : goal.returns-clause-proportional
returns-clause-proportional c =
    let formed : IsWellFormed c.args.self.now.snapshot = search rules in
    let passes : Passes c.args.self.now.snapshot c.args.self.now.weights.plain = search rules in
    averaging c.args.self.now.snapshot c.args.self.now.weights.plain formed passes
