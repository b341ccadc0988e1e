-- Each account has one place.
use Rattle.std.proofs.lemmas.Result.{IfOk-weaker}
use Rattle.account_places.specs.Places.{by_account}
use Rattle.account_places.proofs.StandLemmas.{stand_apart}
use Rattle.voter_lists.specs.Marks.{AreMarks, RepeatAlike}
use Rattle.voter_lists.proofs.MarkLemmas.{repeat_alike}
use Rattle.voter_lists.proofs.standings.Standings.marks_of.Goals as goal

pub returns-clause-alike : goal.returns-clause-alike
returns-clause-alike c =
    let places = c.self.inside.places in
    let targets = c.args.targets.now in
    IfOk-weaker c.marks_of.result (λ marks. AreMarks places marks targets) (λ marks. RepeatAlike marks targets)
    (λ marks are. repeat_alike places (stand_apart places (by_account places) c.self.invariant.stand) marks targets are) c.marks_of.ensures
