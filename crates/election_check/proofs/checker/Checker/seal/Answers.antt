use Rattle.std.proofs.Common.{sym, ◌∙◌, subst}
use Rattle.weight_book.specs.Passing.{Passes}
use Rattle.election_snapshot.specs.Snapshot.{Snapshot}
use Rattle.election_check.specs.Plain.{plain_fault}
use Rattle.election_check.proofs.TakingLemmas.{no_error}
use Rattle.election_check.proofs.PassingLemmas.{passes}
use Rattle.election_check.proofs.checker.Checker.seal.Goals as goal

pub of-requires : goal.of-requires
of-requires c = subst (λ (s : Snapshot). Passes s c.args.weights.plain) (sym (c.into_snapshot.ensures ∙ c.check_plain.ensures.snapshot))
    (passes c.args.self c.args.weights.plain
    (no_error (plain_fault c.args.self c.args.weights.plain) (sym c.check_plain.ensures.fault ∙ c.in-Ok.is)))
