use Rattle.std.proofs.Common.{◌∙◌, ◌<◌, ℕ, sym, subst}
use Rattle.std.proofs.Common.{All}
use Rattle.compact_solution.specs.Solution.{targets_of}
use Rattle.election_check.proofs.TakingLemmas.{targets_known}
use Rattle.election_check.proofs.entries.check_entry.Goals as goal

pub stamp_targets-requires-clause-in_range : goal.stamp_targets-requires-clause-in_range
stamp_targets-requires-clause-in_range c =
    subst (λ (n : ℕ). All (λ target. target < n) (targets_of c.args.entry.now)) (sym c.requires.targets)
    (targets_known c.args.snapshot.now c.args.entry.now (sym c.first_unknown.ensures ∙ c.in_default.is))
