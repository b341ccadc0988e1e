-- One target settles the answer.
use Rattle.std.proofs.Common.{◌≡◌, ◌<◌, true, length, get_or, sym, arith}
use Rattle.std.proofs.lemmas.Grind.{common_steps}
use Rattle.std.proofs.lemmas.List.Folds.{list_any_at}
use Rattle.voter_lists.specs.Roles.{is_no_target}
use Rattle.voter_lists.proofs.roles.misses.Goals as goal
use Rattle.voter_lists.proofs.roles.misses.Goals.{then-not-is_validator_at-via-then-not-is_validator_at, then-not-is_validator_at-via-else-not-is_validator_at+then-eq}

pub returns-then-not-is_validator_at : goal.returns-then-not-is_validator_at
returns-then-not-is_validator_at c =
    let below : c.loop-i.i < length c.args.targets.now = omega arith in
    let misses : is_no_target c.args.standings.now.roles c.args.who (get_or c.args.targets.now c.loop-i.i (record { hi = 0; lo = 0 })) ≡ true =
    elim c.then-not-is_validator_at.branch [
      | then-not-is_validator_at-via-then-not-is_validator_at w ↦ grind (arith, common_steps, c.is_validator_at.ensures, w.if-not-is_validator_at)
      | then-not-is_validator_at-via-else-not-is_validator_at+then-eq w ↦ grind (arith, common_steps, c.is_validator_at.ensures, w.if-not-is_validator_at, w.if-eq, w.eq.ensures)
    ] in
    sym (list_any_at (λ target. is_no_target c.args.standings.now.roles c.args.who target) c.args.targets.now c.loop-i.i (record { hi = 0; lo = 0 }) below misses)
