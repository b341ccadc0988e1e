use Rattle.std.proofs.Common.{◌≤◌, ◌∙◌, ap, length, arith}
use Rattle.std.proofs.lemmas.List.{take_all}
use Rattle.election_snapshot.specs.Snapshot.{has}
use Rattle.npos_base.specs.declared.limits.TheConstants.{MOST_NOMINATIONS}
use Rattle.election_check.proofs.entries.is_vote.Goals as goal

pub returns-then-votes-eq-MOST_NOMINATIONS : goal.returns-then-votes-eq-MOST_NOMINATIONS
returns-then-votes-eq-MOST_NOMINATIONS c =
    let short : length c.args.votes.now ≤ MOST_NOMINATIONS = omega arith in
    c.is_among.ensures ∙ ap (λ votes. has votes c.args.target) (take_all MOST_NOMINATIONS c.args.votes.now short)
