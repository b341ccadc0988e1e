-- Each voter has stake, and none has more than all.
use Rattle.std.proofs.Common.{◌<◌, ◌≤◌, ◌∙◌, sym, ap, subst, length, get_or}
use Rattle.election_snapshot.specs.Snapshot.{nobody, total_of}
use Rattle.election_snapshot.proofs.KeptLemmas.{stake_within, stake_read}
use Rattle.election_snapshot.proofs.snapshot.Snapshot.stake.Goals as goal

pub returns-clause-above : goal.returns-clause-above
returns-clause-above c =
    let fits : c.args.i < length c.self.inside.parts.voters = subst (λ n. c.args.i < n) (sym (ap (λ s. length s.voters) c.self.view_is)) c.requires in
    subst (λ n. 0 < n) (sym (ap (λ xs. get_or xs c.args.i 0) c.stakes.ensures ∙ stake_read c.self.inside.parts.voters c.args.i))
    (c.self.invariant.voters.each_voter c.args.i nobody fits).stake_above

pub returns-clause-within : goal.returns-clause-within
returns-clause-within c = rw (← c.self.view_is)
    (subst (λ n. n ≤ total_of c.self.inside.parts.voters) (sym (ap (λ xs. get_or xs c.args.i 0) c.stakes.ensures
    ∙ stake_read c.self.inside.parts.voters c.args.i)) (stake_within c.self.inside.parts.voters c.args.i))
