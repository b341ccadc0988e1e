use Rattle.std.proofs.Common.{◌≡◌, IfOk, subst}
use Rattle.election_snapshot.specs.Snapshot.{Snapshot}
use Rattle.election_check.specs.Packed.{verdict_packed}
use Rattle.election_work.proofs.checking.packed_verdict.Goals as goal

pub returns : goal.returns
returns c = subst (λ (s : Snapshot). IfOk c.judge_bytes.result (λ verdict. verdict ≡ verdict_packed s c.args.claim.now c.args.bytes.now)) c.in_ok-checker.ensures c.judge_bytes.ensures.verdict
