-- The target has no fault, so its account stands nowhere, and goes behind the others.
use Rattle.std.proofs.Common.{◌≡◌, ◌∙◌, ap, ◌++◌, ◌∷◌, [], None, Bool, if◌then◌else◌}
use Rattle.election_snapshot.specs.Draft.{target_fault}
use Rattle.election_snapshot.specs.Kept.{voters_of}
use Rattle.election_snapshot.proofs.KeptLemmas.{kept_draft, target_new}
use Rattle.election_snapshot.proofs.parts.SnapshotParts.put_target.Goals as goal

pub returns-clause-ok : goal.returns-clause-ok
returns-clause-ok c =
    let keys = c.self.inside.targets.keys in
    let draft = kept_draft keys c.self.inside.voters.accounts.items c.self.inside.voters.stakes.items c.self.inside.voters.ballots.items in
    let free : target_fault draft c.args.who ≡ None = rw (← c.self.view_is) at c.requires in
    let grown : c.insert.new.self.keys ≡ keys ++ c.args.who ∷ [] = c.in_ok-insert.ensures.keys ∙ ap (λ (b : Bool). if b then keys else keys ++ c.args.who ∷ []) (target_new draft c.args.who free) in
    rw (← c.self.view_is)
    (ap (λ targets. record { targets = targets; voters = voters_of c.self.inside.voters.accounts.items c.self.inside.voters.stakes.items c.self.inside.voters.ballots.items }) grown)
