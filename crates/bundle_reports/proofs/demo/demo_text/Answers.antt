use Rattle.std.proofs.Common.{◌∙◌, ap₂, ◌++◌}
use Rattle.bundle_reports.specs.Demo.{election_text}
use Rattle.bundle_reports.proofs.demo.demo_text.Goals as goal

pub returns : goal.returns
returns c = c.in_ok-tell_election.ensures ∙ ap₂ (λ start s. start ++ election_text s) c.new-text.ensures.items c.in_ok-snapshot.ensures
