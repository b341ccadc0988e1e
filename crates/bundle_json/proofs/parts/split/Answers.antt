use Rattle.std.proofs.Common.{option_map, ap, ◌∙◌}
use Rattle.serde_json.specs.View.{view, members_view}
use Rattle.serde_json.specs.Find.{get_member}
use Rattle.serde_json.proofs.Views.{view-Object, view-lookup}
use Rattle.bundle_json.proofs.Members.{others_stay}
use Rattle.bundle_json.proofs.parts.split.Goals as goal

pub returns-in-Object-clause-found : goal.returns-in-Object-clause-found
returns-in-Object-clause-found c =
    let members = c.in-Object.members in
    let found = ap (option_map view) c.remove-found.ensures.value in
    rw (c.in-Object.is, view-Object members) (found ∙ view-lookup c.args.key.now members.entries)

pub returns-in-Object-clause-others : goal.returns-in-Object-clause-others
returns-in-Object-clause-others c other differ =
    let members = c.in-Object.members in
    let after = c.remove-found.new.self in
    rw (c.in-Object.is, view-Object members, view-Object after)
    (ap (λ entries. get_member other (members_view entries)) c.remove-found.ensures.entries
    ∙ others_stay c.args.key.now other differ members.entries)
