use Rattle.std.proofs.Common.{◌∙◌}
use Rattle.bundle_json.proofs.Rereading.{settled, text_stands}
use Rattle.bundle_json.proofs.laws.reread.Goals as goal

pub returns-clause-same : goal.returns-clause-same
returns-clause-same c =
    (settled c.args.bundle.now c.bundle_from_json.result
    (text_stands c.args.bundle.now c.requires c.as_slice.result.now (c.as_slice.ensures ∙ c.in_ok-text.ensures))
    c.bundle_from_json.ensures.determined).0

pub returns-clause-fault : goal.returns-clause-fault
returns-clause-fault c =
    (settled c.args.bundle.now c.bundle_from_json.result
    (text_stands c.args.bundle.now c.requires c.as_slice.result.now (c.as_slice.ensures ∙ c.in_ok-text.ensures))
    c.bundle_from_json.ensures.determined).1
