use Rattle.bundle_json.specs.Json.{list_json, whole_json, edge_json}
use Rattle.bundle_json.proofs.Appending.{token, value, then, both}
use Rattle.bundle_json.proofs.work.write_plain.Goals as goal

pub returns : goal.returns
returns c =
    both (then (token c.in_ok-begin_object.ensures) (then (token c.in_ok-key.ensures)
    (then (value (list_json whole_json c.args.committee.now) c.key.new.self c.write_list.new.out c.in_ok-write_list.ensures)
    (then (token c.in_ok-key-2.ensures)
    (then (value (list_json edge_json c.args.edges.now) c.key-2.new.self c.write_list-2.new.out c.in_ok-write_list-2.ensures)
    (token c.in_ok-end_object.ensures))))))
