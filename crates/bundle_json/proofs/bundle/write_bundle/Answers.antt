use Rattle.std.proofs.Common.{ℕ, [], ◌∷◌, decimal, subst}
use Rattle.json.specs.Token.{number}
use Rattle.bundle_json.specs.Json.{list_json, account_json, voter_json, work_json}
use Rattle.bundle_json.proofs.Appending.{IsAppended, token, value, then, both}
use Rattle.bundle_json.proofs.bundle.write_bundle.Goals as goal

pub returns : goal.returns
returns c =
    let bundle = c.args.bundle.now in
    let seats = subst (λ (n : ℕ). IsAppended (number (decimal n) ∷ []) c.key.new.self c.u64.new.self) c.from.ensures (token c.in_ok-u64.ensures) in
    both (then (token c.in_ok-begin_object.ensures)
    (then (token c.in_ok-key.ensures) (then seats
    (then (token c.in_ok-key-2.ensures)
    (then (value (list_json account_json bundle.targets) c.key-2.new.self c.write_list.new.out c.in_ok-write_list.ensures)
    (then (token c.in_ok-key-3.ensures)
    (then (value (list_json voter_json bundle.voters) c.key-3.new.self c.write_list-2.new.out c.in_ok-write_list-2.ensures)
    (then (token c.in_ok-key-4.ensures)
    (then (value (work_json bundle.work) c.key-4.new.self c.write_work.new.out c.in_ok-write_work.ensures)
    (token c.in_ok-end_object.ensures))))))))))
