use Rattle.std.proofs.Common.{◌≡◌, ◌-◌, ◌<◌, length, get_or, List, [], rules, refl, ◌∙◌, ap}
use Rattle.std.proofs.lemmas.List.{get_or_read_under}
use Rattle.compact_solution.specs.Solution.{Entry}
use Rattle.compact_solution.proofs.solution.Solution.group.Goals as goal

pub returns : goal.returns
returns c =
    let long : length c.as_slice.result.now ≡ length c.args.self.now = ap length (c.as_slice.ensures ∙ c.self.view_is) in
    let within : c.args.j - 1 < length c.as_slice.result.now = search (rules, long) in
    c.as_slice-2.ensures
    ∙ (get_or_read_under c.as_slice.result.now (c.args.j - 1) (length c.as_slice.result.now)
    c.index-as_slice-j.result [] c.index-as_slice-j.is within refl
    ∙ ap (λ (groups : List (List Entry)). get_or groups (c.args.j - 1) []) (c.as_slice.ensures ∙ c.self.view_is))
