use Rattle.std.proofs.Common.{◌≡◌, ◌++◌, [], ◌∷◌, List, map, append-nil, ap, ap₂, sym, ◌∙◌}
use Rattle.std.proofs.lemmas.List.{map-append}
use Rattle.npos_base.specs.declared.account.AccountId.{AccountId}
use Rattle.voter_lists.specs.Bags.{walk}
use Rattle.stake_ledger.proofs.BookRowLemmas.{rest_behind}
use Rattle.state_rules.specs.declared.state.RoleRow.{RoleRow}
use Rattle.npos_runtime.proofs.Kept.SavedLemmas.{row_in, rows_walked, walked_listed}
use Rattle.npos_runtime.proofs.saved_roles.role_rows.Goals as goal

pub role_row-requires : goal.role_row-requires
role_row-requires c =
    walked_listed c.args.bags.now.order c.loop-who.yielded c.loop-who.who-iterator c.next.new.self c.in-Some.who c.loop-who.invariant.all c.in-Some.ensures.steps

pub loop-who-preserved : goal.loop-who-preserved
loop-who-preserved c =
    let order = c.args.bags.now.order in
    let row = row_in c.args.roles.now order in record {
      all = rest_behind (walk order) c.loop-who.yielded c.next.new.self c.loop-who.who-iterator c.in-Some.who c.loop-who.invariant.all c.in-Some.ensures.steps;
      made =
          c.in_ok-put.ensures.ok
          ∙ (ap₂ (λ (rows : List RoleRow) (next : RoleRow). rows ++ next ∷ []) c.loop-who.invariant.made c.in_ok-row.ensures
          ∙ sym (map-append row c.loop-who.yielded (c.in-Some.who ∷ [])));
    }

pub returns : goal.returns
returns c =
    let order = c.args.bags.now.order in
    let all : c.loop-who.yielded ≡ walk order =
    sym (append-nil c.loop-who.yielded)
    ∙ (ap (λ (left : List AccountId). c.loop-who.yielded ++ left) (sym c.in-None.ensures.steps.0) ∙ c.loop-who.invariant.all) in
    c.loop-who.invariant.made ∙ (ap (map (row_in c.args.roles.now order)) all ∙ rows_walked c.args.roles.now order c.walk-who-items.ensures.once)
