use Rattle.std.proofs.Common.{rules, ◌≡◌, ◌++◌, OnOk, ◌∙◌}
use Rattle.stake_ledger.specs.Ledger.{totals_of}
use Rattle.npos_cli.specs.Chain.{end_line}
use Rattle.npos_cli.specs.Pools.{figures_line, pool_line}
use Rattle.npos_cli.proofs.PoolLaws.{then_told}
use Rattle.npos_cli.proofs.pool_lines.tell_pool.Goals as goal

pub returns : goal.returns
returns c =
    let first : c.tell_figures.new.text.items ≡ c.args.text.now.items ++ pool_line c.args.pool.now.state =
    c.in_ok-tell_figures.ensures ∙ (λ i. c.args.text.now.items ++ figures_line (c.points.ensures i) (c.active.ensures i) (c.pot.ensures i) (c.credits.ensures i)) in
    let told : OnOk c.tell_end.result (c.tell_end.new.text.items ≡ c.tell_figures.new.text.items ++ end_line (totals_of c.args.pool.now.state.book)) = search rules in
    then_told c.tell_end.result c.args.text.now.items c.tell_figures.new.text.items c.tell_end.new.text.items (pool_line c.args.pool.now.state)
    (end_line (totals_of c.args.pool.now.state.book)) first told
