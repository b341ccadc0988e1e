use Rattle.std.proofs.Common.{take, ◌∙◌}
use Rattle.npos_cli.proofs.LineLaws.{run_text}
use Rattle.npos_cli.proofs.telling.tell_front.Goals as goal

pub returns-then-count-gt1-clause-told : goal.returns-then-count-gt1-clause-told
returns-then-count-gt1-clause-told c =
    let count = c.accepted-count.result in
    c.in_ok-tell_oks.ensures.text
    ∙ run_text c.args.text.now.items (take count c.args.lines.now) c.in-CallOk.index count c.accepted-count.ensures.run
