use Rattle.std.proofs.Common.{◌≡◌, refl, ap, sym, subst, ◌∙◌, ◌++◌, Ok, Result, IfOk, OnOk, IsOk, codes}
use Rattle.election_snapshot.specs.Snapshot.{Snapshot}
use Rattle.quota_fill.specs.Filled.{filled}
use Rattle.seq_phragmen.specs.Mined.{mined}
use Rattle.election_check.specs.Laws.{packed_of}
use Rattle.election_work.specs.declared.finding.Finding.{Finding}
use Rattle.election_work.specs.Mining.{Outcome, plain_mined, packed_mined, due_of}
use Rattle.bundle_reports.specs.Demo.{size_line, mined_line}
use Rattle.bundle_reports.proofs.DemoLaws.{fill_comes_to, seq_comes_to, lines_told}
use Rattle.bundle_reports.proofs.demo.tell_election.Goals as goal

pub back_from-back-requires : goal.back_from-back-requires
back_from-back-requires c =
    subst (λ (due : Result Outcome Finding). IsOk due) (sym (fill_comes_to c.args.snapshot (due_of c.in_ok-filled.filled) c.in_ok-filled.ensures.mined)) refl

pub returns : goal.returns
returns c =
    let first : due_of c.in_ok-filled.filled ≡ Ok (plain_mined c.args.snapshot (filled c.args.snapshot)) =
    fill_comes_to c.args.snapshot (due_of c.in_ok-filled.filled) c.in_ok-filled.ensures.mined in
    let same : c.back_from-back.result ≡ c.args.snapshot =
    subst (λ (due : Result Outcome Finding). IfOk due (λ outcome. c.back_from-back.result ≡ outcome.snapshot)) first c.back_from-back.ensures in
    let second : due_of c.in_ok-packed.packed ≡ packed_mined c.args.snapshot (packed_of c.args.snapshot (mined c.args.snapshot)) =
    seq_comes_to c.back_from-back.result (due_of c.in_ok-packed.packed) c.in_ok-packed.ensures.mined ∙ ap (λ (s : Snapshot). packed_mined s (packed_of s (mined s))) same in
    lines_told c.tell_mining-2.result c.tell_mining-2.new.text.items c.tell_size.new.text.items c.tell_mining.new.text.items c.args.text.now.items (size_line c.args.snapshot)
    (mined_line (codes "fill") (Ok (plain_mined c.args.snapshot (filled c.args.snapshot))))
    (mined_line (codes "seq") (packed_mined c.args.snapshot (packed_of c.args.snapshot (mined c.args.snapshot))))
    c.in_ok-tell_size.ensures (c.in_ok-tell_mining.ensures ∙ ap (λ (due : Result Outcome Finding). c.tell_size.new.text.items ++ mined_line (codes "fill") due) first)
    (subst (λ (due : Result Outcome Finding). OnOk c.tell_mining-2.result (c.tell_mining-2.new.text.items
    ≡ c.tell_mining.new.text.items ++ mined_line (codes "seq") due)) second c.tell_mining-2.ensures)
