use Rattle.std.proofs.Common.{rules, ◌≡◌, ℕ, Bool, List, true, false, refl, sym, ap, subst}
use Rattle.scale_wire.specs.Reading.{IsRead, IsFault}
use Rattle.state_checkpoint.specs.Layout.{state_form}
use Rattle.state_checkpoint.specs.LayoutLaws.{state_laws}
use Rattle.npos_runtime.specs.Life.{Life}
use Rattle.bundle_reports.specs.Texts.{fault_line}
use Rattle.run_edges.specs.Ahead.{first_place}
use Rattle.run_edges.specs.Status.{status_of}
use Rattle.run_edges.specs.Owed.{ReplayOwes}
use Rattle.npos_cli.specs.Checkpoints.{state_line, resume_machine}
use Rattle.npos_cli.specs.Going.{GoesOn}
use Rattle.run_edges.specs.Turning.{spot}
use Rattle.npos_cli.proofs.ChainLaws.{turn_laws}
use Rattle.npos_cli.proofs.GoingLaws.{refused_input, replayed_input}
use Rattle.npos_cli.proofs.ResumeLaws.{faulty_state, state_starts}
use Rattle.npos_cli.proofs.resuming.resume_answer.Goals as goal

-- the checkpoint is refused
pub returns-in-Err-Wire : goal.returns-in-Err-Wire
returns-in-Err-Wire c =
    let is : IsFault state_form (first_place c.args.bytes.now) c.in-Err-Wire.fault c.read_state.new.cursor = search rules in
    let told : c.faulty.result.text.items ≡ fault_line c.in-Err-Wire.fault.at c.in-Err-Wire.fault.why = search rules in
    refused_input resume_machine state_laws turn_laws c.args.bytes.now c.faulty.result.text.items c.read_state.new.cursor c.in-Err-Wire.fault _ is told c.faulty.ensures.status

-- the state has a fault
pub returns-in-Err : goal.returns-in-Err
returns-in-Err c =
    let is : IsRead state_form (first_place c.args.bytes.now) c.in-Ok.state c.read_state.new.cursor = search rules in
    let told : c.faulty-in-Err.result.text.items ≡ state_line c.in-Err.fault = search rules in
    faulty_state c.args.bytes.now c.faulty-in-Err.result.text.items c.read_state.new.cursor c.in-Ok.state
    c.in-Err.fault _ is c.in-Err.ensures.refused c.in_ok-tell_state_fault-in-Err.ensures.memory told
    c.faulty-in-Err.ensures.status

-- the blocks end with a fault line
pub returns-then-branch : goal.returns-then-branch
returns-then-branch c =
    let is : IsRead state_form (first_place c.args.bytes.now) c.in-Ok.state c.read_state.new.cursor = search rules in
    let start = spot c.read_state.new.cursor c.in-Ok-restore.runtime.state in
    let goes : GoesOn resume_machine start c.new-text.result.items c.take_blocks.new.text.items true =
    subst (λ (faulty : Bool). GoesOn resume_machine start c.new-text.result.items c.take_blocks.new.text.items faulty) c.if-branch.true c.in_ok-take_blocks.ensures in
    subst (λ (text : List ℕ). ReplayOwes resume_machine c.args.bytes.now text (status_of c.faulty-then-branch.result.ending)) (sym c.faulty-then-branch.ensures.text)
    (replayed_input resume_machine state_laws turn_laws c.args.bytes.now c.new-text.result.items c.take_blocks.new.text.items start true _
    (state_starts c.args.bytes.now c.read_state.new.cursor c.in-Ok.state c.in-Ok-restore.runtime.state is c.in-Ok-restore.ensures.ok.0 (ap (λ (life : Life). life.state) c.in-Ok-restore.ensures.ok.1))
    c.new-text.ensures.items goes c.faulty-then-branch.ensures.status)

-- they end with the end line
pub returns : goal.returns
returns c =
    let is : IsRead state_form (first_place c.args.bytes.now) c.in-Ok.state c.read_state.new.cursor = search rules in
    let start = spot c.read_state.new.cursor c.in-Ok-restore.runtime.state in
    let goes : GoesOn resume_machine start c.new-text.result.items c.take_blocks.new.text.items false =
    subst (λ (faulty : Bool). GoesOn resume_machine start c.new-text.result.items c.take_blocks.new.text.items faulty) c.if-branch.false c.in_ok-take_blocks.ensures in
    replayed_input resume_machine state_laws turn_laws c.args.bytes.now c.new-text.result.items c.take_blocks.new.text.items start false _
    (state_starts c.args.bytes.now c.read_state.new.cursor c.in-Ok.state c.in-Ok-restore.runtime.state is c.in-Ok-restore.ensures.ok.0 (ap (λ (life : Life). life.state) c.in-Ok-restore.ensures.ok.1))
    c.new-text.ensures.items goes refl
