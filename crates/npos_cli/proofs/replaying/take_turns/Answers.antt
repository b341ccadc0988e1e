use Rattle.std.proofs.Common.{rules, ◌≡◌, ◌∙◌, refl, sym, ap, ap₂, subst, List, ℕ, length, take, drop, Ok, Err, arith}
use Rattle.std.proofs.Math.Seq.{take-append_seam}
use Rattle.std.proofs.lemmas.Result.{err_from_is_err_and}
use Rattle.npos_base.specs.Outside.{Appends}
use Rattle.run_edges.specs.declared.turn.Turn.TheVariants.{Taken, Stopped}
use Rattle.npos_cli.specs.Outputs.{machine_of}
use Rattle.run_edges.specs.Owed.{Puts}
use Rattle.run_edges.specs.Turning.{spot, TakesTurn, WritesOn}
use Rattle.npos_cli.proofs.SavableLaws.{savable_turn, silent_turn}
use Rattle.run_edges.proofs.AskLaws.{tries_more}
use Rattle.npos_cli.proofs.WritLaws.{held_none, held_more, held_put, held_cut, held_stop}
use Rattle.npos_cli.proofs.replaying.take_turns.Goals as goal

pub turns-init : goal.turns-init
turns-init g c = record {
  unspent = c.requires.unspent;
  savable = c.requires.savable;
  faults = refl;
  tries = (λ _. refl, refl);
  quiet = λ _. (refl, c.clear.ensures.items);
  held = held_none c.args.output (spot c.args.reader.now c.args.runtime.now.state) (g.K.Sink.told c.args.sink.now) c.clear.new.self.items c.clear.ensures.items;
}

pub turns-preserved : goal.turns-preserved
turns-preserved g c =
    let start = spot c.args.reader.now c.args.runtime.now.state in
    let here = spot c.turns.reader c.turns.runtime.state in
    let next = spot c.take_turn.new.reader c.take_turn.new.runtime.state in
    let taken : TakesTurn (machine_of c.args.output) c.args.ended here next c.turns.text.items c.take_turn.new.text.items Taken = search rules in
    record {
      unspent = search rules;
      savable = savable_turn c.args.output c.chains_can_be_saved.ensures.step c.args.ended here next c.turns.text.items c.take_turn.new.text.items taken c.turns.invariant.savable;
      faults = c.turns.invariant.faults;
      tries = c.turns.invariant.tries;
      quiet = λ silent.
          let (still, empty) = c.turns.invariant.quiet silent in
          (still, silent_turn c.args.output c.args.ended here next c.turns.text.items c.take_turn.new.text.items empty taken silent);
      held = held_more c.args.output start here next c.args.ended (g.K.Sink.told c.args.sink.now)
          (g.K.Sink.told c.turns.sink) c.turns.text.items c.take_turn.new.text.items c.turns.invariant.held taken;
    }

pub turns-preserved-then-len-ge-PIECE : goal.turns-preserved-then-len-ge-PIECE
turns-preserved-then-len-ge-PIECE g c =
    let start = spot c.args.reader.now c.args.runtime.now.state in
    let here = spot c.turns.reader c.turns.runtime.state in
    let next = spot c.take_turn.new.reader c.take_turn.new.runtime.state in
    let text = c.take_turn.new.text.items in
    let taken : TakesTurn (machine_of c.args.output) c.args.ended here next c.turns.text.items text Taken = search rules in
    let puts = subst (λ (t : List ℕ). Appends (g.K.Sink.told c.turns.sink) (g.K.Sink.told c.put.new.sink) t) c.as_slice.ensures.value c.in_ok-put-in-Taken.ensures.puts in
    record {
      unspent = search rules;
      savable = savable_turn c.args.output c.chains_can_be_saved.ensures.step c.args.ended here next c.turns.text.items text taken c.turns.invariant.savable;
      faults = c.in_ok-put-in-Taken.ensures.faults ∙ c.turns.invariant.faults;
      tries = tries_more (g.K.Sink.tried c.args.sink.now) (g.K.Sink.tried c.turns.sink) (g.K.Sink.tried c.put.new.sink) tt c.turns.invariant.tries c.in_ok-put-in-Taken.ensures.stops;
      quiet = λ silent.
          let none : length text ≡ 0 = ap length (silent_turn c.args.output c.args.ended here next c.turns.text.items text (c.turns.invariant.quiet silent).1 taken silent) in
          absurd (omega (arith, none, c.len.ensures, c.if-len-ge-PIECE.true));
      held = held_put c.args.output start next (g.K.Sink.told c.args.sink.now) (g.K.Sink.told c.turns.sink) (g.K.Sink.told c.put.new.sink) text c.clear-then-len-ge-PIECE.new.self.items
          (held_more c.args.output start here next c.args.ended (g.K.Sink.told c.args.sink.now) (g.K.Sink.told c.turns.sink) c.turns.text.items text c.turns.invariant.held taken)
          puts c.clear-then-len-ge-PIECE.ensures.items;
    }

pub returns-in_err-put-in-Taken-clause-writes : goal.returns-in_err-put-in-Taken-clause-writes
returns-in_err-put-in-Taken-clause-writes g c =
    let start = spot c.args.reader.now c.args.runtime.now.state in
    let here = spot c.turns.reader c.turns.runtime.state in
    let next = spot c.take_turn.new.reader c.take_turn.new.runtime.state in
    let text = c.take_turn.new.text.items in
    let p = err_from_is_err_and c.from_residual-in_err-put-in-Taken.result c.from_residual-in_err-put-in-Taken.ensures.1 in
    let taken : TakesTurn (machine_of c.args.output) c.args.ended here next c.turns.text.items text Taken = search rules in
    let puts = subst (λ (t : List ℕ). Puts (g.K.Sink.told c.turns.sink) (g.K.Sink.told c.put.new.sink) t
    (Err c.in_err-put-in-Taken.field-0.0)) c.as_slice.ensures.value c.in_err-put-in-Taken.ensures.puts in
    rw (p.1, p.2) (held_cut c.args.output start next next c.args.ended (g.K.Sink.told c.args.sink.now)
    (g.K.Sink.told c.turns.sink) (g.K.Sink.told c.put.new.sink) text text c.in_err-put-in-Taken.field-0.0
    (held_more c.args.output start here next c.args.ended (g.K.Sink.told c.args.sink.now) (g.K.Sink.told c.turns.sink) c.turns.text.items text c.turns.invariant.held taken)
    puts)

pub returns-in_err-put_some-in-Stopped-clause-writes : goal.returns-in_err-put_some-in-Stopped-clause-writes
returns-in_err-put_some-in-Stopped-clause-writes g c =
    let start = spot c.args.reader.now c.args.runtime.now.state in
    let here = spot c.turns.reader c.turns.runtime.state in
    let next = spot c.take_turn.new.reader c.take_turn.new.runtime.state in
    let before = c.turns.text.items in
    let text = c.take_turn.new.text.items in
    let p = err_from_is_err_and c.from_residual-in_err-put_some-in-Stopped.result c.from_residual-in_err-put_some-in-Stopped.ensures.1 in
    let stops : TakesTurn (machine_of c.args.output) c.args.ended here next before text (Stopped c.in-Stopped.stop) = search rules in
    let count : c.len-told.result ≡ length before = search rules in
    let front : take c.len-told.result c.as_slice-in-Stopped.result.now ≡ before = ap₂ take count (c.as_slice-in-Stopped.ensures.value ∙ stops.1) ∙ take-append_seam before stops.0 in
    let puts = subst (λ (t : List ℕ). Puts (g.K.Sink.told c.turns.sink) (g.K.Sink.told c.put_some.new.sink) t
    (Err c.in_err-put_some-in-Stopped.field-0.0)) front c.in_err-put_some-in-Stopped.ensures.puts in
    rw (p.1, p.2) (held_cut c.args.output start here next c.args.ended (g.K.Sink.told c.args.sink.now) (g.K.Sink.told c.turns.sink) (g.K.Sink.told c.put_some.new.sink) before text
    c.in_err-put_some-in-Stopped.field-0.0 c.turns.invariant.held puts)

pub returns-in-Stopped-clause-writes : goal.returns-in-Stopped-clause-writes
returns-in-Stopped-clause-writes g c =
    let start = spot c.args.reader.now c.args.runtime.now.state in
    let here = spot c.turns.reader c.turns.runtime.state in
    let next = spot c.take_turn.new.reader c.take_turn.new.runtime.state in
    let before = c.turns.text.items in
    let text = c.take_turn.new.text.items in
    let stops : TakesTurn (machine_of c.args.output) c.args.ended here next before text (Stopped c.in-Stopped.stop) = search rules in
    let count : c.len-told.result ≡ length before = search rules in
    let puts = subst (λ (t : List ℕ). Appends (g.K.Sink.told c.turns.sink) (g.K.Sink.told c.put_some.new.sink) t)
    (ap₂ take count c.as_slice-in-Stopped.ensures.value) c.in_ok-put_some-in-Stopped.ensures.puts in
    subst (λ (t : List ℕ). WritesOn (machine_of c.args.output) c.args.ended start next (g.K.Sink.told c.args.sink.now) (g.K.Sink.told c.put_some.new.sink) t (Ok c.in-Stopped.stop))
    (sym (c.remove_front.ensures ∙ ap (λ n. drop n text) count))
    (held_stop c.args.output start here next c.args.ended (g.K.Sink.told c.args.sink.now) (g.K.Sink.told c.turns.sink)
    (g.K.Sink.told c.put_some.new.sink) before text c.in-Stopped.stop c.turns.invariant.held stops puts)
