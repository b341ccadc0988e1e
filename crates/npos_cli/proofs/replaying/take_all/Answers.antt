use Rattle.std.proofs.Common.{rules, ◌≡◌, ◌+◌, length, refl, ap, ◌∙◌, Ok, arith, length-append}
use Rattle.std.proofs.lemmas.Result.{err_from_is_err_and}
use Rattle.scale_wire.specs.Reading.{Place}
use Rattle.run_edges.specs.declared.turn.Stop.TheVariants.{More, Last}
use Rattle.npos_cli.specs.Outputs.{machine_of}
use Rattle.run_edges.specs.Turning.{spot, WritesOn}
use Rattle.run_edges.proofs.TurnLaws.{ends_alike, nearer_end}
use Rattle.npos_cli.proofs.NearLaws.{reaches_near, cut_room}
use Rattle.npos_cli.proofs.SavableLaws.{savable_reaches}
use Rattle.run_edges.proofs.AskLaws.{asks_last, asks_more, tries_more}
use Rattle.npos_cli.proofs.CourseLaws.{course_on, course_last, course_cut, course_unread, wary_on}
use Rattle.npos_cli.proofs.ChainLaws.{genesis_laws, turn_laws}
use Rattle.npos_cli.proofs.replaying.take_all.Goals as goal

pub returns-in_err-faulty-clause-runs : goal.returns-in_err-faulty-clause-runs
returns-in_err-faulty-clause-runs g c =
    let p = err_from_is_err_and c.from_residual.result c.from_residual.ensures.1 in
    rw (p.1, p.2) (λ left old course. course_cut c.args.output left (g.S.Source.left c.pieces.source) old (g.K.Sink.told c.pieces.sink) c.pieces.ended (spot c.pieces.reader c.pieces.runtime.state)
    (spot c.take_turns.new.reader c.take_turns.new.runtime.state) (g.K.Sink.told c.take_turns.new.sink) c.take_turns.new.text.items (c.pieces.invariant.course left old course)
    c.in_err-faulty.field-0.0 c.in_err-faulty.ensures.writes)

pub returns-in-Last-clause-runs : goal.returns-in-Last-clause-runs
returns-in-Last-clause-runs g c =
    let writes : WritesOn (machine_of c.args.output) c.pieces.ended (spot c.pieces.reader c.pieces.runtime.state)
    (spot c.take_turns.new.reader c.take_turns.new.runtime.state) (g.K.Sink.told c.pieces.sink)
    (g.K.Sink.told c.take_turns.new.sink)
    c.take_turns.new.text.items (Ok (Last c.in-Last.faulty)) = search rules in
    λ left old course. course_last c.args.output left (g.S.Source.left c.pieces.source) old (g.K.Sink.told c.pieces.sink) c.pieces.ended (spot c.pieces.reader c.pieces.runtime.state)
    (spot c.take_turns.new.reader c.take_turns.new.runtime.state) (g.K.Sink.told c.take_turns.new.sink) c.take_turns.new.text.items (c.pieces.invariant.course left old course) c.in-Last.faulty writes

pub returns-in_err-ended-in-More-clause-runs : goal.returns-in_err-ended-in-More-clause-runs
returns-in_err-ended-in-More-clause-runs g c =
    let p = err_from_is_err_and c.from_residual-in_err-ended-in-More.result c.from_residual-in_err-ended-in-More.ensures.1 in
    let writes : WritesOn (machine_of c.args.output) c.pieces.ended (spot c.pieces.reader c.pieces.runtime.state)
    (spot c.take_turns.new.reader c.take_turns.new.runtime.state) (g.K.Sink.told c.pieces.sink)
    (g.K.Sink.told c.take_turns.new.sink)
    c.take_turns.new.text.items (Ok More) = search rules in
    rw (p.1, p.2) (λ left old course. course_unread c.args.output left (g.S.Source.left c.pieces.source) old (g.K.Sink.told c.pieces.sink) c.pieces.ended (spot c.pieces.reader c.pieces.runtime.state)
    (spot c.take_turns.new.reader c.take_turns.new.runtime.state) (g.K.Sink.told c.take_turns.new.sink) c.take_turns.new.text.items (c.pieces.invariant.course left old course)
    (g.S.Source.left c.read_piece.new.source) c.take_turns.new.reader c.read_piece.new.reader c.in_err-ended-in-More.field-0.0 writes c.in_err-ended-in-More.ensures.feeds)

pub returns-in_err-ended-in-More-clause-wary : goal.returns-in_err-ended-in-More-clause-wary
returns-in_err-ended-in-More-clause-wary g c =
    let writes : WritesOn (machine_of c.args.output) c.pieces.ended (spot c.pieces.reader c.pieces.runtime.state)
    (spot c.take_turns.new.reader c.take_turns.new.runtime.state) (g.K.Sink.told c.pieces.sink)
    (g.K.Sink.told c.take_turns.new.sink)
    c.take_turns.new.text.items (Ok More) = search rules in
    λ left old course few. wary_on c.args.output left (g.S.Source.left c.pieces.source) old (g.K.Sink.told c.pieces.sink) c.pieces.ended (spot c.pieces.reader c.pieces.runtime.state)
    (spot c.take_turns.new.reader c.take_turns.new.runtime.state) (g.K.Sink.told c.take_turns.new.sink) c.take_turns.new.text.items (c.pieces.invariant.course left old course)
    (g.S.Source.left c.read_piece.new.source) (g.S.Source.asked c.read_piece.new.source).last writes c.in_err-ended-in-More.ensures.few c.in_err-ended-in-More.ensures.one_piece

pub returns-in_err-ended-in-More-clause-asks : goal.returns-in_err-ended-in-More-clause-asks
returns-in_err-ended-in-More-clause-asks g c =
    let writes : WritesOn (machine_of c.args.output) c.pieces.ended (spot c.pieces.reader c.pieces.runtime.state)
    (spot c.take_turns.new.reader c.take_turns.new.runtime.state) (g.K.Sink.told c.pieces.sink)
    (g.K.Sink.told c.take_turns.new.sink)
    c.take_turns.new.text.items (Ok More) = search rules in
    asks_last (g.S.Source.asked c.args.source.now) (g.S.Source.asked c.pieces.source)
    (g.S.Source.asked c.read_piece.new.source) (c.pieces.invariant.asks_on writes.0)
    c.in_err-ended-in-More.ensures.asks.in_time

pub read_piece-requires-clause-room : goal.read_piece-requires-clause-room
read_piece-requires-clause-room g c =
    let writes : WritesOn (machine_of c.args.output) c.pieces.ended (spot c.pieces.reader c.pieces.runtime.state)
    (spot c.take_turns.new.reader c.take_turns.new.runtime.state) (g.K.Sink.told c.pieces.sink)
    (g.K.Sink.told c.take_turns.new.sink)
    c.take_turns.new.text.items (Ok More) = search rules in
    let q = spot c.take_turns.new.reader c.take_turns.new.runtime.state in
    cut_room c.args.output q writes.1 (reaches_near c.args.output (spot c.pieces.reader c.pieces.runtime.state) q writes.2.0 writes.2.1 c.pieces.invariant.near)

pub pieces-smaller : goal.pieces-smaller
pieces-smaller g c =
    let writes : WritesOn (machine_of c.args.output) c.pieces.ended (spot c.pieces.reader c.pieces.runtime.state)
    (spot c.take_turns.new.reader c.take_turns.new.runtime.state) (g.K.Sink.told c.pieces.sink)
    (g.K.Sink.told c.take_turns.new.sink)
    c.take_turns.new.text.items (Ok More) = search rules in
    let feeds = c.in_ok-ended-in-More.ensures.feeds in
    let q = spot c.take_turns.new.reader c.take_turns.new.runtime.state in
    let room = cut_room c.args.output q writes.1 (reaches_near c.args.output (spot c.pieces.reader c.pieces.runtime.state) q writes.2.0 writes.2.1 c.pieces.invariant.near) in
    let at : c.read_piece.new.reader.at ≡ c.take_turns.new.reader.at = ap (λ (p : Place). p.at) feeds.3.0 in
    let rest : length c.read_piece.new.reader.rest ≡ length c.take_turns.new.reader.rest + length feeds.0 =
    ap (λ (p : Place). length p.rest) feeds.3.0 ∙ length-append c.take_turns.new.reader.rest feeds.0 in
    nearer_end (c.pieces.reader.at + length c.pieces.reader.rest) (c.take_turns.new.reader.at + length c.take_turns.new.reader.rest) (c.read_piece.new.reader.at + length c.read_piece.new.reader.rest)
    c.pieces.ended c.in_ok-ended-in-More.ended writes.0
    (ends_alike (machine_of c.args.output) genesis_laws turn_laws (spot c.pieces.reader c.pieces.runtime.state) (spot c.take_turns.new.reader c.take_turns.new.runtime.state) writes.2.0 writes.2.1)
    (omega (arith, room)) (omega (arith, at, rest)) (λ e. omega (arith, at, c.in_ok-ended-in-More.ensures.further e))

pub pieces-preserved : goal.pieces-preserved
pieces-preserved g c =
    let writes : WritesOn (machine_of c.args.output) c.pieces.ended (spot c.pieces.reader c.pieces.runtime.state)
    (spot c.take_turns.new.reader c.take_turns.new.runtime.state) (g.K.Sink.told c.pieces.sink)
    (g.K.Sink.told c.take_turns.new.sink)
    c.take_turns.new.text.items (Ok More) = search rules in
    record {
      unspent = search rules;
      savable = savable_reaches c.args.output c.chains_can_be_saved.ensures.step (spot c.pieces.reader c.pieces.runtime.state) (spot c.take_turns.new.reader c.take_turns.new.runtime.state)
          writes.2.0 writes.2.1 c.pieces.invariant.savable;
      some = omega (arith, c.pieces.invariant.some, c.read_piece.auto.piece);
      one_piece = omega (arith, c.pieces.invariant.one_piece, c.read_piece.auto.piece);
      near =
          let near = reaches_near c.args.output (spot c.pieces.reader c.pieces.runtime.state)
          (spot c.take_turns.new.reader c.take_turns.new.runtime.state) writes.2.0 writes.2.1
          c.pieces.invariant.near in
          (near.0, omega (arith, near.1, ap (λ (p : Place). p.at) c.in_ok-ended-in-More.ensures.feeds.3.0));
      reads = c.in_ok-ended-in-More.ensures.faults ∙ c.pieces.invariant.reads;
      writes = c.in_ok-faulty.ensures.faults ∙ c.pieces.invariant.writes;
      asks = asks_last (g.S.Source.asked c.args.source.now) (g.S.Source.asked c.pieces.source) (g.S.Source.asked c.read_piece.new.source) (c.pieces.invariant.asks_on writes.0)
          c.in_ok-ended-in-More.ensures.asks.in_time;
      asks_on = λ going. asks_more (g.S.Source.asked c.args.source.now) (g.S.Source.asked c.pieces.source) (g.S.Source.asked c.read_piece.new.source) (c.pieces.invariant.asks_on writes.0)
          (c.in_ok-ended-in-More.ensures.asks.goes_on going);
      tries = tries_more (g.K.Sink.tried c.args.sink.now) (g.K.Sink.tried c.pieces.sink) (g.K.Sink.tried c.take_turns.new.sink) _ c.pieces.invariant.tries c.in_ok-faulty.ensures.stops;
      wary = (λ left old course few. wary_on c.args.output left (g.S.Source.left c.pieces.source) old (g.K.Sink.told c.pieces.sink) c.pieces.ended (spot c.pieces.reader c.pieces.runtime.state)
          (spot c.take_turns.new.reader c.take_turns.new.runtime.state) (g.K.Sink.told c.take_turns.new.sink) c.take_turns.new.text.items (c.pieces.invariant.course left old course)
          (g.S.Source.left c.read_piece.new.source) (g.S.Source.asked c.read_piece.new.source).last writes c.in_ok-ended-in-More.ensures.few c.in_ok-ended-in-More.ensures.one_piece);
      quiet = λ silent. c.in_ok-faulty.ensures.quiet silent ∙ c.pieces.invariant.quiet silent;
      course = λ left old course. course_on c.args.output left (g.S.Source.left c.pieces.source) old (g.K.Sink.told c.pieces.sink) c.pieces.ended (spot c.pieces.reader c.pieces.runtime.state)
          (spot c.take_turns.new.reader c.take_turns.new.runtime.state) (g.K.Sink.told c.take_turns.new.sink) c.take_turns.new.text.items (c.pieces.invariant.course left old course)
          (g.S.Source.left c.read_piece.new.source) c.take_turns.new.reader c.read_piece.new.reader
          c.take_turns.new.runtime.state c.in_ok-ended-in-More.ended refl writes
          c.in_ok-ended-in-More.ensures.feeds;
    }
