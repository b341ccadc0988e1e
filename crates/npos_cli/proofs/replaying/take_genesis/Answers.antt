use Rattle.std.proofs.Common.{rules, ◌≡◌, ◌++◌, List, ℕ, Bool, false, ◌+◌, ◌^◌, ◌<◌, ◌∙◌, length, sym, ap, subst, arith, length-append}
use Rattle.std.proofs.lemmas.Result.{err_from_is_err_and}
use Rattle.block_wire.specs.Genesis.{genesis_form}
use Rattle.block_wire.specs.Stream.{Waits}
use Rattle.std.proofs.lemmas.List.{append-nil}
use Rattle.scale_wire.specs.Reading.{Place, IsRead}
use Rattle.npos_cli.specs.Ahead.{CutsGenesis}
use Rattle.run_edges.specs.Ahead.{HasSeen}
use Rattle.run_edges.proofs.TurnLaws.{nearer_end}
use Rattle.npos_cli.proofs.NearLaws.{genesis_room}
use Rattle.run_edges.proofs.EdgeLaws.{seen_once, seen_more}
use Rattle.run_edges.proofs.AskLaws.{asks_last, asks_more}
use Rattle.npos_cli.proofs.CourseLaws.{begins_unread, awaits_more, open_read}
use Rattle.npos_cli.proofs.replaying.take_genesis.Goals as goal

pub returns-in_err-ended-in-Ok-None-clause-begins : goal.returns-in_err-ended-in-Ok-None-clause-begins
returns-in_err-ended-in-Ok-None-clause-begins g c =
    let p = err_from_is_err_and c.from_residual.result c.from_residual.ensures.1 in
    let waits : Waits genesis_form c.pieces.ended c.pieces.reader c.take_genesis.new.self = search rules in
    rw (p.1, p.2) (begins_unread (g.S.Source.left c.args.source.now) (g.S.Source.left c.pieces.source) (g.S.Source.left c.read_piece.new.source) c.take_genesis.new.self c.read_piece.new.reader
    c.read_piece.new.reader c.pieces.reader.rest c.pieces.ended c.in_err-ended-in-Ok-None.field-0.0 c.pieces.invariant.seen waits.1 c.in_err-ended-in-Ok-None.ensures.feeds)

pub read_piece-requires-clause-room : goal.read_piece-requires-clause-room
read_piece-requires-clause-room g c =
    let waits : Waits genesis_form c.pieces.ended c.pieces.reader c.take_genesis.new.self = search rules in
    subst (λ (p : Place). p.at + length p.rest + 65536 < 2 ^ 64) (sym waits.2) (genesis_room c.pieces.reader c.pieces.invariant.at waits.1)

pub pieces-smaller : goal.pieces-smaller
pieces-smaller g c =
    let waits : Waits genesis_form c.pieces.ended c.pieces.reader c.take_genesis.new.self = search rules in
    let same : c.take_genesis.new.self.at + length c.take_genesis.new.self.rest ≡ c.pieces.reader.at + length c.pieces.reader.rest = ap (λ (p : Place). p.at + length p.rest) waits.2 in
    let room = genesis_room c.pieces.reader c.pieces.invariant.at waits.1 in
    let feeds = c.in_ok-ended-in-Ok-None.ensures.feeds in
    let at : c.read_piece.new.reader.at ≡ c.take_genesis.new.self.at = ap (λ (p : Place). p.at) feeds.3.0 in
    let rest : length c.read_piece.new.reader.rest ≡ length c.take_genesis.new.self.rest + length feeds.0 =
    ap (λ (p : Place). length p.rest) feeds.3.0 ∙ length-append c.take_genesis.new.self.rest feeds.0 in
    nearer_end (c.pieces.reader.at + length c.pieces.reader.rest) (c.take_genesis.new.self.at + length c.take_genesis.new.self.rest) (c.read_piece.new.reader.at + length c.read_piece.new.reader.rest)
    c.pieces.ended c.in_ok-ended-in-Ok-None.ended waits.0 same (omega (arith, same, room)) (omega (arith, at, rest)) (λ e. omega (arith, at, c.in_ok-ended-in-Ok-None.ensures.further e))

pub returns-in_err-ended-in-Ok-None-clause-wary : goal.returns-in_err-ended-in-Ok-None-clause-wary
returns-in_err-ended-in-Ok-None-clause-wary g c =
    let waits : Waits genesis_form c.pieces.ended c.pieces.reader c.take_genesis.new.self = search rules in
    awaits_more (g.S.Source.left c.args.source.now) (g.S.Source.left c.pieces.source)
    (g.S.Source.left c.read_piece.new.source) c.pieces.reader.rest c.pieces.ended
    (g.S.Source.asked c.read_piece.new.source).last
    c.pieces.invariant.seen waits.1 c.in_err-ended-in-Ok-None.ensures.few c.in_err-ended-in-Ok-None.ensures.one_piece

pub returns-in_err-ended-in-Ok-None-clause-asks : goal.returns-in_err-ended-in-Ok-None-clause-asks
returns-in_err-ended-in-Ok-None-clause-asks g c =
    let waits : Waits genesis_form c.pieces.ended c.pieces.reader c.take_genesis.new.self = search rules in
    asks_last (g.S.Source.asked c.args.source.now) (g.S.Source.asked c.pieces.source)
    (g.S.Source.asked c.read_piece.new.source) (c.pieces.invariant.asks_on waits.0)
    c.in_err-ended-in-Ok-None.ensures.asks.in_time

pub returns-in-Ok-Some-clause-asks_on : goal.returns-in-Ok-Some-clause-asks_on
returns-in-Ok-Some-clause-asks_on g c =
    let read : IsRead genesis_form c.pieces.reader c.in-Ok-Some.genesis c.take_genesis.new.self = search rules in
    c.pieces.invariant.asks_on (open_read c.pieces.ended c.pieces.reader c.take_genesis.new.self c.in-Ok-Some.genesis c.pieces.invariant.cut read)

pub pieces-preserved : goal.pieces-preserved
pieces-preserved g c =
    let waits : Waits genesis_form c.pieces.ended c.pieces.reader c.take_genesis.new.self = search rules in
    let reads = c.in_ok-ended-in-Ok-None.ensures in
    let rest : c.read_piece.new.reader.rest ≡ c.pieces.reader.rest ++ reads.feeds.0 =
    ap (λ (p : Place). p.rest) reads.feeds.3.0 ∙ ap (λ (p : Place). p.rest ++ reads.feeds.0) waits.2 in
    record {
      some = omega (arith, c.pieces.invariant.some, c.read_piece.auto.piece);
      one_piece = omega (arith, c.pieces.invariant.one_piece, c.read_piece.auto.piece);
      faults = reads.faults ∙ c.pieces.invariant.faults;
      at = ap (λ (p : Place). p.at) reads.feeds.3.0 ∙ (ap (λ (p : Place). p.at) waits.2 ∙ c.pieces.invariant.at);
      seen = subst (λ (bytes : List ℕ). HasSeen (g.S.Source.left c.args.source.now) (g.S.Source.left c.read_piece.new.source) bytes false c.in_ok-ended-in-Ok-None.ended) (sym rest)
          (seen_more (g.S.Source.left c.args.source.now) (g.S.Source.left c.pieces.source)
          (g.S.Source.left c.read_piece.new.source) c.pieces.reader.rest reads.feeds.0 false c.pieces.ended
          c.in_ok-ended-in-Ok-None.ended
          c.pieces.invariant.seen
          (subst (λ (b : Bool). HasSeen (g.S.Source.left c.pieces.source) (g.S.Source.left c.read_piece.new.source) reads.feeds.0 b c.in_ok-ended-in-Ok-None.ended) (sym waits.0)
          (seen_once (g.S.Source.left c.pieces.source) (g.S.Source.left c.read_piece.new.source) reads.feeds.0 c.in_ok-ended-in-Ok-None.ended reads.feeds.1 reads.feeds.3.1)));
      awaits = (c.pieces.reader.rest, reads.feeds.0, rest, reads.feeds.2, waits.1);
      cut = λ end. subst CutsGenesis (sym (append-nil c.pieces.reader.rest) ∙ (ap (λ (back : List ℕ). c.pieces.reader.rest ++ back) (sym (reads.feeds.3.1 end).0) ∙ sym rest)) waits.1;
      wary = awaits_more (g.S.Source.left c.args.source.now) (g.S.Source.left c.pieces.source)
          (g.S.Source.left c.read_piece.new.source) c.pieces.reader.rest c.pieces.ended
          (g.S.Source.asked c.read_piece.new.source).last
          c.pieces.invariant.seen waits.1 reads.few reads.one_piece;
      asks = asks_last (g.S.Source.asked c.args.source.now) (g.S.Source.asked c.pieces.source) (g.S.Source.asked c.read_piece.new.source) (c.pieces.invariant.asks_on waits.0) reads.asks.in_time;
      asks_on = λ going. asks_more (g.S.Source.asked c.args.source.now) (g.S.Source.asked c.pieces.source)
          (g.S.Source.asked c.read_piece.new.source) (c.pieces.invariant.asks_on waits.0) (reads.asks.goes_on going);
    }
