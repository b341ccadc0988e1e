use Rattle.std.proofs.Common.{◌≤◌, length, arith}
use Rattle.run_edges.proofs.FeedLaws.{feeds_lost, gave_few}
use Rattle.run_edges.proofs.pieces.read_piece.Goals as goal

pub returns-in-Err-clause-feeds : goal.returns-in-Err-clause-feeds
returns-in-Err-clause-feeds g c =
    let few : length c.read.new.buffer ≤ 65536 = omega (arith, c.requires.one_piece, c.read.auto.buffer) in
    feeds_lost (g.S.Source.left c.args.source.now) (g.S.Source.left c.read.new.self) c.args.reader.now c.feed.new.self c.in-Ok.count c.read.new.buffer
    c.in-Ok.ensures.bytes c.in-Ok.ensures.bound few

pub returns-in-Ok-feed-clause-few : goal.returns-in-Ok-feed-clause-few
returns-in-Ok-feed-clause-few g c =
    gave_few (g.S.Source.left c.args.source.now) (g.S.Source.left c.read.new.self) (g.S.Source.asked c.args.source.now) (g.S.Source.asked c.read.new.self) c.in-Ok.count c.read.new.buffer
    c.in-Ok.ensures.bytes c.in-Ok.ensures.bound c.in-Ok.ensures.asked

pub returns-in-Err-clause-few : goal.returns-in-Err-clause-few
returns-in-Err-clause-few g c =
    gave_few (g.S.Source.left c.args.source.now) (g.S.Source.left c.read.new.self) (g.S.Source.asked c.args.source.now) (g.S.Source.asked c.read.new.self) c.in-Ok.count c.read.new.buffer
    c.in-Ok.ensures.bytes c.in-Ok.ensures.bound c.in-Ok.ensures.asked
