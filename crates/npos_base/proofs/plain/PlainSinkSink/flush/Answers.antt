-- All that is kept is flushed, and it is told as before.
use Rattle.std.proofs.Common.{◌≡◌, length, rules}
use Rattle.npos_base.proofs.Appended.{kept_flush}
use Rattle.npos_base.proofs.plain.PlainSinkSink.flush.Goals as goal

pub returns-clause-bytes : goal.returns-clause-bytes
returns-clause-bytes c =
    let all : c.len-self-inside.result ≡ length c.self.inside.kept.items = search rules in
    rw (← c.self.view_is) (kept_flush record {
      kept = c.self.inside.kept.items;
      room = c.self.inside.room;
      past =
          c.self.inside.past;
      flushed = c.self.inside.flushed;
      tried = c.self.inside.tried;
    } _ all)
