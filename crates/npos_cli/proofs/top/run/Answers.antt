use Rattle.std.proofs.Common.{◌≡◌, map, string_bytes}
use Rattle.npos_base.specs.Outside.{Rose}
use Rattle.run_edges.specs.Status.{end_of}
use Rattle.npos_cli.specs.Words.{job_of}
use Rattle.npos_cli.specs.Ran.{traffic}
use Rattle.npos_cli.proofs.EndLaws.{answered, read_failed, read_fails, write_failed, write_fails, no_read_fault, no_write_fault, flushed_last}
use Rattle.npos_cli.proofs.EndLaws.{not_flushed, halted_reading, halted_writing, starved, drained, accepted, passes, nothing_written, never_starves}
use Rattle.npos_cli.proofs.StreamLaws.{stream_done, checkpoint_done, resume_done, pool_done}
use Rattle.npos_cli.proofs.PromiseLaws.{uncut}
use Rattle.npos_cli.proofs.ClaimLaws.{promised, checkpointed, resumed_on, pooled}
use Rattle.npos_cli.proofs.top.run.Goals as goal

-- each field, by what the run came to
pub returns : goal.returns
returns g c =
    let job = job_of (map string_bytes c.args.words.now) in
    let t = traffic g.S.Source.left g.K.Sink.told g.S.Source.faults g.K.Sink.faults c.args.source.now
    c.run_words.new.source c.args.sink.now c.run_words.new.sink in
    let end = c.run_words.result in
    let ran = c.run_words.ensures.ran in
    rw c.end_of.ensures (record {
      answers = answered job t end ran;
      front = ran.front;
      read_fault = read_failed job t end ran;
      read_fault_comes = read_fails job t end ran;
      write_fault = write_failed job t end ran;
      write_fault_comes = write_fails job t end ran;
      no_read_fault = no_read_fault job t end ran;
      no_write_fault = no_write_fault job t end ran;
      asks_in_time = c.run_words.ensures.asks;
      tries_in_time = c.run_words.ensures.settles.in_time;
      flushed_last = flushed_last job t (g.K.Sink.tried c.args.sink.now) (g.K.Sink.tried c.run_words.new.sink) end ran
          c.run_words.ensures.settles;
      unwritten = λ other. nothing_written job t (c.run_words.new.sink ≡ c.args.sink.now) end ran
          (c.run_words.ensures.unwritten other);
      unflushed = not_flushed job t end ran;
      halted_reading = halted_reading job t end ran;
      halted_writing = halted_writing job t end ran;
      starved = starved job t end ran;
      whole = λ asks stream no_read no_write.
          stream_done job t.left t.told t.told_now t.read_faults t.read_faults_now t.write_faults t.write_faults_now
          (end_of end) asks stream no_read no_write (answered job t end ran) (read_failed job t end ran)
          (write_failed job t end ran);
      whole_checkpoint = λ asks stream no_read no_write.
          checkpoint_done job t.left t.told t.told_now t.read_faults t.read_faults_now t.write_faults t.write_faults_now
          (end_of end) asks stream no_read no_write (answered job t end ran) (read_failed job t end ran)
          (write_failed job t end ran);
      whole_resume = λ asks stream no_read no_write.
          resume_done job t.left t.told t.told_now t.read_faults t.read_faults_now t.write_faults t.write_faults_now
          (end_of end) asks stream no_read no_write (answered job t end ran) (read_failed job t end ran)
          (write_failed job t end ran);
      whole_pool = λ asks stream no_read no_write.
          pool_done job t.left t.told t.told_now t.read_faults t.read_faults_now t.write_faults t.write_faults_now
          (end_of end) asks stream no_read no_write (answered job t end ran) (read_failed job t end ran)
          (write_failed job t end ran);
      wary = c.run_words.ensures.wary;
      wary_checkpoint = c.run_words.ensures.wary_checkpoint;
      usage_memory = λ none. never_starves job t end ran (c.run_words.ensures.usage_memory none);
      unread = c.run_words.ensures.unread;
      drained = drained job t end ran;
      promised = promised job t.left t.told t.told_now (end_of end) (answered job t end ran) ran.front
          c.replays_keep_their_promise.ensures;
      checkpointed = checkpointed job t.left t.told t.told_now (end_of end) (answered job t end ran) ran.front
          c.replays_write_checkpoints.ensures;
      resumed = resumed_on job t.left t.told t.told_now (end_of end) (answered job t end ran) ran.front
          c.resumed_replays_keep_their_promise.ensures c.replays_start_with_their_checkpoint.ensures;
      pooled = pooled job t.left t.told t.told_now (end_of end) (answered job t end ran) ran.front
          c.pools_are_fair.ensures;
      uncut = uncut (end_of end) (Rose t.read_faults t.read_faults_now) (Rose t.write_faults t.write_faults_now)
          (λ is. (read_failed job t end ran is).1) (write_failed job t end ran);
      few = ran.few;
      accepted = accepted job t end ran;
      passes = passes job t end ran;
    })
