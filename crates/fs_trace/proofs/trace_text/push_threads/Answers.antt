use Rattle.std.proofs.Common.{◌≡◌, ◌<◌, length, ◌∙◌, arith}
use Rattle.fs_trace.specs.Traces.{thread_line}
use Rattle.fs_trace.proofs.Lining.{threads_more}
use Rattle.fs_trace.proofs.trace_text.push_threads.Goals as goal

pub loop-seat-preserved : goal.loop-seat-preserved
loop-seat-preserved c =
    let n : c.len-seat-end.result ≡ length c.args.names.now = c.len-seat-end.ensures in
    let less : c.loop-seat.seat < length c.args.names.now = omega (arith, n, c.loop-seat-test.true) in
    record {
      before = c.push_thread.ensures.before ∙ c.loop-seat.invariant.before;
      lines = threads_more thread_line c.args.names.now c.loop-seat.seat c.name_of.result.now c.args.text.now.added c.loop-seat.text.added c.push_thread.new.text.added less c.name_of.ensures c.loop-seat.invariant.lines c.in_ok-push_thread.ensures.ok;
    }
