use Rattle.fs_trace.specs.code.LineTexts.{HasLines}
use Rattle.fs_trace.proofs.Lining.{lines_none}
use Rattle.fs_trace.proofs.Making.{told_all, trace_made}
use Rattle.fs_trace.proofs.running.trace_bytes.Goals as goal

pub returns-in-Ok-trace_text-clause-traced : goal.returns-in-Ok-trace_text-clause-traced
returns-in-Ok-trace_text-clause-traced c =
    let script = c.in_ok-read.read in
    let start = c.in-Ok.lines in
    let old = c.in-Ok-new.teller in
    let new = c.watch.new.witness in
    let ran = c.in_ok-ran.ran in
    let watched = c.in_ok-ran.ensures.watches in
    let has = told_all HasLines c.args.every c.args.schedule script start old new ran (c.in-Ok-new.ensures start (lines_none start)) watched in
    trace_made c.args.schedule c.args.every c.args.script.now c.in-Ok-trace_text.text.items script old new ran c.in_ok-read.ensures.script watched
    (c.in-Ok-trace_text.ensures c.args.every start watched.moments c.in-Ok.ensures has)
