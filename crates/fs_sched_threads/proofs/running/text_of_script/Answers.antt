use Rattle.std.proofs.Common.{map, subst}
use Rattle.std.proofs.lemmas.Result.{IfOk-weaker, IfErr-weaker}
use Rattle.fs_script.specs.Script.{script_of}
use Rattle.fs_sched_threads.specs.Faults.{IsOfInput}
use Rattle.fs_sched_threads.specs.code.ThreadFaults.{IsOfThreads}
use Rattle.fs_sched_threads.specs.Lines.{IsTextOf, IsWrittenOf}
use Rattle.fs_sched_threads.proofs.LineLemmas.{input_of_threads}
use Rattle.fs_sched_threads.proofs.running.text_of_script.Goals as goal

pub returns-in-Ok : goal.returns-in-Ok
returns-in-Ok g c =
    record {
      written = IfOk-weaker c.text_of_lists.result
          (λ made. IsWrittenOf c.args.journal c.in-Ok.script.limits (map (λ v. v.items) c.as_slice.result.now) made.text.items)
          (λ made. IsTextOf c.args.journal c.args.text.now made.text.items)
          (λ made is. (c.in-Ok.script, c.in-Ok.ensures, subst (λ lists. IsWrittenOf c.args.journal c.in-Ok.script.limits lists made.text.items) c.as_slice.ensures is)) c.text_of_lists.ensures.written;
      lawful = c.text_of_lists.ensures.lawful;
      fault = IfErr-weaker c.text_of_lists.result IsOfThreads (IsOfInput (script_of c.args.text.now)) (λ fault is. input_of_threads _ fault is) c.text_of_lists.ensures.fault;
    }
