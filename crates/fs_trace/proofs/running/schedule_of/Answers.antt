use Rattle.fs_trace.proofs.Making.{of_root}
use Rattle.fs_trace.proofs.Playing.{same_text}
use Rattle.fs_trace.proofs.running.schedule_of.Goals as goal

pub returns-in-Ok : goal.returns-in-Ok
returns-in-Ok c =
    let script = c.in_ok-script.script in
    record {
      script = (script, c.in_ok-script.ensures.script, c.in-Ok.ensures.scheduled);
      again = same_text c.args.schedule c.args.text.now c.in-Ok.made.items script c.in_ok-script.ensures.script c.in-Ok.ensures.again;
      fault = tt;
    }

pub returns : goal.returns
returns c = record { script = tt; again = tt; fault = of_root c.args.schedule c.args.text.now c.in_ok-script.script c.in-Err.fault c.in_ok-script.ensures.script c.in-Err.ensures.fault }
