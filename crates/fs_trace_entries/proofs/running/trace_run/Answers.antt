use Rattle.std.proofs.Common.{refl}
use Rattle.fs_trace_entries.proofs.running.trace_run.Goals as goal

pub returns-in-Ok : goal.returns-in-Ok
returns-in-Ok c =
    record {
      traced = (c.in-Ok.made.end, c.in-Ok.ensures.traced, refl);
      quiet = λ well. c.new.ensures.items;
      fault = tt;
    }
