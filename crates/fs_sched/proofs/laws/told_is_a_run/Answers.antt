use Rattle.std.proofs.Common.{length}
use Rattle.fs_sched.specs.Runs.{start}
use Rattle.fs_sched.proofs.Telling.{run_told}
use Rattle.fs_sched.proofs.laws.told_is_a_run.Goals as goal

pub returns : goal.returns
returns c schedule script ms last tells = run_told schedule script (start script.limits (length script.lists)) last ms tells
