use Rattle.std.proofs.Common.{◌++◌, List, length, refl, subst}
use Rattle.fs_timeline.specs.declared.entry.Entry.{Entry}
use Rattle.fs_sched_witness.specs.Moments.{entries_told}
use Rattle.fs_core.specs.CoreValues.{state_of}
use Rattle.fs_sched.specs.Laws.{AreOneRun}
use Rattle.fs_sched.specs.Runs.{before_all, calls_in, RunsFrom}
use Rattle.fs_sched.specs.code.Counts.{AreCounts}
use Rattle.fs_sched.specs.code.Stages.{stage_of}
use Rattle.fs_sched.proofs.Done.{uncapped}
use Rattle.fs_sched.proofs.OneText.{one_from}
use Rattle.fs_sched.proofs.Origins.{kept_first, same_first, tells_on}
use Rattle.fs_sched.proofs.Telling.{run_told}
use Rattle.fs_sched.proofs.Whole.{few_from}
use Rattle.fs_sched.proofs.watching.watch_on.Goals as goal

pub returns-clause-watches : goal.returns-clause-watches
returns-clause-watches g c from is =
    let schedule = c.args.schedule in
    let script = c.args.script.now in
    let first = before_all (state_of c.args.core) (length script.lists) in
    let run = c.in-Ok.ensures.runs in
    let last = stage_of c.in-Ok.run'.play in
    let (ms, hears, tells) = c.in-Ok.ensures.told in
    let led : RunsFrom schedule script first (entries_told ms) last = run_told schedule script first last ms tells in
    let one : AreOneRun (entries_told ms) run.told last last = one_from schedule script first first (entries_told ms) run.told last last (same_first from script first first is is) led run.runs in
    let timeline = c.in-Ok.run'.play.core.timeline in
    let piece = subst (AreCounts c.counts_of.result) c.timeline.ensures c.counts_of.ensures.exact in
    let kept = kept_first from script first is in
    let counts = uncapped c.plus-counts.result (run.told ++ timeline) script.limits (calls_in script.lists) c.requires.few (few_from schedule script first run.told last kept run.runs) (c.plus-counts.ensures run.told timeline run.counted piece) in
    let all : AreCounts c.plus-counts.result (entries_told ms ++ timeline) = subst (λ (es : List Entry). AreCounts c.plus-counts.result (es ++ timeline)) one.told counts in
    record { moments = ms; last = last; hears = hears; tells = tells_on from schedule script first ms last is tells; core = refl; end = c.run_end.ensures (entries_told ms ++ timeline) all }
