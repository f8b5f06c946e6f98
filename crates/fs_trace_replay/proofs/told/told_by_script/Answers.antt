use Rattle.std.proofs.Common.{length, refl, sym, ap, ◌∙◌, subst}
use Rattle.fs_calls.specs.Starts.{Start}
use Rattle.fs_calls.specs.Tree.{IsTree}
use Rattle.fs_core.specs.CoreValues.{state_of}
use Rattle.fs_machine.specs.States.{State}
use Rattle.fs_sched_witness.specs.Moments.{entries_told}
use Rattle.fs_sched.specs.Runs.{start}
use Rattle.fs_sched.proofs.Starts.{starts_within}
use Rattle.fs_sched.proofs.Telling.{run_told}
use Rattle.fs_trace_replay.proofs.told.told_by_script.Goals as goal

pub returns-clause-told : goal.returns-clause-told
returns-clause-told c =
    let w = c.in_ok-ran.ensures.watches in
    let script = c.in_ok-script.script in (
      script,
      entries_told w.moments,
      w.last,
      c.in_ok-script.ensures.script,
      run_told c.args.schedule script (start script.limits (length script.lists)) w.last w.moments w.tells,
      refl,
      c.into_parts-start.ensures.start ∙ ap (λ (s : State). s.start) (sym w.core),
      c.into_entries.ensures ∙ c.into_parts-start.ensures.timeline ∙ ap (λ (s : State). s.timeline) (sym w.core),
      refl,
    )

pub returns-clause-tree : goal.returns-clause-tree
returns-clause-tree c = subst (λ (s : Start). IsTree s.tree) (sym c.into_parts-start.ensures.start) ((starts_within (state_of c.in_ok-ran.ran.core) c.told.ensures.run).tree)
