use Rattle.std.proofs.Common.{◌≡◌, ◌^◌, ◌-◌, ◌++◌, List, [], length, min, sym, ap, ◌∙◌, subst}
use Rattle.fs_calls.specs.Starts.{Start}
use Rattle.fs_calls.specs.declared.call.Call.{Call}
use Rattle.fs_nodes.specs.Stores.{graph_of}
use Rattle.fs_core.specs.CoreValues.{CoreValue, state_of}
use Rattle.fs_machine.specs.States.{State, Run, fresh}
use Rattle.fs_names.specs.Limits.{largest, node_limit}
use Rattle.fs_text.specs.Fits.{AllFit}
use Rattle.fs_sched.specs.RunTexts.{IsRunText}
use Rattle.fs_sched.specs.Runs.{before_all, calls_in, RunsFrom}
use Rattle.fs_sched.specs.code.Counts.{AreCounts}
use Rattle.fs_sched.specs.code.Stages.{stage_of}
use Rattle.fs_sched.proofs.Starts.{starts_within}
use Rattle.fs_sched.proofs.ShortRuns.{IsToldFit, short_from, again_short}
use Rattle.fs_sched.proofs.Whole.{ListFacts, kept_fresh, few_from, last_keeps}
use Rattle.fs_sched.proofs.Done.{uncapped}
use Rattle.fs_sched.proofs.running.run_on.Goals as goal

-- what the first stage keeps
first_keeps : (lists : List (List Call)) (core : CoreValue) → state_of core ≡ fresh (node_limit core.start.limits) core.start (graph_of core.store) → Run (state_of core) → ListFacts lists [] (before_all (state_of core) (length lists))
first_keeps lists core is run = subst (λ (s : State). ListFacts lists [] (before_all s (length lists))) (sym is) (kept_fresh lists (node_limit core.start.limits) core.start (graph_of core.store) (subst Run is run))

pub returns-in-Ok-counted_text-clause-output : goal.returns-in-Ok-counted_text-clause-output
returns-in-Ok-counted_text-clause-output g c =
    let made = c.in-Ok-counted_text.made in
    let run = c.in-Ok.ensures.runs in
    let core = c.in-Ok.run'.play.core in
    let parts = c.into_parts-start in
    let lists = c.args.script.lists in
    let kept = first_keeps lists c.args.core c.requires.fresh c.told.ensures.run in
    let calls = c.count_calls-calls.ensures ∙ ap (λ lists. min (2 ^ 64 - 1) (calls_in lists)) c.as_slice.ensures in
    let entries = c.into_entries.ensures ∙ parts.ensures.timeline in
    let piece = subst (AreCounts made.counts) entries c.in-Ok-counted_text.ensures.counts in
    let counts = uncapped (c.plus.result) (run.told ++ core.timeline) c.args.script.limits (calls_in lists) c.requires.few (few_from c.args.schedule c.args.script (before_all (state_of c.args.core) (length lists)) run.told (stage_of c.in-Ok.run'.play) kept run.runs) (c.plus.ensures run.told core.timeline run.counted piece) in
    let start = subst (λ (t : Start). IsRunText t c.into_entries.result.items (graph_of parts.result.2) made.text.items) parts.ensures.start c.in-Ok-counted_text.ensures.text in
    let text = subst (λ store. IsRunText core.start c.into_entries.result.items (graph_of store) made.text.items) parts.ensures.store start in (
      run.told,
      stage_of c.in-Ok.run'.play,
      run.runs,
      (c.end_of.ensures c.args.script (run.told ++ core.timeline) calls counts, subst (λ entries. IsRunText core.start entries (graph_of core.store) made.text.items) entries text),
    )

pub returns-in-Ok-counted_text-clause-again : goal.returns-in-Ok-counted_text-clause-again
returns-in-Ok-counted_text-clause-again g c read limits names =
    let run = c.in-Ok.ensures.runs in
    let first = c.args.core in
    let core = c.in-Ok.run'.play.core in
    let last = stage_of c.in-Ok.run'.play in
    let lists = c.args.script.lists in
    let kept = first_keeps lists first c.requires.fresh c.told.ensures.run in
    let on = (last_keeps c.args.schedule c.args.script (before_all (state_of first) (length lists)) run.told last kept run.runs).run in
    let from = subst (λ (s : State). RunsFrom c.args.schedule c.args.script (before_all s (length lists)) run.told last) c.requires.fresh run.runs in
    let short = short_from c.args.schedule read.0 c.args.script (node_limit first.start.limits) first.start (graph_of first.store) run.told last read.1 names limits on from in
    let told = subst IsToldFit c.into_parts-start.ensures.start c.in-Ok-counted_text.ensures.told in
    let fit = subst (AllFit largest) (c.into_entries.ensures ∙ c.into_parts-start.ensures.timeline) c.in-Ok-counted_text.ensures.fit in
    (run.told, last, run.runs, again_short c.args.script.limits core.start core.timeline (starts_within (state_of core) on) told fit short.entries short.tree short.kept)
