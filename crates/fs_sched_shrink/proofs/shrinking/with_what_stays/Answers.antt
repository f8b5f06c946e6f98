use Rattle.std.proofs.Common.{◌≤◌, length, sym, ap, subst, ◌∙◌}
use Rattle.fs_script.specs.Limits.{calls_in}
use Rattle.fs_script.specs.declared.limits.TheConstants.{CALL_LIMIT}
use Rattle.fs_script.specs.declared.script.Script.{Script}
use Rattle.fs_sched_shrink.specs.Kept.{kept_script}
use Rattle.fs_sched_shrink.proofs.Counting.{few_kept, at_most_all}
use Rattle.fs_sched_shrink.proofs.shrinking.with_what_stays.Goals as goal

pub count_calls-requires : goal.count_calls-requires
count_calls-requires c = subst (λ (s : Script). calls_in s.lists ≤ CALL_LIMIT) (sym (c.in_ok-cut.ensures c.args.script.now c.requires.read)) (at_most_all (kept_script c.args.kept.now c.args.script.now) (few_kept c.args.kept.now c.args.script.now c.requires.few))

pub returns : goal.returns
returns c from shrunk smallest =
    let cut = c.in_ok-cut.ensures c.args.script.now c.requires.read in (
      c.args.kept.now,
      record {
        stays = shrunk;
        read = c.in_ok-text.ensures c.args.script.now c.requires.read;
        calls = c.count_calls.ensures ∙ ap (λ (s : Script). calls_in s.lists) cut;
        words = ap length c.as_slice.ensures ∙ ap (λ (s : Script). length s.words) cut;
        said = c.in_ok-said.ensures;
        smallest = smallest;
        stopped = c.requires.stopped;
      },
    )
