use Rattle.std.proofs.Common.{◌==◌, [], ◌∷◌, ◌++◌, if◌then◌else◌, ap, ◌∙◌}
use Rattle.fs_sched_seen.proofs.ListLemmas.{set_pushed}
use Rattle.fs_sched_seen.proofs.heard.Heard.begins.Goals as goal

pub returns-clause-begun : goal.returns-clause-begun
returns-clause-begun c = λ other.
    set_pushed (λ v. v.items) c.reach_thread.new.begun.items c.push.new.self c.index_mut.result.now c.args.seat c.args.call other c.in_ok-reach_thread.ensures.there
    (c.in_ok-push.ensures.items ∙ ap (λ v. v.items ++ c.args.call ∷ []) c.index_mut.ensures.value)
    ∙ ap (λ l. if other == c.args.seat then l ++ c.args.call ∷ [] else l) (c.in_ok-reach_thread.ensures.same other)
