use Rattle.std.proofs.Common.{[], ◌∷◌, map}
use Rattle.std.proofs.lemmas.Result.{on_ok_weaker}
use Rattle.std.specs.List.{range_with_len}
use Rattle.fs_sched_witness.specs.Moments.{event_of, spent_of}
use Rattle.fs_sched.proofs.Noting.{hears_append}
use Rattle.fs_sched.proofs.play.Play.tell_behind.Goals as goal

pub returns-clause-told : goal.returns-clause-told
returns-clause-told g c = on_ok_weaker c.tell.result (λ hears. hears_append g.W.Witness.Told c.args.witness.now c.tell_over.new.witness c.tell.new.witness (map spent_of (range_with_len 0 c.args.before)) (event_of c.args.seat c.args.answer ∷ []) c.in_ok-tell_over.ensures.told hears) c.tell.ensures.told
