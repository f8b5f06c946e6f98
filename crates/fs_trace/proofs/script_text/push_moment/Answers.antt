use Rattle.std.proofs.Common.{◌∷◌, [], sym, subst}
use Rattle.fs_script.specs.declared.script.Word.TheVariants.{Checkpoint}
use Rattle.fs_trace.specs.code.WordTexts.{AreTimed}
use Rattle.fs_trace.proofs.Wording.{timed_append}
use Rattle.fs_trace.proofs.script_text.push_moment.Goals as goal

pub returns-in_ok-push-in-Checkpoint-clause-timed : goal.returns-in_ok-push-in-Checkpoint-clause-timed
returns-in_ok-push-in-Checkpoint-clause-timed c timed = subst AreTimed (sym c.in_ok-push-in-Checkpoint.ensures.items) (timed_append c.args.words.now.items (Checkpoint ∷ []) timed tt)
