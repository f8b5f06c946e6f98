use Rattle.std.proofs.Common.{List, sym, subst, ◌∙◌}
use Rattle.std.specs.Prelude.{option_copied}
use Rattle.fs_linearize.specs.code.Tellings.{PlaysNext}
use Rattle.fs_linearize.specs.declared.telling.Kept.{Kept}
use Rattle.fs_linearize.proofs.TellingLemmas.{keeps_commit, keeps_nothing}
use Rattle.fs_linearize.proofs.telling.play_next.Goals as goal

pub returns-in_ok-push : goal.returns-in_ok-push
returns-in_ok-push c =
    let number = c.args.number in
    let journal = c.args.journal.now in
    let tree = c.args.tree.now in
    let grown = c.play_call.new.tree in
    let kept = c.args.kept.now.items in
    subst (λ (more : List Kept). PlaysNext number journal tree kept grown more) (sym c.in_ok-push.ensures.items)
    (keeps_commit number journal tree grown kept (option_copied c.call_in-call.result) c.in-Some.reply c.call_in-call.ensures (sym c.in-Some.is ∙ c.in_ok-reply.ensures.reply) c.in_ok-reply.ensures.tree)

pub returns-in_default : goal.returns-in_default
returns-in_default c =
    keeps_nothing c.args.number c.args.journal.now c.args.tree.now c.play_call.new.tree c.args.kept.now.items (option_copied c.call_in-call.result) c.in_ok-reply.field-0 c.call_in-call.ensures c.in_ok-reply.ensures.reply c.in_default.not-Some
