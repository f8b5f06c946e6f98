use Rattle.std.proofs.Common.{List, subst, sym}
use Rattle.fs_linearize_configurations.specs.code.Ways.{GoesBy}
use Rattle.fs_linearize_configurations.specs.declared.steps.Step.{Step}
use Rattle.fs_linearize.proofs.PossibleLemmas.{ends_by, is_another, some_due}
use Rattle.fs_linearize.proofs.replies.one_more.Goals as goal

pub unreachable-requires : goal.unreachable-requires
unreachable-requires g c =
    let asked = c.args.asked.now in
    let way = ends_by c.args.start.now asked c.args.limit _ c.in-Ends.steps c.in_ok-steps.ensures c.in-Ends.is in
    let told = c.in_ok-reply-in-Ends.ensures way.0 way.1 (subst (λ (ss : List Step). GoesBy asked ss way.0) (sym c.deref.ensures.value) way.2) in
    let last = c.requires.last in
    let due = some_due c.args.start.now asked last.0 c.args.number last.1 way.0 _ c.requires.history way.1 told last.2 in
    let some = due.1 in
    let none = c.in-None.is in
    absurd (cc)

pub returns-in-Some : goal.returns-in-Some
returns-in-Some g c = λ before p is.
    let asked = c.args.asked.now in
    let way = ends_by c.args.start.now asked c.args.limit _ c.in-Ends.steps c.in_ok-steps.ensures c.in-Ends.is in
    let told = c.in_ok-reply-in-Ends.ensures way.0 way.1 (subst (λ (ss : List Step). GoesBy asked ss way.0) (sym c.deref.ensures.value) way.2) in
    is_another c.args.start.now asked before c.args.number p c.args.limit way.0 _ c.in-Some.reply c.requires.history way.1 told c.in-Some.is is
