use Rattle.std.proofs.Common.{◌≡◌, true, subst}
use Rattle.fs_timeline.specs.Timeline.{has_committed, due, IsWellFormed}
use Rattle.fs_linearize.proofs.TellingLemmas.{due_filled, none_filled}
use Rattle.fs_linearize.proofs.telling.filled_in.Goals as goal

pub returns-in-Some : goal.returns-in-Some
returns-in-Some c = λ p.
    let told = subst (λ n. IsWellFormed c.args.journal.now → has_committed n c.args.journal.now ≡ true → c.in_ok-reply.field-0 ≡ due c.args.start.now n c.args.journal.now) c.get.ensures c.in_ok-reply.ensures in
    due_filled c.args.start.now c.args.journal.now c.args.number p c.in-Some.reply c.in_ok-reply.field-0 told c.in-Some.is

pub returns-in-None : goal.returns-in-None
returns-in-None c = λ p.
    let told = subst (λ n. IsWellFormed c.args.journal.now → has_committed n c.args.journal.now ≡ true → c.in_ok-reply.field-0 ≡ due c.args.start.now n c.args.journal.now) c.get.ensures c.in_ok-reply.ensures in
    none_filled c.args.start.now c.args.journal.now c.args.number p _ c.in_ok-reply.field-0 told c.in-None.is
