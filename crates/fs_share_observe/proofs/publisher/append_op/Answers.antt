use Rattle.std.proofs.Common.{sym, subst, drop, List, Option, None, ap, arith}
use Rattle.fs_share_observe.specs.declared.history.Noted.{Noted}
use Rattle.fs_share_observe.specs.declared.shown.Shown.{Shown}
use Rattle.fs_share_observe.specs.declared.shown.Op.{Op}
use Rattle.fs_share_observe.specs.Pasts.{IsNoted}
use Rattle.fs_share_observe.specs.Tied.{Tied}
use Rattle.fs_share_observe.proofs.Pasts.{noted_push, length_push}
use Rattle.fs_share_observe.proofs.Taking.{tied_more, tied_none, tied_noted}
use Rattle.fs_share_observe.proofs.publisher.append_op.Goals as goal

pub of-next-requires-clause-noted : goal.of-next-requires-clause-noted
of-next-requires-clause-noted g c =
    let next = c.requires.next in
    subst (λ (l : List Noted). IsNoted l) (sym next.1) (noted_push c.args.front.now c.args.op.call (tied_noted _ _ _ _ _ c.requires.tied))

pub of-next-requires-clause-length : goal.of-next-requires-clause-length
of-next-requires-clause-length g c =
    omega (arith, c.len.ensures, length_push c.args.front.now c.args.op.token.log c.args.op.call c.requires.next.1)

pub returns-in-Ok-clause-tied : goal.returns-in-Ok-clause-tied
returns-in-Ok-clause-tied g c =
    let r = c.requires in
    let b = g.N.Named.book in
    let old = c.args.writer.now.desk.shown.value in
    let shown = c.append.new.self.desk.shown.value in
    let ops = drop c.args.writer.now.behind c.args.writer.now.log.items in
    let more = drop c.append.new.self.behind c.append.new.self.log.items in
    let taken = c.args.front.now in
    let tied : Tied b old more c.args.op.token.log None = tied_more b old ops more taken c.args.op (tied_none b old ops taken c.args.held.now r.tied) r.next c.in-Ok.ensures.pending in
    let here : Tied b shown more c.args.op.token.log None = subst (λ (s : Shown). Tied b s more c.args.op.token.log None) (ap (λ d. d.shown.value) (sym c.append.ensures.desk)) tied in
    let at : Tied b shown more c.of-next.result None = subst (λ (l : List Noted). Tied b shown more l None) (sym c.of-next.ensures) here in
    subst (λ (h : Option Op). Tied b shown more c.of-next.result h) (sym r.none) at
