use Rattle.std.proofs.Common.{◌∙◌, sym, ap, subst, List}
use Rattle.fs_timeline.specs.Timeline.{commits}
use Rattle.fs_timeline.specs.declared.entry.Entry.{Entry}
use Rattle.fs_share_observe.specs.Lists.{Lists}
use Rattle.fs_share.specs.Boards.{AreBeginnings}
use Rattle.fs_share.proofs.Publishing.{none_taken}
use Rattle.fs_share.proofs.board.Board.open.Goals as goal

pub invariant_of-result : goal.invariant_of-result
invariant_of-result g c =
    let state = c.in_ok-core.ensures.state in
    let lists = c.in_ok-publisher.ensures in (
      subst (λ (es : List Entry). AreBeginnings (commits es) c.in_ok-publisher.publisher) (sym (ap (λ s. s.timeline) state)) (none_taken c.in_ok-first.first c.in_ok-publisher.publisher lists),
      ap (λ (l : Lists). l.start) lists ∙ (c.in_ok-first.ensures ∙ sym (ap (λ s. s.start) state)),
    )
