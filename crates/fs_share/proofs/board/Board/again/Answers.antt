use Rattle.std.proofs.Common.{◌∙◌, sym, ap, subst, List}
use Rattle.fs_calls.specs.Outcomes.{next_start}
use Rattle.fs_timeline.specs.Timeline.{commits}
use Rattle.fs_timeline.specs.declared.entry.Entry.{Entry}
use Rattle.fs_share_observe.specs.Lists.{Lists}
use Rattle.fs_share.specs.Boards.{Boarded, AreBeginnings}
use Rattle.fs_share.proofs.Publishing.{none_taken}
use Rattle.fs_share.proofs.board.Board.again.Goals as goal

pub invariant_of-result : goal.invariant_of-result
invariant_of-result g c =
    let state = c.begin_again.ensures.state in
    let r = c.requires in
    let here = ap (λ (b : Boarded). next_start b.core.start (commits b.core.timeline)) (sym c.self.view_is) in (
      subst (λ (es : List Entry). AreBeginnings (commits es) c.args.ready.publisher) (sym (ap (λ s. s.timeline) state)) (none_taken c.args.ready.tree c.args.ready.publisher r.shows),
      ap (λ (l : Lists). l.start) r.shows ∙ (r.is_played ∙ (here ∙ sym (ap (λ s. s.start) state))),
    )
