use Rattle.std.proofs.Common.{◌+◌, ◌∙◌, sym, ap}
use Rattle.fs_core.specs.CoreValues.{state_of}
use Rattle.fs_timeline.specs.Timeline.{commits}
use Rattle.fs_laws.proofs.journal.ViewOfTimeline.{step_start}
use Rattle.fs_share.specs.Boards.{Boarded}
use Rattle.fs_share.specs.Returns.{answered, returns}
use Rattle.fs_share.proofs.Counting.{step_counts}
use Rattle.fs_share.proofs.Publishing.{step_grows, beginnings_grow}
use Rattle.fs_share.proofs.board.Board.step.Goals as goal

pub invariant_of-self-2 : goal.invariant_of-self-2
invariant_of-self-2 g c =
    let s = c.self.inside in
    let old = state_of s.core in
    let new = state_of c.advance.new.core in (
      beginnings_grow (commits s.core.timeline) (commits c.advance.new.core.timeline) s.publisher
          (step_grows old new c.args.seat c.advance.result c.told.ensures.lawful c.advance.ensures.step) c.self.invariant.0,
      c.self.invariant.1 ∙ sym (step_start old c.args.seat c.advance.result new c.advance.ensures.step),
    )

pub returns-clause-returns : goal.returns-clause-returns
returns-clause-returns g c =
    step_counts (state_of c.self.inside.core) (state_of c.advance.new.core) c.args.seat c.advance.result c.advance.ensures.step ∙ ap (λ (b : Boarded). returns b.core.timeline + answered c.advance.result) c.self.view_is
