use Rattle.std.proofs.Common.{◌∙◌, sym, ap}
use Rattle.fs_core.specs.CoreValues.{state_of}
use Rattle.fs_timeline.specs.Timeline.{commits}
use Rattle.fs_laws.proofs.journal.ViewOfTimeline.{begin_start}
use Rattle.fs_share.specs.Boards.{Boarded}
use Rattle.fs_share.specs.Returns.{returns}
use Rattle.fs_share.proofs.Counting.{begin_counts}
use Rattle.fs_share.proofs.Publishing.{begin_grows, beginnings_grow}
use Rattle.fs_share.proofs.board.Board.begin.Goals as goal

pub invariant_of-self-2 : goal.invariant_of-self-2
invariant_of-self-2 g c =
    let s = c.self.inside in
    let old = state_of s.core in
    let new = state_of c.begin.new.self in (
      beginnings_grow (commits s.core.timeline) (commits c.begin.new.self.timeline) s.publisher
          (begin_grows old new c.args.seat c.args.call.now c.begin.result c.told.ensures.lawful c.begin.ensures.begins) c.self.invariant.0,
      c.self.invariant.1 ∙ sym (begin_start old c.args.seat c.args.call.now c.begin.result new c.begin.ensures.begins),
    )

pub returns-clause-returns : goal.returns-clause-returns
returns-clause-returns g c =
    begin_counts (state_of c.self.inside.core) (state_of c.begin.new.self) c.args.seat c.args.call.now c.begin.result c.begin.ensures.begins ∙ ap (λ (b : Boarded). returns b.core.timeline) c.self.view_is
