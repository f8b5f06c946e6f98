use Rattle.std.proofs.Common.{◌≡◌, length}
use Rattle.fs_timeline.specs.Timeline.{commits}
use Rattle.fs_share.specs.Boards.{AreBeginnings}
use Rattle.fs_share.proofs.board.catch_up.Given as goal

abbrev pub invariant-loop-place : goal.invariant-loop-place
invariant-loop-place g l =
    AreBeginnings (commits l.core.timeline) l.publisher
    × (l.publisher.start ≡ l.initial.publisher.start)
    × (l.publisher.published ≡ l.initial.publisher.published)
    × (l.place ≡ length l.publisher.taken)
