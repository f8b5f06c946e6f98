use Rattle.std.proofs.Common.{◌≡◌, Bool, true, false, length, refl, ap, subst, List, arith}
use mathlib.Core.List.{IsPrefix}
use Rattle.fs_calls.specs.declared.call.Call.{Call}
use Rattle.fs_timeline.specs.Timeline.{commits}
use Rattle.fs_share_observe.proofs.Fronts.{prefix_trans}
use Rattle.fs_share.specs.Boards.{Boarded}
use Rattle.fs_share.proofs.board.Board.begins_with.Goals as goal

pub returns-clause-listed : goal.returns-clause-listed
returns-clause-listed g c listed =
    subst (λ (l : List Call). IsPrefix c.args.stamp.now.list l) (ap (λ (b : Boarded). commits b.core.timeline) c.self.view_is)
    (prefix_trans _ _ _ (c.begins_with.ensures.listed listed) c.self.invariant.0.taken)

pub returns-clause-first : goal.returns-clause-first
returns-clause-first g c none = by c.begins_with.result refl
  where
    by : (b : Bool) → c.begins_with.result ≡ b → c.begins_with.result ≡ true
    by true e = e
    by false e =
        let longer = c.begins_with.ensures.longer e in
        let empty : length c.args.stamp.now.list ≡ 0 = ap length none in
        absurd (omega (arith, longer, empty))
