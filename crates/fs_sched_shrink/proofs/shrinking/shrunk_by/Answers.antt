use Rattle.std.proofs.Common.{◌≡◌, Bool, List, true, sym, subst}
use Rattle.fs_sched_shrink.specs.Shrinks.{IsShrunkOn, IsSmallestOn}
use Rattle.fs_sched_shrink.proofs.shrinking.shrunk_by.Goals as goal

pub returns : goal.returns
returns c =
    let shrunk = subst (IsShrunkOn c.args.from.now c.args.script.now c.args.what.now) (sym c.as_slice.ensures.value) c.in_ok-is_smallest.ensures.shrunk in
    let smallest = subst (λ (l : List Bool). c.in_ok-is_smallest.is_smallest ≡ true → IsSmallestOn c.args.from.now c.args.script.now c.args.what.now l) (sym c.as_slice.ensures.value) c.in_ok-is_smallest.ensures.smallest in
    c.with_what_stays.ensures c.args.from.now shrunk smallest
