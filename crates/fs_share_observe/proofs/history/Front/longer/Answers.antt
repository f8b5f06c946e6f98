use Rattle.std.proofs.Common.{◌≤◌, ap, subst, arith, length, List}
use mathlib.Core.List.{IsPrefix}
use Rattle.fs_share_observe.specs.declared.history.Noted.{Noted}
use Rattle.fs_share_observe.proofs.Fronts.{prefix_shorter}
use Rattle.fs_share_observe.proofs.Pasts.{noted_length, goes_on}
use Rattle.fs_share_observe.proofs.history.Front.longer.Goals as goal

pub returns-then-self-other-clause-this : goal.returns-then-self-other-clause-this
returns-then-self-other-clause-this g c =
    let xs = c.self.inside.seen.log in
    let ys = c.other.inside.seen.log in
    let both = c.learn.new.self.log in
    let this : IsPrefix xs both = subst (λ (l : List Noted). IsPrefix l both) (ap (λ s. s.log) c.again-both.ensures) c.learn.ensures.2 in
    let less : length xs ≤ length ys = omega (arith, c.self.invariant.0, c.other.invariant.0, noted_length xs c.self.invariant.2, noted_length ys c.other.invariant.2) in
    rw (c.again.ensures, ← c.self.view_is, ← c.other.view_is) (goes_on xs ys c.self.invariant.2 (prefix_shorter xs ys both this c.learn.ensures.3 less))

pub returns-clause-that : goal.returns-clause-that
returns-clause-that g c =
    let xs = c.self.inside.seen.log in
    let ys = c.other.inside.seen.log in
    let both = c.learn.new.self.log in
    let this : IsPrefix xs both = subst (λ (l : List Noted). IsPrefix l both) (ap (λ s. s.log) c.again-both.ensures) c.learn.ensures.2 in
    let less : length ys ≤ length xs = omega (arith, c.self.invariant.0, c.other.invariant.0, noted_length xs c.self.invariant.2, noted_length ys c.other.invariant.2) in
    rw (c.again-else-self-other.ensures, ← c.self.view_is, ← c.other.view_is) (goes_on ys xs c.other.invariant.2 (prefix_shorter ys xs both c.learn.ensures.3 this less))
