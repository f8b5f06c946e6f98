use Rattle.std.proofs.Common.{◌∙◌}
use Rattle.fs_linearize.proofs.KnownLemmas.{busy, begun_twice, seat_busy, may_begin, return_unbegun, return_twice, may_return}
use Rattle.fs_linearize.proofs.faults.Known.fault.Goals as goal

pub returns-then-has_begun : goal.returns-then-has_begun
returns-then-has_begun c = λ before k. begun_twice before c.args.entry.now _ _ _ _ _ c.in-Begin.is c.get.ensures (c.has_begun.ensures ∙ k.begun c.get.result) c.if-has_begun.true

pub returns-then-is_busy : goal.returns-then-is_busy
returns-then-is_busy c = λ before k.
    seat_busy before c.args.entry.now _ _ _ _ _ _ _ c.in-Begin.is c.get.ensures (c.has_begun.ensures ∙ k.begun c.get.result) c.if-has_begun.false c.get-else-has_begun.ensures
    (c.is_busy.ensures ∙ busy before c.args.self.now c.get-else-has_begun.result k) c.if-is_busy.true

pub returns-else-is_busy : goal.returns-else-is_busy
returns-else-is_busy c = λ before k.
    may_begin before c.args.entry.now _ _ _ _ _ _ _ c.in-Begin.is c.get.ensures (c.has_begun.ensures ∙ k.begun c.get.result) c.if-has_begun.false c.get-else-has_begun.ensures
    (c.is_busy.ensures ∙ busy before c.args.self.now c.get-else-has_begun.result k) c.if-is_busy.false

pub returns-then-not-has_begun : goal.returns-then-not-has_begun
returns-then-not-has_begun c = λ before k.
    return_unbegun before c.args.entry.now _ _ _ _ c.in-Return.is c.get-in-Return.ensures (c.has_begun-in-Return.ensures ∙ k.begun c.get-in-Return.result) c.if-not-has_begun.true

pub returns-then-has_returned : goal.returns-then-has_returned
returns-then-has_returned c = λ before k.
    return_twice before c.args.entry.now _ _ _ _ _ _ c.in-Return.is c.get-in-Return.ensures (c.has_begun-in-Return.ensures ∙ k.begun c.get-in-Return.result) c.if-not-has_begun.false
    c.get-else-not-has_begun.ensures (c.has_returned.ensures ∙ k.returned c.get-else-not-has_begun.result) c.if-has_returned.true

pub returns-else-has_returned : goal.returns-else-has_returned
returns-else-has_returned c = λ before k.
    may_return before c.args.entry.now _ _ _ _ _ _ c.in-Return.is c.get-in-Return.ensures (c.has_begun-in-Return.ensures ∙ k.begun c.get-in-Return.result) c.if-not-has_begun.false
    c.get-else-not-has_begun.ensures (c.has_returned.ensures ∙ k.returned c.get-else-not-has_begun.result) c.if-has_returned.false
