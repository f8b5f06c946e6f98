use Rattle.std.proofs.Common.{◌≡◌, ◌<◌, ap, arith, length, get_or}
use Rattle.std.proofs.lemmas.List.{get_or_default}
use Rattle.fs_nodes.specs.declared.index.Slot.{Slot}
use Rattle.fs_nodes.specs.code.Indexes.{free_slot, slot_at}
use Rattle.fs_nodes.proofs.IndexLemmas.{nothing_found}
use Rattle.fs_nodes.proofs.index.seek.Goals as goal

pub returns-else-reach-gt-WINDOW : goal.returns-else-reach-gt-WINDOW
returns-else-reach-gt-WINDOW c = λ keys s.
    let h : c.home_of-home.result < length c.args.slots.now = omega (arith, c.home_of-home.ensures.within) in
    let r : (get_or c.args.slots.now c.home_of-home.result c.index-slots-home.result).reach ≡ (slot_at c.args.slots.now c.home_of-home.result).reach = ap (λ (z : Slot). z.reach) (get_or_default c.args.slots.now c.home_of-home.result c.index-slots-home.result free_slot h) in
    nothing_found c.args.slots.now keys c.args.key c.home_of-home.result s c.home_of-home.ensures.home (omega arith) (λ k n a b e f. c.loop-at.invariant k n a (omega arith) e f)
