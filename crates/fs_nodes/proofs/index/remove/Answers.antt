use Rattle.std.proofs.Common.{◌≡◌, ◌+◌, ◌-◌, ◌<◌, ◌≤◌, None, set, get_or, length, arith}
use Rattle.fs_names.specs.declared.limits.TheConstants.{NODE_LIMIT}
use Rattle.fs_nodes.specs.declared.index.TheConstants.{WINDOW}
use Rattle.fs_nodes.specs.code.Indexes.{slot_at, IsSome}
use Rattle.fs_nodes.proofs.IndexLemmas.{reach_read, reach_fits, reach_beyond, freed_reach, remove_with, remove_without, narrowed, slot_within}
use Rattle.fs_nodes.proofs.index.remove.Goals as goal

pub overflow_sub-reach : goal.overflow_sub-reach
overflow_sub-reach c =
    let r : (get_or c.args.slots.now c.home_of-home.result c.index-slots-home.result).reach ≡ (slot_at c.args.slots.now c.home_of-home.result).reach = reach_read c.args.slots.now c.home_of-home.result c.index-slots-home.result c.home_of-home.ensures.within in
    let w : WINDOW < (slot_at c.args.slots.now c.home_of-home.result).reach = reach_beyond c.args.slots.now c.requires.entry.keys c.args.key c.args.node c.home_of-home.result c.requires.entry.index c.home_of-home.ensures.home c.in-None.ensures c.requires.entry.entry in
    omega arith

pub set_reach-requires-in-None-clause-reach : goal.set_reach-requires-in-None-clause-reach
set_reach-requires-in-None-clause-reach c =
    let r : (get_or c.args.slots.now c.home_of-home.result c.index-slots-home.result).reach ≡ (slot_at c.args.slots.now c.home_of-home.result).reach = reach_read c.args.slots.now c.home_of-home.result c.index-slots-home.result c.home_of-home.ensures.within in
    let s : IsSome c.args.slots.now = record { keys = c.requires.entry.keys; few = c.requires.entry.few; index = c.requires.entry.index } in
    let f : (slot_at c.args.slots.now c.home_of-home.result).reach ≤ WINDOW + NODE_LIMIT = reach_fits c.args.slots.now c.home_of-home.result s in
    omega arith

pub returns-then-reach-le-WINDOW : goal.returns-then-reach-le-WINDOW
returns-then-reach-le-WINDOW c = λ keys s there.
    let inside : c.in-Some.at < length c.args.slots.now = slot_within c.args.slots.now c.in-Some.at c.args.node c.in-Some.ensures.held in
    let r : (get_or c.args.slots.now c.home_of-home.result c.index-slots-home.result).reach ≡ (slot_at c.args.slots.now c.home_of-home.result).reach = reach_read c.args.slots.now c.home_of-home.result c.index-slots-home.result c.home_of-home.ensures.within in
    let f : (slot_at c.empty.new.slots c.home_of-home.result).reach ≡ (slot_at c.args.slots.now c.home_of-home.result).reach = rw c.empty.ensures (freed_reach c.args.slots.now c.in-Some.at c.home_of-home.result inside) in
    rw c.set_reach.ensures (narrowed c.empty.new.slots (set keys c.args.node None) c.home_of-home.result c.reach_within.result (rw c.empty.ensures (remove_with c.args.slots.now keys c.args.key c.args.node c.home_of-home.result c.in-Some.at s c.in-Some.ensures there))
    (omega (arith, c.empty.auto.slots, c.home_of-home.ensures.within)) (omega (arith, c.reach_within.ensures.within)) (omega arith)
    (λ k n a b e g. c.reach_within.ensures.rest k n a (omega arith) e g))

pub returns-else-reach-le-WINDOW : goal.returns-else-reach-le-WINDOW
returns-else-reach-le-WINDOW c = λ keys s there. rw c.empty.ensures (remove_with c.args.slots.now keys c.args.key c.args.node c.home_of-home.result c.in-Some.at s c.in-Some.ensures there)

pub returns-in-None : goal.returns-in-None
returns-in-None c = λ keys s there.
    let r : (get_or c.args.slots.now c.home_of-home.result c.index-slots-home.result).reach ≡ (slot_at c.args.slots.now c.home_of-home.result).reach = reach_read c.args.slots.now c.home_of-home.result c.index-slots-home.result c.home_of-home.ensures.within in
    let w : WINDOW < (slot_at c.args.slots.now c.home_of-home.result).reach = reach_beyond c.args.slots.now keys c.args.key c.args.node c.home_of-home.result s c.home_of-home.ensures.home c.in-None.ensures there in
    rw c.set_reach-in-None.ensures (remove_without c.args.slots.now keys c.args.key c.args.node c.home_of-home.result ((get_or c.args.slots.now c.home_of-home.result c.index-slots-home.result).reach - 1) s c.home_of-home.ensures.home c.home_of-home.ensures.within c.in-None.ensures there (omega arith))
