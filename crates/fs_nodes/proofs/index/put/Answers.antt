use Rattle.std.proofs.Common.{◌≡◌, ◌+◌, ◌-◌, ◌<◌, ◌≤◌, ◌∙◌, ℕ, max, ap, get_or, arith}
use Rattle.fs_names.specs.declared.limits.TheConstants.{NODE_LIMIT}
use Rattle.fs_nodes.specs.declared.index.TheConstants.{WINDOW}
use Rattle.fs_nodes.specs.code.Indexes.{slot_at}
use Rattle.fs_nodes.proofs.IndexLemmas.{reach_read, reach_fits, put_with, put_without}
use Rattle.fs_nodes.proofs.index.put.Goals as goal

pub set_reach-requires-clause-reach : goal.set_reach-requires-clause-reach
set_reach-requires-clause-reach c =
    let r : (get_or c.args.slots.now c.home_of-home.result c.index-slots-home.result).reach ≡ (slot_at c.args.slots.now c.home_of-home.result).reach = reach_read c.args.slots.now c.home_of-home.result c.index-slots-home.result c.home_of-home.ensures.within in
    let f : (slot_at c.args.slots.now c.home_of-home.result).reach ≤ WINDOW + NODE_LIMIT = reach_fits c.args.slots.now c.home_of-home.result c.requires.slots in
    let n : c.in-Some.at < c.home_of-home.result + WINDOW = c.in-Some.ensures.near in
    omega arith

pub set_reach-requires-in-None-clause-reach : goal.set_reach-requires-in-None-clause-reach
set_reach-requires-in-None-clause-reach c =
    let r : (get_or c.args.slots.now c.home_of-home.result c.index-slots-home.result).reach ≡ (slot_at c.args.slots.now c.home_of-home.result).reach = reach_read c.args.slots.now c.home_of-home.result c.index-slots-home.result c.home_of-home.ensures.within in
    let f : (slot_at c.args.slots.now c.home_of-home.result).reach ≤ WINDOW + NODE_LIMIT = reach_fits c.args.slots.now c.home_of-home.result c.requires.slots in
    omega arith

pub returns-in-Some : goal.returns-in-Some
returns-in-Some c = λ keys s none room. rw (c.fill.ensures, c.set_reach.ensures) (put_with c.args.slots.now keys c.args.key c.args.node c.home_of-home.result c.in-Some.at c.max.result s c.home_of-home.ensures.home c.home_of-home.ensures.within c.in-Some.ensures none room
    (c.max.ensures ∙ ap (λ (z : ℕ). max z (c.in-Some.at - c.home_of-home.result + 1)) (reach_read c.args.slots.now c.home_of-home.result c.index-slots-home.result c.home_of-home.ensures.within)))

pub returns-in-None : goal.returns-in-None
returns-in-None c = λ keys s none room. rw c.set_reach-in-None.ensures (put_without c.args.slots.now keys c.args.key c.args.node c.home_of-home.result (c.max-in-None.result + 1) s c.home_of-home.ensures.home c.home_of-home.ensures.within none room
    (ap (λ (z : ℕ). z + 1) (c.max-in-None.ensures ∙ ap (λ (z : ℕ). max z WINDOW) (reach_read c.args.slots.now c.home_of-home.result c.index-slots-home.result c.home_of-home.ensures.within))))
