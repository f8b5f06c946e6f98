use Rattle.std.proofs.Common.{◌≡◌, ◌≤◌, ◌-◌, ℕ, length, refl, sym, ◌∙◌, subst, Some, Ok, Err, Result, OnErr, arith, slice_get}
use Rattle.fs_names.specs.Names.{Name}
use Rattle.fs_names.specs.Keys.{Key, last_of}
use Rattle.fs_seq_nodes.specs.code.Nodes.{graph}
use Rattle.fs_seq.specs.code.Renaming.{Plans}
use Rattle.fs_seq.specs.declared.rename.Plan.TheVariants.{Stay, Onto, Within, Across}
use Rattle.fs_seq_nodes.proofs.NodeLemmas.{last_got}
use Rattle.fs_seq.proofs.Renamed.{failed, stayed, new_path_named, node_placed, left_rising, left_absent, moved_within, moved_onto, moved_across, memory_needed, name_needed}
use Rattle.fs_seq.proofs.rename.rename.Goals as goal

on_err : {A E : Type 0} {P : Type 0} (r : Result A E) → P → OnErr r P
on_err (Ok a) p = tt
on_err (Err e) p = p

-- the name that was read is the last one
is_last : (q : Key) (n : ℕ) (x : Name) → n ≡ length q → 1 ≤ length q → slice_get q (n - 1) ≡ Some x → last_of q ≡ x
is_last q n x len named at = last_got q (n - 1) x (omega arith) at

pub returns-in-Err-clause-given : goal.returns-in-Err-clause-given
returns-in-Err-clause-given c = failed c.args.limits (graph c.args.nodes.now) c.args.from.now c.args.to.now c.in-Err.errno c.requires c.in-Err.ensures

pub overflow_sub-len : goal.overflow_sub-len
overflow_sub-len c =
    let named = new_path_named c.args.limits (graph c.args.nodes.now) c.args.from.now c.args.to.now c.in-Ok.plan c.requires c.in-Ok.ensures in
    omega (arith, named, c.len.ensures.len)

pub name-name-requires : goal.name-name-requires
name-name-requires c =
    let named = new_path_named c.args.limits (graph c.args.nodes.now) c.args.from.now c.args.to.now c.in-Ok.plan c.requires c.in-Ok.ensures in
    omega (arith, named, c.len.ensures.len)

pub displace-requires-clause-victim_node : goal.displace-requires-clause-victim_node
displace-requires-clause-victim_node c =
    let g = graph c.args.nodes.now in
    let p = c.args.from.now in
    let q = c.args.to.now in
    let plan : Plans c.args.limits g p q (Ok (Onto c.in-Onto.entry c.in-Onto.victim)) = subst (λ plan. Plans c.args.limits g p q (Ok plan)) c.in-Onto.is c.in-Ok.ensures in
    node_placed c.args.limits g c.requires p q plan.0 c.in-Onto.victim.dir c.in-Onto.victim.place c.in-Onto.victim.node plan.2

pub replace_link-requires-clause-rising : goal.replace_link-requires-clause-rising
replace_link-requires-clause-rising c =
    let g = graph c.args.nodes.now in
    let p = c.args.from.now in
    let q = c.args.to.now in
    let plan : Plans c.args.limits g p q (Ok (Within c.in-Within.entry)) = subst (λ plan. Plans c.args.limits g p q (Ok plan)) c.in-Within.is c.in-Ok.ensures in
    left_rising c.args.limits g c.requires p q plan.0 c.in-Within.entry plan.1

pub replace_link-requires-clause-absent : goal.replace_link-requires-clause-absent
replace_link-requires-clause-absent c =
    let g = graph c.args.nodes.now in
    let p = c.args.from.now in
    let q = c.args.to.now in
    let plan : Plans c.args.limits g p q (Ok (Within c.in-Within.entry)) = subst (λ plan. Plans c.args.limits g p q (Ok plan)) c.in-Within.is c.in-Ok.ensures in
    let named = new_path_named c.args.limits g p q c.in-Ok.plan c.requires c.in-Ok.ensures in
    left_absent c.args.limits g c.requires p q plan.0 c.in-Within.entry plan.1 c.in_ok-name-in-Within.name plan.2.0 plan.2.1 plan.2.2
    (is_last q c.len.result c.name-name.result.now c.len.ensures.len named c.name-name.ensures ∙ sym c.in_ok-name-in-Within.ensures.ok)

pub returns-in_err-transfer-in-Across-clause-memory : goal.returns-in_err-transfer-in-Across-clause-memory
returns-in_err-transfer-in-Across-clause-memory c =
    let g = graph c.args.nodes.now in
    let p = c.args.from.now in
    let q = c.args.to.now in
    let plan : Plans c.args.limits g p q (Ok (Across c.in-Across.entry c.in-Across.dir c.in-Across.place)) = subst (λ plan. Plans c.args.limits g p q (Ok plan)) c.in-Across.is c.in-Ok.ensures in
    on_err c.from_residual-in_err-transfer-in-Across.result (memory_needed c.args.limits g c.requires p q plan.0 c.in-Across.entry plan.1 c.in-Across.dir c.in-Across.place plan.2.0 plan.2.1 plan.3)

pub returns-in-Stay-clause-given : goal.returns-in-Stay-clause-given
returns-in-Stay-clause-given c =
    let g = graph c.args.nodes.now in
    let p = c.args.from.now in
    let q = c.args.to.now in
    let plan : Plans c.args.limits g p q (Ok Stay) = subst (λ plan. Plans c.args.limits g p q (Ok plan)) c.in-Stay.is c.in-Ok.ensures in
    stayed c.args.limits g p q c.requires plan.0 plan.1

pub returns-in-Onto-clause-given : goal.returns-in-Onto-clause-given
returns-in-Onto-clause-given c =
    let g = graph c.args.nodes.now in
    let p = c.args.from.now in
    let q = c.args.to.now in
    let plan : Plans c.args.limits g p q (Ok (Onto c.in-Onto.entry c.in-Onto.victim)) = subst (λ plan. Plans c.args.limits g p q (Ok plan)) c.in-Onto.is c.in-Ok.ensures in
    moved_onto c.args.limits g c.requires p q plan.0 c.in-Onto.entry plan.1 c.in-Onto.victim plan.2 (graph c.displace.new.nodes) (last_of q) refl (c.displace.ensures (last_of q) plan.2.stands.named)

pub returns-in_err-name-in-Within-clause-memory : goal.returns-in_err-name-in-Within-clause-memory
returns-in_err-name-in-Within-clause-memory c =
    let g = graph c.args.nodes.now in
    let p = c.args.from.now in
    let q = c.args.to.now in
    let plan : Plans c.args.limits g p q (Ok (Within c.in-Within.entry)) = subst (λ plan. Plans c.args.limits g p q (Ok plan)) c.in-Within.is c.in-Ok.ensures in
    let named = new_path_named c.args.limits g p q c.in-Ok.plan c.requires c.in-Ok.ensures in
    on_err c.from_residual.result (name_needed c.args.limits g c.requires p q plan.0 c.in-Within.entry plan.1 c.name-name.result.now plan.2.0 plan.2.1 plan.2.2
    (is_last q c.len.result c.name-name.result.now c.len.ensures.len named c.name-name.ensures) c.in_err-name-in-Within.ensures.memory)

pub returns-in_ok-name-in-Within-clause-given : goal.returns-in_ok-name-in-Within-clause-given
returns-in_ok-name-in-Within-clause-given c =
    let g = graph c.args.nodes.now in
    let p = c.args.from.now in
    let q = c.args.to.now in
    let plan : Plans c.args.limits g p q (Ok (Within c.in-Within.entry)) = subst (λ plan. Plans c.args.limits g p q (Ok plan)) c.in-Within.is c.in-Ok.ensures in
    let named = new_path_named c.args.limits g p q c.in-Ok.plan c.requires c.in-Ok.ensures in
    moved_within c.args.limits g c.requires p q plan.0 c.in-Within.entry plan.1 (graph c.replace_link.new.nodes) c.in_ok-name-in-Within.name plan.2.0 plan.2.1 plan.2.2
    (is_last q c.len.result c.name-name.result.now c.len.ensures.len named c.name-name.ensures ∙ sym c.in_ok-name-in-Within.ensures.ok) c.replace_link.ensures

pub returns-in_ok-transfer-in-Across-clause-given : goal.returns-in_ok-transfer-in-Across-clause-given
returns-in_ok-transfer-in-Across-clause-given c =
    let g = graph c.args.nodes.now in
    let p = c.args.from.now in
    let q = c.args.to.now in
    let plan : Plans c.args.limits g p q (Ok (Across c.in-Across.entry c.in-Across.dir c.in-Across.place)) = subst (λ plan. Plans c.args.limits g p q (Ok plan)) c.in-Across.is c.in-Ok.ensures in
    let named = new_path_named c.args.limits g p q c.in-Ok.plan c.requires c.in-Ok.ensures in
    moved_across c.args.limits g c.requires p q plan.0 c.in-Across.entry plan.1 c.in-Across.dir c.in-Across.place plan.2.0 plan.2.1 plan.3 (graph c.transfer.new.nodes) c.name-name.result.now
    (is_last q c.len.result c.name-name.result.now c.len.ensures.len named c.name-name.ensures) c.in_ok-transfer-in-Across.ensures.ok
