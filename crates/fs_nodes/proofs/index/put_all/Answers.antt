use Rattle.std.proofs.Common.{◌≡◌, ◌+◌, ◌<◌, ◌≤◌, ◌∙◌, List, [], ◌∷◌, ◌++◌, None, take, length, sym, subst, arith}
use Rattle.std.proofs.lemmas.List.{take_all, length-take-le}
use Rattle.fs_names.specs.declared.limits.TheConstants.{NODE_LIMIT}
use Rattle.fs_nodes_places.specs.Plains.{plains}
use Rattle.fs_nodes.specs.declared.index.Slot.{Slot}
use Rattle.fs_nodes_places.specs.code.Keys.{keys_of}
use Rattle.fs_nodes.specs.code.Indexes.{key_at, IsIndex}
use Rattle.fs_nodes_places.proofs.EditLemmas.{read_place}
use Rattle.fs_nodes.proofs.IndexLemmas.{grown, key_more, no_key_more, no_key_yet}
use Rattle.fs_nodes.proofs.KeyLemmas.{key_place, keys_length, keys_few, dir_below}
use Rattle.fs_nodes.proofs.index.put_all.Goals as goal
use Rattle.fs_nodes.proofs.index.put_all.Goals.{in-Some, in_default}

pub loop-node-init : goal.loop-node-init
loop-node-init c = c.requires.slots

pub put-requires-clause-slots : goal.put-requires-clause-slots
put-requires-clause-slots c = record {
  keys = take c.loop-node.node (keys_of (plains c.args.places.now));
  few = (
      let k : length (keys_of (plains c.args.places.now)) ≤ NODE_LIMIT = keys_few c.args.places.now c.requires.places in
      let l : length (keys_of (plains c.args.places.now)) ≡ length c.args.places.now = keys_length c.args.places.now in
      let t : length (take c.loop-node.node (keys_of (plains c.args.places.now))) ≡ c.loop-node.node = length-take-le c.loop-node.node (keys_of (plains c.args.places.now)) (omega arith) in
      omega arith);
  index = c.loop-node.invariant;
}

pub put-requires-clause-dir : goal.put-requires-clause-dir
put-requires-clause-dir c = dir_below c.args.places.now c.loop-node.node c.in-Some.key c.requires.places
    (key_place c.args.places.now c.loop-node.node c.index-places-node.result (read_place c.args.places.now c.loop-node.node c.index-places-node.result c.loop-node-test.true c.index-places-node.is) ∙ sym c.key_of_place.ensures ∙ c.in-Some.is)

here : (c : goal.Joined-key_of_place) → key_at (keys_of (plains c.args.places.now)) c.loop-node.node ≡ c.key_of_place.result
here c = key_place c.args.places.now c.loop-node.node c.index-places-node.result (read_place c.args.places.now c.loop-node.node c.index-places-node.result c.loop-node-test.true c.index-places-node.is) ∙ sym c.key_of_place.ensures

within : (c : goal.Joined-key_of_place) → c.loop-node.node < length (keys_of (plains c.args.places.now))
within c = let l : length (keys_of (plains c.args.places.now)) ≡ length c.args.places.now = keys_length c.args.places.now in omega arith

pub loop-node-preserved : goal.loop-node-preserved
loop-node-preserved c = elim c.match-key_of_place.branch [
  | in-Some w ↦
      let yet : (key_at (take c.loop-node.node (keys_of (plains c.args.places.now)) ++ None ∷ []) c.loop-node.node ≡ None) × (c.loop-node.node < length (take c.loop-node.node (keys_of (plains c.args.places.now)) ++ None ∷ [])) = no_key_yet (keys_of (plains c.args.places.now)) c.loop-node.node (let h : c.loop-node.node < length (keys_of (plains c.args.places.now)) = within c in omega arith) in
      subst (λ (s : List Slot). IsIndex s (take (c.loop-node.node + 1) (keys_of (plains c.args.places.now)))) (sym w.slots-is)
      (subst (IsIndex w.put.new.slots) (key_more (keys_of (plains c.args.places.now)) c.loop-node.node w.in-Some.key (within c) (here c ∙ w.in-Some.is))
      (w.put.ensures (take c.loop-node.node (keys_of (plains c.args.places.now)) ++ None ∷ []) (grown c.loop-node.slots (take c.loop-node.node (keys_of (plains c.args.places.now))) c.loop-node.invariant) yet.0 yet.1))
  | in_default w ↦
      subst (λ (s : List Slot). IsIndex s (take (c.loop-node.node + 1) (keys_of (plains c.args.places.now)))) (sym w.slots-is)
      (subst (IsIndex c.loop-node.slots) (no_key_more (keys_of (plains c.args.places.now)) c.loop-node.node (within c) (here c ∙ w.in_default.is))
      (grown c.loop-node.slots (take c.loop-node.node (keys_of (plains c.args.places.now))) c.loop-node.invariant))
]

pub returns : goal.returns
returns c = subst (IsIndex c.loop-node.slots) (take_all c.loop-node.node (keys_of (plains c.args.places.now)) (let l : length (keys_of (plains c.args.places.now)) ≡ length c.args.places.now = keys_length c.args.places.now in omega arith)) c.loop-node.invariant
