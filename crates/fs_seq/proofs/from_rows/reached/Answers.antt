use Rattle.std.proofs.Common.{◌≡◌, suc, Some, None, take, drop, slice_get, sym, ap, ◌∙◌, add-one}
use Rattle.std.proofs.lemmas.List.{take-append-drop}
use Rattle.std.proofs.lemmas.Option.{slice_get-get_or}
use Rattle.fs_seq_nodes.specs.code.Nodes.{graph}
use Rattle.fs_seq_nodes.specs.code.Slots.{walk}
use Rattle.fs_seq_nodes.proofs.NodeLemmas.{has_key, take_snoc}
use Rattle.fs_seq_nodes.proofs.Resolving.{walk_on, walk_off, walk_below}
use Rattle.fs_seq.proofs.from_rows.reached.Goals as goal

pub step-requires-clause-there : goal.step-requires-clause-there
step-requires-clause-there c = has_key c.args.nodes.now c.loop-name.at (c.requires.inside _ _ c.loop-name.invariant)

pub returns-in-Err : goal.returns-in-Err
returns-in-Err c =
    let g = graph c.args.nodes.now in
    let names = c.args.names.now in
    let i = c.loop-name.name-index in
    let x = c.name-item.result in
    let named : slice_get names i ≡ Some x = slice_get-get_or names i x c.loop-name-test.true ∙ ap Some (sym c.name-item.is) in
    let off : walk g (take (suc i) names) ≡ None = ap (walk g) (take_snoc names i x named) ∙ walk_off g (take i names) c.loop-name.at x c.loop-name.invariant c.in-Err.ensures.0 in
    sym (ap (walk g) (sym (take-append-drop (suc i) names)) ∙ walk_below g (take (suc i) names) (drop (suc i) names) off)

pub loop-name-preserved : goal.loop-name-preserved
loop-name-preserved c =
    let g = graph c.args.nodes.now in
    let names = c.args.names.now in
    let i = c.loop-name.name-index in
    let x = c.name-item.result in
    let named : slice_get names i ≡ Some x = slice_get-get_or names i x c.loop-name-test.true ∙ ap Some (sym c.name-item.is) in
    rw add-one (ap (walk g) (take_snoc names i x named) ∙ walk_on g (take i names) c.loop-name.at x c.in-Ok.next c.loop-name.invariant c.in-Ok.ensures)
