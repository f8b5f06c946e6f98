use Rattle.std.proofs.Common.{◌≡◌, ◌+◌, List, Some, slice_get, refl, sym, subst}
use Rattle.fs_linearize_configurations.specs.code.Calls.{AreUnderWay}
use Rattle.fs_linearize_configurations.specs.code.Walking.{HoldsAfter}
use Rattle.fs_linearize_configurations.specs.declared.walking.Walk.{Walk}
use Rattle.fs_linearize_configurations.proofs.WalkLemmas.{walked_pass, entry_there, rest_there, held_some}
use Rattle.fs_linearize_configurations.proofs.walking.pass.Goals as goal

pub returns : goal.returns
returns c = λ start ss history k.
    let h = c.args.history.now in
    let v = c.args.from in
    let e = c.in-Some.entry.now in
    let w : Walk = record { at = v.at + 1; tree = v.tree; held = c.in-Some-2.held; calls = c.in_ok-calls.calls } in
    let is : slice_get h v.at ≡ Some e = entry_there h v.at e c.in-Some.ensures.lookup.3.0 c.in-Some.ensures.lookup.1 in
    let held : HoldsAfter e v.held.items c.in-Some-2.held.items = held_some e v.held.items c.in-Some-2.held c.in_ok-held.field-0 c.in-Some-2.is c.in_ok-held.ensures in
    walked_pass start h ss v w e history is held refl refl (c.in_ok-calls.ensures h v.at history is (rest_there h v.at) k.calls) k
