use Rattle.std.proofs.Common.{refl, subst, List}
use Rattle.fs_linearize_configurations.specs.code.Searching.{AddsIfNew}
use Rattle.fs_linearize_configurations.specs.declared.reached.Reached.{Reached}
use Rattle.fs_linearize_configurations.proofs.SearchLemmas.{first_added}
use Rattle.fs_linearize.proofs.search.first_layer.Goals as goal

pub returns : goal.returns
returns c =
    let r : Reached = record { configuration = c.in_ok-start.field-0; last = 0 } in
    first_added c.args.start.now r c.add.new.self c.in_ok-start.ensures refl (subst (λ (rs : List Reached). AddsIfNew r rs c.add.new.self) c.new-layer.ensures c.in_ok-add.ensures)
