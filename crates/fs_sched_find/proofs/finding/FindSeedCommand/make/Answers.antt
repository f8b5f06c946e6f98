use Rattle.std.proofs.Common.{ℕ, List, subst}
use Rattle.fs_sched_find.specs.Makes.{MakesFound}
use Rattle.fs_sched_find.specs.declared.what.Clause.{Clause}
use Rattle.fs_sched_find.proofs.finding.FindSeedCommand.make.Goals as goal

pub returns : goal.returns
returns g c =
    let it = c.args.self in
    let made : MakesFound it.tree it.by c.as_slice-2.result.now it.seed it.runs c.as_slice.result.now c.found_in.result = record { found = c.found_in.ensures.found; again = c.found_in.ensures.again; fault = c.found_in.ensures.fault } in
    subst (λ (text : List ℕ). MakesFound it.tree it.by it.what.items it.seed it.runs text c.found_in.result) c.as_slice.ensures.value
    (subst (λ (what : List (List Clause)). MakesFound it.tree it.by what it.seed it.runs c.as_slice.result.now c.found_in.result) c.as_slice-2.ensures.value made)
