use Rattle.std.proofs.Common.{◌≡◌, Some, refl, sym, subst}
use Rattle.fs_calls.specs.Starts.{Start}
use Rattle.fs_seq.specs.Rows.{misfit, IsWithinLimits}
use Rattle.fs_seq.proofs.Fitting.{fitting_rows_are_trees}
use Rattle.fs_script.proofs.StartLemmas.{place_within, made, faulted}
use Rattle.fs_script.proofs.journal.tree_of.Goals as goal

pub wrong_row-requires-clause-low : goal.wrong_row-requires-clause-low
wrong_row-requires-clause-low c =
    let bad : misfit c.args.limits c.args.rows.now ≡ Some c.in-Err-Bad.place = c.from_rows.ensures.bad c.in-Err-Bad.place (let a = c.in-Err-Bad.is in let b = c.in-Err-Bad.field-0-is in let d = c.in-Err-Bad.place-is in cc) in
    (place_within c.args.limits c.args.rows.now c.args.numbers.now c.in-Err-Bad.place c.requires bad).0

pub wrong_row-requires-clause-high : goal.wrong_row-requires-clause-high
wrong_row-requires-clause-high c =
    let bad : misfit c.args.limits c.args.rows.now ≡ Some c.in-Err-Bad.place = c.from_rows.ensures.bad c.in-Err-Bad.place (let a = c.in-Err-Bad.is in let b = c.in-Err-Bad.field-0-is in let d = c.in-Err-Bad.place-is in cc) in
    (place_within c.args.limits c.args.rows.now c.args.numbers.now c.in-Err-Bad.place c.requires bad).1

pub returns-in-Ok-clause-tree : goal.returns-in-Ok-clause-tree
returns-in-Ok-clause-tree c = made c.args.limits c.args.rows.now c.args.numbers.now c.in-Ok.tree c.requires c.in-Ok.ensures.tree c.in-Ok.ensures.fits

pub returns-in-Err-Bad-clause-tree : goal.returns-in-Err-Bad-clause-tree
returns-in-Err-Bad-clause-tree c =
    let bad : misfit c.args.limits c.args.rows.now ≡ Some c.in-Err-Bad.place = c.from_rows.ensures.bad c.in-Err-Bad.place (let a = c.in-Err-Bad.is in let b = c.in-Err-Bad.field-0-is in let d = c.in-Err-Bad.place-is in cc) in
    rw c.wrong_row.ensures (faulted c.args.limits c.args.rows.now c.args.numbers.now c.in-Err-Bad.place _ c.requires bad refl)

pub returns-in-Ok-clause-within : goal.returns-in-Ok-clause-within
returns-in-Ok-clause-within c =
    subst (λ (s : Start). IsWithinLimits s.limits s.tree) (sym c.in-Ok.ensures.tree) ((fitting_rows_are_trees c.args.limits c.args.rows.now).0 c.in-Ok.ensures.fits).0
