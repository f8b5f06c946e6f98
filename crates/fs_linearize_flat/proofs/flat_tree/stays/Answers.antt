use Rattle.std.proofs.Common.{refl, sym, ap}
use Rattle.fs_linearize_flat.specs.code.Cells.{is_failed}
use Rattle.fs_linearize_flat.proofs.ChangeLemmas.{stays, changes, not_failed}
use Rattle.fs_linearize_flat.proofs.flat_tree.stays.Goals as goal

pub returns-in-Failed-clause-stays : goal.returns-in-Failed-clause-stays
returns-in-Failed-clause-stays c = λ yes limits t is. sym (stays limits t t c.args.call.now c.args.answer.now is (ap is_failed c.in-Failed.is) refl)

pub returns-in_default-clause-works : goal.returns-in_default-clause-works
returns-in_default-clause-works c = λ no. not_failed c.args.answer.now c.in_default.not-Failed

pub returns-in_default-clause-stays : goal.returns-in_default-clause-stays
returns-in_default-clause-stays c = λ yes limits t is. sym (changes limits t t c.args.call.now c.args.answer.now is (not_failed c.args.answer.now c.in_default.not-Failed) (sym (c.only_looks.ensures yes t)))
