use Rattle.std.proofs.Common.{◌≡◌, suc, ◌-◌, ◌<◌, length, map, take, slice_get, Some, sym, ap, ◌∙◌, arith}
use Rattle.std.proofs.lemmas.Option.{slice_get-get_or}
use Rattle.fs_seq.specs.Rows.{row_of, last_key}
use Rattle.fs_seq.proofs.Listed.{last_next}
use Rattle.fs_seq.proofs.from_rows.add_rows.Goals as goal

pub add_row-requires-clause-last : goal.add_row-requires-clause-last
add_row-requires-clause-last c =
    let rows = c.args.rows.now in
    let i = c.loop-i.i in
    let before = c.index-rows-i.result in
    let within : i - 1 < length rows = omega arith in
    let at : slice_get rows (i - 1) ≡ Some before = slice_get-get_or rows (i - 1) before within ∙ ap Some (sym c.index-rows-i.is) in
    let next : i ≡ suc (i - 1) = omega arith in
    ap last_key c.loop-i.invariant.tree ∙ ap (λ n. last_key (map row_of (take n rows))) next ∙ last_next rows (i - 1) before at

pub returns-in-Ok-false-clause-form : goal.returns-in-Ok-false-clause-form
returns-in-Ok-false-clause-form c = λ have. c.in-Ok-false.ensures.form (c.loop-i.invariant.form have)

pub returns-in-Err-clause-form : goal.returns-in-Err-clause-form
returns-in-Err-clause-form c = λ have. c.in-Err.ensures.form (c.loop-i.invariant.form have)

pub returns-clause-form : goal.returns-clause-form
returns-clause-form c = c.loop-i.invariant.form
