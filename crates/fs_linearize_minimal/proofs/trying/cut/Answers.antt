use Rattle.std.proofs.Common.{◌≡◌, ◌≤◌, List, length, sym, ap, subst, ◌∙◌, arith, rules, vec_len}
use Rattle.fs_linearize_histories.specs.declared.heard.Heard.{Heard}
use Rattle.fs_linearize_minimal.specs.Parts.{IsPartOf, without}
use Rattle.fs_linearize_minimal.proofs.PartLemmas.{itself, part_of_part, part_without, short_part, some_of}
use Rattle.fs_linearize_minimal.proofs.trying.cut.Goals as goal

pub returns-then-len-clause-part : goal.returns-then-len-clause-part
returns-then-len-clause-part g c = itself c.args.entries.now.items

pub returns-in-Some-clause-part : goal.returns-in-Some-clause-part
returns-in-Some-clause-part g c =
    let h : List Heard = c.args.entries.now.items in
    let told = some_of _ _ _ c.in-Some.is c.in_ok-fewer.ensures.some in
    let is : c.in_ok-left.left.items ≡ without c.args.calls.now h = c.in_ok-left.ensures ∙ ap (without c.args.calls.now) c.as_slice.ensures.value in
    part_of_part c.in-Some.fewer.items c.in_ok-left.left.items h told.0 (subst (λ (l : List Heard). IsPartOf l h) (sym is) (part_without c.args.calls.now h))

pub returns-in-Some-clause-went : goal.returns-in-Some-clause-went
returns-in-Some-clause-went g c went =
    let told = some_of _ _ _ c.in-Some.is c.in_ok-fewer.ensures.some in
    let short : length c.in-Some.fewer.items ≤ length c.in_ok-left.left.items = short_part c.in-Some.fewer.items c.in_ok-left.left.items told.0 in
    let one : vec_len c.in_ok-left.left ≡ length c.in_ok-left.left.items = search rules in
    let other : vec_len c.args.entries.now ≡ length c.args.entries.now.items = search rules in
    omega (arith, short, one, other, c.if-len.false, c.len.ensures, c.len-2.ensures)

pub returns-in-None-clause-part : goal.returns-in-None-clause-part
returns-in-None-clause-part g c = itself c.args.entries.now.items
