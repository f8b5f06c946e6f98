use Rattle.std.proofs.Common.{◌≡◌, ◌+◌, ◌≤◌, false, length, map, arith, ap, sym, subst, ◌∙◌}
use Rattle.std.specs.List.{list_any}
use Rattle.fs_names.specs.Keys.{IsPath}
use Rattle.fs_names.specs.Limits.{path_limit}
use Rattle.fs_names.specs.Reading.{names, is_zero}
use Rattle.fs_names.proofs.ReadingLemmas.{not_too_many, bytes_each, names_read}
use Rattle.fs_names.proofs.LimitLemmas.{paths_have_room}
use Rattle.fs_names.proofs.path.Path.parse_with.Goals as goal

pub path_of-requires : goal.path_of-requires
path_of-requires c =
    let bytes = c.args.bytes.now in
    let limits = c.args.limits in
    let cut = c.in_default.ensures.names in
    let few : 0 + length (names bytes) ≤ path_limit limits = not_too_many limits 0 (names bytes) (omega arith) cut.1 in
    let zeros : list_any is_zero bytes ≡ false = sym c.has_zero.ensures ∙ c.if-has_zero.false in
    let each = names_read limits bytes (bytes_each bytes (λ i. omega (arith, c.type_inv.bytes i))) zeros cut.1 in
    let read = ap (map (λ text. text.now)) c.as_slice.ensures ∙ cut.0 in
    subst IsPath (sym read) (record { short = omega (arith, few, paths_have_room limits); names = each })
