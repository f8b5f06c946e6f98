use Rattle.std.proofs.Common.{rules, Bor, min, take, sym, ap, ◌∙◌}
use Rattle.std.specs.Ordering.{is_lt}
use Rattle.std.proofs.lemmas.Fn.{filter_same}
use Rattle.std.proofs.lemmas.List.{take-map}
use Rattle.fs_names.specs.Names.{Name, name_cmp, names_above}
use Rattle.fs_names.specs.declared.limits.TheConstants.{LIST_LIMIT}
use Rattle.fs_calls.specs.Sights.{names_of, tree_shapes}
use Rattle.fs_linearize_flat.specs.code.Cells.{lent_names}
use Rattle.fs_linearize_flat.proofs.SeenLemmas.{lent_above}
use Rattle.fs_linearize_flat.proofs.replies.piece.Goals as goal

pub returns : goal.returns
returns c =
    let x = c.last_bytes-bytes.result.now in
    let left = filter_same _ (λ (y : Bor Name). is_lt (name_cmp x y.now)) _ (λ z b f' k. search rules) _ _ c.retain.ensures.filtered in
    ap lent_names (c.truncate.ensures.items ∙ ap (λ n. take n c.retain.new.self.items) c.min.ensures)
    ∙ sym (take-map (λ (y : Bor Name). y.now) (min c.args.count LIST_LIMIT) c.retain.new.self.items)
    ∙ ap (take (min c.args.count LIST_LIMIT)) (ap lent_names left ∙ lent_above x c.in_ok-names.names.items ∙ ap (names_above x) c.in_ok-names.ensures ∙ ap (λ (z : Name). names_above z (names_of (tree_shapes c.args.cells.now c.args.path.now))) c.last_bytes-bytes.ensures)
