use Rattle.std.proofs.Common.{◌≡◌, refl, ap, ◌∙◌}
use Rattle.fs_linearize_flat.proofs.ChangeLemmas.{change_sorted}
use Rattle.fs_linearize_flat.specs.declared.cell.Shared.{Shared}
use Rattle.std.specs.Rc.{rc_value}
use Rattle.fs_linearize_flat.proofs.flat_tree.FlatTree.after.Goals as goal

pub invariant_of-result : goal.invariant_of-result
invariant_of-result c =
    let limits = c.self.inside.limits in
    let cells = (rc_value c.self.inside.shared).cells.items in
    let view : c.args.self.now ≡ record { limits = limits; tree = cells } = cc in
    let same = c.deref-2.ensures.value ∙ ap (λ (s : Shared). s.cells.items) c.deref.ensures in
    change_sorted c.args.self.now limits cells c.deref-2.result.now (rc_value c.in_ok-share.field-0).cells.items c.args.call.now c.args.answer.now view c.self.invariant c.requires (c.if-stays.ensures.works refl) same (c.in_ok-share.ensures ∙ c.in_ok-cells.ensures)
