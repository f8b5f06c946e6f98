use Rattle.std.proofs.Common.{refl, sym, ◌∙◌}
use Rattle.fs_linearize_minimal.proofs.reason.open_return.Goals as goal

pub returns : goal.returns
returns c = (λ same. absurd (c.if-get.false (c.get.ensures ∙ same ∙ sym c.get-2.ensures)), λ other. (c.new.result, c.new.ensures.items, refl))
