use Rattle.std.proofs.Common.{refl, ap, ◌∙◌}
use Rattle.std.specs.Ordering.{is_lt, is_some_and}
use Rattle.std.specs.declared.cmp.Ordering.{Ordering}
use Rattle.std.specs.Prelude.{Option}
use Rattle.std.specs.Cmp.Lexicographic.{lists_agrees}
use Rattle.fs_names.specs.Names.{name_cmp}
use Rattle.fs_names.proofs.name.Name.is_above.Goals as goal

pub returns : goal.returns
returns c =
    c.lt.ensures
    ∙ ap (λ (o : Option Ordering). is_some_and is_lt o) (lists_agrees (λ x y. refl) c.args.bytes.now c.bytes.result.now)
    ∙ ap (λ n. is_lt (name_cmp c.args.bytes.now n)) c.bytes.ensures.bytes
