use Rattle.std.proofs.Common.{ap, ◌∙◌}
use Rattle.fs_names.specs.Names.{same_names}
use Rattle.fs_names.specs.Reading.{names}
use Rattle.fs_names.proofs.WrittenLemmas.{same_text}
use Rattle.fs_names.proofs.name_list.NameList.same.Goals as goal

pub returns : goal.returns
returns c = c.eq.ensures ∙ same_text _ _ c.self.invariant c.other.invariant ∙ ap (λ xs. same_names xs (names c.other.inside.text.items)) c.self.view_is ∙ ap (same_names c.args.self.now) c.other.view_is
