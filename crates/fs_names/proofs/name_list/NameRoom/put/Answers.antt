use Rattle.std.proofs.Common.{◌++◌, ◌∷◌, [], ap, subst, sym, ◌∙◌}
use Rattle.fs_names.specs.Reading.{names}
use Rattle.fs_names.specs.code.NameTexts.{IsNameText}
use Rattle.fs_names.proofs.WrittenLemmas.{more_names, more_text}
use Rattle.fs_names.proofs.name_list.NameRoom.put.Goals as goal

pub invariant_of-self : goal.invariant_of-self
invariant_of-self c = subst IsNameText (sym c.append.ensures.text) (more_text _ _ c.self.invariant c.append.ensures.named)

pub returns-clause-names : goal.returns-clause-names
returns-clause-names c = ap names c.append.ensures.text ∙ more_names _ _ c.self.invariant c.append.ensures.named ∙ ap (λ r. r.names ++ c.args.name.now ∷ []) c.self.view_is
