use Rattle.std.proofs.Common.{sym, ap, ◌∙◌}
use Rattle.std.specs.List.{list_any}
use Rattle.std.specs.Str.{bytes_eq}
use Rattle.fs_script.proofs.ScriptLemmas.{any_mapped}
use Rattle.fs_script.proofs.script.ThreadNames.contains.Goals as goal

pub returns : goal.returns
returns c =
    c.contains.ensures
    ∙ sym (any_mapped (λ v. v.items) (bytes_eq c.args.name.now) c.self.inside.names.keys)
    ∙ ap (list_any (bytes_eq c.args.name.now)) c.self.view_is
