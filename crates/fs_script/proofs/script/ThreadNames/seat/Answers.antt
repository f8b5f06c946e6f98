use Rattle.std.proofs.Common.{sym, ap, ◌∙◌, position}
use Rattle.std.specs.Str.{bytes_eq}
use Rattle.fs_script.proofs.ScriptLemmas.{position_mapped}
use Rattle.fs_script.proofs.script.ThreadNames.seat.Goals as goal

pub returns : goal.returns
returns c =
    c.get_index_of.ensures.index
    ∙ sym (position_mapped (λ v. v.items) (bytes_eq c.args.name.now) c.self.inside.names.keys)
    ∙ ap (position (bytes_eq c.args.name.now)) c.self.view_is
