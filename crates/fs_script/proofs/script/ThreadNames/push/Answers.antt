use Rattle.std.proofs.Common.{refl, map, ap, ◌∙◌}
use Rattle.fs_script.proofs.ScriptLemmas.{name_added}
use Rattle.fs_script.proofs.script.ThreadNames.push.Goals as goal
use Rattle.fs_script.proofs.script.ThreadNames.push.Goals.{in-Ok-insert, in-Err}

pub returns : goal.returns
returns c = elim c.match-insert.branch [
  | in-Ok-insert w ↦ rw w.result-is (name_added (λ v. v.items) c.self.inside.names.keys c.insert.new.self.keys c.in-Ok.name c.args.self.now c.args.name.now w.in-Ok-insert.ensures.keys c.self.view_is c.in-Ok.ensures.items c.requires)
  | in-Err w ↦ rw w.result-is (refl, ap (map (λ v. v.items)) w.in-Err.ensures.err ∙ c.self.view_is)
]
