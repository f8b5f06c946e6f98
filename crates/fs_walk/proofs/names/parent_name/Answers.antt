use Rattle.std.proofs.Common.{◌∙◌, sym, arith}
use Rattle.fs_walk.proofs.ParentLemmas.{name_inner, name_past}
use Rattle.fs_walk.proofs.names.parent_name.Goals as goal

pub returns-then-place-len-clause-name : goal.returns-then-place-len-clause-name
returns-then-place-len-clause-name c = sym (name_inner c.args.path.now c.args.place (omega arith) ∙ c.name.ensures)

pub returns-else-place-len-clause-name : goal.returns-else-place-len-clause-name
returns-else-place-len-clause-name c = sym (name_past c.args.path.now c.args.place (omega arith))
