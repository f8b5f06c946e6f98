use Rattle.std.proofs.Common.{List, subst}
use Rattle.fs_linearize_dialects.specs.declared.dialect.Row.{Row}
use Rattle.fs_linearize_text.specs.Many.{histories_of}
use Rattle.fs_linearize_text.specs.Makes.{MakesLearned}
use Rattle.fs_linearize_text.proofs.learning.learn_plain.Goals as goal

pub returns : goal.returns
returns c = subst (λ (rows : List Row). MakesLearned (histories_of rows c.args.text.now) c.learn_text.result) c.new-dialect.ensures c.learn_text.ensures
