use Rattle.std.proofs.Common.{sym, ap, subst}
use Rattle.fs_calls.specs.Forms.{Form}
use Rattle.fs_calls.specs.code.Targets.{form_of, pair_call}
use Rattle.fs_ops.specs.OpValue.{Forks}
use Rattle.fs_ops.proofs.take.took_at_target.Goals as goal

pub returns-in-Pair-clause-forks : goal.returns-in-Pair-clause-forks
returns-in-Pair-clause-forks c limits = subst (λ (f : Form). Forks f c.args.stand.now.walk c.pair_took.new.stand.fork) (sym (ap (form_of limits) c.in-Pair.is)) (c.pair_took.ensures.forks (pair_call limits c.in-Pair.field-0))
