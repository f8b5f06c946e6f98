use Rattle.fs_sched.proofs.Filling.{few_calls}
use Rattle.fs_sched.proofs.input.script_in.Goals as goal

pub returns-in-Ok-clause-few : goal.returns-in-Ok-clause-few
returns-in-Ok-clause-few c = few_calls c.args.text.now c.in-Ok.script c.in-Ok.ensures
