use Rattle.fs_laws.proofs.states.OneCall.{meets_tree}
use Rattle.fs_laws.proofs.laws.calls_meet_the_tree.Goals as goal

pub returns : goal.returns
returns c = λ s run first new seat call_no call reply. meets_tree s first new seat call_no call reply run
