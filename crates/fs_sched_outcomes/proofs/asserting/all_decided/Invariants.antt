use Rattle.std.proofs.Common.{take}
use Rattle.fs_sched_outcomes.specs.Asserts.{AreDecidedOn}
use Rattle.fs_sched_outcomes.proofs.asserting.all_decided.Given as goal

abbrev pub invariant-loop-assertion : goal.invariant-loop-assertion
invariant-loop-assertion g l = AreDecidedOn l.campaign l.script l.seed l.runs (take l.assertion-index l.asserts) l.all.items
