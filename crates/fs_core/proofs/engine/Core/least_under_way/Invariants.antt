use Rattle.fs_core.specs.code.Leasts.{IsLeastOf}
use Rattle.fs_core.proofs.engine.Core.least_under_way.Given as goal

-- of the listed seats so far
abbrev pub invariant-loop-i : goal.invariant-loop-i
invariant-loop-i l = IsLeastOf l.self.seats l.listed l.i l.least
